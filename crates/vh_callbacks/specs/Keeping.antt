-- How the callbacks and the sets stand in what the registry keeps: live and held callbacks in one map, each
-- with the mark whether it is live. (own)
use Rattle.std.specs.Prelude.{◌≡◌, ◌≤◌, ℕ, List, [], ◌∷◌, length, Bool, true, false, if◌then◌else◌, not, Option, Some, None, is_some}
use Rattle.std.specs.Option.{option_map}
use Rattle.vh_base.specs.declared.limits.TheConstants.{MOST_CALLBACKS}
use Rattle.vh_callbacks.specs.declared.index.Watch.{Watch}
use Rattle.vh_callbacks.specs.declared.live.Kept.{Kept}
use Rattle.vh_callbacks.specs.declared.live.Live.{Live}
use Rattle.vh_callbacks.specs.Callbacks.{live_at, is_running, is_last, Rise}
use Rattle.vh_callbacks.specs.Marks.{Registered, set_at, is_among, IsSet}
use Rattle.vh_callbacks.specs.Watching.{watch, Indexes}

module _ {B : Type 0} where
  -- Those that pass, without the mark.
  abbrev pub passing : (Kept B → Bool) → List (ℕ × Kept B) → List (ℕ × Live B)
  passing test [] = []
  passing test (e ∷ es) = if test e.1 then (e.0, e.1.callback) ∷ passing test es else passing test es

  abbrev pub is_live_one : Kept B → Bool
  is_live_one k = k.is_live

  abbrev pub is_held_one : Kept B → Bool
  is_held_one k = not k.is_live

  -- The live ones, and the held ones.
  abbrev pub live_of : List (ℕ × Kept B) → List (ℕ × Live B)
  live_of es = passing is_live_one es

  abbrev pub held_among : List (ℕ × Kept B) → List (ℕ × Live B)
  held_among es = passing is_held_one es

  -- What contracts see.
  abbrev pub shown : List (ℕ × Kept B) → ℕ → List (List ℕ) → Registered B
  shown es next sets = record {
    callbacks = record { live = live_of es; held = held_among es; next = next };
    sets = sets;
  }

  -- The callback in one that is kept is changed.
  abbrev pub inside : (Live B → Live B) → Kept B → Kept B
  inside change k = record k { callback = change k.callback }

  -- It is live no more.
  abbrev pub unmarked : Kept B → Kept B
  unmarked k = record k { is_live = false }

  -- The callback in one that may be there, where it passes.
  abbrev pub only : (Kept B → Bool) → Option (Kept B) → Option (Live B)
  only test None = None
  only test (Some k) = if test k then Some k.callback else None

  -- What one that may be there watches, where it is live.
  abbrev pub watched_by : Option (Live B) → Option Watch
  watched_by o = option_map (λ l. watch l.registration.reason l.registration.object) o

  -- Does an activation of one run, if it is there?
  abbrev pub is_running_one : Option (Kept B) → Bool
  is_running_one None = false
  is_running_one (Some k) = is_running k.callback

  -- Does the last activation of one run, if it is there and held?
  abbrev pub is_last_one : Option (Kept B) → Bool
  is_last_one None = false
  is_last_one (Some k) = if k.is_live then false else is_last k.callback

  -- How many activations of one run.
  abbrev pub activations_in : Option (Kept B) → ℕ
  activations_in None = 0
  activations_in (Some k) = k.callback.activations

  -- What is kept: numbers rise and are below the next one; so many are live; of each that is held an
  -- activation runs; each set is one of live numbers; and the index is that of the live ones.
  pub record IsKept (es : List (ℕ × Kept B)) (index : List (Watch × List ℕ)) (next many : ℕ) (marks : List (List ℕ)) : Type 0 where
    pub rise : Rise 1 es next
    pub count : many ≡ length (live_of es)
    pub few : many ≤ MOST_CALLBACKS
    pub runs : (c : ℕ) (l : Live B) → live_at c (held_among es) ≡ Some l → is_running l ≡ true
    pub sets : (depth : ℕ) → IsSet (set_at depth marks)
    pub live : (depth c : ℕ) → is_among c (set_at depth marks) ≡ true → is_some (live_at c (live_of es)) ≡ true
    pub indexed : Indexes index (live_of es)
