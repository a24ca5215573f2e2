-- What opening, freeing and advancing mean for a number. (own)
use Rattle.std.specs.Prelude.{ℕ, ◌≡◌, ◌≤◌, ◌+◌, List, [], ◌∷◌, length, true, false, ◌==◌, Some, None, is_some, unwrap_or}
use Rattle.std.specs.Option.{option_map}
use Rattle.vh_base.specs.declared.limits.TheConstants.{MOST_HANDLES}
use Rattle.vh_handles.specs.declared.handles.Thing.{Thing}
use Rattle.vh_handles.specs.Handles.{Handles, no_handles, thing_at, no_handle_more, opened, freed, past_next, advanced}

-- Numbers rise, from this one at least.
abbrev pub NumbersRise : ℕ → List (ℕ × Thing) → Type 0
NumbersRise least [] = Unit {0}
NumbersRise least (e ∷ es) = (least ≤ e.0) × NumbersRise (e.0 + 1) es

-- The live numbers rise, each of them was given, and no more are live than may be.
pub record IsSound (s : Handles) : Type 0 where
  pub rise : NumbersRise 0 s.live
  pub given : (h : ℕ) → is_some (thing_at h s) ≡ true → s.is_given h ≡ true
  pub few : length s.live ≤ MOST_HANDLES

-- What each other number names, and which numbers were given, is as before.
pub record KeepsOthers (h : ℕ) (s t : Handles) : Type 0 where
  pub others : (q : ℕ) → (q == h) ≡ false → thing_at q t ≡ thing_at q s
  pub given : (q : ℕ) → s.is_given q ≡ true → t.is_given q ≡ true

abbrev pub OpensSound : Type 0
OpensSound = IsSound no_handles

-- A number that wasn't given is opened: it names the thing, and was given.
pub record IsOpened (h : ℕ) (x : Thing) (s t : Handles) : Type 0 where
  pub names : thing_at h t ≡ Some x
  pub is_given : t.is_given h ≡ true
  pub keeps : KeepsOthers h s t
  pub sound : IsSound t

abbrev pub OpensOne : Type 0
OpensOne = (s : Handles) (h : ℕ) (x : Thing) → IsSound s → no_handle_more s ≡ false → IsOpened h x s (opened h x s)

-- A freed number names nothing.
pub record IsFreed (h : ℕ) (s t : Handles) : Type 0 where
  pub nothing : thing_at h t ≡ None
  pub keeps : KeepsOthers h s t
  pub sound : IsSound t

abbrev pub FreesOne : Type 0
FreesOne = (s : Handles) (h : ℕ) → IsSound s → IsFreed h s (freed h s)

-- An advanced number names the iterator past its next object, and else what it named.
pub record IsAdvanced (h : ℕ) (s t : Handles) : Type 0 where
  pub names : thing_at h t ≡ option_map (λ x. unwrap_or (past_next x) x) (thing_at h s)
  pub keeps : KeepsOthers h s t
  pub sound : IsSound t

abbrev pub AdvancesOne : Type 0
AdvancesOne = (s : Handles) (h : ℕ) → IsSound s → IsAdvanced h s (advanced h s)
