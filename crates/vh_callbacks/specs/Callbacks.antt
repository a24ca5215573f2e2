-- The callbacks: a finite map from callback numbers to registrations and bodies, kept as the list
-- of its entries by rising number, with the next number. Numbers are from 1, and none is given
-- twice. Beside it stand those that were removed while an activation of theirs ran, until the last
-- of these ends. (IEEE 1364-2005, 27.33 and 27.34; what becomes of a running callback is own)
use Rattle.std.specs.Prelude.{◌≡◌, ◌==◌, ◌≤◌, ℕ, ◌+◌, ◌-◌, ◌++◌, List, [], ◌∷◌, length, map, filter, Bool, true, false, if◌then◌else◌, not, ◌||◌, nat_le, nat_lt, Option, Some, None, is_some, unwrap_or}
use Rattle.std.specs.BTreeMap.{is_at, insert_entry}
use Rattle.std.specs.List.{list_any}
use Rattle.std.specs.Map.{lookup, remove_entry, set_value}
use Rattle.std.specs.Option.{option_map, option_or}
use Rattle.std.specs.Ordering.{nat_cmp}
use Rattle.vh_base.specs.declared.limits.TheConstants.{MOST_CALLBACKS, MOST_NUMBERS}
use Rattle.vh_base.specs.declared.orders.Object.{Object}
use Rattle.vh_base.specs.declared.words.Reason.{Reason}
use Rattle.vh_callbacks.specs.declared.registration.RegisterFault.{RegisterFault}
use Rattle.vh_callbacks.specs.declared.registration.RegisterFault.TheVariants as fault
use Rattle.vh_callbacks.specs.declared.registration.Registration.{Registration}
use Rattle.vh_callbacks.specs.declared.registration.Removed.{Removed}
use Rattle.vh_callbacks.specs.declared.registration.Removed.TheVariants as removal
use Rattle.vh_callbacks.specs.declared.live.Live.{Live}
use Rattle.vh_callbacks.specs.Registration.{is_for}

pub record Callbacks (B : Type 0) : Type 0 where
  pub live : List (ℕ × Live B)
  pub held : List (ℕ × Live B)
  pub next : ℕ

-- Numbers that rise, from this one on.
abbrev pub IsRising : ℕ → List ℕ → Type 0
IsRising low [] = Unit {0}
IsRising low (n ∷ numbers) = (low ≤ n) × IsRising (n + 1) numbers

-- What stands under numbers, as a rising list.
module _ {X : Type 0} where
  -- What stands under this number, of those in a list.
  abbrev pub live_at : ℕ → List (ℕ × X) → Option X
  live_at c es = lookup (is_at (nat_cmp c)) es

  -- All but what stands under this number.
  abbrev pub without : ℕ → List (ℕ × X) → List (ℕ × X)
  without c es = remove_entry (is_at (nat_cmp c)) es

  -- What stands under this number is changed, where there is something.
  abbrev pub changed_by : Option X → (X → X) → ℕ → List (ℕ × X) → List (ℕ × X)
  changed_by None change c es = es
  changed_by (Some x) change c es = set_value (is_at (nat_cmp c)) es (change x)

  abbrev pub changed : (X → X) → ℕ → List (ℕ × X) → List (ℕ × X)
  changed change c es = changed_by (live_at c es) change c es

  -- The numbers rise from this one at least, and are below the next one.
  abbrev pub Rise : ℕ → List (ℕ × X) → ℕ → Type 0
  Rise least [] next = least ≤ next
  Rise least (e ∷ es) next = (least ≤ e.0) × Rise (e.0 + 1) es next

module _ {B : Type 0} where
  -- No callback; the first number is 1.
  abbrev pub opening : Callbacks B
  opening = record { live = []; held = []; next = 1 }

  -- No callback may be registered where as many are live as may be, or where all numbers were given. (own)
  abbrev pub is_full : Callbacks B → Bool
  is_full s = nat_le MOST_CALLBACKS (length s.live) || nat_lt MOST_NUMBERS s.next

  -- One callback more, under the next number.
  abbrev pub registered : Registration → B → Callbacks B → Callbacks B
  registered r b s = record s {
    live = s.live ++ (s.next, record { registration = r; body = b; activations = 0 }) ∷ [];
    next = s.next + 1;
  }

  -- Does an activation of it run?
  abbrev pub is_running : Live B → Bool
  is_running l = not (l.activations == 0)

  -- One that is removed while an activation of it runs is held.
  abbrev pub held_after : Option (Live B) → ℕ → List (ℕ × Live B) → List (ℕ × Live B)
  held_after None c es = es
  held_after (Some l) c es = if is_running l then insert_entry nat_cmp es c l else es

  -- The callback of this number is live no more; its number isn't given again.
  abbrev pub removed : ℕ → Callbacks B → Callbacks B
  removed c s = record s { live = without c s.live; held = held_after (live_at c s.live) c s.held }

  -- The callback of this number is changed, whether it is live or held.
  abbrev pub changed_in : (Live B → Live B) → ℕ → Callbacks B → Callbacks B
  changed_in change c s = record s { live = changed change c s.live; held = changed change c s.held }

  -- One more activation of it runs, or one less.
  abbrev pub one_more : Live B → Live B
  one_more l = record l { activations = l.activations + 1 }

  abbrev pub one_less : Live B → Live B
  one_less l = record l { activations = l.activations - 1 }

  -- It has other data of the user.
  abbrev pub with_data : ℕ → Live B → Live B
  with_data n l = record l { registration = record l.registration { user_data = n } }

  abbrev pub started : ℕ → Callbacks B → Callbacks B
  started c s = changed_in one_more c s

  -- A held one is gone when its last activation ends.
  abbrev pub is_last : Live B → Bool
  is_last l = l.activations == 1

  abbrev pub held_less : Option (Live B) → ℕ → List (ℕ × Live B) → List (ℕ × Live B)
  held_less None c es = es
  held_less (Some l) c es = if is_last l then without c es else changed one_less c es

  abbrev pub ended : ℕ → Callbacks B → Callbacks B
  ended c s = record s { live = changed one_less c s.live; held = held_less (live_at c s.held) c s.held }

  -- The body that the end of an activation hands back.
  abbrev pub body_after : Option (Live B) → Option B
  body_after None = None
  body_after (Some l) = if is_last l then Some l.body else None

  -- What the callback of this number was registered with, where it is live.
  abbrev pub info_of : ℕ → Callbacks B → Option Registration
  info_of c s = option_map (λ l. l.registration) (live_at c s.live)

  -- What it calls.
  abbrev pub body_of : ℕ → Callbacks B → Option B
  body_of c s = option_map (λ l. l.body) (live_at c s.live)

  -- What the held callback of this number was registered with.
  abbrev pub held_of : ℕ → Callbacks B → Option Registration
  held_of c s = option_map (λ l. l.registration) (live_at c s.held)

  -- The callback of this number, live or held.
  abbrev pub known_at : ℕ → Callbacks B → Option (Live B)
  known_at c s = option_or (live_at c s.live) (live_at c s.held)

  -- How many activations of it run.
  abbrev pub activations_of : ℕ → Callbacks B → ℕ
  activations_of c s = unwrap_or (option_map (λ l. l.activations) (known_at c s)) 0

  -- Is a callback of this number live?
  abbrev pub is_live : ℕ → Callbacks B → Bool
  is_live c s = is_some (live_at c s.live)

  -- Has an entry this reason and this object?
  abbrev pub has_reason : Reason → Option Object → ℕ × Live B → Bool
  has_reason reason object e = is_for reason object e.1.registration

  -- The numbers of those that have this reason and this object, by rising number.
  abbrev pub numbers_of : Reason → Option Object → List (ℕ × Live B) → List ℕ
  numbers_of reason object es = map (λ e. e.0) (filter (has_reason reason object) es)

  abbrev pub matching : Reason → Option Object → Callbacks B → List ℕ
  matching reason object s = numbers_of reason object s.live

  -- Is there one that has this reason and this object?
  abbrev pub any_of : Reason → Option Object → List (ℕ × Live B) → Bool
  any_of reason object es = list_any (has_reason reason object) es

  abbrev pub matches : Reason → Option Object → Callbacks B → Bool
  matches reason object s = any_of reason object s.live

  -- A refused registration hands the body back, and says that the registry is full exactly where
  -- it is.
  abbrev pub HandsBack : Bool → B → RegisterFault B → Type 0
  HandsBack full body (fault.Full b) = (full ≡ true) × (b ≡ body)
  HandsBack full body (fault.NoMemory b) = (full ≡ false) × (b ≡ body)

  -- What a removal answers, by the callback where that was live.
  abbrev pub gone_of : Option (Live B) → Removed B
  gone_of None = removal.NotLive
  gone_of (Some l) = if is_running l then removal.Running else removal.Gone l.body

  -- The numbers are from 1, rise and are below the next one, and no more callbacks are live than may be.
  -- No number is live and held, and of each that is held an activation runs.
  pub record IsSound (s : Callbacks B) : Type 0 where
    pub rise : Rise 1 s.live s.next
    pub few : length s.live ≤ MOST_CALLBACKS
    pub held : Rise 1 s.held s.next
    pub apart : (c : ℕ) → is_live c s ≡ true → live_at c s.held ≡ None
    pub runs : (c : ℕ) (l : Live B) → live_at c s.held ≡ Some l → is_running l ≡ true
