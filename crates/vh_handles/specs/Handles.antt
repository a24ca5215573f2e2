-- Handles: a finite map from live numbers to what they name, kept as the list of its entries by rising
-- number; and of all numbers ever given the test whether a number is among them, and how many they
-- are. (IEEE 1364-2005, clause 26; that a number isn't given again is own)
use Rattle.std.specs.Prelude.{ℕ, ◌≡◌, ◌+◌, List, [], length, Bool, true, false, ◌||◌, ◌==◌, if◌then◌else◌, nat_le, nat_lt, Option, Some, None}
use Rattle.std.specs.BTreeMap.{is_at, insert_entry}
use Rattle.std.specs.Map.{lookup, remove_entry, set_value}
use Rattle.std.specs.Option.{option_and_then}
use Rattle.std.specs.Ordering.{nat_cmp}
use Rattle.vh_base.specs.declared.limits.TheConstants.{MOST_HANDLES, MOST_NUMBERS}
use Rattle.vh_handles.specs.declared.handles.OpenFault.{OpenFault}
use Rattle.vh_handles.specs.declared.handles.OpenFault.TheVariants as fault
use Rattle.vh_handles.specs.declared.handles.Thing.{Thing}
use Rattle.vh_handles.specs.declared.handles.Thing.TheVariants as thing

pub record Handles : Type 0 where
  pub live : List (ℕ × Thing)
  pub is_given : ℕ → Bool
  pub count : ℕ

-- No handle was given.
abbrev pub no_handles : Handles
no_handles = record { live = []; is_given = λ h. false; count = 0 }

-- What a handle names, where it is live.
abbrev pub thing_at : ℕ → Handles → Option Thing
thing_at h s = lookup (is_at (nat_cmp h)) s.live

-- No handle may be given where 65,536 are live, or where 2^63 numbers were given. (own)
abbrev pub no_handle_more : Handles → Bool
no_handle_more s = nat_le MOST_HANDLES (length s.live) || nat_le MOST_NUMBERS s.count

-- Why no handle is given: none may be, or memory is refused.
abbrev pub HasCause : Bool → OpenFault → Type 0
HasCause full fault.Full = full ≡ true
HasCause full fault.NoMemory = full ≡ false

-- The number names the thing from now on.
abbrev pub opened : ℕ → Thing → Handles → Handles
opened h t s = record {
  live = insert_entry nat_cmp s.live h t;
  is_given = λ k. k == h || s.is_given k;
  count = s.count + 1;
}

-- The number names nothing any more; it stays given.
abbrev pub freed : ℕ → Handles → Handles
freed h s = record s { live = remove_entry (is_at (nat_cmp h)) s.live }

-- An iterator past its next object; none where it is past all, or where the thing is no iterator.
abbrev pub past_next : Thing → Option Thing
past_next (thing.Object object) = None
past_next (thing.Iterator relation from at count) =
    if nat_lt at count then Some (thing.Iterator relation from (at + 1) count) else None
past_next (thing.Callback number) = None
past_next (thing.Event serial) = None

-- A live number names another thing.
abbrev pub naming : Option Thing → ℕ → Handles → Handles
naming None h s = s
naming (Some t) h s = record s { live = set_value (is_at (nat_cmp h)) s.live t }

-- The number names an iterator past its next object, where it names one that isn't past all.
abbrev pub advanced : ℕ → Handles → Handles
advanced h s = naming (option_and_then past_next (thing_at h s)) h s

-- Handles as they are kept: numbers are given in order from 0 on, and this is the next.
pub record Numbered : Type 0 where
  pub live : List (ℕ × Thing)
  pub next : ℕ

-- What they show.
abbrev pub handles_of : Numbered → Handles
handles_of n = record { live = n.live; is_given = λ k. nat_lt k n.next; count = n.next }
