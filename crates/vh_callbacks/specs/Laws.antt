-- The laws of the callbacks, whatever a body is. (own)
use Rattle.std.specs.Prelude.{◌≡◌, ◌≤◌, ◌+◌, ◌-◌, ℕ, true, false, ◌==◌, ◌&&◌, if◌then◌else◌, Option, Some, None, is_some, slice_get}
use Rattle.std.specs.List.{list_any}
use Rattle.vh_base.specs.declared.orders.Object.{Object}
use Rattle.vh_base.specs.declared.words.Reason.{Reason}
use Rattle.vh_callbacks.specs.declared.live.Live.{Live}
use Rattle.vh_callbacks.specs.declared.registration.Registration.{Registration}
use Rattle.vh_callbacks.specs.Registration.{is_some_for}
use Rattle.vh_callbacks.specs.Callbacks.{Callbacks, opening, is_full, registered, removed, started, ended, changed_in, with_data, info_of, body_of, held_of, known_at, live_at, activations_of, is_running, body_after, is_live, matching, matches, IsSound}

-- Numbers rise and are below the next one, no more are live than may be, none is live and held, and of each
-- that is held an activation runs: so at the opening, after a registration into a registry that isn't full,
-- after a removal, when an activation starts or ends, and when the user's data change.
abbrev pub OpensSound : Type 0 → Type 0
OpensSound B = IsSound {B = B} opening

abbrev pub RegistersSound : Type 0 → Type 0
RegistersSound B = (s : Callbacks B) (r : Registration) (b : B) → IsSound s → is_full s ≡ false → IsSound (registered r b s)

abbrev pub RemovesSound : Type 0 → Type 0
RemovesSound B = (s : Callbacks B) (c : ℕ) → IsSound s → IsSound (removed c s)

abbrev pub StartsSound : Type 0 → Type 0
StartsSound B = (s : Callbacks B) (c : ℕ) → IsSound s → IsSound (started c s)

abbrev pub EndsSound : Type 0 → Type 0
EndsSound B = (s : Callbacks B) (c : ℕ) → IsSound s → IsSound (ended c s)

abbrev pub ChangesSound : Type 0 → Type 0
ChangesSound B = (s : Callbacks B) (c n : ℕ) → IsSound s → IsSound (changed_in (with_data n) c s)

-- The next number, and any above it, is of no live callback.
abbrev pub NextIsNew : Type 0 → Type 0
NextIsNew B = (s : Callbacks B) (c : ℕ) → IsSound s → s.next ≤ c → is_live c s ≡ false

-- After a registration the new number has it, with its body,
abbrev pub TellsRegistered : Type 0 → Type 0
TellsRegistered B = (s : Callbacks B) (r : Registration) (b : B) → IsSound s
    → (info_of s.next (registered r b s) ≡ Some r) × (body_of s.next (registered r b s) ≡ Some b)

-- And each other number has what it had.
abbrev pub KeepsOthersRegistered : Type 0 → Type 0
KeepsOthersRegistered B = (s : Callbacks B) (r : Registration) (b : B) (c : ℕ) → (c == s.next) ≡ false
    → (info_of c (registered r b s) ≡ info_of c s) × (body_of c (registered r b s) ≡ body_of c s)

-- After a removal the number has nothing,
abbrev pub TellsNoneRemoved : Type 0 → Type 0
TellsNoneRemoved B = (s : Callbacks B) (c : ℕ) → IsSound s → (info_of c (removed c s) ≡ None) × (body_of c (removed c s) ≡ None)

-- And each other number has what it had.
abbrev pub KeepsOthersRemoved : Type 0 → Type 0
KeepsOthersRemoved B = (s : Callbacks B) (c d : ℕ) → (c == d) ≡ false
    → (info_of d (removed c s) ≡ info_of d s) × (body_of d (removed c s) ≡ body_of d s)

-- A live callback that is removed is held exactly where an activation of it runs.
abbrev pub HoldsRunning : Type 0 → Type 0
HoldsRunning B = (s : Callbacks B) (c : ℕ) (l : Live B) → IsSound s → live_at c s.live ≡ Some l
    → live_at c (removed c s).held ≡ (if is_running l then Some l else None)

-- A start counts one activation more, and an end one less,
abbrev pub CountsStarted : Type 0 → Type 0
CountsStarted B = (s : Callbacks B) (c : ℕ) → is_some (known_at c s) ≡ true
    → activations_of c (started c s) ≡ activations_of c s + 1

abbrev pub CountsEnded : Type 0 → Type 0
CountsEnded B = (s : Callbacks B) (c : ℕ) → IsSound s → activations_of c (ended c s) ≡ activations_of c s - 1

-- And no other callback is changed by a removal, a start or an end.
abbrev pub KeepsOthersKnown : Type 0 → Type 0
KeepsOthersKnown B = (s : Callbacks B) (c d : ℕ) → (c == d) ≡ false
    → (known_at d (removed c s) ≡ known_at d s) × (known_at d (started c s) ≡ known_at d s) × (known_at d (ended c s) ≡ known_at d s)

-- The end of an activation hands a body back exactly where the callback is held and this was its last,
abbrev pub GivesLastBack : Type 0 → Type 0
GivesLastBack B = (s : Callbacks B) (c : ℕ) → IsSound s
    → is_some (body_after (live_at c s.held)) ≡ (is_some (held_of c s) && activations_of c s == 1)

-- And then the callback is known no more.
abbrev pub ForgetsLast : Type 0 → Type 0
ForgetsLast B = (s : Callbacks B) (c : ℕ) → IsSound s → is_some (body_after (live_at c s.held)) ≡ true
    → known_at c (ended c s) ≡ None

-- A number is among the matching ones exactly where it is live with this reason and this object.
abbrev pub MatchingIsSet : Type 0 → Type 0
MatchingIsSet B = (s : Callbacks B) (reason : Reason) (object : Option Object) (c : ℕ) → IsSound s
    → list_any (λ n. c == n) (matching reason object s) ≡ is_some_for reason object (info_of c s)

-- Some callback matches exactly where there is a matching one.
abbrev pub MatchesIsSome : Type 0 → Type 0
MatchesIsSome B = (s : Callbacks B) (reason : Reason) (object : Option Object)
    → matches reason object s ≡ is_some (slice_get (matching reason object s) 0)
