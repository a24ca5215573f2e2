-- For which reason and which object a callback was registered. (IEEE 1364-2005, 27.33)
use Rattle.std.specs.Prelude.{ℕ, Bool, true, false, ◌&&◌, ◌==◌, Option, Some, None}
use Rattle.vh_base.specs.declared.orders.Object.{Object}
use Rattle.vh_base.specs.declared.words.Reason.{Reason}
use Rattle.vh_base.specs.declared.words.Reason.TheVariants as reason
use Rattle.vh_callbacks.specs.declared.registration.Registration.{Registration}

-- The reasons by number, in the order of their list.
abbrev pub rank : Reason → ℕ
rank reason.CbValueChange = 0
rank reason.CbForce = 1
rank reason.CbRelease = 2
rank reason.CbAtStartOfSimTime = 3
rank reason.CbAfterDelay = 4
rank reason.CbNextSimTime = 5
rank reason.CbReadWriteSynch = 6
rank reason.CbReadOnlySynch = 7
rank reason.CbEndOfCompile = 8
rank reason.CbStartOfSimulation = 9
rank reason.CbEndOfSimulation = 10

-- Are two reasons one?
abbrev pub same_reason : Reason → Reason → Bool
same_reason a b = rank a == rank b

-- Are two addresses of words, which may be missing, one?
abbrev pub same_word : Option ℕ → Option ℕ → Bool
same_word None None = true
same_word None (Some y) = false
same_word (Some x) None = false
same_word (Some x) (Some y) = x == y

-- Are two objects, which may be missing, one?
abbrev pub same_object : Option Object → Option Object → Bool
same_object None None = true
same_object None (Some y) = false
same_object (Some x) None = false
same_object (Some x) (Some y) = x.id == y.id && same_word x.word y.word

-- Is a registration for this reason and this object?
abbrev pub is_for : Reason → Option Object → Registration → Bool
is_for reason object r = same_reason reason r.reason && same_object object r.object

-- Is there a registration, and for this reason and this object?
abbrev pub is_some_for : Reason → Option Object → Option Registration → Bool
is_some_for reason object None = false
is_some_for reason object (Some r) = is_for reason object r
