-- The least of some faults: by place, and of two at one place the one with the lesser number. (own)
use Rattle.std.specs.Prelude.{ℕ, Bool, ◌||◌, ◌&&◌, List, [], ◌∷◌, if◌then◌else◌, ◌==◌, nat_lt, Option, Some, None, Result, Ok, Err}
use Rattle.vh_base.specs.declared.faults.DesignFault.{DesignFault}
use Rattle.vh_base.specs.declared.faults.DesignFault.TheVariants as fault
use Rattle.vh_base.specs.declared.place.Place.{Place}

-- A fault and its place.
abbrev pub Fault : Type 0
Fault = DesignFault × Place

-- A place before another one.
abbrev pub is_earlier : Place → Place → Bool
is_earlier p q =
    nat_lt p.file q.file || (p.file == q.file && (nat_lt p.line q.line || (p.line == q.line && nat_lt p.column q.column)))

abbrev pub is_same : Place → Place → Bool
is_same p q = p.file == q.file && (p.line == q.line && p.column == q.column)

-- The number of a fault; those of texts don't come here.
abbrev pub fault_number : DesignFault → ℕ
fault_number fault.N1 = 1
fault_number fault.N2 = 2
fault_number fault.N3 = 3
fault_number fault.N4 = 4
fault_number fault.N5 = 5
fault_number fault.N6 = 6
fault_number fault.N7 = 7
fault_number fault.N8 = 8
fault_number fault.N9 = 9
fault_number fault.N10 = 10
fault_number fault.N11 = 11
fault_number _ = 0

-- Does the second one stand before the first?
abbrev pub is_less : Fault → Fault → Bool
is_less f g = is_earlier f.1 g.1 || (is_same f.1 g.1 && nat_lt (fault_number f.0) (fault_number g.0))

abbrev pub lesser : Fault → Fault → Fault
lesser f g = if is_less g f then g else f

abbrev pub least : Option Fault → Option Fault → Option Fault
least None g = g
least (Some f) None = Some f
least (Some f) (Some g) = Some (lesser f g)

-- Two parts, or the lesser of their faults.
abbrev pub both : {A B : Type 0} → Result A Fault → Result B Fault → Result (A × B) Fault
both (Ok a) (Ok b) = Ok (a, b)
both (Ok a) (Err g) = Err g
both (Err f) (Ok b) = Err f
both (Err f) (Err g) = Err (lesser f g)

-- The least fault of some things.
abbrev pub least_of : {A : Type 0} → (A → Option Fault) → List A → Option Fault → Option Fault
least_of f [] so_far = so_far
least_of f (x ∷ xs) so_far = least_of f xs (least so_far (f x))

-- A fault that comes first, whatever stands behind it.
abbrev pub or_else : Option Fault → Option Fault → Option Fault
or_else (Some f) rest = Some f
or_else None rest = rest

abbrev pub fault_if : Bool → DesignFault → Place → Option Fault
fault_if b fault place = if b then Some (fault, place) else None
