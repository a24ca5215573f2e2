-- What becomes of the expressions so far, step by step, up to the first fault. (own)
use Rattle.std.specs.Prelude.{◌≡◌, List, [], Bool, true, false, Option, Some, None, Result, Ok, Err}
use Rattle.vh_base.specs.declared.faults.DesignFault.{DesignFault}
use Rattle.vh_base.specs.declared.place.Place.{Place}
use Rattle.vh_design_nodes.specs.declared.expr.ExprNode.{ExprNode}
use Rattle.vh_bind_least.specs.Least.{lesser}
use Rattle.vh_bind.specs.declared.fault.ElabFault.{ElabFault}
use Rattle.vh_bind.specs.declared.fault.ElabFault.TheVariants as faults

-- A fault and its place.
abbrev pub Fault : Type 0
Fault = DesignFault × Place

abbrev pub Nodes : Type 0
Nodes = List ExprNode

-- A step from some expressions to more of them, with what it gives; or the first fault.
abbrev pub Step : Type 0 → Type 0
Step A = Nodes → Result (A × Nodes) Fault

abbrev pub and_then : {A B : Type 0} → Result (A × Nodes) Fault → (A → Step B) → Result (B × Nodes) Fault
and_then (Ok r) f = f r.0 r.1
and_then (Err fault) f = Err fault

-- One step after another.
infixl 10 ◌>>=◌
abbrev pub ◌>>=◌ : {A B : Type 0} → Step A → (A → Step B) → Step B
p >>= f = λ ns. and_then (p ns) f

abbrev pub pure : {A : Type 0} → A → Step A
pure a = λ ns. Ok (a, ns)

abbrev pub refused : {A : Type 0} → DesignFault → Place → Step A
refused fault place = λ ns. Err (fault, place)

-- What doesn't touch the expressions.
abbrev pub lifted : {A : Type 0} → Result A Fault → Step A
lifted (Ok a) = pure a
lifted (Err fault) = λ ns. Err fault

-- What only looks at the expressions so far.
abbrev pub looking : {A : Type 0} → (Nodes → Result A Fault) → Step A
looking f = λ ns. lifted (f ns) ns

-- A part and one that is looked at apart, which may stand before it in the text: where both are wrong, the fault that
-- stands first.
abbrev pub earlier_of : {A B : Type 0} → Result A Fault → Result B Fault → Result A Fault
earlier_of (Ok a) other = Ok a
earlier_of (Err f) (Ok b) = Err f
earlier_of (Err f) (Err g) = Err (lesser f g)

abbrev pub beside : {A B : Type 0} → Step A → Step B → Step A
beside p q = λ ns. earlier_of (p ns) (q [])

-- What needs something that is passed over is passed over too.
abbrev pub needing : {A B : Type 0} → Option A → (A → Step (Option B)) → Step (Option B)
needing None f = pure None
needing (Some a) f = f a

-- It is what a step answers, and what it leaves. (Want of memory is free.)
abbrev pub Steps : {A : Type 0} → Result (A × Nodes) Fault → Result A ElabFault → Nodes → Type 0
Steps outcome (Ok a) ns = outcome ≡ Ok (a, ns)
Steps outcome (Err (faults.Refused fault place)) ns = outcome ≡ Err (fault, place)
Steps outcome (Err faults.NoMemory) ns = Unit {0}

-- The same of what doesn't touch the expressions.
abbrev pub Gives : {A : Type 0} → Result A Fault → Result A ElabFault → Type 0
Gives outcome (Ok a) = outcome ≡ Ok a
Gives outcome (Err (faults.Refused fault place)) = outcome ≡ Err (fault, place)
Gives outcome (Err faults.NoMemory) = Unit {0}

-- A step adds to some list, or passes over it.
abbrev pub StepsOn : {A : Type 0} → Result (Option (List A) × Nodes) Fault → Result Bool ElabFault → List A → Nodes → Type 0
StepsOn outcome (Ok true) xs ns = outcome ≡ Ok (Some xs, ns)
StepsOn outcome (Ok false) xs ns = outcome ≡ Ok (None, ns)
StepsOn outcome (Err (faults.Refused fault place)) xs ns = outcome ≡ Err (fault, place)
StepsOn outcome (Err faults.NoMemory) xs ns = Unit {0}
