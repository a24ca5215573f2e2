-- What becomes of a design's expressions, waits, display calls and statements so far, step by step, up to the first
-- fault. (own)
use Rattle.std.specs.Prelude.{◌≡◌, ℕ, ◌-◌, List, [], ◌∷◌, ◌++◌, length, Option, Some, None, Result, Ok, Err, slice_get, unwrap_or}
use Rattle.vh_base.specs.declared.faults.DesignFault.{DesignFault}
use Rattle.vh_base.specs.declared.place.Place.{Place}
use Rattle.vh_design_code.specs.declared.operation.Operation.{Operation}
use Rattle.vh_design_code.specs.declared.show.ShowCall.{ShowCall}
use Rattle.vh_design_code.specs.declared.statement.StmtInfo.{StmtInfo}
use Rattle.vh_design_code.specs.declared.statement.StmtKind.{StmtKind}
use Rattle.vh_design_code.specs.declared.wait.Term.{Term}
use Rattle.vh_design_code.specs.declared.wait.WaitInfo.{WaitInfo}
use Rattle.vh_bind.specs.Steps.{Fault, Nodes, Step}
use Rattle.vh_bind_stmt.specs.Calls.{Surroundings, calls_of, reads_of}
use Rattle.vh_lower.specs.declared.fault.LowerFault.{LowerFault}
use Rattle.vh_lower.specs.declared.fault.LowerFault.TheVariants as faults

-- What statements add to a design.
pub record Added : Type 0 where
  pub exprs : Nodes
  pub waits : List WaitInfo
  pub shows : List ShowCall
  pub stmts : List StmtInfo

-- A step from such a state to the next, with what it gives; or the first fault; or neither, where something is needed
-- that has no value.
abbrev pub Making : Type 0 → Type 0
Making A = Added → Result (A × Added) (Option Fault)

abbrev pub and_then : {A B : Type 0} → Result (A × Added) (Option Fault) → (A → Making B) → Result (B × Added) (Option Fault)
and_then (Ok r) f = f r.0 r.1
and_then (Err fault) f = Err fault

infixl 10 ◌>>=◌
abbrev pub ◌>>=◌ : {A B : Type 0} → Making A → (A → Making B) → Making B
p >>= f = λ a. and_then (p a) f

abbrev pub pure : {A : Type 0} → A → Making A
pure x = λ a. Ok (x, a)

abbrev pub refused : {A : Type 0} → DesignFault → Place → Making A
refused fault place = λ a. Err (Some (fault, place))

-- What only looks at the expressions so far.
abbrev pub found : {A : Type 0} → Result (Option A) Fault → Making A
found (Err fault) = λ a. Err (Some fault)
found (Ok None) = λ a. Err None
found (Ok (Some x)) = pure x

abbrev pub looking : {A : Type 0} → (Nodes → Result (Option A) Fault) → Making A
looking f = λ a. found (f a.exprs) a

-- What is added to the expressions, behind some instructions: the calls of functions in what is added are instructions too.
abbrev pub with_exprs : Nodes → Added → Added
with_exprs ns a = record a { exprs = ns }

abbrev pub calls_between : Surroundings → Nodes → ℕ → List Operation
calls_between w ns from = calls_of w ns (length ns - from) from

abbrev pub called_behind : {A : Type 0} → Surroundings → List Operation → ℕ → Option A → Added
    → Result ((A × List Operation) × Added) (Option Fault)
called_behind w before from None a = Err None
called_behind w before from (Some x) a = Ok ((x, before ++ calls_between w a.exprs from), a)

abbrev pub called_in : {A : Type 0} → Surroundings → List Operation → Added → Result (Option A × Nodes) Fault
    → Result ((A × List Operation) × Added) (Option Fault)
called_in w before a (Err fault) = Err (Some fault)
called_in w before a (Ok (found, ns)) = called_behind w before (length a.exprs) found (with_exprs ns a)

abbrev pub performed : {A : Type 0} → Surroundings → List Operation → Step (Option A) → Making (A × List Operation)
performed w before p = λ a. called_in w before a (p a.exprs)

-- One statement more, under the next number. (26.6.27; own: the number)
abbrev pub scope_of : Surroundings → ℕ
scope_of w = unwrap_or (slice_get w.scope.around 0) w.scope.top

abbrev pub with_stmt : StmtKind → Surroundings → Place → Added → Added
with_stmt kind w place a =
    record a { stmts = a.stmts ++ record { kind = kind; scope = scope_of w; place = place } ∷ [] }

abbrev pub numbered : StmtKind → Surroundings → Place → Making ℕ
numbered kind w place = λ a. Ok (length a.stmts, with_stmt kind w place a)

-- One wait more, and one display call.
abbrev pub with_wait : List Term → Making ℕ
with_wait terms = λ a. Ok (length a.waits, record a { waits = a.waits ++ record { terms = terms } ∷ [] })

abbrev pub with_show : ShowCall → Making ℕ
with_show show = λ a. Ok (length a.shows, record a { shows = a.shows ++ show ∷ [] })

-- A wait for what the expressions from one on read. (9.7.5 and 9.7.6)
abbrev pub reading_from : ℕ → Making ℕ
reading_from from = λ a. with_wait (reads_of a.exprs (length a.exprs - from) from) a

-- How many expressions there are.
abbrev pub exprs_so_far : Making ℕ
exprs_so_far = λ a. Ok (length a.exprs, a)

-- It is what a step answers, and what it leaves. (Want of memory is free.)
abbrev pub Makes : {A : Type 0} → Result (A × Added) (Option Fault) → Result A LowerFault → Added → Type 0
Makes outcome (Ok x) a = outcome ≡ Ok (x, a)
Makes outcome (Err (faults.Refused fault place)) a = outcome ≡ Err (Some (fault, place))
Makes outcome (Err faults.PassedOver) a = outcome ≡ Err None
Makes outcome (Err faults.NoMemory) a = Unit {0}
