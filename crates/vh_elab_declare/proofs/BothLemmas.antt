-- Both of two, or the lesser of their faults.
use Rattle.std.proofs.Common.{◌≡◌, ◌∙◌, Result, Ok, Err, Option, refl, ap, sym}
use Rattle.std.specs.Prelude.{IfOk}
use Rattle.vh_bind_least.specs.Least.{Fault, both, lesser}
use Rattle.vh_bind.specs.declared.fault.ElabFault.{ElabFault}
use Rattle.vh_bind.specs.declared.fault.ElabFault.TheVariants as faults
use Rattle.vh_bind.specs.Steps.{Gives}
use Rattle.vh_elab_declare.specs.Views.{BothBy}

pub gives_both : {A B : Type 0} (x : Result A Fault) (y : Result B Fault) (left : Result A ElabFault) (right : Result B ElabFault)
    (r : Result (A × B) ElabFault) → Gives x left → Gives y right → BothBy left right r → Gives (both x y) r
gives_both x y (Ok a) (Ok b) r l h is = rw is (ap (λ u. both u y) l ∙ ap (both (Ok a)) h)
gives_both x y (Ok a) (Err (faults.Refused g q)) r l h is = rw is (ap (λ u. both u y) l ∙ ap (both (Ok a)) h)
gives_both x y (Ok a) (Err faults.NoMemory) r l h is = rw is tt
gives_both x y (Err faults.NoMemory) right r l h is = rw is tt
gives_both x y (Err (faults.Refused f p)) (Ok b) r l h is = rw is (ap (λ u. both u y) l ∙ ap (both (Err (f, p))) h)
gives_both x y (Err (faults.Refused f p)) (Err faults.NoMemory) r l h is = rw is tt
gives_both x y (Err (faults.Refused f p)) (Err (faults.Refused g q)) r l h is =
    rw is (ap (λ u. both u y) l ∙ ap (both (Err (f, p))) h)

pub both_left : {A B : Type 0} (P : A → Type 0) (left : Result A ElabFault) (right : Result B ElabFault) (r : Result (A × B) ElabFault)
    → IfOk left P → BothBy left right r → IfOk r (λ b. P b.0)
both_left P (Ok a) (Ok b) r l is = rw is l
both_left P (Ok a) (Err fault) r l is = rw is tt
both_left P (Err faults.NoMemory) right r l is = rw is tt
both_left P (Err (faults.Refused f p)) (Ok b) r l is = rw is tt
both_left P (Err (faults.Refused f p)) (Err faults.NoMemory) r l is = rw is tt
both_left P (Err (faults.Refused f p)) (Err (faults.Refused g q)) r l is = rw is tt

pub both_right : {A B : Type 0} (P : B → Type 0) (left : Result A ElabFault) (right : Result B ElabFault) (r : Result (A × B) ElabFault)
    → IfOk right P → BothBy left right r → IfOk r (λ b. P b.1)
both_right P (Ok a) (Ok b) r h is = rw is h
both_right P (Ok a) (Err fault) r h is = rw is tt
both_right P (Err faults.NoMemory) right r h is = rw is tt
both_right P (Err (faults.Refused f p)) (Ok b) r h is = rw is tt
both_right P (Err (faults.Refused f p)) (Err faults.NoMemory) r h is = rw is tt
both_right P (Err (faults.Refused f p)) (Err (faults.Refused g q)) r h is = rw is tt
