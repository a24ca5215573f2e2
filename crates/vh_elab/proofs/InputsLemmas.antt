-- The inputs of a gate have nodes.
use Rattle.std.proofs.Common.{◌≡◌, ◌<◌, ◌≤◌, ℕ, true, List, length, Option, Some, None, Result, Ok, Err, sym, ap, subst}
use Rattle.std.specs.Prelude.{IfOk, IfSome, OnOk}
use Rattle.std.specs.Option.{option_map}
use Rattle.vh_design_code.specs.declared.operation.Operation.{Operation}
use Rattle.vh_design_nodes.specs.Fits.{all_before}
use Rattle.vh_bind.proofs.FoldsLemmas.{numbers-below}
use Rattle.vh_lower.specs.declared.fault.LowerFault.{LowerFault}
use Rattle.vh_lower.specs.declared.fault.LowerFault.TheVariants as low
use Rattle.vh_lower.specs.Making.{Added}
use Rattle.vh_elab.specs.Coded.{Coding, Inputs, Ready, one_input}
use Rattle.vh_elab.specs.Views.{Tries}

-- Where none was made there are no numbers.
none-below : (numbers : Option (List ℕ)) (calls : List Operation) (found : Option ℕ) (i : Inputs) (k : ℕ) → found ≡ None
    → i ≡ one_input numbers (option_map (λ n. (n, calls)) found) → IfSome i.numbers (λ ns. all_before k ns ≡ true)
none-below numbers calls None i k none is =
    let P : Option (List ℕ) → Type 0 = λ x. IfSome x (λ ns. all_before k ns ≡ true) in
    subst P (sym (ap (λ (x : Inputs). x.numbers) is)) tt
none-below numbers calls (Some n) i k none is = absurd (cc)

some-below : (numbers : Option (List ℕ)) (calls : List Operation) (found : Option ℕ) (i : Inputs) (m k x : ℕ) → found ≡ Some x
    → IfSome numbers (λ ns. all_before m ns ≡ true) → m ≤ k → x < k
    → i ≡ one_input numbers (option_map (λ n. (n, calls)) found) → IfSome i.numbers (λ ns. all_before k ns ≡ true)
some-below numbers calls None i m k x some below up here is = absurd (cc)
some-below numbers calls (Some n) i m k x some below up here is =
    let same : x ≡ n = cc in
    let P : ℕ → Type 0 = λ y. y < k in
    numbers-below numbers i.numbers (Some n) m k below up (subst P same here) (ap (λ (y : Inputs). y.numbers) is)

pub input-below : (numbers : Option (List ℕ)) (calls : List Operation) (r : Ready) (c new : Coding) (a : Added)
    (outcome : Result ℕ LowerFault) (found : Option ℕ) (i : Inputs)
    → IfSome numbers (λ ns. all_before (length c.added.exprs) ns ≡ true)
    → IfOk outcome (λ n. n < length a.exprs) → OnOk outcome (length c.added.exprs ≤ length a.exprs)
    → Tries r outcome (record c { added = a }) found new
    → i ≡ one_input numbers (option_map (λ n. (n, calls)) found)
    → IfSome i.numbers (λ ns. all_before (length new.added.exprs) ns ≡ true)
input-below numbers calls r c new a (Ok x) found i below here up tries is =
    let P : Added → Type 0 = λ y. IfSome i.numbers (λ ns. all_before (length y.exprs) ns ≡ true) in
    subst P (sym (ap (λ (p : Option ℕ × Coding). p.1.added) tries))
    (some-below numbers calls found i (length c.added.exprs) (length a.exprs) x (ap (λ (p : Option ℕ × Coding). p.0) tries)
    below up here is)
input-below numbers calls r c new a (Err (low.Refused f p)) found i below here up tries is =
    none-below numbers calls found i (length new.added.exprs) (ap (λ (q : Option ℕ × Coding). q.0) tries) is
input-below numbers calls r c new a (Err low.PassedOver) found i below here up tries is =
    none-below numbers calls found i (length new.added.exprs) (ap (λ (q : Option ℕ × Coding). q.0) tries) is
input-below numbers calls r c new a (Err low.NoMemory) found i below here up tries is = absurd tries
