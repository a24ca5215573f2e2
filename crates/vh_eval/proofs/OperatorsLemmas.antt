-- Lemmas on `specs/Operators.antt`: a value so many times, and a value as it is.
use Rattle.std.proofs.Common.{◌≡◌, ◌∙◌, ◌+◌, ◌++◌, ℕ, suc, Bool, List, length, replicate, refl, ap, arith}
use Rattle.std.proofs.lemmas.List.{append-nil, take-append-le, take_all}
use Rattle.vh_logic.specs.declared.digits.Digit.{Digit}
use Rattle.vh_logic.specs.Vector.{Vector, width_of}
use Rattle.vh_logic.specs.Parts.{resized, extension}
use Rattle.vh_eval.specs.Operators.{times}

pub times_one : (ds : List Digit) → times 1 ds ≡ ds
unfolding times
times_one ds = append-nil ds

times_suc : (n : ℕ) (ds : List Digit) → times (suc n) ds ≡ ds ++ times n ds
unfolding times
times_suc n ds = refl

pub times_more : (n : ℕ) (ds : List Digit) → times (n + 1) ds ≡ ds ++ times n ds
times_more n ds =
    let next : n + 1 ≡ suc n = omega arith in ap (λ (k : ℕ). times k ds) next ∙ times_suc n ds

-- A value in its own width has the same digits.
pub same_width : (v : Vector) (s : Bool) → (resized v (width_of v) s).digits ≡ v.digits
same_width v s =
    take-append-le (length v.digits) v.digits (replicate (length v.digits) (extension v s)) (omega arith)
    ∙ take_all (length v.digits) v.digits (omega arith)
