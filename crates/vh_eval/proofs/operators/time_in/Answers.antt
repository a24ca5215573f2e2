use Rattle.std.proofs.Common.{◌∙◌, ◌<◌, ◌+◌, ◌*◌, ◌/◌, ◌^◌, ℕ, List, false, ap, sym, subst, arith}
use Rattle.std.proofs.Math.Nat.{one-le-pow}
use Rattle.vh_logic.specs.declared.digits.Digit.{Digit}
use Rattle.vh_logic.specs.Vector.{Vector}
use Rattle.vh_logic.specs.Number.{binary}
use Rattle.vh_logic.proofs.NumberLemmas.{digits_of-binary}
use Rattle.vh_eval.proofs.operators.time_in.Goals as goal

abbrev unsigned : List Digit → Vector
unsigned ds = record { digits = ds; signed = false }

pub nonzero_div-rounded : goal.nonzero_div-rounded
nonzero_div-rounded c =
    subst (λ (n : ℕ). 0 < 2 * n) (sym c.pow-ratio.ensures)
    (let some = one-le-pow c.from.result 10 (omega arith) in omega (arith, some))

pub returns-clause-value : goal.returns-clause-value
returns-clause-value c =
    c.from_planes.ensures.value
    ∙ ap unsigned (digits_of-binary 64 ((2 * c.from-2.result + c.pow-ratio.result) / (2 * c.pow-ratio.result)))
    ∙ ap (λ (n : ℕ). unsigned (binary 64 ((2 * n + c.pow-ratio.result) / (2 * c.pow-ratio.result)))) c.from-2.ensures
    ∙ ap (λ (r : ℕ). unsigned (binary 64 ((2 * c.args.time + r) / (2 * r)))) (c.pow-ratio.ensures ∙ ap (λ (n : ℕ). 10 ^ n) c.from.ensures)
