-- Of a plane of ones, a shift leaves as many as the width.
use Rattle.std.proofs.Common.{arith, ap, ◌∙◌, ◌^◌, ◌-◌, ◌≡◌}
use Rattle.std.proofs.lemmas.Nat.Bits.{ones_shr}
use Rattle.vh_logic.specs.declared.vector.TheConstants.{MAX_WIDTH}
use Rattle.vh_logic.proofs.vector.mask.Goals as goal

pub returns : goal.returns
returns c =
    let back : MAX_WIDTH - (MAX_WIDTH - c.args.width) ≡ c.args.width = omega arith in
    ones_shr MAX_WIDTH (MAX_WIDTH - c.args.width) (omega arith) ∙ ap (λ n. 2 ^ n - 1) back
