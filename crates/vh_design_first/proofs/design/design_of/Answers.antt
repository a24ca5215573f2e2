use Rattle.std.proofs.Common.{◌≡◌, sym, subst}
use Rattle.vh_design.specs.Shape.{Shape}
use Rattle.vh_design.specs.Validity.{IsValid}
use Rattle.vh_design_first.proofs.ValidLemmas.{valid}
use Rattle.vh_design_first.proofs.design.design_of.Goals as goal

pub unreachable-requires : goal.unreachable-requires
unreachable-requires c =
    let P : Shape → Type 0 = IsValid in
    c.in_default.ensures (subst P (sym c.in_ok-parts.ensures) (valid c.args.first.now c.requires))
