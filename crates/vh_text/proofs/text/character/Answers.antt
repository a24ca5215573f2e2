use Rattle.std.proofs.Common.{arith, ◌∙◌, sym, ◌^◌, ◌≤◌, ◌<◌, length}
use Rattle.std.proofs.Math.Pow.{pow_mono}
use Rattle.vh_text.proofs.TextsLemmas.{known_number-lt}
use Rattle.vh_text.proofs.text.character.Goals as goal

pub digit_character-requires : goal.digit_character-requires
digit_character-requires c =
    let below : c.in-Some.n < 2 ^ length c.args.v.now.digits = known_number-lt _ _ (sym c.number.ensures ∙ c.in-Some.is) in
    let most : 2 ^ length c.args.v.now.digits ≤ 2 ^ 4 = pow_mono c.requires in
    omega (arith, below, most)
