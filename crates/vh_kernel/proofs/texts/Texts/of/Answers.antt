use Rattle.std.proofs.Common.{rules, ◌≡◌, ◌∙◌, ◌≤◌, length, ap, arith}
use Rattle.vh_logic.specs.Vector.{width_of}
use Rattle.vh_kernel.proofs.OccurrencesLemmas.{short-text}
use Rattle.vh_kernel.proofs.texts.Texts.of.Goals as goal

-- A value has 64 digits at most, so its text isn't too long
pub unreachable-requires : goal.unreachable-requires
unreachable-requires c =
    let size : length c.as_bytes.result.now ≡ width_of c.args.value.now =
    ap length (c.as_bytes.ensures.value ∙ c.in_ok-write_binary.ensures) ∙ short-text c.args.value.now in
    let value = c.width-digits.ensures.value in let most = c.width-digits.ensures.most in
    let short : length c.as_bytes.result.now ≤ 255 = omega (arith, size, value, most) in
    let is = c.in_ok-set.ensures.set.1 short in
    search (rules, is)
