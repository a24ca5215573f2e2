use Rattle.std.proofs.Common.{◌/◌, ◌%◌, ◌∙◌, ap}
use Rattle.std.specs.Int.{bit_at}
use Rattle.std.proofs.lemmas.Nat.Bits.{bit_at-zero}
use Rattle.vh_links.proofs.ListsLemmas.{get_or-copies}
use Rattle.vh_wheel.proofs.occupied.Occupied.new.Goals as goal

pub returns : goal.returns
returns c = λ b. ap (λ w. bit_at w (b % 64)) (get_or-copies 33 0 (b / 64)) ∙ bit_at-zero (b % 64)
