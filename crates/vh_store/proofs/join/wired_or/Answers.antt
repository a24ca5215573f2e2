use Rattle.std.proofs.Common.{◌∙◌, ℕ, ◌+◌, ◌%◌, max, min, refl}
use Rattle.std.proofs.lemmas.Nat.Bits.{bit_at_and, bit_at_or, bit_at_xor}
use Rattle.vh_logic.specs.declared.digits.Digit.{Digit}
use Rattle.vh_logic.specs.Planes.{digit_of}
use Rattle.vh_store.specs.Resolution.{wired_or_digit}
use Rattle.vh_store.proofs.JoinLemmas.{join_by_table}
use Rattle.vh_store.proofs.join.wired_or.Goals as goal

-- What the code makes of the bits at a position.
abbrev table : ℕ → ℕ → ℕ → ℕ → Digit
table p q r s =
    let first = (q + min q p) % 2 in let second = (s + min s r) % 2 in
    let left = max ((q + first) % 2) (min first s) in let right = max ((s + second) % 2) (min second q) in
    let one = max (max p (min first r)) left in let other = max (max r (min second p)) right in
    let ones = max ((one + left) % 2) ((other + right) % 2) in
    let all = max one other in
    digit_of ((all + min first second) % 2) ((all + ones) % 2)

pub returns-clause-value : goal.returns-clause-value
returns-clause-value c =
    c.from_planes.ensures.value
    ∙ join_by_table wired_or_digit table refl c.args.a.now c.args.b.now _ _ _ _ _ _ _ _
    c.aval-p.ensures c.bval-q.ensures c.aval-r.ensures c.bval-s.ensures c.width.ensures.value c.is_signed.ensures c.requires
    (λ i below. simp (bit_at_and, bit_at_or, bit_at_xor) refl)
