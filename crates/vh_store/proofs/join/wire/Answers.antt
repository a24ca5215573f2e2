use Rattle.std.proofs.Common.{◌∙◌, ℕ, ◌+◌, ◌%◌, max, min, refl}
use Rattle.std.proofs.lemmas.Nat.Bits.{bit_at_and, bit_at_or, bit_at_xor}
use Rattle.vh_logic.specs.declared.digits.Digit.{Digit}
use Rattle.vh_logic.specs.Planes.{digit_of}
use Rattle.vh_store.specs.Resolution.{wire_digit}
use Rattle.vh_store.proofs.JoinLemmas.{join_by_table}
use Rattle.vh_store.proofs.join.wire.Goals as goal

-- What the code makes of the bits at a position.
abbrev table : ℕ → ℕ → ℕ → ℕ → Digit
table p q r s =
    let first = (q + min q p) % 2 in let second = (s + min s r) % 2 in
    let left = max p (min first r) in let right = max r (min second p) in
    let unknown = max (max ((left + right) % 2) (max ((q + first) % 2) (min first s))) (max ((s + second) % 2) (min second q)) in
    let all = max left unknown in
    digit_of ((all + min first second) % 2) unknown

pub returns-clause-value : goal.returns-clause-value
returns-clause-value c =
    c.from_planes.ensures.value
    ∙ join_by_table wire_digit table refl c.args.a.now c.args.b.now _ _ _ _ _ _ _ _
    c.aval-p.ensures c.bval-q.ensures c.aval-r.ensures c.bval-s.ensures c.width.ensures.value c.is_signed.ensures c.requires
    (λ i below. simp (bit_at_and, bit_at_or, bit_at_xor) refl)
