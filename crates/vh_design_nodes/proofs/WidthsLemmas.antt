-- Lemmas on `specs/Widths.antt`: the greatest width of a chain is not below that of an operand.
use Rattle.std.proofs.Common.{◌<◌, ◌≤◌, ℕ, List, [], ◌∷◌, length, get_or, max, zero, suc, arith}
use Rattle.std.proofs.Math.Nat.{le-max_left, le-max_right}
use Rattle.vh_design_nodes.specs.declared.expr.ExprNode.{ExprNode}
use Rattle.vh_design_nodes.specs.Widths.{width_of, widest}

pub widest-first : (ns : List ExprNode) (w : ℕ) (parts : List ℕ) → w ≤ widest ns w parts
widest-first ns w [] = omega arith
widest-first ns w (p ∷ ps) =
    let here = le-max_left w (width_of ns p) in
    let rest = widest-first ns (max w (width_of ns p)) ps in
    omega arith

pub widest-each : (ns : List ExprNode) (w : ℕ) (parts : List ℕ) (k d : ℕ)
    → k < length parts → width_of ns (get_or parts k d) ≤ widest ns w parts
widest-each ns w [] k d inside = absurd (omega arith)
widest-each ns w (p ∷ ps) zero d inside =
    let here = le-max_right w (width_of ns p) in
    let rest = widest-first ns (max w (width_of ns p)) ps in
    omega arith
widest-each ns w (p ∷ ps) (suc k) d inside = widest-each ns (max w (width_of ns p)) ps k d (omega arith)
