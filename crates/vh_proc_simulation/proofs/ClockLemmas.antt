-- Lemmas on `specs/Clock.antt`: an expression reads the time where it or one of its parts does.
use Rattle.std.proofs.Common.{◌≡◌, ◌<◌, ◌≤◌, ℕ, zero, suc, Bool, true, false, ◌||◌, ◌==◌, List, length, take, Option, Some, slice_get, refl, sym, ap, arith, ◌∙◌}
use Rattle.std.proofs.lemmas.Bool.{eqb-true, eqb-false}
use Rattle.std.proofs.lemmas.List.{take_all}
use Rattle.std.specs.List.{list_any}
use Rattle.vh_design_nodes.specs.declared.expr.ExprNode.{ExprNode}
use Rattle.vh_design.specs.Laws.{parts_of}
use Rattle.vh_proc_simulation.specs.Clock.{is_clock, node_asks, asks_below}

step_by : (b : Bool) (k : ℕ) (ns : List ExprNode) (e : ℕ) → (e == k) ≡ b → e < suc k
    → (e < k → asks_below k ns e ≡ node_asks (asks_below e ns) (slice_get ns e))
    → elim b [
      | true ↦ node_asks (asks_below k ns) (slice_get ns e)
      | false ↦ asks_below k ns e
    ]
    ≡ node_asks (asks_below e ns) (slice_get ns e)
step_by true k ns e is below rest =
    ap (λ (n : ℕ). node_asks (asks_below n ns) (slice_get ns e)) (sym (eqb-true e k is))
step_by false k ns e is below rest = let apart = eqb-false e k is in rest (omega (arith, apart))

asks_step : (k : ℕ) (ns : List ExprNode) (e : ℕ) → e < k → asks_below k ns e ≡ node_asks (asks_below e ns) (slice_get ns e)
unfolding asks_below
asks_step zero ns e below = absurd (omega arith)
asks_step (suc k) ns e below = step_by (e == k) k ns e refl below (asks_step k ns e)

-- What it is itself, before any part.
pub or_nothing : (a : Bool) → a ≡ (a || false)
or_nothing true = refl
or_nothing false = refl

-- With all its parts.
pub all_parts : (k : ℕ) (ns : List ExprNode) (e : ℕ) (n : ExprNode) (i : ℕ) → e < k → slice_get ns e ≡ Some n
    → length (parts_of n.kind) ≤ i
    → (is_clock n.kind || list_any (asks_below e ns) (take i (parts_of n.kind))) ≡ asks_below k ns e
all_parts k ns e n i below at all =
    rw (take_all i (parts_of n.kind) all)
    (ap (λ (found : Option ExprNode). node_asks (asks_below e ns) found) (sym at) ∙ sym (asks_step k ns e below))
