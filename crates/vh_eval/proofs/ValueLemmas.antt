-- Lemmas on `specs/Value.antt`: the value of an expression is that of its kind by the expressions before it.
use Rattle.std.proofs.Common.{◌≡◌, ◌<◌, ℕ, zero, suc, Bool, true, false, ◌==◌, slice_get, refl, sym, ap, arith}
use Rattle.std.proofs.lemmas.Bool.{eqb-true, eqb-false}
use Rattle.vh_design.specs.Shape.{Shape}
use Rattle.vh_store.specs.Contents.{Contents}
use Rattle.vh_eval.specs.Value.{value_below, node_value}

-- The value below one number more, by whether the expression has that number.
step_by : (b : Bool) (k : ℕ) (d : Shape) (s : Contents) (e w : ℕ) (g : Bool) → (e == k) ≡ b → e < suc k
    → (e < k → value_below k d s e w g ≡ node_value (value_below e d s) d s e (slice_get d.exprs e) w g)
    → elim b [
      | true ↦ node_value (value_below k d s) d s e (slice_get d.exprs e) w g
      | false ↦ value_below k d s e w g
    ]
    ≡ node_value (value_below e d s) d s e (slice_get d.exprs e) w g
step_by true k d s e w g is below rest =
    ap (λ (n : ℕ). node_value (value_below n d s) d s e (slice_get d.exprs e) w g) (sym (eqb-true e k is))
step_by false k d s e w g is below rest = let apart = eqb-false e k is in rest (omega (arith, apart))

-- It is that of its kind, by the values of the expressions before it.
pub value_step : (k : ℕ) (d : Shape) (s : Contents) (e w : ℕ) (g : Bool) → e < k
    → value_below k d s e w g ≡ node_value (value_below e d s) d s e (slice_get d.exprs e) w g
unfolding value_below
value_step zero d s e w g below = absurd (omega arith)
value_step (suc k) d s e w g below = step_by (e == k) k d s e w g refl below (value_step k d s e w g)
