-- Lemmas on `specs/Calls.antt`: the first of some expressions, and those behind it.
use Rattle.std.proofs.Common.{◌≡◌, ◌∙◌, ◌<◌, ◌≤◌, ◌+◌, ◌-◌, ◌++◌, ◌∷◌, [], ℕ, suc, List, length, slice_get, refl, sym, ap, arith}
use Rattle.std.specs.Option.{option_map}
use Rattle.vh_design_code.specs.declared.operation.Operation.{Operation}
use Rattle.vh_design_code.specs.declared.wait.Term.{Term}
use Rattle.vh_design_nodes.specs.declared.expr.ExprKind.{ExprKind}
use Rattle.vh_design_nodes.specs.declared.expr.ExprKind.TheVariants as kind
use Rattle.vh_design_nodes.specs.declared.expr.Selected.{Selected}
use Rattle.vh_sense.specs.Reads.{object_in}
use Rattle.vh_bind.specs.Steps.{Nodes}
use Rattle.vh_bind_stmt.specs.Calls.{Surroundings, calls_at, calls_of, reads_at, reads_of, selected_in}

pub calls-more : (w : Surroundings) (ns : Nodes) (e : ℕ) → e < length ns
    → calls_of w ns (length ns - e) e ≡ calls_at w ns e (slice_get ns e) ++ calls_of w ns (length ns - (e + 1)) (e + 1)
unfolding calls_of
calls-more w ns e inside =
    let one : length ns - e ≡ suc (length ns - (e + 1)) = omega arith in
    ap (λ k. calls_of w ns k e) one

pub calls-none : (w : Surroundings) (ns : Nodes) (e : ℕ) → length ns ≤ e → calls_of w ns (length ns - e) e ≡ []
unfolding calls_of
calls-none w ns e outside = let none : length ns - e ≡ 0 = omega arith in ap (λ k. calls_of w ns k e) none

pub reads-more : (ns : Nodes) (e : ℕ) → e < length ns
    → reads_of ns (length ns - e) e ≡ reads_at (slice_get ns e) ++ reads_of ns (length ns - (e + 1)) (e + 1)
unfolding reads_of
reads-more ns e inside =
    let one : length ns - e ≡ suc (length ns - (e + 1)) = omega arith in
    ap (λ k. reads_of ns k e) one

pub reads-none : (ns : Nodes) (e : ℕ) → length ns ≤ e → reads_of ns (length ns - e) e ≡ []
unfolding reads_of
reads-none ns e outside = let none : length ns - e ≡ 0 = omega arith in ap (λ k. reads_of ns k e) none

-- What an expression reads itself is what it selects.
pub object_selected : (k : ExprKind) → object_in k ≡ option_map (λ (s : Selected). s.of.object) (selected_in k)
object_selected (kind.Selected s) = refl
object_selected _ = refl
