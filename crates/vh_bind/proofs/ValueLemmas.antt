-- Lemmas on the value of a constant in `specs/Constants.antt`: sound nodes alone are a design, and of it
-- nothing is stored.
use Rattle.std.proofs.Common.{◌≡◌, ◌∙◌, ℕ, Bool, true, false, ◌&&◌, ◌==◌, cond, List, [], ◌∷◌, Option, Some, None, slice_get, refl, sym, ap}
use Rattle.std.specs.Map.{lookup}
use Rattle.std.specs.BTreeMap.{is_at}
use Rattle.std.specs.Ordering.{nat_cmp, is_eq}
use Rattle.std.specs.declared.cmp.Ordering.TheVariants.{Equal}
use Rattle.std.specs.Cmp.{nat_cmp_is}
use Rattle.vh_logic.specs.Vector.{Vector}
use Rattle.vh_design_nodes.specs.declared.expr.ExprKind.{ExprKind}
use Rattle.vh_design_nodes.specs.declared.expr.ExprKind.TheVariants as kind
use Rattle.vh_design_nodes.specs.declared.expr.ExprNode.{ExprNode}
use Rattle.vh_design_nodes.specs.Widths.{kind_width, kind_signed}
use Rattle.vh_design_nodes.specs.Fits.{is_width, same_sign, fits_kind, fits_node}
use Rattle.vh_design_nodes.proofs.FitsLemmas.{and_left}
use Rattle.vh_design.specs.Validity.{AllFit}
use Rattle.vh_store.specs.Contents.{Contents}
use Rattle.vh_store.specs.Opening.{IsOpening, is_call, first_result, result_at}
use Rattle.vh_bind.specs.Steps.{Nodes}
use Rattle.vh_bind.specs.Nodes.{AreSound}
use Rattle.vh_bind.specs.Constants.{bare, nothing}

-- A node that reads no object is no call, so none has answered.
no_call : (k : ExprKind) (e : ℕ) → fits_kind [] 0 e k ≡ true → is_call k ≡ false
no_call (kind.Literal v) e h = refl
no_call (kind.Selected s) e h = refl
no_call (kind.Unary op part) e h = refl
no_call (kind.Arithmetic first rest) e h = refl
no_call (kind.Shift first rest) e h = refl
no_call (kind.Comparison first rest) e h = refl
no_call (kind.Logic first rest) e h = refl
no_call (kind.Choice condition left right) e h = refl
no_call (kind.Join first rest) e h = refl
no_call (kind.Repeat count part) e h = refl
no_call (kind.WithSign part signed) e h = refl
no_call (kind.Time unit) e h = refl
no_call (kind.Call function result arguments) e h = absurd (cc)
no_call (kind.SysCall o) e h = absurd (cc)

no_result : (n : ExprNode) → is_call n.kind ≡ false → first_result n ≡ None
no_result n h = rw h refl

no_results : (ns : Nodes) → AllFit (fits_node ns [] 0) ns → (e : ℕ) → result_at (slice_get ns e) ≡ None
no_results ns fit e = by (slice_get ns e) refl
  where
    by : (o : Option ExprNode) → slice_get ns e ≡ o → result_at o ≡ None
    by None is = refl
    by (Some n) is =
        let k = fits_kind [] 0 e n.kind in
        let w = n.width == kind_width ns [] n.kind in
        let fits = and_left k w (and_left (k && w) (is_width n.width) (and_left (k && w && is_width n.width) (same_sign n.signed (kind_signed ns [] n.kind)) (fit e n is))) in
        no_result n (no_call n.kind e fits)

is_at-same : (n : ℕ) → is_at (nat_cmp n) n ≡ true
is_at-same n = ap is_eq (sym (nat_cmp_is n n Equal refl))

none_answered : (rs : List (ℕ × Vector)) → ((e : ℕ) → lookup (is_at (nat_cmp e)) rs ≡ None) → rs ≡ []
none_answered [] h = refl
none_answered (r ∷ rs) h =
    let here : cond (is_at (nat_cmp r.0) r.0) (Some r.1) (lookup (is_at (nat_cmp r.0)) rs) ≡ None = h r.0 in
    let there : Some r.1 ≡ None =
    ap (λ (b : Bool). cond b (Some r.1) (lookup (is_at (nat_cmp r.0)) rs)) (sym (is_at-same r.0)) ∙ here in
    absurd (cc)

pub opening_nothing : (ns : Nodes) (s : Contents) → AreSound [] 0 ns → IsOpening (bare ns) s → s ≡ nothing
opening_nothing ns s sound opening =
    let results : s.results ≡ [] = none_answered s.results (λ e. opening.results e ∙ no_results ns sound.fit e) in
    λ i. record { records = opening.records i; drivers = opening.drivers i; results = results i; time = opening.time i }
