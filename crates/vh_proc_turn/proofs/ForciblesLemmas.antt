-- A variable may be forced, as a net may.
use Rattle.std.proofs.Common.{◌≡◌, ◌∙◌, ◌||◌, ◌&&◌, ℕ, Bool, true, false, List, Option, Some, None, unwrap_or, option_map, slice_get, nat_lt, refl, ap}
use Rattle.vh_design_code.specs.Operations.{fits_force, fits_write}
use Rattle.vh_design_nodes.specs.declared.object.Kind.{Kind}
use Rattle.vh_design_nodes.specs.declared.object.ObjectInfo.{ObjectInfo}
use Rattle.vh_design_nodes.specs.Fits.{has_kind}
use Rattle.vh_design_nodes.specs.Kinds.{is_variable, is_forcible, is_net}
use Rattle.vh_design_nodes.proofs.FitsLemmas.{and_left, and_right}
use Rattle.std.specs.Cmp.Derive.{both_true}

or_true : (b : Bool) → (b || true) ≡ true
or_true true = refl
or_true false = refl

wider : (i : Option ObjectInfo) → unwrap_or (option_map (λ j. is_variable j.kind) i) false ≡ true
    → unwrap_or (option_map (λ j. is_forcible j.kind) i) false ≡ true
wider None is = absurd (cc)
wider (Some i) is = ap (λ (b : Bool). is_net i.kind || b) is ∙ or_true (is_net i.kind)

pub forces-as-writes : (os : List ObjectInfo) (exprs o e : ℕ) → fits_write os exprs o e ≡ true → fits_force os exprs o e ≡ true
forces-as-writes os exprs o e fits =
    both_true (wider (slice_get os o) (and_left (has_kind is_variable os o) (nat_lt e exprs) fits)) (and_right (has_kind is_variable os o) (nat_lt e exprs) fits)
