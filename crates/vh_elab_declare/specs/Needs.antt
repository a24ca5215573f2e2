-- Parameters that need themselves. (4.10; N4)
use Rattle.std.specs.Prelude.{ℕ, List, [], ◌∷◌, ◌++◌, Bool, true, false, not, ◌&&◌, if◌then◌else◌, ◌==◌, Option, Some, None, is_some, slice_get, unwrap_or}
use Rattle.std.specs.Option.{option_and_then, option_map}
use Rattle.vh_base.specs.declared.faults.DesignFault.TheVariants.{N4}
use Rattle.vh_ast.specs.declared.token.Id.{Id}
use Rattle.vh_ast.specs.declared.item.ParameterWord.{ParameterWord}
use Rattle.vh_ast.specs.Expressions.{ExprTree}
use Rattle.vh_ast.specs.Declarations.{RangeTree, TypeTree}
use Rattle.vh_design_nodes.specs.declared.object.Kind.{Kind}
use Rattle.vh_design_nodes.specs.declared.object.Kind.TheVariants as of
use Rattle.vh_design_nodes.specs.declared.object.ObjectInfo.{ObjectInfo}
use Rattle.vh_bind_scope.specs.declared.look_up.Declaration.{Declaration}
use Rattle.vh_bind_scope.specs.LookUp.{found, object_meant}
use Rattle.vh_elab_mentions.specs.Mentions.{expr_ids}
use Rattle.vh_elab_cycles.specs.Cycles.{Edge, first_on_cycle}
use Rattle.vh_bind_least.specs.Least.{Fault}
use Rattle.vh_elab_sites.specs.Sites as S
use Rattle.vh_elab_sites.specs.Sites.{Declared, SiteTree}
use Rattle.vh_elab_declare.specs.Objects.{around_in}
use Rattle.vh_elab_declare.specs.Constants.{Home, Known, given_to, has_value}

-- A parameter that has no value needs each parameter without one that is named in its range, or in its value where it isn't given one.
abbrev pub range_ids : Option RangeTree → List Id
range_ids None = []
range_ids (Some r) = expr_ids r.right (expr_ids r.left [])

abbrev pub type_ids : Option TypeTree → List Id
type_ids None = []
type_ids (Some t) = range_ids t.range

abbrev pub looked_at : Home → SiteTree → ParameterWord → Option TypeTree → ExprTree → List Id
looked_at h s w t e = if is_some (given_to h s w) then type_ids t else expr_ids e (type_ids t)

abbrev pub is_parameter : Kind → Bool
is_parameter of.Parameter = true
is_parameter _ = false

abbrev pub lacks_value : List ObjectInfo → ℕ → Bool
lacks_value os n =
    unwrap_or (option_map (λ o. is_parameter o.kind && not (has_value o.detail)) (slice_get os n)) false

abbrev pub declared_object : Option Declaration → Option ℕ
declared_object d = option_and_then (λ x. object_meant x.meaning) d

abbrev pub edge_to : Known → ℕ → Option ℕ → List Edge
edge_to k n None = []
edge_to k n (Some m) = if lacks_value k.objects m then (n, m) ∷ [] else []

abbrev pub edges_to : Known → List ℕ → ℕ → List Id → List Edge
edges_to k around n [] = []
edges_to k around n (id ∷ ids) =
    edge_to k n (declared_object (found k.names around id.name)) ++ edges_to k around n ids

abbrev pub constant_edges : Home → Known → SiteTree → ParameterWord → Option TypeTree → ExprTree → List Edge
constant_edges h k s w t e =
    if lacks_value k.objects s.number then edges_to k (around_in k.objects s.scope) s.number (looked_at h s w t e) else []

abbrev pub site_edges : Home → Known → SiteTree → Declared → List Edge
site_edges h k s (S.constant w t e) = constant_edges h k s w t e
site_edges h k s _ = []

abbrev pub all_edges : Home → Known → List SiteTree → List Edge
all_edges h k [] = []
all_edges h k (s ∷ so) = site_edges h k s s.declared ++ all_edges h k so

-- The first of those that need themselves, where its site is: a site that is no object has the number of the next one.
abbrev pub is_constant : Declared → Bool
is_constant (S.constant w t e) = true
is_constant _ = false

abbrev pub fault_at : List SiteTree → ℕ → Option Fault
fault_at [] n = None
fault_at (s ∷ so) n = if s.number == n && is_constant s.declared then Some (N4, s.place) else fault_at so n

abbrev pub needs_fault : Home → Known → List SiteTree → Option Fault
needs_fault h k so =
    option_and_then (λ p. option_and_then (λ (e : Edge). fault_at so e.0) (slice_get (all_edges h k so) p))
    (first_on_cycle (all_edges h k so))
