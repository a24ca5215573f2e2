-- Lemmas on `specs/Paths.antt`: one part of a path, and what is left behind it.
use Rattle.std.proofs.Common.{◌≡◌, ◌∙◌, ◌<◌, ◌+◌, ◌∷◌, [], ℕ, Bool, false, List, Option, Some, None, refl}
use Rattle.std.specs.Prelude.{map, is_some}
use Rattle.vh_ast.specs.declared.token.Id.{Id}
use Rattle.vh_ast.specs.declared.name.Name.{Name}
use Rattle.vh_ast.specs.declared.name.Step.{Step as NameStep}
use Rattle.vh_ast.specs.declared.expr.Expr.{Expr}
use Rattle.vh_ast.specs.Expressions.{Steps, name, steps}
use Rattle.vh_ast.specs.Views.{expr_tree, name_tree, index_by, step_by}
use Rattle.vh_bind.specs.Scopes.{Scope}
use Rattle.vh_bind.specs.Constants.{path_meant, name_meant}

-- The parts of a path behind the first, as they are seen.
abbrev pub steps_seen : List (NameStep Expr) → Steps
steps_seen all = steps (map (step_by expr_tree) all)

longer : (s : Scope) (call : Bool) (id : Id) (i : Option Expr) (all : List (NameStep Expr)) → (is_some i ≡ false → all ≡ [] → ⊥)
    → name_meant s call (name id (index_by expr_tree i) (steps_seen all)) ≡ path_meant s id (index_by expr_tree i) (steps_seen all)
longer s call id None [] h = absurd (h refl refl)
longer s call id None (x ∷ all) h = refl
longer s call id (Some e) all h = refl

pub name-path : (s : Scope) (call : Bool) (n : Name Expr) → (is_some n.first.index ≡ false → n.more ≡ [] → ⊥)
    → name_meant s call (name_tree n) ≡ path_meant s n.first.id (index_by expr_tree n.first.index) (steps_seen n.more)
name-path s call n h = longer s call n.first.id n.first.index n.more h
