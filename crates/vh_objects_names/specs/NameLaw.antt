-- What a name stands for: an object lies below a scope where scopes lead from it to that one, and it is called by their names.
-- (IEEE 1364-2005, 12.4, 12.5, 26.3.2 and 27.20)
use Rattle.std.specs.Prelude.{◌≡◌, ◌<◌, ◌≤◌, ◌^◌, ℕ, List, [], ◌∷◌, true, Option, Some, None, slice_get}
use Rattle.vh_base.specs.declared.orders.Object.{Object}
use Rattle.vh_design_names.specs.Names.{dotted, scope_at}
use Rattle.vh_design_nodes.specs.declared.object.ObjectInfo.{ObjectInfo}
use Rattle.vh_design_nodes.specs.Fits.{is_address}
use Rattle.vh_design_nodes.specs.Kinds.{is_memory}
use Rattle.vh_objects.specs.Kinds.{has_path}
use Rattle.vh_objects.specs.Properties.{at_address}

-- The scopes between an object and the scope below which it lies, from the inside out: it stands in the first of them, each in
-- the next, and the last in that scope. Null is the scope of the top.
abbrev pub Leads : List ObjectInfo → Option ℕ → ℕ → List ℕ → Type 0
Leads os scope o [] = scope_at os o ≡ scope
Leads os scope o (p ∷ ps) = (scope_at os o ≡ Some p) × Leads os scope p ps

-- A text is the path of the object, byte for byte; or that of the word with this address, which its memory has.
abbrev pub IsPathOf : List ℕ → ObjectInfo → List ℕ → Option ℕ → Type 0
IsPathOf text i path None = text ≡ path
IsPathOf text i path (Some a) = (is_memory i.kind ≡ true) × (is_address i a ≡ true) × (a < 2 ^ 32) × (text ≡ at_address path a)

-- A text means an object: one that is found by a path, and not a port; it lies below the scope, anywhere below null; and the
-- names below the scope, outermost first and joined by dots, are the text.
pub record Means (os : List ObjectInfo) (scope : Option ℕ) (text : List ℕ) (o : Object) : Type 0 where
  pub info : ObjectInfo
  pub between : List ℕ
  pub there : slice_get os o.id ≡ Some info
  pub found : has_path info.kind ≡ true
  pub below : Leads os scope o.id between
  pub called : IsPathOf text info (dotted os (o.id ∷ between)) o.word

-- It is meant, and no object of a lesser number is.
pub record IsLeast (os : List ObjectInfo) (scope : Option ℕ) (text : List ℕ) (o : Object) : Type 0 where
  pub meant : Means os scope text o
  pub least : (q : Object) → Means os scope text q → o.id ≤ q.id

-- What is found: the object that is meant, or the least of several; nothing where none is.
abbrev pub IsNamed : List ObjectInfo → Option ℕ → List ℕ → Option Object → Type 0
IsNamed os scope text None = (q : Object) → Means os scope text q → ⊥
IsNamed os scope text (Some o) = IsLeast os scope text o
