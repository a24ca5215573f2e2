-- Full names. (IEEE 1364-2005, 12.4 and 26.3.2)
use Rattle.std.specs.Prelude.{ℕ, zero, suc, ◌++◌, List, [], ◌∷◌, ◌==◌, true, false, Option, Some, None, length, slice_get, unwrap_or}
use Rattle.std.specs.Option.{option_map, option_and_then}
use Rattle.vh_design_nodes.specs.declared.object.ObjectInfo.{ObjectInfo}

-- The name of an object where it is declared. (own)
abbrev pub name_at : List ObjectInfo → ℕ → List ℕ
name_at os o = unwrap_or (option_map (λ i. i.name) (slice_get os o)) []

-- The scope of an object. (own)
abbrev pub scope_at : List ObjectInfo → ℕ → Option ℕ
scope_at os o = option_and_then (λ i. i.parent) (slice_get os o)

abbrev pub around : (ℕ → List ℕ) → Option ℕ → List ℕ
around scopes None = []
around scopes (Some o) = scopes o

-- An object whose number is below k, with the scopes around it, from the inside out. (own)
unfoldable pub scopes_below : ℕ → List ObjectInfo → ℕ → List ℕ
scopes_below zero os o = []
scopes_below (suc k) os o =
    elim (o == k) [
      | true ↦ o ∷ around (scopes_below k os) (scope_at os o)
      | false ↦ scopes_below k os o
    ]

-- An object with the scopes around it. (own)
abbrev pub scopes_of : List ObjectInfo → ℕ → List ℕ
scopes_of os o = scopes_below (length os) os o

-- The names of objects from the inside out, with dots, the outermost first. (12.4)
unfoldable pub dotted : List ObjectInfo → List ℕ → List ℕ
dotted os [] = []
dotted os (o ∷ []) = name_at os o
dotted os (o ∷ p ∷ ps) = dotted os (p ∷ ps) ++ 46 ∷ name_at os o

-- The full name of an object. (12.4)
abbrev pub full_name : List ObjectInfo → ℕ → List ℕ
full_name os o = dotted os (scopes_of os o)
