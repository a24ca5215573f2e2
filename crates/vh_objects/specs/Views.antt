-- How contracts see what the code holds: the children of each object, and a list of objects. (own)
use Rattle.std.specs.Prelude.{◌≡◌, ◌≤◌, ◌^◌, ⊤, ◌+◌, ◌++◌, ℕ, List, [], ◌∷◌, Vec, filter, map, length, replicate, slice_index_or, slice_set, IfSome, ◌<◌, Option, Some, None}
use Rattle.std.specs.declared.alloc.Global.{Global}
use Rattle.std.specs.List.{range_with_len}
use Rattle.vh_base.specs.declared.orders.Object.{Object}
use Rattle.vh_design_nodes.specs.declared.object.ObjectInfo.{ObjectInfo}
use Rattle.vh_objects.specs.declared.lister.Listed.{Listed}
use Rattle.vh_objects.specs.declared.lister.Listed.TheVariants as held
use Rattle.vh_objects.specs.Objects.{whole, word}
use Rattle.vh_objects.specs.Relations.{is_child}

-- The position of a scope's children: what stands in no scope comes first.
abbrev pub position_of : Option ℕ → ℕ
position_of None = 0
position_of (Some s) = s + 1

-- The objects of lesser numbers than this one that stand directly inside a scope, or in none.
abbrev pub children_below : ℕ → List ObjectInfo → Option ℕ → List ℕ
children_below n os scope = filter (is_child os scope) (range_with_len 0 n)

-- Lists are those of the children in each scope, and in none, among so many objects.
pub record AreChildren (n : ℕ) (os : List ObjectInfo) (lists : List (List ℕ)) : Type 0 where
  pub counted : length lists ≡ length os + 1
  pub each : (scope : Option ℕ) → IfSome scope (λ s. s < length os)
      → slice_index_or lists (position_of scope) [] ≡ children_below n os scope

-- The objects that a lister lists: some of the design, the words of a memory, or the arguments of a call.
abbrev pub objects_in : Listed → List Object
objects_in (held.Objects os) = map whole os.items
objects_in (held.Words memory lowest count) = map (word memory) (range_with_len lowest count)
objects_in (held.Arguments xs) = xs.items

-- Lists as they are seen.
abbrev pub lists_of : List (Vec ℕ Global) → List (List ℕ)
lists_of lists = map (λ v. v.items) lists

-- A number is put behind the list of a position.
abbrev pub with_one : ℕ → ℕ → List (List ℕ) → List (List ℕ)
with_one position o lists = slice_set lists position (slice_index_or lists position [] ++ o ∷ [])

abbrev pub Adds : ℕ → ℕ → List (Vec ℕ Global) → List (Vec ℕ Global) → Type 0
Adds position o old new = lists_of new ≡ with_one position o (lists_of old)

-- There are so many lists, and each is empty.
abbrev pub AreEmpty : ℕ → List (Vec ℕ Global) → Type 0
AreEmpty n lists = lists_of lists ≡ replicate n []

-- Each word of a memory has an address.
abbrev pub HasAddresses : Listed → Type 0
HasAddresses (held.Objects os) = ⊤
HasAddresses (held.Words memory lowest count) = lowest + count ≤ 2 ^ 32
HasAddresses (held.Arguments xs) = ⊤
