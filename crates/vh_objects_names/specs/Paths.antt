-- Objects by their paths: an object lies below a scope, and its path there is made of the names of those between. (IEEE
-- 1364-2005, 12.4, 12.5 and 27.20)
use Rattle.std.specs.Prelude.{ℕ, zero, suc, ◌+◌, List, [], ◌∷◌, ◌++◌, length, Bool, true, false, if◌then◌else◌, ◌==◌, bytes_eq, Option, Some, None, slice_get}
use Rattle.std.specs.List.{find, range_with_len}
use Rattle.std.specs.Option.{option_map, option_and_then, option_or}
use Rattle.vh_base.specs.declared.orders.Object.{Object}
use Rattle.vh_design_names.specs.Names.{dotted, scope_at}
use Rattle.vh_design_nodes.specs.declared.object.ObjectInfo.{ObjectInfo}
use Rattle.vh_design_nodes.specs.Fits.{lowest_of}
use Rattle.vh_design_nodes.specs.Kinds.{is_memory}
use Rattle.vh_objects.specs.Kinds.{has_path}
use Rattle.vh_objects.specs.Properties.{at_address}
use Rattle.vh_objects.specs.Relations.{same_scope, count_from}

-- An object with those between it and the scope below which it lies, from the inside out: it stands directly in that scope, or
-- it stands in an object that lies below it. From null the scope is none, in which the top stands. (12.4)
abbrev pub in_parent : (ℕ → Option (List ℕ)) → ℕ → Option ℕ → Option (List ℕ)
in_parent rest o None = None
in_parent rest o (Some p) = option_map (λ ps. o ∷ ps) (rest p)

abbrev pub in_scope : Option ℕ → (ℕ → Option (List ℕ)) → ℕ → Option ℕ → Option (List ℕ)
in_scope scope rest o parent = if same_scope scope parent then Some (o ∷ []) else in_parent rest o parent

-- The same of an object whose number is below k. (own)
unfoldable pub objects_below : ℕ → List ObjectInfo → Option ℕ → ℕ → Option (List ℕ)
objects_below zero os scope o = None
objects_below (suc k) os scope o =
    elim (o == k) [
      | true ↦ in_scope scope (objects_below k os scope) o (scope_at os o)
      | false ↦ objects_below k os scope o
    ]

abbrev pub objects_to : List ObjectInfo → Option ℕ → ℕ → Option (List ℕ)
objects_to os scope o = objects_below (length os) os scope o

-- The path of an object below a scope: their names, the outermost first, with dots. (12.5)
abbrev pub path_below : List ObjectInfo → Option ℕ → ℕ → Option (List ℕ)
path_below os scope o = option_map (dotted os) (objects_to os scope o)

-- The address of the word of that name, among so many words from the lowest on.
abbrev pub word_named : List ℕ → List ℕ → ℕ → ℕ → Option ℕ
word_named text name lowest words = find (λ a. bytes_eq text (at_address name a)) (range_with_len lowest words)

-- What a text means of the object of a path: itself, or the word of it whose name the text is. (26.6.9)
abbrev pub word_in : ℕ → ℕ → Object
word_in id at = record { id = id; word = Some at }

abbrev pub meant_word : List ℕ → List ℕ → ℕ → ObjectInfo → Option Object
meant_word text path id i =
    if is_memory i.kind
    then option_map (word_in id) (word_named text path (lowest_of i.detail) (count_from (lowest_of i.detail) i.words))
    else None

abbrev pub meant_by : List ℕ → ℕ → ObjectInfo → List ℕ → Option Object
meant_by text id i path =
    if bytes_eq text path then Some (record { id = id; word = None }) else meant_word text path id i

-- The same of an object by its number, where its kind is found by a path and it lies below the scope.
abbrev pub meant_at : List ObjectInfo → Option ℕ → List ℕ → ℕ → ObjectInfo → Option Object
meant_at os scope text id i =
    if has_path i.kind then option_and_then (meant_by text id i) (path_below os scope id) else None

abbrev pub meant : List ObjectInfo → Option ℕ → List ℕ → ℕ → Option Object
meant os scope text id = option_and_then (meant_at os scope text id) (slice_get os id)

-- The first that is meant, of the numbers below n.
unfoldable pub least_below : (ℕ → Option Object) → ℕ → Option Object
least_below f zero = None
least_below f (suc n) = option_or (least_below f n) (f n)

-- The object of a path below a scope, or of a full name below null: that of the least number of several. (27.20; the latter is own)
abbrev pub by_name : List ObjectInfo → Option ℕ → List ℕ → Option Object
by_name os scope text = least_below (meant os scope text) (length os)
