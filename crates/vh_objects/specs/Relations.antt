-- The objects that stand in a relation to an object: one, or a list of them. A row for each relation. (IEEE 1364-2005, 26.6, in
-- this project's profile)
use Rattle.std.specs.Prelude.{ℕ, List, [], ◌∷◌, ◌==◌, ◌&&◌, Bool, true, false, if◌then◌else◌, insert, map, filter, find, length, nat_le, nat_lt, min, ◌+◌, ◌-◌, ◌^◌, Option, Some, None, slice_get, unwrap_or}
use Rattle.std.specs.List.{fold, range_with_len}
use Rattle.std.specs.Option.{option_map, option_and_then, option_map_or}
use Rattle.vh_base.specs.declared.orders.Object.{Object}
use Rattle.vh_base.specs.declared.words.Relation.{Relation}
use Rattle.vh_base.specs.declared.words.Relation.TheVariants as relation
use Rattle.vh_design_names.specs.Names.{around, scope_at, scopes_of}
use Rattle.vh_design_nodes.specs.declared.object.Detail.{Detail}
use Rattle.vh_design_nodes.specs.declared.object.Detail.TheVariants as detail
use Rattle.vh_design_nodes.specs.declared.object.Kind.{Kind}
use Rattle.vh_design_nodes.specs.declared.object.ObjectInfo.{ObjectInfo}
use Rattle.vh_design_nodes.specs.Fits.{has_kind, lowest_of}
use Rattle.vh_design_nodes.specs.Kinds.{is_scope, is_net, is_memory, is_event}
use Rattle.vh_objects.specs.declared.found.Found.{Found}
use Rattle.vh_objects.specs.declared.found.Found.TheVariants as found
use Rattle.vh_objects.specs.declared.order.Key.{Key}
use Rattle.vh_objects.specs.declared.order.Key.TheVariants as key
use Rattle.vh_objects.specs.Kinds.{is_module, has_items, is_port, is_assignment, is_process, is_reg, is_integer_or_time, is_parameter, is_call}
use Rattle.vh_objects.specs.Objects.{whole, word, info_at}

-- The scopes around an object, from the inside out. (12.6)
abbrev pub scopes_around : List ObjectInfo → ℕ → List ℕ
scopes_around os o = around (scopes_of os) (scope_at os o)

-- The module that an object stands in: the first around it. A module stands in the one that holds it, the top in none. (26.6.1)
abbrev pub module_of : List ObjectInfo → ℕ → Option ℕ
module_of os o = find (has_kind is_module os) (scopes_around os o)

-- What a relation to one leads to: an object, or null.
abbrev pub leads_to : Option ℕ → Found
leads_to None = found.None
leads_to (Some o) = found.Object (whole o)

-- The memory of a word; no other kind has a parent. (26.6.9)
abbrev pub parent_of : Object → Found
parent_of o = option_map_or (λ at. found.Object (whole o.id)) o.word found.NoRelation

-- To one, a row for each relation, from an object that is there. A running call is no matter of the design.
abbrev pub one_from : List ObjectInfo → Relation → Object → Found
one_from os relation.VpiModule o = leads_to (module_of os o.id)
one_from os relation.VpiScope o = leads_to (scope_at os o.id)
one_from os relation.VpiParent o = parent_of o
one_from os relation.VpiSysTfCall o = found.NoRelation
one_from os relation.VpiInternalScope o = found.NoRelation
one_from os relation.VpiNet o = found.NoRelation
one_from os relation.VpiPort o = found.NoRelation
one_from os relation.VpiContAssign o = found.NoRelation
one_from os relation.VpiProcess o = found.NoRelation
one_from os relation.VpiReg o = found.NoRelation
one_from os relation.VpiVariables o = found.NoRelation
one_from os relation.VpiMemory o = found.NoRelation
one_from os relation.VpiParameter o = found.NoRelation
one_from os relation.VpiNamedEvent o = found.NoRelation
one_from os relation.VpiMemoryWord o = found.NoRelation
one_from os relation.VpiArgument o = found.NoRelation

-- No relation to one leads from null, nor from an object that isn't there.
abbrev pub one_from_there : List ObjectInfo → Relation → Object → Found
one_from_there os r o = option_map_or (λ i. one_from os r o) (info_at os o) found.NoRelation

abbrev pub one : List ObjectInfo → Relation → Option Object → Found
one os r None = found.NoRelation
one os r (Some o) = one_from_there os r o

-- The objects directly inside a scope, or in none, by number: what stands earlier in the source has a lesser number, but an
-- instance's own children come behind all else that it holds. (own)
abbrev pub same_scope : Option ℕ → Option ℕ → Bool
same_scope None None = true
same_scope None (Some p) = false
same_scope (Some s) None = false
same_scope (Some s) (Some p) = s == p

abbrev pub is_child : List ObjectInfo → Option ℕ → ℕ → Bool
is_child os scope o = option_map_or (λ i. same_scope scope i.parent) (slice_get os o) false

abbrev pub children : List ObjectInfo → Option ℕ → List ℕ
children os scope = filter (is_child os scope) (range_with_len 0 (length os))

-- In the order of a key: each is put behind the last one whose key isn't greater, so that those of one key stay as they stood.
abbrev pub position_behind : (ℕ → Bool) → List ℕ → ℕ
position_behind test [] = 0
position_behind test (p ∷ ps) =
    let n = position_behind test ps in if nat_lt 0 n then n + 1 else if test p then 1 else 0

abbrev pub inserted : (ℕ → ℕ) → List ℕ → ℕ → List ℕ
inserted key ps o = insert ps (position_behind (λ p. nat_le (key p) (key o)) ps) o

abbrev pub in_order : (ℕ → ℕ) → List ℕ → List ℕ
in_order key ps = fold (inserted key) [] ps

-- The position of a port in its module's header. (12.3.3)
abbrev pub index_in : Detail → Option ℕ
index_in detail.Plain = None
index_in (detail.Net t) = None
index_in (detail.Port output index) = Some index
index_in (detail.Module name) = None
index_in (detail.Memory lowest) = None
index_in (detail.Value e) = None
index_in (detail.Call systf result args) = None
index_in (detail.Routine body) = None

-- By what objects are put in order: ports by that position, and where instances stand among other scopes by the line. (own)
abbrev pub key_in : Key → ObjectInfo → ℕ
key_in key.Index i = unwrap_or (index_in i.detail) 0
key_in key.Line i = i.line

abbrev pub key_of : List ObjectInfo → Key → ℕ → ℕ
key_of os k o = option_map_or (key_in k) (slice_get os o) 0

-- The words of a memory, by rising address: all addresses are below 2^32. (26.6.9)
abbrev pub count_from : ℕ → ℕ → ℕ
count_from lowest words = min words (2 ^ 32 - lowest)

abbrev pub words_of : ℕ → ObjectInfo → List Object
words_of o i = map (word o) (range_with_len (lowest_of i.detail) (count_from (lowest_of i.detail) i.words))

-- The arguments of a call. (26.6.19)
abbrev pub arguments_of : Detail → List Object
arguments_of detail.Plain = []
arguments_of (detail.Net t) = []
arguments_of (detail.Port output index) = []
arguments_of (detail.Module name) = []
arguments_of (detail.Memory lowest) = []
arguments_of (detail.Value e) = []
arguments_of (detail.Call systf result args) = args
arguments_of (detail.Routine body) = []

-- From which kinds a relation leads to many.
abbrev pub leads_from : Relation → Kind → Bool
leads_from relation.VpiModule k = has_items k
leads_from relation.VpiScope k = false
leads_from relation.VpiParent k = false
leads_from relation.VpiSysTfCall k = false
leads_from relation.VpiInternalScope k = is_scope k
leads_from relation.VpiNet k = has_items k
leads_from relation.VpiPort k = has_items k
leads_from relation.VpiContAssign k = has_items k
leads_from relation.VpiProcess k = has_items k
leads_from relation.VpiReg k = is_scope k
leads_from relation.VpiVariables k = is_scope k
leads_from relation.VpiMemory k = is_scope k
leads_from relation.VpiParameter k = is_scope k
leads_from relation.VpiNamedEvent k = is_scope k
leads_from relation.VpiMemoryWord k = is_memory k
leads_from relation.VpiArgument k = is_call k

-- Which kinds it lists, of the objects directly inside a scope.
abbrev pub lists : Relation → Kind → Bool
lists relation.VpiModule k = is_module k
lists relation.VpiScope k = false
lists relation.VpiParent k = false
lists relation.VpiSysTfCall k = false
lists relation.VpiInternalScope k = is_scope k
lists relation.VpiNet k = is_net k
lists relation.VpiPort k = is_port k
lists relation.VpiContAssign k = is_assignment k
lists relation.VpiProcess k = is_process k
lists relation.VpiReg k = is_reg k
lists relation.VpiVariables k = is_integer_or_time k
lists relation.VpiMemory k = is_memory k
lists relation.VpiParameter k = is_parameter k
lists relation.VpiNamedEvent k = is_event k
lists relation.VpiMemoryWord k = false
lists relation.VpiArgument k = false

abbrev pub children_listed : List ObjectInfo → Relation → Option ℕ → List ℕ
children_listed os r scope = filter (has_kind (lists r) os) (children os scope)

-- The objects that stand in a relation to an object from which it leads, in the order of the source.
abbrev pub members : List ObjectInfo → Relation → ℕ → ObjectInfo → List Object
members os relation.VpiModule o i = map whole (children_listed os relation.VpiModule (Some o))
members os relation.VpiScope o i = []
members os relation.VpiParent o i = []
members os relation.VpiSysTfCall o i = []
members os relation.VpiInternalScope o i =
    map whole (in_order (key_of os key.Line) (children_listed os relation.VpiInternalScope (Some o)))
members os relation.VpiNet o i = map whole (children_listed os relation.VpiNet (Some o))
members os relation.VpiPort o i = map whole (in_order (key_of os key.Index) (children_listed os relation.VpiPort (Some o)))
members os relation.VpiContAssign o i = map whole (children_listed os relation.VpiContAssign (Some o))
members os relation.VpiProcess o i = map whole (children_listed os relation.VpiProcess (Some o))
members os relation.VpiReg o i = map whole (children_listed os relation.VpiReg (Some o))
members os relation.VpiVariables o i = map whole (children_listed os relation.VpiVariables (Some o))
members os relation.VpiMemory o i = map whole (children_listed os relation.VpiMemory (Some o))
members os relation.VpiParameter o i = map whole (children_listed os relation.VpiParameter (Some o))
members os relation.VpiNamedEvent o i = map whole (children_listed os relation.VpiNamedEvent (Some o))
members os relation.VpiMemoryWord o i = words_of o i
members os relation.VpiArgument o i = arguments_of i.detail

abbrev pub many_from : List ObjectInfo → Relation → ℕ → ObjectInfo → Option (List Object)
many_from os r o i = if leads_from r i.kind then Some (members os r o i) else None

-- From null only the top: the modules in no scope. (26.6.1)
abbrev pub leads_from_null : Relation → Bool
leads_from_null relation.VpiModule = true
leads_from_null relation.VpiScope = false
leads_from_null relation.VpiParent = false
leads_from_null relation.VpiSysTfCall = false
leads_from_null relation.VpiInternalScope = false
leads_from_null relation.VpiNet = false
leads_from_null relation.VpiPort = false
leads_from_null relation.VpiContAssign = false
leads_from_null relation.VpiProcess = false
leads_from_null relation.VpiReg = false
leads_from_null relation.VpiVariables = false
leads_from_null relation.VpiMemory = false
leads_from_null relation.VpiParameter = false
leads_from_null relation.VpiNamedEvent = false
leads_from_null relation.VpiMemoryWord = false
leads_from_null relation.VpiArgument = false

abbrev pub many_from_null : List ObjectInfo → Relation → Option (List Object)
many_from_null os r = if leads_from_null r then Some (map whole (children_listed os r None)) else None

-- No relation to many leads from a word, nor from an object that isn't there.
abbrev pub many_from_whole : List ObjectInfo → Relation → ℕ → Option ℕ → Option (List Object)
many_from_whole os r o None = option_and_then (many_from os r o) (slice_get os o)
many_from_whole os r o (Some at) = None

-- The objects that stand in a relation to an object, or to null; none where the kind has no such relation.
abbrev pub many : List ObjectInfo → Relation → Option Object → Option (List Object)
many os r None = many_from_null os r
many os r (Some o) = many_from_whole os r o.id o.word
