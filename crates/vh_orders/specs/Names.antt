-- The names of a design's objects. (IEEE 1364-2005, 12.5 and 26.3.2)
use Rattle.std.specs.Prelude.{ℕ, ◌++◌, List, ◌∷◌, [], map, length, Bool, false, ◌&&◌, ◌||◌, Option, Some, None, is_some, bytes_eq, position, slice_get, unwrap_or}
use Rattle.std.specs.Fmt.{decimal}
use Rattle.std.specs.List.{find, range_with_len}
use Rattle.std.specs.Option.{option_map, option_and_then}
use Rattle.vh_base.specs.declared.orders.Object.{Object}
use Rattle.vh_base.specs.declared.words.Reason.{Reason}
use Rattle.vh_base.specs.declared.words.Reason.TheVariants as reason
use Rattle.vh_design.specs.Shape.{Shape}
use Rattle.vh_design_names.specs.Names.{full_name}
use Rattle.vh_design_nodes.specs.declared.object.Kind.{Kind}
use Rattle.vh_design_nodes.specs.declared.object.Kind.TheVariants as of
use Rattle.vh_design_nodes.specs.declared.object.ObjectInfo.{ObjectInfo}
use Rattle.vh_design_nodes.specs.Fits.{lowest_of}
use Rattle.vh_design_nodes.specs.Kinds.{is_scope, is_vector, is_memory, is_event, is_forcible}
use Rattle.vh_orders.specs.declared.names.Named.{Named}

-- A path below a scope.
abbrev pub below : List ℕ → List ℕ → List ℕ
below scope path = scope ++ 46 ∷ path

-- The objects of a design by number, each with its full name and its kind, and of a memory its lowest address and how many words
-- it has.
abbrev pub kind_at : List ObjectInfo → ℕ → Kind
kind_at os o = unwrap_or (option_map (λ i. i.kind) (slice_get os o)) of.Operation

abbrev pub lowest_at : List ObjectInfo → ℕ → ℕ
lowest_at os o = unwrap_or (option_map (λ i. lowest_of i.detail) (slice_get os o)) 0

abbrev pub words_at : List ObjectInfo → ℕ → ℕ
words_at os o = unwrap_or (option_map (λ i. i.words) (slice_get os o)) 0

abbrev pub named_at : List ObjectInfo → ℕ → Named
named_at os o = record { name = full_name os o; kind = kind_at os o; lowest = lowest_at os o; words = words_at os o }

abbrev pub full_names : Shape → List Named
full_names d = map (named_at d.objects) (range_with_len 0 (length d.objects))

-- Which kinds of object a full name means: not a port, which stands beside the net or variable of its name; nor one that has no
-- name. (own)
abbrev pub has_path : Kind → Bool
has_path k = is_scope k || is_vector k || is_memory k || is_event k

abbrev pub has_name : List ℕ → Named → Bool
has_name text n = has_path n.kind && bytes_eq text n.name

-- The name of a word: that of its memory, and its address in brackets. (26.3.2; the digits are own)
abbrev pub at_address : List ℕ → ℕ → List ℕ
at_address name a = name ++ 91 ∷ (decimal a ++ 93 ∷ [])

-- The address of the word of that name, among so many words.
abbrev pub word_named : List ℕ → List ℕ → ℕ → ℕ → Option ℕ
word_named text name lowest words = find (λ a. bytes_eq text (at_address name a)) (range_with_len lowest words)

abbrev pub word_of : List ℕ → Named → Option ℕ
word_of text n = word_named text n.name n.lowest n.words

-- Does a full name mean the object, or a word of it?
abbrev pub is_meant : List ℕ → Named → Bool
is_meant text n = has_name text n || is_some (word_of text n)

-- The object of a full name, that of the least number where several have it: a word has the number of its memory. (own)
abbrev pub object_named : List ℕ → List Named → Option Object
object_named text names =
    option_and_then (λ id. option_map (λ n. record { id = id; word = word_of text n }) (slice_get names id))
    (position (is_meant text) names)

-- The full name of an object, and of a word.
abbrev pub name_of : ℕ → List Named → List ℕ
name_of id names = unwrap_or (option_map (λ n. n.name) (slice_get names id)) []

abbrev pub with_address : List ℕ → Option ℕ → List ℕ
with_address name None = name
with_address name (Some a) = at_address name a

-- Is an object of such a kind?
abbrev pub is_kind : (Kind → Bool) → ℕ → List Named → Bool
is_kind test id names = unwrap_or (option_map (λ n. test n.kind) (slice_get names id)) false

-- A design object as a whole.
abbrev pub whole : ℕ → Object
whole id = record { id = id; word = None }

-- Which kinds of object a reason may watch. (27.33)
abbrev pub may_watch : Reason → Kind → Bool
may_watch reason.CbValueChange k = is_forcible k || is_memory k
may_watch reason.CbForce k = is_forcible k
may_watch reason.CbRelease k = is_forcible k
may_watch reason.CbAtStartOfSimTime k = false
may_watch reason.CbAfterDelay k = false
may_watch reason.CbNextSimTime k = false
may_watch reason.CbReadWriteSynch k = false
may_watch reason.CbReadOnlySynch k = false
may_watch reason.CbEndOfCompile k = false
may_watch reason.CbStartOfSimulation k = false
may_watch reason.CbEndOfSimulation k = false
