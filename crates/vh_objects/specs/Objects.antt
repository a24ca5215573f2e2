-- Which objects a design has: those of its numbers, and the words of its memories, each named by the number of the memory and
-- an address. (own)
use Rattle.std.specs.Prelude.{ℕ, List, Bool, true, ◌&&◌, if◌then◌else◌, Option, Some, None, slice_get}
use Rattle.std.specs.Option.{option_map, option_and_then}
use Rattle.vh_base.specs.declared.orders.Object.{Object}
use Rattle.vh_design_nodes.specs.declared.object.Kind.{Kind}
use Rattle.vh_design_nodes.specs.declared.object.ObjectInfo.{ObjectInfo}
use Rattle.vh_design_nodes.specs.Fits.{is_address}
use Rattle.vh_design_nodes.specs.Kinds.{is_memory}
use Rattle.vh_objects.specs.declared.kind.ObjectKind.{ObjectKind}
use Rattle.vh_objects.specs.declared.kind.ObjectKind.TheVariants as kind

-- An object of the design as a whole, and a word of a memory.
abbrev pub whole : ℕ → Object
whole id = record { id = id; word = None }

abbrev pub word : ℕ → ℕ → Object
word id at = record { id = id; word = Some at }

-- Is it the object of a number itself, or one of its words? (4.9)
abbrev pub has_object : ObjectInfo → Option ℕ → Bool
has_object i None = true
has_object i (Some at) = is_memory i.kind && is_address i at

-- What the design holds of an object; of a word it is that of its memory. None where there is no such object.
abbrev pub if_there : Option ℕ → ObjectInfo → Option ObjectInfo
if_there at i = if has_object i at then Some i else None

abbrev pub info_at : List ObjectInfo → Object → Option ObjectInfo
info_at os o = option_and_then (if_there o.word) (slice_get os o.id)

-- The kind of an object. (26.6)
abbrev pub object_kind : Kind → Option ℕ → ObjectKind
object_kind k None = kind.Of k
object_kind k (Some at) = kind.Word

abbrev pub kind_of : List ObjectInfo → Object → Option ObjectKind
kind_of os o = option_map (λ i. object_kind i.kind o.word) (info_at os o)
