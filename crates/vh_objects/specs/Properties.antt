-- The properties of objects: a number, a text, or none where the kind has no such property. (IEEE 1364-2005, 26.6, in this
-- project's profile)
use Rattle.std.specs.Prelude.{ℕ, ◌++◌, List, [], ◌∷◌, length, nat_le, Bool, true, false, if◌then◌else◌, is_none, ◌||◌, Option, Some, None, codes}
use Rattle.std.specs.Fmt.{decimal}
use Rattle.std.specs.Option.{option_map, option_and_then}
use Rattle.vh_base.specs.declared.orders.Answer.{Answer}
use Rattle.vh_base.specs.declared.orders.Answer.TheVariants as answer
use Rattle.vh_base.specs.declared.orders.Object.{Object}
use Rattle.vh_base.specs.declared.words.Code.TheVariants as code
use Rattle.vh_base.specs.declared.words.Property.{Property}
use Rattle.vh_base.specs.declared.words.Property.TheVariants as property_word
use Rattle.vh_design_names.specs.Names.{full_name}
use Rattle.vh_design_nodes.specs.declared.object.Detail.{Detail}
use Rattle.vh_design_nodes.specs.declared.object.Detail.TheVariants as detail
use Rattle.vh_design_nodes.specs.declared.object.NetType.{NetType}
use Rattle.vh_design_nodes.specs.declared.object.NetType.TheVariants as net
use Rattle.vh_design_nodes.specs.declared.object.ObjectInfo.{ObjectInfo}
use Rattle.vh_design_nodes.specs.Kinds.{is_net, is_memory}
use Rattle.vh_objects.specs.declared.kind.ObjectKind.{ObjectKind}
use Rattle.vh_objects.specs.declared.kind.ObjectKind.TheVariants as kind
use Rattle.vh_objects.specs.Kinds.{kind_text, is_module, is_port, has_name, object_has_value}
use Rattle.vh_objects.specs.Objects.{info_at, object_kind}
use Rattle.vh_objects.specs.Relations.{index_in}

-- Which properties `get_str` answers, and which `get`. (27.6 and 27.10)
abbrev pub is_by_get_str : Property → Bool
is_by_get_str property_word.VpiType = false
is_by_get_str property_word.VpiSize = false
is_by_get_str property_word.VpiSigned = false
is_by_get_str property_word.VpiTopModule = false
is_by_get_str property_word.VpiDirection = false
is_by_get_str property_word.VpiNetType = false
is_by_get_str property_word.VpiPortIndex = false
is_by_get_str property_word.VpiLineNo = false
is_by_get_str property_word.VpiName = true
is_by_get_str property_word.VpiFullName = true
is_by_get_str property_word.VpiDefName = true

-- A text that is answered: one above 255 bytes doesn't fit (E16). (own)
abbrev pub text_answer : List ℕ → Answer
text_answer t = if nat_le (length t) 255 then answer.Text t else answer.Refused code.E16

-- A number, or a text, where the kind has it.
abbrev pub number_if : Bool → ℕ → Option Answer
number_if has n = if has then Some (answer.Number n) else None

abbrev pub text_if : Bool → List ℕ → Option Answer
text_if has t = if has then Some (text_answer t) else None

abbrev pub flag_number : Bool → ℕ
flag_number b = if b then 1 else 0

-- The name of a word: that of its memory, and its address in brackets. (26.6.9; the digits are own)
abbrev pub at_address : List ℕ → ℕ → List ℕ
at_address name a = name ++ 91 ∷ (decimal a ++ 93 ∷ [])

abbrev pub with_address : List ℕ → Option ℕ → List ℕ
with_address name None = name
with_address name (Some a) = at_address name a

-- The size: digits, or of a memory its words. (26.6.6 to 26.6.9)
abbrev pub size_of : ObjectKind → ObjectInfo → Option Answer
size_of (kind.Of k) i =
    if is_memory k then Some (answer.Number i.words)
    else number_if (object_has_value (kind.Of k) || is_port k) i.width
size_of kind.Word i = Some (answer.Number i.width)

-- Is it a module's kind, a port's, a net's, or one with a name? A word is none of the first three.
abbrev pub is_module_kind : ObjectKind → Bool
is_module_kind (kind.Of k) = is_module k
is_module_kind kind.Word = false

abbrev pub is_port_kind : ObjectKind → Bool
is_port_kind (kind.Of k) = is_port k
is_port_kind kind.Word = false

abbrev pub is_net_kind : ObjectKind → Bool
is_net_kind (kind.Of k) = is_net k
is_net_kind kind.Word = false

abbrev pub has_name_kind : ObjectKind → Bool
has_name_kind (kind.Of k) = has_name k
has_name_kind kind.Word = true

-- The direction of a port. (12.3.3)
abbrev pub direction_text : Bool → List ℕ
direction_text false = codes "vpiInput"
direction_text true = codes "vpiOutput"

abbrev pub direction_in : Detail → Option (List ℕ)
direction_in detail.Plain = None
direction_in (detail.Net t) = None
direction_in (detail.Port output index) = Some (direction_text output)
direction_in (detail.Module name) = None
direction_in (detail.Memory lowest) = None
direction_in (detail.Value e) = None
direction_in (detail.Call systf result args) = None
direction_in (detail.Routine body) = None

-- The type of a net. (4.6)
abbrev pub net_type_text : NetType → List ℕ
net_type_text net.Wire = codes "vpiWire"
net_type_text net.Tri = codes "vpiTri"
net_type_text net.Wand = codes "vpiWand"
net_type_text net.TriAnd = codes "vpiTriAnd"
net_type_text net.Wor = codes "vpiWor"
net_type_text net.TriOr = codes "vpiTriOr"

abbrev pub net_type_in : Detail → Option (List ℕ)
net_type_in detail.Plain = None
net_type_in (detail.Net t) = Some (net_type_text t)
net_type_in (detail.Port output index) = None
net_type_in (detail.Module name) = None
net_type_in (detail.Memory lowest) = None
net_type_in (detail.Value e) = None
net_type_in (detail.Call systf result args) = None
net_type_in (detail.Routine body) = None

-- The name of a module's definition. (12.1.2)
abbrev pub definition_in : Detail → Option (List ℕ)
definition_in detail.Plain = None
definition_in (detail.Net t) = None
definition_in (detail.Port output index) = None
definition_in (detail.Module name) = Some name
definition_in (detail.Memory lowest) = None
definition_in (detail.Value e) = None
definition_in (detail.Call systf result args) = None
definition_in (detail.Routine body) = None

-- What the detail of such a kind tells.
abbrev pub told_text : Bool → Option (List ℕ) → Option Answer
told_text has None = None
told_text has (Some t) = text_if has t

abbrev pub told_number : Bool → Option ℕ → Option Answer
told_number has None = None
told_number has (Some n) = number_if has n

-- A row for each property, of an object that is there. The line of a word is that of its memory.
abbrev pub property_of : List ObjectInfo → Property → Object → ObjectKind → ObjectInfo → Option Answer
property_of os property_word.VpiType o k i = Some (text_answer (kind_text k))
property_of os property_word.VpiSize o k i = size_of k i
property_of os property_word.VpiSigned o k i = number_if (object_has_value k) (flag_number i.signed)
property_of os property_word.VpiTopModule o k i = number_if (is_module_kind k) (flag_number (is_none i.parent))
property_of os property_word.VpiDirection o k i = told_text (is_port_kind k) (direction_in i.detail)
property_of os property_word.VpiNetType o k i = told_text (is_net_kind k) (net_type_in i.detail)
property_of os property_word.VpiPortIndex o k i = told_number (is_port_kind k) (index_in i.detail)
property_of os property_word.VpiLineNo o k i = Some (answer.Number i.line)
property_of os property_word.VpiName o k i = text_if (has_name_kind k) (with_address i.name o.word)
property_of os property_word.VpiFullName o k i = text_if (has_name_kind k) (with_address (full_name os o.id) o.word)
property_of os property_word.VpiDefName o k i = told_text (is_module_kind k) (definition_in i.detail)

-- The property of an object; none where the kind has no such property, or where there is no such object.
abbrev pub property : List ObjectInfo → Property → Object → Option Answer
property os p o = option_and_then (λ i. property_of os p o (object_kind i.kind o.word) i) (info_at os o)
