-- What is asked of what a handle names: an object that a relation leads to, a word, a property, a callback's registration;
-- and whether two handles name one thing. (IEEE 1364-2005, clause 27, in this project's profile)
use Rattle.std.specs.Prelude.{ℕ, ◌++◌, ◌^◌, List, ◌∷◌, Bool, true, false, ◌&&◌, ◌==◌, if◌then◌else◌, nat_lt, is_some, not, Option, Some, None, Result, Ok, Err, codes}
use Rattle.std.specs.Fmt.{decimal}
use Rattle.vh_base.specs.declared.orders.Answer.{Answer}
use Rattle.vh_base.specs.declared.orders.Answer.TheVariants as answer
use Rattle.vh_base.specs.declared.orders.Object.{Object}
use Rattle.vh_base.specs.declared.words.Code.{Code}
use Rattle.vh_base.specs.declared.words.Code.TheVariants as code
use Rattle.vh_base.specs.declared.words.Property.{Property}
use Rattle.vh_base.specs.declared.words.Property.TheVariants as property_word
use Rattle.vh_base.specs.declared.words.Relation.{Relation}
use Rattle.vh_base.specs.Checks.{unless, with_some}
use Rattle.vh_base.specs.Words.{reason_text}
use Rattle.vh_callbacks.specs.declared.registration.Registration.{Registration}
use Rattle.vh_callbacks.specs.Callbacks.{Callbacks, info_of}
use Rattle.vh_design_nodes.specs.declared.object.ObjectInfo.{ObjectInfo}
use Rattle.vh_design_nodes.specs.Kinds.{is_memory}
use Rattle.vh_handles.specs.declared.handles.Thing.{Thing}
use Rattle.vh_handles.specs.declared.handles.Thing.TheVariants as thing
use Rattle.vh_objects.specs.declared.found.Found.{Found}
use Rattle.vh_objects.specs.declared.found.Found.TheVariants as found
use Rattle.vh_objects.specs.declared.kind.ObjectKind.{ObjectKind}
use Rattle.vh_objects.specs.declared.kind.ObjectKind.TheVariants as kind
use Rattle.vh_objects.specs.Objects.{info_at, kind_of, word}
use Rattle.vh_objects.specs.Properties.{property, text_answer}
use Rattle.vh_objects.specs.Relations.{one}
use Rattle.vh_orders.specs.declared.who.Body.{Body}

-- What a relation leads to: an object, null, or E3 where no such relation leads from this kind. From a callback, an iterator
-- and an event none does.
abbrev pub led_to : Found → Result (Option Object) Code
led_to (found.Object o) = Ok (Some o)
led_to found.None = Ok None
led_to found.NoRelation = Err code.E3

abbrev pub related : List ObjectInfo → Relation → Thing → Result (Option Object) Code
related os r (thing.Object o) = led_to (one os r (Some o))
related os r (thing.Iterator relation from at count) = Err code.E3
related os r (thing.Callback c) = Err code.E3
related os r (thing.Event serial) = Err code.E3

-- The word of a memory at an address; null where the memory has none there, and E2 of what is no memory. (27.17)
abbrev pub is_memory_kind : Option ObjectKind → Bool
is_memory_kind None = false
is_memory_kind (Some (kind.Of k)) = is_memory k
is_memory_kind (Some kind.Word) = false

abbrev pub if_there : List ObjectInfo → Object → Option Object
if_there os o = if is_some (info_at os o) then Some o else None

abbrev pub word_at : List ObjectInfo → ℕ → ℕ → Option Object
word_at os id n = if nat_lt n (2 ^ 32) then if_there os (word id n) else None

abbrev pub word_in : List ObjectInfo → Thing → ℕ → Result (Option Object) Code
word_in os (thing.Object o) n = unless (not (is_memory_kind (kind_of os o))) code.E2 (Ok (word_at os o.id n))
word_in os (thing.Iterator relation from at count) n = Err code.E2
word_in os (thing.Callback c) n = Err code.E2
word_in os (thing.Event serial) n = Err code.E2

-- A property; none where the kind has no such property. What is no object of the design has its kind alone. (26.6)
abbrev pub is_type : Property → Bool
is_type property_word.VpiType = true
is_type property_word.VpiSize = false
is_type property_word.VpiSigned = false
is_type property_word.VpiTopModule = false
is_type property_word.VpiDirection = false
is_type property_word.VpiNetType = false
is_type property_word.VpiPortIndex = false
is_type property_word.VpiLineNo = false
is_type property_word.VpiName = false
is_type property_word.VpiFullName = false
is_type property_word.VpiDefName = false

abbrev pub kind_alone : Property → List ℕ → Option Answer
kind_alone p text = if is_type p then Some (text_answer text) else None

abbrev pub property_in : List ObjectInfo → Property → Thing → Option Answer
property_in os p (thing.Object o) = property os p o
property_in os p (thing.Iterator relation from at count) = kind_alone p (codes "vpiIterator")
property_in os p (thing.Callback c) = kind_alone p (codes "vpiCallback")
property_in os p (thing.Event serial) = kind_alone p (codes "vpiSchedEvent")

-- What a callback was registered with, as a text: the reason, and the user data. E2 of what is no callback. (27.7)
abbrev pub info_text : Registration → List ℕ
info_text r = reason_text r.reason ++ 32 ∷ decimal r.user_data

abbrev pub info_in : Callbacks Body → Thing → Result Answer Code
info_in cs (thing.Object o) = Err code.E2
info_in cs (thing.Iterator relation from at count) = Err code.E2
info_in cs (thing.Callback c) = with_some (info_of c cs) code.E2 (λ r. Ok (text_answer (info_text r)))
info_in cs (thing.Event serial) = Err code.E2

-- Are two things one? An iterator is the same as itself alone, so where both are one handle's. (27.2; the last is own)
abbrev pub same_word : Option ℕ → Option ℕ → Bool
same_word None None = true
same_word None (Some b) = false
same_word (Some a) None = false
same_word (Some a) (Some b) = a == b

abbrev pub same_thing : Bool → Thing → Thing → Bool
same_thing one (thing.Object o) (thing.Object p) = o.id == p.id && same_word o.word p.word
same_thing one (thing.Object o) (thing.Iterator relation from at count) = false
same_thing one (thing.Object o) (thing.Callback d) = false
same_thing one (thing.Object o) (thing.Event serial) = false
same_thing one (thing.Iterator relation from at count) (thing.Object p) = false
same_thing one (thing.Iterator relation from at count) (thing.Iterator other whose past all) = one
same_thing one (thing.Iterator relation from at count) (thing.Callback d) = false
same_thing one (thing.Iterator relation from at count) (thing.Event serial) = false
same_thing one (thing.Callback c) (thing.Object p) = false
same_thing one (thing.Callback c) (thing.Iterator relation from at count) = false
same_thing one (thing.Callback c) (thing.Callback d) = c == d
same_thing one (thing.Callback c) (thing.Event serial) = false
same_thing one (thing.Event serial) (thing.Object p) = false
same_thing one (thing.Event serial) (thing.Iterator relation from at count) = false
same_thing one (thing.Event serial) (thing.Callback d) = false
same_thing one (thing.Event serial) (thing.Event other) = serial == other

-- The number of an error. (27.1; the numbers are own)
abbrev pub code_number : Code → ℕ
code_number code.E1 = 1
code_number code.E2 = 2
code_number code.E3 = 3
code_number code.E4 = 4
code_number code.E5 = 5
code_number code.E6 = 6
code_number code.E7 = 7
code_number code.E8 = 8
code_number code.E9 = 9
code_number code.E10 = 10
code_number code.E11 = 11
code_number code.E12 = 12
code_number code.E13 = 13
code_number code.E14 = 14
code_number code.E15 = 15
code_number code.E16 = 16

abbrev pub error_number : Option Code → ℕ
error_number None = 0
error_number (Some c) = code_number c
