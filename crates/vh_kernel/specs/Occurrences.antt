-- Occurrences: what callbacks may watch. (IEEE 1364-2005, 27.33)
use Rattle.std.specs.List.{flat_map}
use Rattle.std.specs.Prelude.{ℕ, List, [], ◌∷◌, Bool, true, false, if◌then◌else◌, Option, Some, None}
use Rattle.vh_base.specs.declared.orders.Object.{Object}
use Rattle.vh_base.specs.declared.words.Reason.{Reason}
use Rattle.vh_base.specs.declared.words.Reason.TheVariants as reason
use Rattle.vh_design_code.specs.declared.change.Change.{Change}
use Rattle.vh_design_code.specs.declared.change.Made.{Made}
use Rattle.vh_kernel.specs.declared.occurrence.Left.{Left}
use Rattle.vh_kernel.specs.declared.occurrence.Left.TheVariants as left
use Rattle.vh_logic.specs.Vector.{Vector}
use Rattle.vh_design_nodes.specs.declared.object.ObjectInfo.{ObjectInfo}
use Rattle.vh_design_nodes.specs.Fits.{has_kind}
use Rattle.vh_design_nodes.specs.Kinds.{is_event}
use Rattle.vh_orders.specs.Names.{whole}
use Rattle.vh_text.specs.declared.radix.Radix.TheVariants.{Binary}
use Rattle.vh_text.specs.Texts.{text}
use Rattle.vh_callbacks.specs.Callbacks.{Callbacks, matching, is_live}

-- Something has happened that callbacks may watch: why, to which object, the value as text and the index
-- that it left there; and for an entry of the event queue its one callback. (27.33)
pub record Occurrence : Type 0 where
  pub reason : Reason
  pub object : Option Object
  pub value : Option (List ℕ)
  pub index : Option ℕ
  pub only : Option ℕ

-- An occurrence without an object.
abbrev pub occurrence_of : Reason → Occurrence
occurrence_of r = record { reason = r; object = None; value = None; index = None; only = None }

-- The callbacks that an occurrence fires: those that are live and were registered with its reason and
-- object; for an entry of the queue its one callback, where that is live.
abbrev pub set_by : {B : Type 0} → Option ℕ → Occurrence → Callbacks B → List ℕ
set_by None o callbacks = matching o.reason o.object callbacks
set_by (Some c) o callbacks = if is_live c callbacks then c ∷ [] else []

abbrev pub set_of : {B : Type 0} → Occurrence → Callbacks B → List ℕ
set_of o callbacks = set_by o.only o callbacks

-- The value that an occurrence left as text, which may stand already.
abbrev pub text_left : Left → Option (List ℕ)
text_left left.Nothing = None
text_left (left.Digits v) = Some (text Binary v)
text_left (left.Text t) = Some t

-- An object shows another value: its digits as text, the highest first; of a memory with the address of the word. (27.33.1)
abbrev pub value_change : Object → Option ℕ → Vector → Occurrence
value_change o index v = record {
  reason = reason.CbValueChange;
  object = Some o;
  value = Some (text Binary v);
  index = index;
  only = None;
}

-- A change of a word is one of the word, and then one of its memory. (own)
abbrev pub change_at : ℕ → Option ℕ → Vector → List Occurrence
change_at o None v = value_change (whole o) None v ∷ []
change_at o (Some at) v =
    value_change (record { id = o; word = Some at }) None v ∷ value_change (whole o) (Some at) v ∷ []

-- That of a named event is none. (own)
abbrev pub by_change : List ObjectInfo → Change → List Occurrence
by_change os c = if has_kind is_event os c.object.id then [] else change_at c.object.id c.object.word c.new

abbrev pub by_made : List ObjectInfo → Option Change → List Occurrence
by_made os None = []
by_made os (Some c) = by_change os c

-- What changes in order come to.
abbrev pub all_by : List ObjectInfo → List Made → List Occurrence
all_by os ms = flat_map (λ m. by_made os m.change) ms

-- Is there nothing in a list?
abbrev pub is_empty : {X : Type 0} → List X → Bool
is_empty [] = true
is_empty (x ∷ xs) = false
