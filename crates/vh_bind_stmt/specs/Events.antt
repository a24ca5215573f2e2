-- What an event control waits for: changes of names or of constant selects of them, or named events. (IEEE 1364-2005,
-- 9.7.2 to 9.7.4)
use Rattle.std.specs.Prelude.{ℕ, suc, ◌-◌, ◌==◌, min, List, [], ◌∷◌, ◌++◌, if◌then◌else◌, Bool, true, false, Option, Some, None, Ok, Err, slice_get, unwrap_or, ℤ, pos, negsuc}
use Rattle.std.specs.Option.{option_map, option_and_then}
use Rattle.vh_base.specs.declared.faults.DesignFault.{DesignFault}
use Rattle.vh_base.specs.declared.faults.DesignFault.TheVariants.{N1, N4, N6}
use Rattle.vh_base.specs.declared.faults.DesignFault.TheVariants as fault
use Rattle.vh_base.specs.declared.place.Place.{Place}
use Rattle.vh_logic.specs.declared.vector.TheConstants.{MAX_WIDTH}
use Rattle.vh_logic.specs.Number.{integer_of}
use Rattle.vh_logic.specs.Vector.{Vector}
use Rattle.vh_design_nodes.specs.declared.expr.Range.{Range}
use Rattle.vh_design_nodes.specs.declared.expr.Select.{Select}
use Rattle.vh_design_nodes.specs.declared.expr.Select.TheVariants as select
use Rattle.vh_design_nodes.specs.Kinds.{is_event}
use Rattle.vh_design_nodes.specs.Fits.{has_kind}
use Rattle.vh_design_code.specs.declared.wait.Edge.{Edge}
use Rattle.vh_design_code.specs.declared.wait.Edge.TheVariants as edge
use Rattle.vh_design_code.specs.declared.wait.Term.{Term}
use Rattle.vh_design_code.specs.declared.wait.Term.TheVariants as term
use Rattle.vh_eval.specs.Selects.{position_of, lowest_index}
use Rattle.vh_bind_scope.specs.declared.names.Meaning.{Meaning}
use Rattle.vh_bind_scope.specs.LookUp.{object_meant}
use Rattle.vh_ast.specs.declared.timing.Edge.{Edge as Word}
use Rattle.vh_ast.specs.declared.timing.Edge.TheVariants as word
use Rattle.vh_ast.specs.Expressions.{ExprTree, expr, ExprFormTree, number, text, named, call, system, paren, concat, repeat, unary, chain, choice, NameTree, start_of, SelTree, no_sel, index_sel, both_sel, part_sel, PartTree, at, range, up, down}
use Rattle.vh_ast.specs.Statements.{EvTree}
use Rattle.vh_bind.specs.declared.readable.Readable.{Readable}
use Rattle.vh_bind.specs.declared.readable.Readable.TheVariants as read
use Rattle.vh_bind.specs.declared.scope.Mode.TheVariants as mode
use Rattle.vh_bind.specs.Steps.{Fault}
use Rattle.vh_bind.specs.Selects.{Outcome, with_ok, with_some, number_in, part_select}
use Rattle.vh_bind.specs.Scopes.{Scope}
use Rattle.vh_bind.specs.Constants.{name_meant, name_read, value_by, bound}

-- Which change counts.
abbrev pub edge_of : Option Word → Edge
edge_of None = edge.Any
edge_of (Some word.Positive) = edge.Rising
edge_of (Some word.Negative) = edge.Falling

-- A change of some digits of an object: none where there are none.
abbrev pub digits_term : ℕ → Edge → ℕ → ℕ → List Term
digits_term o e low count = if count == 0 then [] else term.Digits o low count e ∷ []

-- Where the lowest digit is outside, no change of it comes.
abbrev pub below_term : ℕ → Edge → ℕ → List Term
below_term o edge.Any count = digits_term o edge.Any 0 count
below_term o edge.Rising count = []
below_term o edge.Falling count = []

-- A change of so many digits from a place on, of an object of this width: of those that it has. (5.2.1)
abbrev pub select_term : ℕ → ℕ → Edge → ℕ → ℤ → List Term
select_term o width e count (pos low) = digits_term o e low (min count (width - low))
select_term o width e count (negsuc below) = below_term o e (min (count - suc below) width)

-- By an index: one that isn't known names no digit.
abbrev pub index_term : ℕ → ℕ → Edge → Range → Option ℤ → List Term
index_term o width e r None = []
index_term o width e r (Some i) = select_term o width e 1 (position_of r i)

abbrev pub indexed_term : ℕ → ℕ → Edge → Range → Bool → ℕ → Option ℤ → List Term
indexed_term o width e r upward count None = []
indexed_term o width e r upward count (Some i) = select_term o width e count (position_of r (lowest_index r upward i count))

abbrev pub slice_term : ℕ → ℕ → Edge → Select → List Term
slice_term o width e select.Whole = []
slice_term o width e (select.Bit r index) = []
slice_term o width e (select.Slice r lowest count) = select_term o width e count (position_of r (pos lowest))
slice_term o width e (select.Indexed upward r base count) = []

-- A select that isn't constant can't be waited for.
abbrev pub fault_as : Place → Fault → DesignFault → Fault
fault_as place f fault.N4 = (N6, place)
fault_as place f _ = f

abbrev pub as_event : {A : Type 0} → Place → Outcome A → Outcome A
as_event place (Ok a) = Ok a
as_event place (Err f) = Err (fault_as place f f.0)

abbrev pub constant_here : Scope → ExprTree → Outcome (Option Vector)
constant_here s e = value_by 0 (bound mode.Constant s e)

abbrev pub by_index : ℕ → ℕ → Edge → Range → Option Vector → Outcome (Option (List Term))
by_index o width e r v = Ok (option_map (λ n. index_term o width e r (integer_of n)) v)

abbrev pub by_base : ℕ → ℕ → Edge → Range → Bool → Option Vector → Option ℕ → Outcome (Option (List Term))
by_base o width e r upward v count =
    Ok (option_and_then (λ n. option_map (λ k. indexed_term o width e r upward k (integer_of n)) count) v)

abbrev pub part_terms : Scope → Place → ℕ → ℕ → Edge → Range → PartTree → Outcome (Option (List Term))
part_terms s bracket o width e r (at i) = with_ok (constant_here s i) (by_index o width e r)
part_terms s bracket o width e r (range left right) =
    with_ok (constant_here s left) (λ a. with_ok (constant_here s right) (λ b.
    with_ok (part_select bracket r a b) (λ x. Ok (option_map (slice_term o width e) x))))
part_terms s bracket o width e r (up base count) =
    with_ok (constant_here s base) (λ a. with_ok (constant_here s count) (λ n.
    with_ok (number_in bracket 1 MAX_WIDTH n) (by_base o width e r true a)))
part_terms s bracket o width e r (down base count) =
    with_ok (constant_here s base) (λ a. with_ok (constant_here s count) (λ n.
    with_ok (number_in bracket 1 MAX_WIDTH n) (by_base o width e r false a)))

-- Digits of a vector. (5.2.1)
abbrev pub sel_terms : Scope → Place → ℕ → ℕ → Edge → Range → SelTree → Outcome (Option (List Term))
sel_terms s place o width e r no_sel = Ok (Some (digits_term o e 0 width))
sel_terms s place o width e r (index_sel bracket i) =
    as_event place (with_ok (constant_here s i) (by_index o width e r))
sel_terms s place o width e r (both_sel bracket i last part) = Err (N6, place)
sel_terms s place o width e r (part_sel bracket part) = as_event place (part_terms s bracket o width e r part)

-- What never changes: its select may have a fault.
abbrev pub never : Outcome (Option (List Term)) → Outcome (Option (List Term))
never terms = with_ok terms (λ o. Ok (option_map (λ ts. []) o))

abbrev pub width_at : Scope → ℕ → ℕ
width_at s o = unwrap_or (option_map (λ i. i.width) (slice_get s.objects o)) 1

-- By what the name stands for: a memory can't be waited for.
abbrev pub read_terms : Scope → Place → Place → Edge → SelTree → Readable → Outcome (Option (List Term))
read_terms s place start e sel read.Wrong = Err (N1, start)
read_terms s place start e sel read.Unknown = Ok None
read_terms s place start e sel (read.Genvar v) = never (sel_terms s place 0 32 e (record { left = 31; right = 0 }) sel)
read_terms s place start e sel (read.Parameter o r v) = never (sel_terms s place o (width_at s o) e r sel)
read_terms s place start e sel (read.Vector o r) = sel_terms s place o (width_at s o) e r sel
read_terms s place start e sel (read.Memory o r) = Err (N6, place)

-- A named event, which has no edge and no digits. (9.7.3)
abbrev pub event_terms : Place → Option Word → SelTree → ℕ → Outcome (Option (List Term))
event_terms place None no_sel o = Ok (Some (term.Event o ∷ []))
event_terms place None (index_sel bracket i) o = Err (N6, place)
event_terms place None (both_sel bracket i last part) o = Err (N6, place)
event_terms place None (part_sel bracket part) o = Err (N6, place)
event_terms place (Some w) sel o = Err (N6, place)

abbrev pub event_at : Scope → Option ℕ → Option ℕ
event_at s None = None
event_at s (Some o) = if has_kind is_event s.objects o then Some o else None

abbrev pub event_of : Scope → Option Meaning → Option ℕ
event_of s m = event_at s (option_and_then object_meant m)

abbrev pub or_event : Scope → Place → Option Word → NameTree → SelTree → Option ℕ → Outcome (Option (List Term))
or_event s place w n sel None = with_ok (name_read s n) (read_terms s place (start_of n) (edge_of w) sel)
or_event s place w n sel (Some o) = event_terms place w sel o

abbrev pub name_terms : Scope → Place → Option Word → NameTree → SelTree → Outcome (Option (List Term))
name_terms s place w n sel = with_ok (name_meant s false n) (λ m. or_event s place w n sel (event_of s m))

-- Anything but a name or a select can't be waited for.
abbrev pub form_terms : Scope → Place → Option Word → ExprFormTree → Outcome (Option (List Term))
form_terms s place w (number n) = Err (N6, place)
form_terms s place w (text bytes) = Err (N6, place)
form_terms s place w (named n sel) = name_terms s place w n sel
form_terms s place w (call n es) = Err (N6, place)
form_terms s place w (system id es) = Err (N6, place)
form_terms s place w (paren e) = Err (N6, place)
form_terms s place w (concat es) = Err (N6, place)
form_terms s place w (repeat e es) = Err (N6, place)
form_terms s place w (unary op e) = Err (N6, place)
form_terms s place w (chain e ls) = Err (N6, place)
form_terms s place w (choice t a b) = Err (N6, place)

abbrev pub expr_terms : Scope → Option Word → ExprTree → Outcome (Option (List Term))
expr_terms s w (expr place form) = form_terms s place w form

-- Those of a list, in order, behind some; none where one is passed over.
abbrev pub all_terms : Scope → List Term → List EvTree → Outcome (Option (List Term))
all_terms s before [] = Ok (Some before)
all_terms s before (e ∷ es) =
    with_ok (expr_terms s e.edge e.expr) (λ ts. with_some ts (λ us. all_terms s (before ++ us) es))
