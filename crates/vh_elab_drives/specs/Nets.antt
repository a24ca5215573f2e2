-- What a continuous assignment drives: nets, whole or in part. (IEEE 1364-2005, 6.1.2)
use Rattle.std.specs.Prelude.{ℕ, ◌+◌, List, [], ◌∷◌, ◌++◌, Bool, true, false, if◌then◌else◌, nat_lt, min, Option, Some, None, Ok, Err, ℤ, pos, negsuc, slice_get, unwrap_or}
use Rattle.std.specs.List.{fold}
use Rattle.std.specs.Option.{option_map}
use Rattle.vh_base.specs.declared.faults.DesignFault.{DesignFault}
use Rattle.vh_base.specs.declared.faults.DesignFault.TheVariants.{N1, N3, N5}
use Rattle.vh_base.specs.declared.place.Place.{Place}
use Rattle.vh_logic.specs.declared.vector.TheConstants.{MAX_WIDTH}
use Rattle.vh_logic.specs.Number.{integer_of}
use Rattle.vh_design_nodes.specs.declared.driver.DriverInfo.{DriverInfo}
use Rattle.vh_design_nodes.specs.declared.expr.Range.{Range}
use Rattle.vh_design_nodes.specs.declared.expr.Select.{Select}
use Rattle.vh_design_nodes.specs.declared.expr.Select.TheVariants as select
use Rattle.vh_design_nodes.specs.declared.object.ObjectInfo.{ObjectInfo}
use Rattle.vh_design_nodes.specs.Kinds.{is_net}
use Rattle.vh_design_nodes.specs.Fits.{has_kind, is_width}
use Rattle.vh_eval.specs.Selects.{address_of, position_of, lowest_index}
use Rattle.vh_ast.specs.Expressions.{ExprTree, expr, ExprFormTree, number, text, named, call, system, paren, concat, repeat, unary, chain, choice, Exprs, no_expr, one_expr, NameTree, start_of, SelTree, no_sel, index_sel, both_sel, part_sel, PartTree, at, range, up, down}
use Rattle.vh_ast.specs.Expressions as E
use Rattle.vh_ast.specs.Statements.{LvPartTree, opened, target, closed, LvTree}
use Rattle.vh_bind.specs.declared.readable.Readable.{Readable}
use Rattle.vh_bind.specs.declared.readable.Readable.TheVariants as read
use Rattle.vh_bind.specs.Scopes.{Scope}
use Rattle.vh_bind.specs.Selects.{Outcome, with_ok, with_some, number_in, part_select}
use Rattle.vh_bind.specs.Constants.{constant, name_read}

abbrev pub Drivers : Type 0
Drivers = List DriverInfo

-- How many digits an object has.
abbrev pub width_at : List ObjectInfo → ℕ → ℕ
width_at os o = unwrap_or (option_map (λ i. i.width) (slice_get os o)) 1

abbrev pub driver : ℕ → ℕ → ℕ → DriverInfo
driver o low width = record { object = o; low = low; below = 0; width = width }

-- A driver of no digit of a net: it stands past all of them. (own)
abbrev pub past : List ObjectInfo → ℕ → ℕ → DriverInfo
past os o width = driver o (width_at os o) width

-- So many digits from a place on, of which 0 is the lowest; a place below it has that many digits below the net.
abbrev pub from_place : List ObjectInfo → ℕ → ℕ → Option ℕ → DriverInfo
from_place os o width None = past os o width
from_place os o width (Some low) = driver o low width

abbrev pub placed : List ObjectInfo → ℕ → ℕ → ℤ → DriverInfo
placed os o width (pos place) = from_place os o width (address_of (Some (pos place)))
placed os o width (negsuc n) =
    if nat_lt (n + 1) width then record { object = o; low = 0; below = n + 1; width = width } else past os o width

abbrev pub indexed : List ObjectInfo → ℕ → Range → Bool → ℕ → Option ℤ → DriverInfo
indexed os o r upwards width None = past os o width
indexed os o r upwards width (Some i) = placed os o width (position_of r (lowest_index r upwards i width))

-- Selects are constant: one that isn't known, or is outside, drives no digit. (own)
abbrev pub bit_driver : Scope → ℕ → Range → ExprTree → Outcome (Option DriverInfo)
bit_driver s o r i =
    with_ok (constant s 0 i) (λ v. with_some v (λ x. Ok (Some (indexed s.objects o r true 1 (integer_of x)))))

abbrev pub slice_driver : List ObjectInfo → ℕ → Select → Option DriverInfo
slice_driver os o select.Whole = None
slice_driver os o (select.Bit r e) = None
slice_driver os o (select.Slice r lowest width) = Some (placed os o width (position_of r (pos lowest)))
slice_driver os o (select.Indexed upwards r e width) = None

abbrev pub range_driver : Scope → Place → ℕ → Range → ExprTree → ExprTree → Outcome (Option DriverInfo)
range_driver s bracket o r left right =
    with_ok (with_ok (constant s 0 left) (λ a. with_ok (constant s 0 right) (part_select bracket r a))) (λ x.
    with_some x (λ y. Ok (slice_driver s.objects o y)))

abbrev pub indexed_driver : Scope → Place → ℕ → Range → Bool → ExprTree → ExprTree → Outcome (Option DriverInfo)
indexed_driver s bracket o r upwards base width =
    with_ok (constant s 0 base) (λ b.
    with_ok (with_ok (constant s 0 width) (number_in bracket 1 MAX_WIDTH)) (λ w.
    with_some b (λ i. with_some w (λ n. Ok (Some (indexed s.objects o r upwards n (integer_of i)))))))

abbrev pub part_driver : Scope → ℕ → Range → Place → PartTree → Outcome (Option DriverInfo)
part_driver s o r bracket (at i) = bit_driver s o r i
part_driver s o r bracket (range left right) = range_driver s bracket o r left right
part_driver s o r bracket (up base width) = indexed_driver s bracket o r true base width
part_driver s o r bracket (down base width) = indexed_driver s bracket o r false base width

abbrev pub net_driver : Scope → Place → ℕ → Range → SelTree → Outcome (Option DriverInfo)
net_driver s place o r no_sel = Ok (Some (driver o 0 (width_at s.objects o)))
net_driver s place o r (index_sel bracket i) = bit_driver s o r i
net_driver s place o r (both_sel bracket i last part) = Err (N1, place)
net_driver s place o r (part_sel bracket part) = part_driver s o r bracket part

-- By what its name stands for: a variable, a parameter and a word of a memory can't take it. (6.1.2)
abbrev pub memory_fault : SelTree → DesignFault
memory_fault no_sel = N1
memory_fault (index_sel bracket i) = N5
memory_fault (both_sel bracket i last part) = N5
memory_fault (part_sel bracket part) = N1

abbrev pub driver_row : Scope → Place → SelTree → Readable → Outcome (Option DriverInfo)
driver_row s place sel read.Wrong = Err (N1, place)
driver_row s place sel read.Unknown = Ok None
driver_row s place sel (read.Genvar v) = Err (N1, place)
driver_row s place sel (read.Parameter o r v) = Err (N5, place)
driver_row s place sel (read.Vector o r) =
    if has_kind is_net s.objects o then net_driver s place o r sel else Err (N5, place)
driver_row s place sel (read.Memory o r) = Err (memory_fault sel, place)

abbrev pub name_driver : Scope → NameTree → SelTree → Outcome (Option DriverInfo)
name_driver s n sel = with_ok (name_read s n) (driver_row s (start_of n) sel)

-- A row of them, the highest first; none where one is passed over.
abbrev pub one_more : Drivers → Option DriverInfo → Option Drivers
one_more ds None = None
one_more ds (Some d) = Some (ds ++ d ∷ [])

abbrev pub with_driver : Drivers → Outcome (Option DriverInfo) → Outcome (Option Drivers)
with_driver ds d = with_ok d (λ x. Ok (one_more ds x))

abbrev pub piece_drivers : Scope → Drivers → LvPartTree → Outcome (Option Drivers)
piece_drivers s ds opened = Ok (Some ds)
piece_drivers s ds (target n sel) = with_driver ds (name_driver s n sel)
piece_drivers s ds closed = Ok (Some ds)

abbrev pub pieces_drivers : Scope → Drivers → List LvPartTree → Outcome (Option Drivers)
pieces_drivers s ds [] = Ok (Some ds)
pieces_drivers s ds (p ∷ ps) =
    with_ok (piece_drivers s ds p) (λ x. with_some x (λ y. pieces_drivers s y ps))

-- Together they have a width that a vector may have. (own)
abbrev pub drivers_sum : Drivers → ℕ
drivers_sum ds = fold (λ sum (d : DriverInfo). min (sum + d.width) (MAX_WIDTH + 1)) 0 ds

abbrev pub in_width : Place → Option Drivers → Outcome (Option Drivers)
in_width place ds = with_some ds (λ x. if is_width (drivers_sum x) then Ok (Some x) else Err (N3, place))

abbrev pub target_drivers : Scope → LvTree → Outcome (Option Drivers)
target_drivers s lv = with_ok (pieces_drivers s [] lv.parts) (in_width lv.place)

abbrev mutual
  -- What an output port or a gate drives: a target, or a concatenation of them; nothing else takes it. (7.1 and 12.3.9)
  pub form_drivers : Scope → Place → Drivers → ExprFormTree → Outcome (Option Drivers)
  form_drivers s place ds (number n) = Err (N5, place)
  form_drivers s place ds (text bytes) = Err (N5, place)
  form_drivers s place ds (named n sel) = with_driver ds (name_driver s n sel)
  form_drivers s place ds (call n es) = Err (N5, place)
  form_drivers s place ds (system id es) = Err (N5, place)
  form_drivers s place ds (paren e) = Err (N5, place)
  form_drivers s place ds (concat es) = exprs_drivers s ds es
  form_drivers s place ds (repeat e es) = Err (N5, place)
  form_drivers s place ds (unary op e) = Err (N5, place)
  form_drivers s place ds (chain e ls) = Err (N5, place)
  form_drivers s place ds (choice t a b) = Err (N5, place)

  pub expr_drivers : Scope → Drivers → ExprTree → Outcome (Option Drivers)
  expr_drivers s ds (expr place form) = form_drivers s place ds form

  pub exprs_drivers : Scope → Drivers → Exprs → Outcome (Option Drivers)
  exprs_drivers s ds no_expr = Ok (Some ds)
  exprs_drivers s ds (one_expr e es) =
      with_ok (expr_drivers s ds e) (λ x. with_some x (λ y. exprs_drivers s y es))

abbrev pub output_drivers : Scope → ExprTree → Outcome (Option Drivers)
output_drivers s e = with_ok (expr_drivers s [] e) (in_width (E.place_of e))
