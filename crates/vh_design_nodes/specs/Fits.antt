-- Which objects, expressions and drivers may stand in a design. Each rule is one test. (own: the rules say where
-- ids point, and which kinds may stand where after IEEE 1364-2005, clauses 4, 5, 6 and 26.6)
use Rattle.std.specs.Prelude.{◌≡◌, ℕ, List, Bool, true, false, if◌then◌else◌, not, ◌&&◌, ◌==◌, ◌-◌, length, nat_le, nat_lt, Option, Some, None, is_some, slice_get, unwrap_or, IsSomeAnd}
use Rattle.std.specs.List.{list_all}
use Rattle.std.specs.Option.{option_map, option_and_then}
use Rattle.vh_base.specs.declared.orders.Object.{Object}
use Rattle.vh_logic.specs.declared.vector.TheConstants.{MAX_WIDTH}
use Rattle.vh_design_nodes.specs.declared.driver.DriverInfo.{DriverInfo}
use Rattle.vh_design_nodes.specs.declared.expr.Access.{Access}
use Rattle.vh_design_nodes.specs.declared.expr.Access.TheVariants as access
use Rattle.vh_design_nodes.specs.declared.expr.ExprKind.{ExprKind}
use Rattle.vh_design_nodes.specs.declared.expr.ExprKind.TheVariants as kind
use Rattle.vh_design_nodes.specs.declared.expr.ExprNode.{ExprNode}
use Rattle.vh_design_nodes.specs.declared.expr.Select.{Select}
use Rattle.vh_design_nodes.specs.declared.expr.Select.TheVariants as select
use Rattle.vh_design_nodes.specs.declared.expr.Selected.{Selected}
use Rattle.vh_design_nodes.specs.declared.object.Detail.{Detail}
use Rattle.vh_design_nodes.specs.declared.object.Detail.TheVariants as detail
use Rattle.vh_design_nodes.specs.declared.object.Kind.{Kind}
use Rattle.vh_design_nodes.specs.declared.object.ObjectInfo.{ObjectInfo}
use Rattle.vh_design_nodes.specs.declared.fits.TheConstants.{MOST_UNIT}
use Rattle.vh_design_nodes.specs.Kinds.{is_vector, is_variable, is_memory, is_function, is_system_function, is_net}
use Rattle.vh_design_nodes.specs.Widths.{kind_width, kind_signed, operands}

-- Is the object of this number of such a kind?
abbrev pub has_kind : (Kind → Bool) → List ObjectInfo → ℕ → Bool
has_kind test os o = unwrap_or (option_map (λ i. test i.kind) (slice_get os o)) false

-- Is there an object of this number, of such a kind?
abbrev pub IsOfKind : List ObjectInfo → (Kind → Bool) → ℕ → Type 0
IsOfKind os test o = IsSomeAnd (slice_get os o) (λ i. test i.kind ≡ true)

-- A width that a vector may have.
abbrev pub is_width : ℕ → Bool
is_width w = nat_le 1 w && nat_le w MAX_WIDTH

-- A time unit that a module of a design of this precision may have.
abbrev pub is_unit : ℕ → ℕ → Bool
is_unit precision unit = nat_le unit MOST_UNIT && nat_le precision unit

-- Are all of these numbers below this one?
abbrev pub all_before : ℕ → List ℕ → Bool
all_before e parts = list_all (λ p. nat_lt p e) parts

-- Is the number, where there is one, below this one?
abbrev pub before : ℕ → Option ℕ → Bool
before n None = true
before n (Some m) = nat_lt m n

-- Are both signed, or neither?
abbrev pub same_sign : Bool → Bool → Bool
same_sign a b = if a then b else not b

-- Which kinds may be read, and which assigned to. (IEEE 1364-2005, 5.2 and 6)
abbrev pub may_be : Access → Kind → Bool
may_be access.Read = is_vector
may_be access.Assigned = is_variable

-- What is selected from: an object of such a kind, or a word of a memory by an expression before this one.
abbrev pub fits_word : List ObjectInfo → ℕ → Access → ℕ → Option ℕ → Bool
fits_word os e access o None = has_kind (may_be access) os o
fits_word os e access o (Some at) = has_kind is_memory os o && nat_lt at e

-- The index of a select.
abbrev pub fits_select : ℕ → Select → Bool
fits_select e select.Whole = true
fits_select e (select.Bit range index) = nat_lt index e
fits_select e (select.Slice range lowest width) = true
fits_select e (select.Indexed up range base width) = nat_lt base e

-- What is read or assigned to, by expressions before this one.
abbrev pub fits_selected : List ObjectInfo → ℕ → Access → Selected → Bool
fits_selected os e access s = fits_word os e access s.of.object s.of.word && fits_select e s.select

-- The parts of an expression and what it reads, a row for each kind.
abbrev pub fits_kind : List ObjectInfo → ℕ → ℕ → ExprKind → Bool
fits_kind os precision e (kind.Literal v) = true
fits_kind os precision e (kind.Selected s) = fits_selected os e access.Read s
fits_kind os precision e (kind.Unary op part) = nat_lt part e
fits_kind os precision e (kind.Arithmetic first rest) = nat_lt first e && all_before e (operands rest)
fits_kind os precision e (kind.Shift first rest) = nat_lt first e && all_before e (operands rest)
fits_kind os precision e (kind.Comparison first rest) = nat_lt first e && all_before e (operands rest)
fits_kind os precision e (kind.Logic first rest) = nat_lt first e && all_before e (operands rest)
fits_kind os precision e (kind.Choice condition left right) = nat_lt condition e && nat_lt left e && nat_lt right e
fits_kind os precision e (kind.Join first rest) = nat_lt first e && all_before e rest
fits_kind os precision e (kind.Repeat count part) = nat_lt part e
fits_kind os precision e (kind.WithSign part signed) = nat_lt part e
fits_kind os precision e (kind.Time unit) = is_unit precision unit
fits_kind os precision e (kind.Call function result arguments) =
    has_kind is_function os function && has_kind is_variable os result && all_before e arguments
fits_kind os precision e (kind.SysCall o) = has_kind is_system_function os o

-- An expression: that, and its width and sign are those that its parts give.
abbrev pub fits_node : List ExprNode → List ObjectInfo → ℕ → ℕ → ExprNode → Bool
fits_node ns os precision e n =
    fits_kind os precision e n.kind && n.width == kind_width ns os n.kind && is_width n.width
    && same_sign n.signed (kind_signed ns os n.kind)

-- The number of a task's or function's body.
abbrev pub body_of : Detail → Option ℕ
body_of detail.Plain = None
body_of (detail.Net type) = None
body_of (detail.Port output index) = None
body_of (detail.Module name) = None
body_of (detail.Memory lowest) = None
body_of (detail.Value e) = None
body_of (detail.Call systf result args) = None
body_of (detail.Routine body) = Some body

-- The same of an object by its number, and whether there is one.
abbrev pub body_number : List ObjectInfo → ℕ → Option ℕ
body_number os o = option_and_then (λ i. body_of i.detail) (slice_get os o)

abbrev pub has_body : List ObjectInfo → ℕ → Bool
has_body os o = is_some (body_number os o)

-- The lowest address of a memory.
abbrev pub lowest_of : Detail → ℕ
lowest_of detail.Plain = 0
lowest_of (detail.Net type) = 0
lowest_of (detail.Port output index) = 0
lowest_of (detail.Module name) = 0
lowest_of (detail.Memory lowest) = lowest
lowest_of (detail.Value e) = 0
lowest_of (detail.Call systf result args) = 0
lowest_of (detail.Routine body) = 0

-- Has a memory a word at this address?
abbrev pub is_address : ObjectInfo → ℕ → Bool
is_address i at = nat_le (lowest_of i.detail) at && nat_lt (at - lowest_of i.detail) i.words

-- An object that a call names: it is there, and where it is named by an address it is a memory with that word.
abbrev pub has_word : List ObjectInfo → ℕ → Option ℕ → Bool
has_word os o None = nat_lt o (length os)
has_word os o (Some at) = unwrap_or (option_map (λ i. is_memory i.kind && is_address i at) (slice_get os o)) false

-- What is known of an object beside what all have: the expressions, bodies and objects that it names are there.
abbrev pub fits_detail : ℕ → ℕ → List ObjectInfo → Detail → Bool
fits_detail exprs bodies os detail.Plain = true
fits_detail exprs bodies os (detail.Net type) = true
fits_detail exprs bodies os (detail.Port output index) = true
fits_detail exprs bodies os (detail.Module name) = true
fits_detail exprs bodies os (detail.Memory lowest) = true
fits_detail exprs bodies os (detail.Value e) = nat_lt e exprs
fits_detail exprs bodies os (detail.Call systf result args) =
    before exprs result && list_all (λ (o : Object). has_word os o.id o.word) args
fits_detail exprs bodies os (detail.Routine body) = nat_lt body bodies

-- An object: its scope has a lesser number, its width is one, and what its detail names is there.
abbrev pub fits_object : ℕ → ℕ → List ObjectInfo → ℕ → ObjectInfo → Bool
fits_object exprs bodies os o i = before o i.parent && is_width i.width && fits_detail exprs bodies os i.detail

-- A driver: so many digits of a net.
abbrev pub fits_driver : List ObjectInfo → DriverInfo → Bool
fits_driver os d = has_kind is_net os d.object && is_width d.width
