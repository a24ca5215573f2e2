-- What rows of `specs/Constants.antt` of vh_bind say behind the parts that are bound already.
-- (IEEE 1364-2005, 5.1.14, 5.2 and 12.4.1)
use Rattle.std.specs.Prelude.{ℕ, ◌-◌, ◌^◌, List, [], Bool, Option}
use Rattle.vh_base.specs.declared.place.Place.{Place}
use Rattle.vh_logic.specs.declared.vector.TheConstants.{MAX_WIDTH}
use Rattle.vh_logic.specs.Vector.{Vector}
use Rattle.vh_design_nodes.specs.declared.expr.Range.{Range}
use Rattle.vh_design_nodes.specs.declared.expr.Select.{Select}
use Rattle.vh_ast.specs.declared.routine.TaskDirection.{TaskDirection}
use Rattle.vh_ast.specs.Expressions.{ExprTree, Exprs, NameTree, SelTree, place_of}
use Rattle.vh_bind.specs.declared.scope.Mode.TheVariants as mode
use Rattle.vh_bind.specs.Steps.{Nodes, Step, ◌>>=◌, lifted}
use Rattle.vh_bind.specs.Scopes.{Scope, here}
use Rattle.vh_bind.specs.Selects.{Outcome, with_ok, number_in, part_select}
use Rattle.vh_bind.specs.Objects.{is_given, is_taken}
use Rattle.vh_bind.specs.Constants.{bound, concat_pushed, constant, genvar_bounded, given_bound, literal, memory_bound, name_read, sel_value, taken_bound, target_pieces, target_row, times_pushed, vector_bound}
use Rattle.vh_bind_expr.specs.declared.functions.Side.{Side}
use Rattle.vh_bind_expr.specs.declared.functions.Side.TheVariants as side

-- A constant, where parameters have their values in some expressions.
abbrev pub constant_at : Scope → Nodes → ExprTree → Outcome (Option Vector)
constant_at s ns e = constant (here s ns) 0 e

-- How many times something is repeated.
abbrev pub count_at : Scope → Nodes → Place → ExprTree → Outcome (Option ℕ)
count_at s ns place e = with_ok (constant_at s ns e) (number_in place 1 (2 ^ 64 - 1))

-- So many times what some entries are joined to.
abbrev pub repeated_pushed : Scope → Place → Option ℕ → Option (List ℕ) → Step (Option ℕ)
repeated_pushed s place count ids =
    concat_pushed mode.Value s place ids >>= times_pushed mode.Value s place count

-- Which digits, between two constants,
abbrev pub range_at : Scope → Nodes → Place → Range → ExprTree → ExprTree → Outcome (Option Select)
range_at s ns bracket r left right =
    with_ok (constant_at s ns left) (λ a.
    with_ok (constant_at s ns right) (part_select bracket r a))

-- And how many, from a base on. (5.2.1)
abbrev pub width_at : Scope → Nodes → Place → ExprTree → Outcome (Option ℕ)
width_at s ns bracket e = with_ok (constant_at s ns e) (number_in bracket 1 MAX_WIDTH)

-- What is written of a genvar.
abbrev pub genvar_pushed : Scope → Place → SelTree → Vector → Step (Option ℕ)
genvar_pushed s place sel v =
    lifted (sel_value s place (genvar_bounded v) sel) >>= literal mode.Value s place

-- What a name is assigned to, with its select. (9.2)
abbrev pub variable_bound : Scope → Place → NameTree → SelTree → Step (Option ℕ)
variable_bound s place n sel =
    lifted (name_read s n) >>= target_row s place (λ o r. vector_bound s place o r sel) (λ o r. memory_bound s place o r sel)

-- An output of a call: a concatenation of what it is assigned to. (10.2.2)
abbrev pub output_bound : Scope → ExprTree → Step (Option ℕ)
output_bound s e = target_pieces s [] e >>= concat_pushed mode.Value s (place_of e)

-- The two sides of a call: the arguments that are given a value at its begin, and those that are assigned at its end. (10.2.2)
abbrev pub is_on : Side → TaskDirection → Bool
is_on side.Given d = is_given d
is_on side.Taken d = is_taken d

-- An argument: its value, or what it is assigned to,
abbrev pub argument_bound : Scope → Side → ExprTree → Step (Option ℕ)
argument_bound s side.Given e = bound mode.Value s e
argument_bound s side.Taken e = output_bound s e

-- And those of one side, in their order, from the one of this number on.
abbrev pub side_bound : Scope → Side → List TaskDirection → ℕ → Option (List ℕ) → Exprs → Step (Option (List ℕ))
side_bound s side.Given ds k ids es = given_bound s ds k ids es
side_bound s side.Taken ds k ids es = taken_bound s ds k ids es
