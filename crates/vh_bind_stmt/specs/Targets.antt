-- What a statement assigns to: variables and words of memories, whole or in part. (IEEE 1364-2005, 9.2 and 10.2)
use Rattle.std.specs.Prelude.{ℕ, List, [], ◌∷◌, ◌++◌, if◌then◌else◌, Option, Some, None, Ok, Err}
use Rattle.vh_base.specs.declared.faults.DesignFault.TheVariants.{N1, N3, N5}
use Rattle.vh_base.specs.declared.place.Place.{Place}
use Rattle.vh_design_nodes.specs.declared.expr.Chosen.{Chosen}
use Rattle.vh_design_nodes.specs.declared.expr.Range.{Range}
use Rattle.vh_design_nodes.specs.declared.expr.Select.{Select}
use Rattle.vh_design_nodes.specs.declared.expr.Select.TheVariants as select
use Rattle.vh_design_nodes.specs.declared.expr.Selected.{Selected}
use Rattle.vh_design_nodes.specs.Kinds.{is_variable}
use Rattle.vh_design_nodes.specs.Fits.{has_kind, is_width}
use Rattle.vh_design_code.specs.Targets.{targets_width}
use Rattle.vh_ast.specs.Expressions.{ExprTree, expr, ExprFormTree, number, text, named, call, system, paren, concat, repeat, unary, chain, choice, Exprs, no_expr, one_expr, place_of, NameTree, start_of, SelTree, no_sel, index_sel, both_sel, part_sel}
use Rattle.vh_ast.specs.Statements.{LvPartTree, opened, target, closed, LvTree}
use Rattle.vh_bind.specs.declared.readable.Readable.{Readable}
use Rattle.vh_bind.specs.declared.readable.Readable.TheVariants as read
use Rattle.vh_bind.specs.declared.scope.Mode.TheVariants as mode
use Rattle.vh_bind.specs.Steps.{Step, ◌>>=◌, pure, refused, lifted, looking, needing}
use Rattle.vh_bind.specs.Selects.{Outcome}
use Rattle.vh_bind.specs.Scopes.{Scope, here}
use Rattle.vh_bind.specs.Objects.{word_of, bit_select}
use Rattle.vh_bind.specs.Constants.{bound, part_bound, name_read, whole_of}

-- What is selected, where no part of it is passed over.
abbrev pub selected_by : Option Chosen → Option Select → Option Selected
selected_by None x = None
selected_by (Some c) None = None
selected_by (Some c) (Some x) = Some (record { of = c; select = x })

-- A variable, or digits of one. (5.2.1)
abbrev pub vector_selected : Scope → Place → ℕ → Range → SelTree → Step (Option Selected)
vector_selected s place o r no_sel = pure (selected_by (whole_of o) (Some select.Whole))
vector_selected s place o r (index_sel bracket i) =
    bound mode.Value s i >>= (λ a. pure (selected_by (whole_of o) (bit_select r a)))
vector_selected s place o r (both_sel bracket i last part) = refused N1 place
vector_selected s place o r (part_sel bracket part) =
    part_bound s bracket r part >>= (λ x. pure (selected_by (whole_of o) x))

-- A word of a memory, or digits of one. (5.2.2)
abbrev pub memory_selected : Scope → Place → ℕ → Range → SelTree → Step (Option Selected)
memory_selected s place o r no_sel = refused N1 place
memory_selected s place o r (index_sel bracket i) =
    bound mode.Value s i >>= (λ a. pure (selected_by (word_of o a) (Some select.Whole)))
memory_selected s place o r (both_sel bracket i last part) =
    bound mode.Value s i >>= (λ a. part_bound s last r part >>= (λ x. pure (selected_by (word_of o a) x)))
memory_selected s place o r (part_sel bracket part) = refused N1 place

-- One target more, where it isn't passed over.
abbrev pub with_target : List Selected → Option Selected → Option (List Selected)
with_target ts None = None
with_target ts (Some t) = Some (ts ++ t ∷ [])

-- By what its name stands for: a net and a parameter can't take an assignment. (9.2)
abbrev pub target_row : Scope → List Selected → Place → SelTree → Readable → Step (Option (List Selected))
target_row s ts place sel read.Wrong = refused N1 place
target_row s ts place sel read.Unknown = pure None
target_row s ts place sel (read.Genvar v) = refused N1 place
target_row s ts place sel (read.Parameter o r v) = refused N5 place
target_row s ts place sel (read.Vector o r) =
    if has_kind is_variable s.objects o then (vector_selected s place o r sel >>= (λ t. pure (with_target ts t))) else refused N5 place
target_row s ts place sel (read.Memory o r) = memory_selected s place o r sel >>= (λ t. pure (with_target ts t))

-- A name with its select, behind some targets.
abbrev pub name_piece : Scope → List Selected → NameTree → SelTree → Step (Option (List Selected))
name_piece s ts n sel = looking (λ ns. name_read (here s ns) n) >>= target_row s ts (start_of n) sel

-- A part of a row of targets.
abbrev pub piece_bound : Scope → List Selected → LvPartTree → Step (Option (List Selected))
piece_bound s ts opened = pure (Some ts)
piece_bound s ts (target n sel) = name_piece s ts n sel
piece_bound s ts closed = pure (Some ts)

-- The targets of a row, from the left.
abbrev pub pieces_bound : Scope → List Selected → List LvPartTree → Step (Option (List Selected))
pieces_bound s ts [] = pure (Some ts)
pieces_bound s ts (p ∷ ps) = piece_bound s ts p >>= (λ us. needing us (λ vs. pieces_bound s vs ps))

-- Together they have a width that a vector may have. (own)
abbrev pub in_width : Scope → Place → Option (List Selected) → Outcome (Option (List Selected))
in_width s place None = Ok None
in_width s place (Some ts) = if is_width (targets_width s.objects ts) then Ok (Some ts) else Err (N3, place)

-- The left side of an assignment: its targets, the highest first. (9.2)
abbrev pub targets_bound : Scope → LvTree → Step (Option (List Selected))
targets_bound s lv = pieces_bound s [] lv.parts >>= (λ ts. lifted (in_width s lv.place ts))

abbrev mutual
  -- An output of a task: a target, or a concatenation of them; nothing else takes an assignment. (10.2.2)
  pub output_form : Scope → Place → List Selected → ExprFormTree → Step (Option (List Selected))
  output_form s place ts (number n) = refused N5 place
  output_form s place ts (text bytes) = refused N5 place
  output_form s place ts (named n sel) = name_piece s ts n sel
  output_form s place ts (call n es) = refused N5 place
  output_form s place ts (system id es) = refused N5 place
  output_form s place ts (paren e) = refused N5 place
  output_form s place ts (concat es) = outputs_pieces s ts es
  output_form s place ts (repeat e es) = refused N5 place
  output_form s place ts (unary op e) = refused N5 place
  output_form s place ts (chain e ls) = refused N5 place
  output_form s place ts (choice t a b) = refused N5 place

  pub output_pieces : Scope → List Selected → ExprTree → Step (Option (List Selected))
  output_pieces s ts (expr place form) = output_form s place ts form

  pub outputs_pieces : Scope → List Selected → Exprs → Step (Option (List Selected))
  outputs_pieces s ts no_expr = pure (Some ts)
  outputs_pieces s ts (one_expr e es) = output_pieces s ts e >>= (λ us. needing us (λ vs. outputs_pieces s vs es))

-- The targets of an output of a task, the highest first. (10.2.2)
abbrev pub output_bound : Scope → ExprTree → Step (Option (List Selected))
output_bound s e = output_pieces s [] e >>= (λ ts. lifted (in_width s (place_of e) ts))
