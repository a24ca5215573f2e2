-- Expressions: the nodes that they are bound to, where they may read objects and where a constant is needed; and
-- the values of constants. (IEEE 1364-2005, 4.10 and clause 5)
use Rattle.std.specs.Prelude.{ℕ, suc, max, ◌==◌, ◌^◌, ◌+◌, ◌-◌, List, [], ◌∷◌, ◌++◌, length, Bool, true, false, not, if◌then◌else◌, bytes_eq, codes, Option, Some, None, Ok, Err}
use Rattle.std.specs.List.{list_any}
use Rattle.vh_base.specs.declared.faults.DesignFault.{DesignFault}
use Rattle.vh_base.specs.declared.faults.DesignFault.TheVariants.{N1, N3, N4, N5, N7, N10}
use Rattle.vh_base.specs.declared.place.Place.{Place}
use Rattle.vh_logic.specs.declared.vector.TheConstants.{MAX_WIDTH}
use Rattle.vh_logic.specs.Vector.{Vector}
use Rattle.vh_design_nodes.specs.declared.expr.Chosen.{Chosen}
use Rattle.vh_design_nodes.specs.declared.expr.ExprKind.TheVariants as kind
use Rattle.vh_design_nodes.specs.declared.expr.Range.{Range}
use Rattle.vh_design_nodes.specs.declared.expr.Select.{Select}
use Rattle.vh_design_nodes.specs.declared.expr.Select.TheVariants as select
use Rattle.vh_design_nodes.specs.Kinds.{is_variable}
use Rattle.vh_design_nodes.specs.Fits.{has_kind}
use Rattle.vh_design_nodes.specs.Widths.{width_of, signed_of}
use Rattle.vh_design.specs.Shape.{Shape}
use Rattle.vh_store.specs.Contents.{Contents}
use Rattle.vh_eval.specs.Value.{value_of}
use Rattle.vh_bind_scope.specs.declared.names.Meaning.{Meaning}
use Rattle.vh_bind_scope.specs.declared.look_up.Declaration.{Declaration}
use Rattle.vh_bind_scope.specs.LookUp.{first_found, found_inside}
use Rattle.vh_ast.specs.declared.operator.Unary.{Unary}
use Rattle.vh_ast.specs.declared.routine.TaskDirection.{TaskDirection}
use Rattle.vh_ast.specs.declared.token.Id.{Id}
use Rattle.vh_ast.specs.Expressions.{ExprTree, expr, ExprFormTree, number, text, named, call, system, paren, concat, repeat, unary, chain, choice, Exprs, no_expr, one_expr, Links, no_link, one_link, NameTree, name, Steps, no_step, one_step, IndexTree, no_index, index, SelTree, no_sel, index_sel, both_sel, part_sel, PartTree, at, range, up, down, place_of}
use Rattle.vh_bind.specs.declared.named.Named.{Named}
use Rattle.vh_bind.specs.declared.named.Named.TheVariants as it
use Rattle.vh_bind.specs.declared.operators.Operator.{Operator}
use Rattle.vh_bind.specs.declared.parts.Prefix.{Prefix}
use Rattle.vh_bind.specs.declared.parts.Prefix.TheVariants as prefix
use Rattle.vh_bind.specs.declared.readable.Readable.{Readable}
use Rattle.vh_bind.specs.declared.readable.Readable.TheVariants as read
use Rattle.vh_bind.specs.declared.readable.Function.{Function}
use Rattle.vh_bind.specs.declared.scope.Mode.{Mode}
use Rattle.vh_bind.specs.declared.scope.Mode.TheVariants as mode
use Rattle.vh_bind.specs.Steps.{Nodes, Step, ◌>>=◌, pure, refused, lifted, needing, beside}
use Rattle.vh_bind.specs.Scopes.{Scope}
use Rattle.vh_bind.specs.Scopes as scopes
use Rattle.vh_bind.specs.Nodes.{pushed, unary_of, operator_of, chained, joined, repeated, text_pushed}
use Rattle.vh_bind.specs.Selects.{Outcome, with_ok, with_some, number_in, Bounded, bit_of, indexed_of, part_of, part_select}
use Rattle.vh_bind.specs.Paths.{declared_meant, blocks_meant, alone_meant}
use Rattle.vh_bind.specs.Objects.{alone_read, path_read, word_of, bit_select, indexed_select, directions_of, is_given, is_taken, goes_so, function_meant}

-- The design of some nodes alone, and what is stored of it: nothing.
abbrev pub bare : Nodes → Shape
bare ns = record {
  objects = [];
  exprs = ns;
  drivers = [];
  codes = [];
  bodies = [];
  waits = [];
  shows = [];
  stmts = [];
  precision = 0;
}

abbrev pub nothing : Contents
nothing = record { records = []; drivers = []; results = []; time = 0 }

-- The value of an expression of some nodes, in its own width or a greater one. (5.4.1)
abbrev pub value_at : ℕ → Nodes → ℕ → Vector
value_at least ns e = value_of (bare ns) nothing e (max (width_of ns e) least) (signed_of ns e)

-- The value of what a step gives, from no nodes on.
abbrev pub worked_out : ℕ → Option ℕ → Nodes → Outcome (Option Vector)
worked_out least None ns = Ok None
worked_out least (Some e) ns = Ok (Some (value_at least ns e))

abbrev pub value_by : ℕ → Step (Option ℕ) → Outcome (Option Vector)
value_by least p = with_ok (p []) (λ r. worked_out least r.0 r.1)

-- Is it a number without a size?
abbrev pub is_unsized : ExprTree → Bool
is_unsized (expr place (number n)) = not n.sized
is_unsized (expr place (text bytes)) = false
is_unsized (expr place (named n s)) = false
is_unsized (expr place (call n es)) = false
is_unsized (expr place (system id es)) = false
is_unsized (expr place (paren e)) = false
is_unsized (expr place (concat es)) = false
is_unsized (expr place (repeat e es)) = false
is_unsized (expr place (unary op e)) = false
is_unsized (expr place (chain e ls)) = false
is_unsized (expr place (choice t a b)) = false

-- An entry of a concatenation: a number without a size has no width there. (5.1.14)
abbrev pub entry : ExprTree → Step (Option ℕ) → Step (Option ℕ)
entry e bound = if is_unsized e then refused N3 (place_of e) else bound

-- One number more, where none is passed over.
abbrev pub with_number : Option (List ℕ) → Option ℕ → Option (List ℕ)
with_number None e = None
with_number (Some es) None = None
with_number (Some es) (Some e) = Some (es ++ e ∷ [])

-- The operators of a chain.
abbrev pub operators : Links → List Operator
operators no_link = []
operators (one_link op e ls) = operator_of op ∷ operators ls

-- `$signed` and `$unsigned`: they give their one argument a sign. (5.5)
abbrev pub signed_name : List ℕ
signed_name = codes "$signed"

abbrev pub unsigned_name : List ℕ
unsigned_name = codes "$unsigned"

abbrev pub given_sign : List ℕ → Option Bool
given_sign id =
    if bytes_eq id signed_name then Some true
    else (if bytes_eq id unsigned_name then Some false else None)

abbrev pub with_sign_pushed : Mode → Scope → Place → Bool → Option ℕ → Step (Option ℕ)
with_sign_pushed m s place signed a = needing a (λ e. pushed m s place (kind.WithSign e signed))

abbrev pub with_sign_row : Mode → Scope → Place → Bool → Option (Step (Option ℕ)) → Step (Option ℕ)
with_sign_row m s place signed None = refused N10 place
with_sign_row m s place signed (Some bound) = bound >>= with_sign_pushed m s place signed

-- `$time` has no argument. (17.7.1)
abbrev pub time_name : List ℕ
time_name = codes "$time"

abbrev pub time_pushed : Scope → Place → Exprs → Step (Option ℕ)
time_pushed s place no_expr = pushed mode.Value s place (kind.Time s.unit)
time_pushed s place (one_expr e es) = refused N10 place

-- Any other system call is no constant; a name that is none of these is unknown. (4.10)
abbrev pub other_system : Mode → Scope → Id → Exprs → Step (Option ℕ)
other_system mode.Constant s id es = refused N4 id.place
other_system mode.Value s id es =
    if bytes_eq id.name time_name then time_pushed s id.place es else refused N10 id.place

abbrev pub system_row : Mode → Scope → Id → Exprs → Option Bool → Option (Step (Option ℕ)) → Step (Option ℕ)
system_row m s id es None argument = other_system m s id es
system_row m s id es (Some signed) argument = with_sign_row m s id.place signed argument

-- A value that has a name, or the parameter that has none yet; a path is no constant. (4.10)
abbrev pub bounded : Place → Named → Outcome (Option Bounded)
bounded place (it.Known r v) = Ok (Some (r, v))
bounded place it.Unknown = Ok None
bounded place (it.Wrong fault) = Err (fault, place)

abbrev pub name_value : Scope → NameTree → Outcome (Option Bounded)
name_value s (name id no_index no_step) = bounded id.place (scopes.named s id.name)
name_value s (name id no_index (one_step i x more)) = Err (N4, id.place)
name_value s (name id (index e) more) = Err (N4, id.place)

-- What is wrong with a call; that of a path is no constant, whatever it leads to. (4.10 and 10.4.3)
abbrev pub call_fault : Scope → NameTree → DesignFault
call_fault s (name id no_index no_step) = scopes.alone_called s id.name
call_fault s (name id no_index (one_step i x more)) = N4
call_fault s (name id (index e) more) = N4

-- What is written of such a value.
abbrev pub literal : Mode → Scope → Place → Option Vector → Step (Option ℕ)
literal m s place v = needing v (λ n. pushed m s place (kind.Literal n))

-- What is made of parts where none is passed over: a concatenation,
abbrev pub concat_pushed : Mode → Scope → Place → Option (List ℕ) → Step (Option ℕ)
concat_pushed m s place ids = needing ids (joined m s place)

-- So many times one, (5.1.14)
abbrev pub times_pushed : Mode → Scope → Place → Option ℕ → Option ℕ → Step (Option ℕ)
times_pushed m s place count part = needing count (λ n. needing part (repeated m s place n))

-- A unary operator, (5.1)
abbrev pub unary_pushed : Mode → Scope → Place → Unary → Option ℕ → Step (Option ℕ)
unary_pushed m s place op a = needing a (λ part. pushed m s place (kind.Unary (unary_of op) part))

-- A part behind what stands before it.
abbrev pub prefixed : Mode → Scope → Place → Prefix → Option ℕ → Step (Option ℕ)
prefixed m s place (prefix.WithSign signed) = with_sign_pushed m s place signed
prefixed m s place (prefix.UnaryOperator op) = unary_pushed m s place op

-- A chain of operators, (5.1.2)
abbrev pub chain_pushed : Mode → Scope → Place → List Operator → Option ℕ → Option (List ℕ) → Step (Option ℕ)
chain_pushed m s place ops a bs = needing a (λ e. needing bs (chained m s place ops e))

-- One of two expressions by a test, (5.1.13)
abbrev pub choice_pushed : Mode → Scope → Place → Option ℕ → Option ℕ → Option ℕ → Step (Option ℕ)
choice_pushed m s place x y z =
    needing x (λ test. needing y (λ yes. needing z (λ no. pushed m s place (kind.Choice test yes no))))

-- Digits of an object or of a word, (5.2)
abbrev pub selected_pushed : Scope → Place → Option Chosen → Option Select → Step (Option ℕ)
selected_pushed s place c x =
    needing c (λ y. needing x (λ z. pushed mode.Value s place (kind.Selected (record { of = y; select = z }))))

-- And the call of a function: the begin of one with outputs has what is given to it, and its end has what is assigned
-- as well; of one without, both are the same. (10.4.3)
abbrev pub call_pushed : Scope → Place → Function → Option (List ℕ) → Step (Option ℕ)
call_pushed s place f ids = needing ids (λ es. pushed mode.Value s place (kind.Call f.id f.result es))

abbrev pub begun : Scope → Place → Function → Option (List ℕ) → Step (Option (List ℕ))
begun s place f ids = call_pushed s place f ids >>= (λ begin. pure ids)

abbrev pub with_numbers : Option (List ℕ) → Option (List ℕ) → Option (List ℕ)
with_numbers None js = None
with_numbers (Some es) None = None
with_numbers (Some es) (Some js) = Some (es ++ js)

-- An argument that counts, behind others.
abbrev pub argument_row : Bool → Option (List ℕ) → Step (Option ℕ) → Step (Option (List ℕ))
argument_row false ids argument = pure ids
argument_row true ids argument = argument >>= (λ a. pure (with_number ids a))

abbrev pub call_row : Scope → Place → Function → Bool → Step (Option (List ℕ)) → Step (Option (List ℕ)) → Step (Option ℕ)
call_row s place f false given taken = given >>= call_pushed s place f
call_row s place f true given taken =
    beside given taken >>= begun s place f >>= (λ ids. taken >>= (λ js. call_pushed s place f (with_numbers ids js)))

-- Which has as many arguments as it declares. (10.4.3)
abbrev pub count_of : Exprs → ℕ
count_of no_expr = 0
count_of (one_expr e es) = suc (count_of es)

abbrev pub called : Scope → Place → ℕ → Option Function → Outcome (Option Function)
called s place count None = Err (N1, place)
called s place count (Some f) = if count == length (directions_of s f.id) then Ok (Some f) else Err (N7, place)

abbrev pub function_called : Scope → Place → ℕ → Outcome (Option Meaning) → Outcome (Option Function)
function_called s place count meaning =
    with_ok meaning (λ m. with_some m (λ x. called s place count (function_meant s x)))

-- A whole object.
abbrev pub whole_of : ℕ → Option Chosen
whole_of o = Some (record { object = o; word = None })

-- The digits of a genvar. (12.4.1)
abbrev pub genvar_bounded : Vector → Option Bounded
genvar_bounded v = Some (record { left = 31; right = 0 }, v)

-- By what the expression is bound for.
abbrev pub by_mode : {A : Type 0} → Mode → A → A → A
by_mode mode.Constant constant value = constant
by_mode mode.Value constant value = value

-- What is read under a name, a row for each kind.
abbrev pub read_row : Place → (Vector → Step (Option ℕ)) → (ℕ → Range → Vector → Step (Option ℕ))
    → (ℕ → Range → Step (Option ℕ)) → (ℕ → Range → Step (Option ℕ)) → Readable → Step (Option ℕ)
read_row place genvar parameter vector memory read.Wrong = refused N1 place
read_row place genvar parameter vector memory read.Unknown = pure None
read_row place genvar parameter vector memory (read.Genvar v) = genvar v
read_row place genvar parameter vector memory (read.Parameter o r v) = parameter o r v
read_row place genvar parameter vector memory (read.Vector o r) = vector o r
read_row place genvar parameter vector memory (read.Memory o r) = memory o r

-- The same where it is assigned to: a net and a parameter can't be. (9.2)
abbrev pub target_row : Scope → Place → (ℕ → Range → Step (Option ℕ)) → (ℕ → Range → Step (Option ℕ)) → Readable → Step (Option ℕ)
target_row s place vector memory read.Wrong = refused N1 place
target_row s place vector memory read.Unknown = pure None
target_row s place vector memory (read.Genvar v) = refused N1 place
target_row s place vector memory (read.Parameter o r v) = refused N5 place
target_row s place vector memory (read.Vector o r) = if has_kind is_variable s.objects o then vector o r else refused N5 place
target_row s place vector memory (read.Memory o r) = memory o r

-- A whole parameter stands for its value, digits of it are read. (4.10)
abbrev pub parameter_row : Scope → Place → SelTree → Vector → Step (Option ℕ) → Step (Option ℕ)
parameter_row s place no_sel v digits = literal mode.Value s place (Some v)
parameter_row s place (index_sel bracket i) v digits = digits
parameter_row s place (both_sel bracket i last part) v digits = digits
parameter_row s place (part_sel bracket part) v digits = digits

-- A name alone, or a path.
abbrev pub by_length : {A : Type 0} → IndexTree → Steps → A → A → A
by_length no_index no_step alone path = alone
by_length no_index (one_step id i more) alone path = path
by_length (index e) more alone path = path

-- The first part of a path. (12.5)
abbrev pub first_of : Scope → Id → Option Declaration
first_of s id = first_found s.names s.around s.top s.top_name id.name

-- The name of what is read, and of what is meant.
abbrev pub path_outcome : Scope → Outcome (Option Meaning) → Outcome Readable
path_outcome s path = with_ok path (λ m. Ok (path_read s m))

abbrev mutual
  -- The nodes of an expression. (A.8.3 and A.8.4)
  pub bound : Mode → Scope → ExprTree → Step (Option ℕ)
  bound m s (expr place form) = form_bound m s place form

  -- A row for each form.
  pub form_bound : Mode → Scope → Place → ExprFormTree → Step (Option ℕ)
  form_bound m s place (number n) = pushed m s place (kind.Literal n.value)
  form_bound m s place (text bytes) = text_pushed m s place bytes
  form_bound m s place (named n sel) =
      by_mode m (lifted (with_ok (name_value s n) (λ v. sel_value s place v sel)) >>= literal mode.Constant s place)
      (lifted (name_read s n) >>= read_row place
      (λ v. lifted (sel_value s place (genvar_bounded v) sel) >>= literal mode.Value s place)
      (λ o r v. parameter_row s place sel v (vector_bound s place o r sel))
      (λ o r. vector_bound s place o r sel)
      (λ o r. memory_bound s place o r sel))
  form_bound m s place (call n es) =
      by_mode m (refused (call_fault s n) place)
      (lifted (function_called s place (count_of es) (name_meant s true n)) >>= (λ f.
      needing f (λ g. call_row s place g (list_any is_taken (directions_of s g.id))
      (given_bound s (directions_of s g.id) 0 (Some []) es) (taken_bound s (directions_of s g.id) 0 (Some []) es))))
  form_bound m s place (system id es) = system_row m s id es (given_sign id.name) (sole_bound m s es)
  form_bound m s place (paren e) = bound m s e
  form_bound m s place (concat es) = entries_bound m s (Some []) es >>= concat_pushed m s place
  form_bound m s place (repeat e es) =
      lifted (with_ok (value_by 0 (bound mode.Constant s e)) (number_in place 1 (2 ^ 64 - 1))) >>= (λ count.
      entries_bound m s (Some []) es >>= concat_pushed m s place >>= times_pushed m s place count)
  form_bound m s place (unary op e) = bound m s e >>= unary_pushed m s place op
  form_bound m s place (chain e ls) =
      bound m s e >>= (λ a. links_bound m s (Some []) ls >>= chain_pushed m s place (operators ls) a)
  form_bound m s place (choice t a b) =
      bound m s t >>= (λ x. bound m s a >>= (λ y. bound m s b >>= choice_pushed m s place x y))

  -- The one expression of a list.
  pub sole_bound : Mode → Scope → Exprs → Option (Step (Option ℕ))
  sole_bound m s no_expr = None
  sole_bound m s (one_expr e no_expr) = Some (bound m s e)
  sole_bound m s (one_expr e (one_expr f more)) = None

  -- The entries of a concatenation, from the left.
  pub entries_bound : Mode → Scope → Option (List ℕ) → Exprs → Step (Option (List ℕ))
  entries_bound m s ids no_expr = pure ids
  entries_bound m s ids (one_expr e es) =
      entry e (bound m s e) >>= (λ a. entries_bound m s (with_number ids a) es)

  -- The operands of a chain behind the first, from the left.
  pub links_bound : Mode → Scope → Option (List ℕ) → Links → Step (Option (List ℕ))
  links_bound m s ids no_link = pure ids
  links_bound m s ids (one_link op e ls) = bound m s e >>= (λ a. links_bound m s (with_number ids a) ls)

  -- The arguments that are given a value, in their order, from the one of this number on,
  pub given_bound : Scope → List TaskDirection → ℕ → Option (List ℕ) → Exprs → Step (Option (List ℕ))
  given_bound s ds k ids no_expr = pure ids
  given_bound s ds k ids (one_expr e es) =
      argument_row (goes_so is_given ds k) ids (bound mode.Value s e) >>= (λ js. given_bound s ds (k + 1) js es)

  -- and those that are assigned to, each as a concatenation of variables. (10.2.2)
  pub taken_bound : Scope → List TaskDirection → ℕ → Option (List ℕ) → Exprs → Step (Option (List ℕ))
  taken_bound s ds k ids no_expr = pure ids
  taken_bound s ds k ids (one_expr e es) =
      argument_row (goes_so is_taken ds k) ids
      (target_pieces s [] e >>= concat_pushed mode.Value s (place_of e)) >>= (λ js. taken_bound s ds (k + 1) js es)

  -- The variables of an output, from the left: nothing but these and their concatenations takes an assignment. (10.2.2)
  pub target_pieces : Scope → List ℕ → ExprTree → Step (Option (List ℕ))
  target_pieces s ids (expr place form) = target_form s place ids form

  pub target_form : Scope → Place → List ℕ → ExprFormTree → Step (Option (List ℕ))
  target_form s place ids (number n) = refused N5 place
  target_form s place ids (text bytes) = refused N5 place
  target_form s place ids (named n sel) =
      lifted (name_read s n) >>= target_row s place (λ o r. vector_bound s place o r sel) (λ o r. memory_bound s place o r sel)
      >>= (λ a. pure (with_number (Some ids) a))
  target_form s place ids (call n es) = refused N5 place
  target_form s place ids (system id es) = refused N5 place
  target_form s place ids (paren e) = refused N5 place
  target_form s place ids (concat es) = targets_pieces s ids es
  target_form s place ids (repeat e es) = refused N5 place
  target_form s place ids (unary op e) = refused N5 place
  target_form s place ids (chain e ls) = refused N5 place
  target_form s place ids (choice t a b) = refused N5 place

  pub targets_pieces : Scope → List ℕ → Exprs → Step (Option (List ℕ))
  targets_pieces s ids no_expr = pure (Some ids)
  targets_pieces s ids (one_expr e es) = target_pieces s ids e >>= (λ us. needing us (λ vs. targets_pieces s vs es))

  -- What a constant select names of a value: a second bracket stands at a memory alone. (5.2)
  pub sel_value : Scope → Place → Option Bounded → SelTree → Outcome (Option Vector)
  sel_value s place v no_sel = with_some v (λ b. Ok (Some b.1))
  sel_value s place v (index_sel bracket i) = with_ok (value_by 0 (bound mode.Constant s i)) (bit_of v)
  sel_value s place v (both_sel bracket i last part) = Err (N1, place)
  sel_value s place v (part_sel bracket part) = part_value s bracket v part

  pub part_value : Scope → Place → Option Bounded → PartTree → Outcome (Option Vector)
  part_value s bracket v (at i) = with_ok (value_by 0 (bound mode.Constant s i)) (bit_of v)
  part_value s bracket v (range l r) =
      with_ok (value_by 0 (bound mode.Constant s l)) (λ left.
      with_ok (value_by 0 (bound mode.Constant s r)) (part_of bracket v left))
  part_value s bracket v (up base width) =
      with_ok (value_by 0 (bound mode.Constant s base)) (λ b.
      with_ok (value_by 0 (bound mode.Constant s width)) (indexed_of bracket true v b))
  part_value s bracket v (down base width) =
      with_ok (value_by 0 (bound mode.Constant s base)) (λ b.
      with_ok (value_by 0 (bound mode.Constant s width)) (indexed_of bracket false v b))

  -- A net or a variable, or digits of one. (5.2.1)
  pub vector_bound : Scope → Place → ℕ → Range → SelTree → Step (Option ℕ)
  vector_bound s place o r no_sel = selected_pushed s place (whole_of o) (Some select.Whole)
  vector_bound s place o r (index_sel bracket i) =
      bound mode.Value s i >>= (λ a. selected_pushed s place (whole_of o) (bit_select r a))
  vector_bound s place o r (both_sel bracket i last part) = refused N1 place
  vector_bound s place o r (part_sel bracket part) = part_bound s bracket r part >>= selected_pushed s place (whole_of o)

  -- A memory is read word by word. (5.2.2)
  pub memory_bound : Scope → Place → ℕ → Range → SelTree → Step (Option ℕ)
  memory_bound s place o r no_sel = refused N1 place
  memory_bound s place o r (index_sel bracket i) =
      bound mode.Value s i >>= (λ a. selected_pushed s place (word_of o a) (Some select.Whole))
  memory_bound s place o r (both_sel bracket i last part) =
      bound mode.Value s i >>= (λ a. part_bound s last r part >>= selected_pushed s place (word_of o a))
  memory_bound s place o r (part_sel bracket part) = refused N1 place

  -- Which digits, of those that are declared so: the bounds and the width are constants. (5.2.1)
  pub part_bound : Scope → Place → Range → PartTree → Step (Option Select)
  part_bound s bracket r (at i) = bound mode.Value s i >>= (λ a. pure (bit_select r a))
  part_bound s bracket r (range left right) =
      lifted (with_ok (value_by 0 (bound mode.Constant s left)) (λ a.
      with_ok (value_by 0 (bound mode.Constant s right)) (part_select bracket r a)))
  part_bound s bracket r (up base width) =
      bound mode.Value s base >>= (λ a.
      lifted (with_ok (value_by 0 (bound mode.Constant s width)) (number_in bracket 1 MAX_WIDTH)) >>= (λ n.
      pure (indexed_select true r a n)))
  part_bound s bracket r (down base width) =
      bound mode.Value s base >>= (λ a.
      lifted (with_ok (value_by 0 (bound mode.Constant s width)) (number_in bracket 1 MAX_WIDTH)) >>= (λ n.
      pure (indexed_select false r a n)))

  -- What a name or a path stands for where a value is wanted.
  pub name_read : Scope → NameTree → Outcome Readable
  name_read s (name id i more) =
      by_length i more (Ok (alone_read s id.name))
      (path_outcome s (with_ok (part_meant s id.place (first_of s id) id.name i) (λ m. steps_meant s id.place m more)))

  -- What a name or a path stands for; none where an index needs a parameter that has no value; or the first fault.
  pub name_meant : Scope → Bool → NameTree → Outcome (Option Meaning)
  name_meant s is_call (name id i more) =
      by_length i more (alone_meant s is_call id)
      (with_ok (part_meant s id.place (first_of s id) id.name i) (λ m. steps_meant s id.place m more))

  -- The further parts of a path, each in the one before it. (12.5)
  pub steps_meant : Scope → Place → Option Meaning → Steps → Outcome (Option Meaning)
  steps_meant s place before no_step = Ok before
  steps_meant s place before (one_step id i more) =
      with_some before (λ m.
      with_ok (part_meant s place (found_inside s.names m id.name) id.name i) (λ n.
      steps_meant s place n more))

  -- A part that is declared so, with the index behind it.
  pub part_meant : Scope → Place → Option Declaration → List ℕ → IndexTree → Outcome (Option Meaning)
  part_meant s place d word no_index = declared_meant place d
  part_meant s place d word (index e) = blocks_meant s place d word (value_by 0 (bound mode.Constant s e))

-- A path, from its first part on: every fault stands at its first name, but for those in its indexes. (12.5)
abbrev pub path_meant : Scope → Id → IndexTree → Steps → Outcome (Option Meaning)
path_meant s id i more =
    with_ok (part_meant s id.place (first_of s id) id.name i) (λ m. steps_meant s id.place m more)

-- The value of a constant expression, in its own width or a greater one; none where it needs a parameter that
-- has none; or the first fault.
abbrev pub constant : Scope → ℕ → ExprTree → Outcome (Option Vector)
constant s least e = value_by least (bound mode.Constant s e)
