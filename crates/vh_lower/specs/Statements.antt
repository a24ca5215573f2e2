-- What each statement is lowered to, a row for each. Faults are found in the order of the text. (IEEE 1364-2005,
-- clause 9; the instructions are own)
use Rattle.std.specs.Prelude.{ℕ, List, [], ◌∷◌, ◌++◌, ◌==◌, ◌&&◌, length, Bool, true, false, if◌then◌else◌, Option, Some, None, Ok, Err, bytes_eq, codes}
use Rattle.std.specs.Option.{option_and_then}
use Rattle.vh_base.specs.declared.faults.DesignFault.{DesignFault}
use Rattle.vh_base.specs.declared.faults.DesignFault.TheVariants.{N1, N5, N7, N10}
use Rattle.vh_base.specs.declared.place.Place.{Place}
use Rattle.vh_design_nodes.specs.declared.expr.Selected.{Selected}
use Rattle.vh_design_nodes.specs.declared.object.Kind.{Kind}
use Rattle.vh_design_nodes.specs.declared.object.Kind.TheVariants as of
use Rattle.vh_design_nodes.specs.Kinds.{is_event, is_disable_target, is_named_block, is_forcible, is_variable, rank}
use Rattle.vh_design_nodes.specs.Fits.{has_kind}
use Rattle.vh_design_nodes.specs.Widths.{width_of, signed_of, widest, all_signed}
use Rattle.vh_design_code.specs.declared.operation.CaseKind.{CaseKind}
use Rattle.vh_design_code.specs.declared.operation.CaseKind.TheVariants as compares
use Rattle.vh_design_code.specs.declared.operation.Operation.{Operation}
use Rattle.vh_design_code.specs.declared.operation.Operation.TheVariants as op
use Rattle.vh_design_code.specs.declared.operation.Pause.TheVariants as pause
use Rattle.vh_design_code.specs.declared.operation.Single.{Single}
use Rattle.vh_design_code.specs.declared.operation.Single.TheVariants as single
use Rattle.vh_design_code.specs.declared.show.ShowArg.{ShowArg}
use Rattle.vh_design_code.specs.declared.show.ShowTask.{ShowTask}
use Rattle.vh_design_code.specs.declared.statement.StmtKind.{StmtKind}
use Rattle.vh_design_code.specs.declared.statement.StmtKind.TheVariants as a
use Rattle.vh_design_code.specs.declared.target.Delay.{Delay}
use Rattle.vh_design_code.specs.declared.target.Input.{Input}
use Rattle.vh_design_code.specs.declared.target.Output.{Output}
use Rattle.vh_design_code.specs.declared.code.Code.{Code}
use Rattle.vh_design_code.specs.declared.wait.Term.{Term}
use Rattle.vh_bind_scope.specs.declared.names.Meaning.{Meaning}
use Rattle.vh_bind_scope.specs.LookUp.{object_meant}
use Rattle.vh_bind_scope.specs.Names.{meaning_in}
use Rattle.vh_ast.specs.declared.routine.TaskDirection.{TaskDirection}
use Rattle.vh_ast.specs.declared.routine.TaskDirection.TheVariants as goes
use Rattle.vh_ast.specs.declared.stmt.AssignWord.{AssignWord}
use Rattle.vh_ast.specs.declared.stmt.AssignWord.TheVariants as assigns
use Rattle.vh_ast.specs.declared.stmt.BlockWord.{BlockWord}
use Rattle.vh_ast.specs.declared.stmt.BlockWord.TheVariants as blocks
use Rattle.vh_ast.specs.declared.stmt.CaseWord.{CaseWord}
use Rattle.vh_ast.specs.declared.stmt.CaseWord.TheVariants as word
use Rattle.vh_ast.specs.declared.stmt.ForceWord.{ForceWord}
use Rattle.vh_ast.specs.declared.stmt.ForceWord.TheVariants as forces
use Rattle.vh_ast.specs.declared.stmt.LoopWord.{LoopWord}
use Rattle.vh_ast.specs.declared.stmt.LoopWord.TheVariants as loops
use Rattle.vh_ast.specs.declared.stmt.ReleaseWord.{ReleaseWord}
use Rattle.vh_ast.specs.declared.stmt.ReleaseWord.TheVariants as releases
use Rattle.vh_ast.specs.declared.token.Id.{Id}
use Rattle.vh_ast.specs.Expressions.{ExprTree, NameTree, start_of, SelTree, no_sel, index_sel, both_sel, part_sel}
use Rattle.vh_ast.specs.Statements.{DelayTree, EventTree, any_event, named_event, listed_events, LvTree, LvPartTree, opened, target, closed, SetTree, SimpleTree, empty, assign, trigger, disable, force, release, task_call, system_call, MatchedTree, values, default, StmtTree, stmt, StmtFormTree, simple_stmt, delay_stmt, event_stmt, wait_stmt, if_stmt, case_stmt, for_stmt, loop_stmt, forever_stmt, block_stmt, ElseTree, no_else, else_stmt, Citems, no_citem, one_citem, Stmts, no_stmt, one_stmt}
use Rattle.vh_bind.specs.declared.readable.Readable.{Readable}
use Rattle.vh_bind.specs.declared.readable.Readable.TheVariants as read
use Rattle.vh_bind.specs.declared.scope.Mode.TheVariants as mode
use Rattle.vh_bind.specs.Steps.{Nodes}
use Rattle.vh_bind.specs.Selects.{Outcome, with_ok}
use Rattle.vh_bind.specs.Scopes.{Scope, here}
use Rattle.vh_bind.specs.Constants.{bound, name_meant, name_read}
use Rattle.vh_bind_stmt.specs.Calls.{Surroundings, arguments_of}
use Rattle.vh_bind_stmt.specs.declared.surroundings.Argument.{Argument}
use Rattle.vh_bind_stmt.specs.Delays.{delay_bound}
use Rattle.vh_bind_stmt.specs.Events.{name_terms, all_terms}
use Rattle.vh_bind_stmt.specs.Shows.{show_task, arguments_fit, arguments_bound, takes_number}
use Rattle.vh_bind_stmt.specs.Targets.{targets_bound, output_bound}
use Rattle.vh_lower_flow.specs.declared.code_kind.CodeKind.{CodeKind}
use Rattle.vh_lower_flow.specs.declared.flow.CaseHead.{CaseHead}
use Rattle.vh_lower_flow.specs.declared.flow.Gate.{Gate}
use Rattle.vh_lower_flow.specs.declared.flow.Origin.{Origin}
use Rattle.vh_lower_flow.specs.declared.flow.Gate.TheVariants as gate
use Rattle.vh_lower_flow.specs.Trees.{FlowTree, ItemTree, case_items, case_of, block, fork, flows, sized}
use Rattle.vh_lower_flow.specs.Laid.{code_of}
use Rattle.vh_lower.specs.declared.heads.ForHead.{ForHead}
use Rattle.vh_lower.specs.declared.heads.Timing.{Timing}
use Rattle.vh_lower.specs.declared.heads.Head.{Head}
use Rattle.vh_lower.specs.Instructions.{origin_of, instructions, in_row, nothing, further, from_first, gated, gated_further, again, is_empty, with_operation, delayed, behind_operations}
use Rattle.vh_lower.specs.Making.{Making, ◌>>=◌, pure, refused, looking, found, performed, numbered, with_wait, with_show, reading_from, exprs_so_far, scope_of}

-- A value, and the targets of an assignment, with the calls that they make behind others.
abbrev pub value_of : Surroundings → List Operation → ExprTree → Making (ℕ × List Operation)
value_of w before e = performed w before (bound mode.Value w.scope e)

abbrev pub targets_of : Surroundings → List Operation → LvTree → Making (List Selected × List Operation)
targets_of w before lv = performed w before (targets_bound w.scope lv)

abbrev pub delay_of : Surroundings → List Operation → DelayTree → Making (Delay × List Operation)
delay_of w before d = performed w before (delay_bound w.scope d)

abbrev pub output_of : Surroundings → List Operation → ExprTree → Making (List Selected × List Operation)
output_of w before e = performed w before (output_bound w.scope e)

-- An assignment without a delay, as a row of instructions.
abbrev pub set_parts : Surroundings → LvTree → ExprTree → Making (List Operation)
set_parts w lv value = targets_of w [] lv >>= (λ t. value_of w t.1 value >>= (λ v. pure (with_operation v.1 (op.Assign v.0 t.0))))

abbrev pub set_of : Surroundings → SetTree → Making (List Operation)
set_of w set = set_parts w set.target set.value

-- With one. (9.7.7)
abbrev pub delayed_parts : Surroundings → LvTree → DelayTree → ExprTree → Making (List Operation)
delayed_parts w lv d value =
    targets_of w [] lv >>= (λ t. delay_of w [] d >>= (λ x. value_of w x.1 value >>= (λ v.
    pure (delayed w.scope.objects v.1 t.1 v.0 x.0 t.0))))

-- A nonblocking one. (9.2.2)
abbrev pub schedule_at : List Selected → ℕ → Option Delay → Operation
schedule_at targets value delay = op.Schedule (record { targets = targets; value = value; delay = delay })

abbrev pub scheduled_parts : Surroundings → LvTree → ExprTree → Making (List Operation)
scheduled_parts w lv value =
    targets_of w [] lv >>= (λ t. value_of w t.1 value >>= (λ v. pure (with_operation v.1 (schedule_at t.0 v.0 None))))

abbrev pub scheduled_later : Surroundings → LvTree → DelayTree → ExprTree → Making (List Operation)
scheduled_later w lv d value =
    targets_of w [] lv >>= (λ t. delay_of w t.1 d >>= (λ x. value_of w x.1 value >>= (λ v.
    pure (with_operation v.1 (schedule_at t.0 v.0 (Some x.0))))))

-- An assignment, a row for each form. (9.2)
abbrev pub assign_operations : Surroundings → LvTree → AssignWord → Option DelayTree → ExprTree → Making (List Operation)
assign_operations w lv assigns.Blocking None value = set_parts w lv value
assign_operations w lv assigns.Blocking (Some d) value = delayed_parts w lv d value
assign_operations w lv assigns.Nonblocking None value = scheduled_parts w lv value
assign_operations w lv assigns.Nonblocking (Some d) value = scheduled_later w lv d value

-- The object that a name stands for, or else N1.
abbrev pub meant_object : Place → Option ℕ → Outcome (Option ℕ)
meant_object place None = Err (N1, place)
meant_object place (Some o) = Ok (Some o)

abbrev pub object_named : Place → Option Meaning → Outcome (Option ℕ)
object_named place None = Ok None
object_named place (Some m) = meant_object place (object_meant m)

abbrev pub named_object : Surroundings → Bool → NameTree → Making ℕ
named_object w is_call n =
    looking (λ ns. with_ok (name_meant (here w.scope ns) is_call n) (object_named (start_of n)))

abbrev pub tested : Surroundings → DesignFault → Place → (Kind → Bool) → ℕ → Making ℕ
tested w fault place test o = if has_kind test w.scope.objects o then pure o else refused fault place

abbrev pub object_of : Surroundings → NameTree → (Kind → Bool) → Making ℕ
object_of w n test = named_object w false n >>= tested w N1 (start_of n) test

-- What a `force` or an `assign` names: a whole object that takes it. (9.3)
abbrev pub is_whole : SelTree → Bool
is_whole no_sel = true
is_whole (index_sel bracket i) = false
is_whole (both_sel bracket i last part) = false
is_whole (part_sel bracket part) = false

abbrev pub whole_row : Place → SelTree → Readable → Outcome (Option ℕ)
whole_row place sel read.Wrong = Err (N1, place)
whole_row place sel read.Unknown = Ok None
whole_row place sel (read.Genvar v) = Err (N1, place)
whole_row place sel (read.Parameter o r v) = Err (N5, place)
whole_row place sel (read.Vector o r) = if is_whole sel then Ok (Some o) else Err (N5, place)
whole_row place sel (read.Memory o r) = Err (N5, place)

-- A concatenation isn't whole. (own)
abbrev pub whole_parts : Scope → Place → List LvPartTree → Outcome (Option ℕ)
whole_parts s place [] = Err (N5, place)
whole_parts s place (opened ∷ more) = Err (N5, place)
whole_parts s place (closed ∷ more) = Err (N5, place)
whole_parts s place (target n sel ∷ more) = with_ok (name_read s n) (whole_row place sel)

abbrev pub whole_named : Scope → LvTree → Outcome (Option ℕ)
whole_named s lv = whole_parts s lv.place lv.parts

abbrev pub whole_looked : Surroundings → LvTree → Making ℕ
whole_looked w lv = looking (λ ns. whole_named (here w.scope ns) lv)

abbrev pub whole_object : Surroundings → LvTree → (Kind → Bool) → Making ℕ
whole_object w lv test = whole_looked w lv >>= tested w N5 lv.place test

abbrev pub force_kinds : ForceWord → Kind → Bool
force_kinds forces.Force = is_forcible
force_kinds forces.Assign = is_variable

abbrev pub release_kinds : ReleaseWord → Kind → Bool
release_kinds releases.Release = is_forcible
release_kinds releases.Deassign = is_variable

abbrev pub force_single : ForceWord → ℕ → ℕ → Single
force_single forces.Force o value = single.Force o value
force_single forces.Assign o value = single.Procedural o value

abbrev pub release_single : ReleaseWord → ℕ → Single
release_single releases.Release o = single.Release o
release_single releases.Deassign o = single.Deassign o

abbrev pub force_stmt : ForceWord → StmtKind
force_stmt forces.Force = a.Force
force_stmt forces.Assign = a.AssignStmt

abbrev pub release_stmt : ReleaseWord → StmtKind
release_stmt releases.Release = a.Release
release_stmt releases.Deassign = a.Deassign

-- A task that is called with so many arguments. (10.2.2)
abbrev pub is_task : Kind → Bool
is_task k = rank k == rank of.Task

abbrev pub task_counted : Surroundings → Place → ℕ → ℕ → Making ℕ
task_counted w place count o = if count == length (arguments_of w o) then pure o else refused N7 place

abbrev pub task_of : Surroundings → NameTree → ℕ → Making ℕ
task_of w n count =
    named_object w true n >>= tested w N1 (start_of n) is_task >>= task_counted w (start_of n) count

-- The call of a task so far: the instructions before its begin and before its end, and what these write.
pub record Calling : Type 0 where
  pub before : List Operation
  pub behind : List Operation
  pub inputs : List Input
  pub outputs : List Output

abbrev pub with_input : Surroundings → Calling → ℕ → ExprTree → Making Calling
with_input w c variable e =
    value_of w c.before e >>= (λ v. pure (record c {
      before = v.1;
      inputs = c.inputs ++ record { variable = variable; value = v.0 } ∷ [];
    }))

abbrev pub with_output : Surroundings → Calling → ℕ → ExprTree → Making Calling
with_output w c variable e =
    output_of w c.behind e >>= (λ t. pure (record c {
      behind = t.1;
      outputs = c.outputs ++ record { targets = t.0; variable = variable } ∷ [];
    }))

-- An argument, a row for each direction.
abbrev pub with_argument : Surroundings → Calling → TaskDirection → ℕ → ExprTree → Making Calling
with_argument w c goes.Input variable e = with_input w c variable e
with_argument w c goes.Output variable e = with_output w c variable e
with_argument w c goes.Inout variable e = with_input w c variable e >>= (λ d. with_output w d variable e)

abbrev pub with_arguments : Surroundings → Calling → List Argument → List ExprTree → Making Calling
with_arguments w c [] es = pure c
with_arguments w c (b ∷ bs) [] = pure c
with_arguments w c (b ∷ bs) (e ∷ es) =
    with_argument w c b.direction b.variable e >>= (λ d. with_arguments w d bs es)

abbrev pub no_call : Calling
no_call = record { before = []; behind = []; inputs = []; outputs = [] }

-- Its instructions: its begin, which writes the inputs, and its end, which writes the outputs. (10.2.2)
abbrev pub call_operations : ℕ → Calling → List Operation
call_operations task c =
    with_operation (with_operation c.before (op.Enter task c.inputs) ++ c.behind)
    (op.Leave (record { outputs = c.outputs; result = None }))

abbrev pub task_operations : Surroundings → NameTree → List ExprTree → Making (List Operation)
task_operations w n es =
    task_of w n (length es) >>= (λ t. with_arguments w no_call (arguments_of w t) es >>= (λ c. pure (call_operations t c)))

-- A system task: a display call, `$finish` or `$stop`; those of applications come with their table. (17.1 and 17.4)
abbrev pub one_single : Single → Making (List Operation)
one_single s = pure (op.Single s ∷ [])

abbrev pub arguments_of_show : Surroundings → List Operation → List (Option ExprTree) → Making (List ShowArg × List Operation)
arguments_of_show w before es = performed w before (arguments_bound w.scope 0 [] es)

abbrev pub show_operations : Surroundings → Place → List (Option ExprTree) → ShowTask → Making (List Operation)
show_operations w place es task =
    if arguments_fit 0 es then
    arguments_of_show w [] es >>= (λ v.
    with_show (record { task = task; scope = scope_of w; unit = w.scope.unit; args = v.0 }) >>= (λ s.
    pure (with_operation v.1 (op.Single (single.Show s)))))
    else refused N10 place

abbrev pub ending_operations : Place → List (Option ExprTree) → Single → Making (List Operation)
ending_operations place es s = if takes_number es then one_single s else refused N10 place

abbrev pub other_operations : Id → List (Option ExprTree) → Making (List Operation)
other_operations id es =
    if bytes_eq id.name (codes "$finish") then ending_operations id.place es single.Finish
    else (if bytes_eq id.name (codes "$stop") then ending_operations id.place es single.Stop else refused N10 id.place)

abbrev pub system_operations : Surroundings → Id → List (Option ExprTree) → Option ShowTask → Making (List Operation)
system_operations w id es None = other_operations id es
system_operations w id es (Some task) = show_operations w id.place es task

-- `->`, `disable`, and the statements of clause 9.3.
abbrev pub trigger_operations : Surroundings → NameTree → Making (List Operation)
trigger_operations w n = object_of w n is_event >>= (λ o. one_single (single.Trigger o))

abbrev pub disable_operations : Surroundings → NameTree → Making (List Operation)
disable_operations w n = object_of w n is_disable_target >>= (λ o. one_single (single.Disable o))

abbrev pub force_operations : Surroundings → ForceWord → SetTree → Making (List Operation)
force_operations w word set =
    whole_object w set.target (force_kinds word) >>= (λ o.
    value_of w [] set.value >>= (λ v. pure (with_operation v.1 (op.Single (force_single word o v.0)))))

abbrev pub release_operations : Surroundings → ReleaseWord → LvTree → Making (List Operation)
release_operations w word lv = whole_object w lv (release_kinds word) >>= (λ o. one_single (release_single word o))

-- The null statement has no row.
abbrev pub is_null : SimpleTree → Bool
is_null empty = true
is_null (assign lv word delay value) = false
is_null (trigger n) = false
is_null (disable n) = false
is_null (force word set) = false
is_null (release word lv) = false
is_null (task_call n es) = false
is_null (system_call id es) = false

-- A statement in which none stands: what it is, and its instructions, a row for each.
abbrev pub simple_kind : SimpleTree → StmtKind
simple_kind empty = a.Assignment
simple_kind (assign lv word delay value) = a.Assignment
simple_kind (trigger n) = a.EventStmt
simple_kind (disable n) = a.Disable
simple_kind (force word set) = force_stmt word
simple_kind (release word lv) = release_stmt word
simple_kind (task_call n es) = a.TaskCall
simple_kind (system_call id es) = a.SysTaskCall

abbrev pub simple_operations : Surroundings → SimpleTree → Making (List Operation)
simple_operations w empty = pure []
simple_operations w (assign lv word delay value) = assign_operations w lv word delay value
simple_operations w (trigger n) = trigger_operations w n
simple_operations w (disable n) = disable_operations w n
simple_operations w (force word set) = force_operations w word set
simple_operations w (release word lv) = release_operations w word lv
simple_operations w (task_call n es) = task_operations w n es
simple_operations w (system_call id es) = system_operations w id es (show_task id.name)

abbrev pub numbered_instructions : Surroundings → Place → SimpleTree → Making FlowTree
numbered_instructions w place s =
    numbered (simple_kind s) w place >>= (λ n. simple_operations w s >>= (λ os. pure (instructions n os)))

abbrev pub simple_flow : Surroundings → Place → SimpleTree → Making FlowTree
simple_flow w place s = if is_null s then pure nothing else numbered_instructions w place s

-- A block's own scope, which stands in the one around it. (9.8.3)
abbrev pub inside : Surroundings → ℕ → Surroundings
inside w o = record w { scope = record w.scope { around = o ∷ w.scope.around } }

abbrev pub block_of : Surroundings → Id → Outcome (Option ℕ)
block_of w id =
    meant_object id.place (option_and_then object_meant (meaning_in w.scope.names (scope_of w) id.name))

-- The kinds of a `case`, and of an `if`.
abbrev pub case_kind : CaseWord → CaseKind
case_kind word.Case = compares.Plain
case_kind word.Casez = compares.Z
case_kind word.Casex = compares.X

abbrev pub if_kind : ElseTree → StmtKind
if_kind no_else = a.If
if_kind (else_stmt s) = a.IfElse

-- A `case` so far: the calls that its test makes, all values, its statements, and what is done where no value
-- fits, of which the first counts. (9.5)
pub record Cases : Type 0 where
  pub calls : List Operation
  pub matched : List ℕ
  pub items : List ItemTree
  pub default : List FlowTree

abbrev pub case_head : CaseWord → ℕ → List ℕ → Nodes → CaseHead
case_head word subject es ns = record {
  kind = case_kind word;
  subject = subject;
  width = widest ns (width_of ns subject) es;
  signed = signed_of ns subject && all_signed ns es;
}

abbrev pub or_nothing : List FlowTree → FlowTree
or_nothing [] = nothing
or_nothing (f ∷ more) = f

-- The values of one statement of it, from the left, behind calls.
abbrev pub values_of : Surroundings → List ℕ → List Operation → List ExprTree → Making (List ℕ × List Operation)
values_of w ids calls [] = pure (ids, calls)
values_of w ids calls (e ∷ es) = value_of w calls e >>= (λ v. values_of w (ids ++ v.0 ∷ []) v.1 es)

abbrev pub with_item : Cases → List ℕ → List Operation → FlowTree → Cases
with_item c ids calls body = record {
  calls = calls;
  matched = c.matched ++ ids;
  items = c.items ++ record { matched = ids; body = body } ∷ [];
  default = c.default;
}

abbrev pub with_default : Cases → FlowTree → Cases
with_default c body = record c { default = c.default ++ body ∷ [] }

abbrev pub no_cases : List Operation → Cases
no_cases calls = record { calls = calls; matched = []; items = []; default = [] }

abbrev pub case_with : CaseHead → Origin → List ItemTree → FlowTree → FlowTree
case_with h m items other = sized (case_of h m (case_items items) other)

abbrev pub case_tree : ℕ → CaseHead → Cases → FlowTree
case_tree n h c =
    in_row (from_first n c.calls ++ case_with h (origin_of n (is_empty c.calls)) c.items (or_nothing c.default) ∷ [])

abbrev pub case_flow : CaseWord → Head → Cases → Making FlowTree
case_flow word h c = λ ad. Ok (case_tree h.number (case_head word h.test c.matched ad.exprs) c, ad)

-- `while` and `repeat`, and what their gates need. (9.6)
abbrev pub loop_kind : LoopWord → StmtKind
loop_kind loops.While = a.While
loop_kind loops.Repeat = a.Repeat

abbrev pub while_flow : Head → FlowTree → FlowTree
while_flow h body =
    gated h.number h.calls (gate.Test h.test) (again h.number h.calls (gate.Test h.test) (body ∷ [])) nothing

abbrev pub repeat_flow : Head → FlowTree → FlowTree
repeat_flow h body = gated h.number h.calls (gate.Repeat h.test) (again h.number [] gate.Again (body ∷ [])) nothing

abbrev pub loop_flow : LoopWord → Head → FlowTree → FlowTree
loop_flow loops.While h body = while_flow h body
loop_flow loops.Repeat h body = repeat_flow h body

-- `for`: its start, then its test before each turn, and its step behind each. (9.6)
abbrev pub for_turns : ℕ → List Operation → Gate → List Operation → FlowTree → FlowTree
for_turns n calls g step body = again n calls g (body ∷ further n step)

abbrev pub for_flow : ForHead → FlowTree → FlowTree
for_flow h body =
    in_row (instructions h.number h.start
    ∷ gated_further h.number h.calls (gate.Test h.test)
    (for_turns h.number h.calls (gate.Test h.test) h.step body) nothing ∷ [])

abbrev pub forever_flow : ℕ → FlowTree → FlowTree
forever_flow n body = gated n [] gate.Turn (again n [] gate.Turn (body ∷ [])) nothing

-- A block of some statements, a row for each word. (9.8)
abbrev pub joined : BlockWord → ℕ → List FlowTree → FlowTree
joined blocks.Begin n fs = in_row fs
joined blocks.Fork n fs = sized (fork (origin_of n true) (flows fs))

abbrev pub named_block : Option ℕ → FlowTree → FlowTree
named_block None f = f
named_block (Some o) f = sized (block o f)

abbrev pub block_number : BlockWord → Surroundings → Place → Making ℕ
block_number blocks.Begin w place = pure 0
block_number blocks.Fork w place = numbered a.Fork w place

abbrev pub block_named : Surroundings → Id → Making ℕ
block_named w id = found (block_of w id) >>= tested w N1 id.place is_named_block

abbrev pub block_scope : Surroundings → Option Id → Making (Option ℕ)
block_scope w None = pure None
block_scope w (Some id) = block_named w id >>= (λ o. pure (Some o))

abbrev pub inside_of : Surroundings → Option ℕ → Surroundings
inside_of w None = w
inside_of w (Some o) = inside w o

-- A block with its statements, which stand in its own scope where it has a name. (9.8)
abbrev pub block_of_row : BlockWord → ℕ → Option ℕ → List FlowTree → FlowTree
block_of_row word n o fs = named_block o (joined word n fs)

abbrev pub block_flow : Surroundings → Place → BlockWord → Option Id → (Surroundings → Making (List FlowTree)) → Making FlowTree
block_flow w place word id all =
    block_number word w place >>= (λ n. block_scope w id >>= (λ o. all (inside_of w o) >>= (λ fs.
    pure (block_of_row word n o fs))))

-- What an event control other than `@*` waits for. (9.7.2 to 9.7.4)
abbrev pub listed_terms : Scope → EventTree → Outcome (Option (List Term))
listed_terms s any_event = Ok (Some [])
listed_terms s (named_event n) = name_terms s (start_of n) None n no_sel
listed_terms s (listed_events es) = all_terms s [] es

abbrev pub waited_terms : Surroundings → EventTree → Making (List Term)
waited_terms w e = looking (λ ns. listed_terms (here w.scope ns) e)

-- A statement's number, with the test of it and the calls that this makes; with the instructions that stand before the
-- statement in it; and what a `for` has before its body. (9.6)
abbrev pub headed : StmtKind → Surroundings → Place → ExprTree → Making Head
headed kind w place e =
    numbered kind w place >>= (λ n. value_of w [] e >>= (λ c.
    pure (record { number = n; calls = c.1; test = c.0 })))

abbrev pub timing_of : ℕ → List Operation → Timing
timing_of n os = record { number = n; instructions = os }

abbrev pub delay_timing : Surroundings → Place → DelayTree → Making Timing
delay_timing w place d =
    numbered a.DelayControl w place >>= (λ n. delay_of w [] d >>= (λ x.
    pure (timing_of n (with_operation x.1 (op.Pause (pause.Wait x.0))))))

abbrev pub wait_timing : Surroundings → Place → ExprTree → Making Timing
wait_timing w place e =
    exprs_so_far >>= (λ from. headed a.Wait w place e >>= (λ h. reading_from from >>= (λ t.
    pure (timing_of h.number (with_operation h.calls (op.Pause (pause.WaitFor h.test t)))))))

abbrev pub event_timing : Surroundings → Place → EventTree → Making Timing
event_timing w place e =
    numbered a.EventControl w place >>= (λ n. waited_terms w e >>= (λ ts. with_wait ts >>= (λ t.
    pure (timing_of n (op.Pause (pause.Await t) ∷ [])))))

abbrev pub for_head : Surroundings → Place → SetTree → ExprTree → SetTree → Making ForHead
for_head w place start e step =
    numbered a.For w place >>= (λ n. set_of w start >>= (λ s. value_of w [] e >>= (λ c. set_of w step >>= (λ t.
    pure (record { number = n; start = s; calls = c.1; test = c.0; step = t })))))

abbrev pub if_flow : Head → FlowTree → FlowTree → FlowTree
if_flow h holds fails = gated h.number h.calls (gate.Test h.test) holds fails

abbrev pub behind_timing : Timing → FlowTree → FlowTree
behind_timing p body = behind_operations p.number p.instructions body

-- `@*` waits for what its statement reads; event controls in it add nothing to this. (9.7.5)
abbrev pub any_flow : ℕ → ℕ → FlowTree → FlowTree
any_flow n t body = behind_operations n (op.Pause (pause.Await t) ∷ []) body

abbrev pub event_flow : Surroundings → Place → EventTree → Making FlowTree → Making FlowTree
event_flow w place any_event body =
    numbered a.EventControl w place >>= (λ n. exprs_so_far >>= (λ from. body >>= (λ f. reading_from from >>= (λ t.
    pure (any_flow n t f)))))
event_flow w place (named_event n) body =
    event_timing w place (named_event n) >>= (λ p. body >>= (λ f. pure (behind_timing p f)))
event_flow w place (listed_events es) body =
    event_timing w place (listed_events es) >>= (λ p. body >>= (λ f. pure (behind_timing p f)))

-- One statement of a `case` more, which is lowered so. (9.5)
abbrev pub item_with : Surroundings → Cases → MatchedTree → Making FlowTree → Making Cases
item_with w c (values es) body =
    values_of w [] c.calls es >>= (λ v. body >>= (λ f. pure (with_item c v.0 v.1 f)))
item_with w c default body = body >>= (λ f. pure (with_default c f))

abbrev mutual
  -- What a statement is lowered to. (9)
  pub stmt_flow : Surroundings → StmtTree → Making FlowTree
  stmt_flow w (stmt place form) = form_flow w place form

  -- A row for each form.
  pub form_flow : Surroundings → Place → StmtFormTree → Making FlowTree
  form_flow w place (simple_stmt s) = simple_flow w place s
  form_flow w place (delay_stmt d body) =
      delay_timing w place d >>= (λ p. stmt_flow w body >>= (λ f. pure (behind_timing p f)))
  form_flow w place (event_stmt e body) = event_flow w place e (stmt_flow w body)
  form_flow w place (wait_stmt e body) =
      wait_timing w place e >>= (λ p. stmt_flow w body >>= (λ f. pure (behind_timing p f)))
  form_flow w place (if_stmt e holds fails) =
      headed (if_kind fails) w place e >>= (λ h. stmt_flow w holds >>= (λ f. else_flow w fails >>= (λ g.
      pure (if_flow h f g))))
  form_flow w place (case_stmt word e items) =
      headed a.Case w place e >>= (λ h. items_flow w (no_cases h.calls) items >>= (λ c. case_flow word h c))
  form_flow w place (for_stmt start e step body) =
      for_head w place start e step >>= (λ h. stmt_flow w body >>= (λ f. pure (for_flow h f)))
  form_flow w place (loop_stmt word e body) =
      headed (loop_kind word) w place e >>= (λ h. stmt_flow w body >>= (λ f. pure (loop_flow word h f)))
  form_flow w place (forever_stmt body) =
      numbered a.Forever w place >>= (λ n. stmt_flow w body >>= (λ f. pure (forever_flow n f)))
  form_flow w place (block_stmt word id decls all) = block_flow w place word id (λ u. stmts_flow u [] all)

  -- The branch that stands behind an `else`.
  pub else_flow : Surroundings → ElseTree → Making FlowTree
  else_flow w no_else = pure nothing
  else_flow w (else_stmt s) = stmt_flow w s

  -- Statements in a row.
  pub stmts_flow : Surroundings → List FlowTree → Stmts → Making (List FlowTree)
  stmts_flow w before no_stmt = pure before
  stmts_flow w before (one_stmt s more) = stmt_flow w s >>= (λ f. stmts_flow w (before ++ f ∷ []) more)

  -- The statements of a `case`. (9.5)
  pub items_flow : Surroundings → Cases → Citems → Making Cases
  items_flow w c no_citem = pure c
  items_flow w c (one_citem place matched body more) =
      item_with w c matched (stmt_flow w body) >>= (λ d. items_flow w d more)

-- The code of a statement, by what it is of.
abbrev pub lowered : CodeKind → Surroundings → StmtTree → Making Code
lowered kind w s = stmt_flow w s >>= (λ f. pure (code_of kind f))
