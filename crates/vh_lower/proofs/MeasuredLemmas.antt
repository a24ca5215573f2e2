-- What a statement is lowered to counts its instructions, each of which goes on behind itself; so its code goes on at its own
-- places.
use Rattle.std.proofs.Common.{◌≡◌, ℕ, zero, suc, ◌+◌, ◌-◌, Bool, true, false, ◌&&◌, if◌then◌else◌, List, [], ◌∷◌, ◌++◌, length, Option, None, Some, Result, Ok, Err, refl}
use Rattle.std.specs.Bool.{⊤}
use Rattle.std.specs.List.{list_all}
use Rattle.vh_base.specs.declared.place.Place.{Place}
use Rattle.vh_design_nodes.specs.declared.expr.ExprKind.{ExprKind}
use Rattle.vh_design_nodes.specs.declared.expr.ExprKind.TheVariants as kind
use Rattle.vh_design_nodes.specs.declared.expr.ExprNode.{ExprNode}
use Rattle.std.specs.Prelude.{slice_get, IfOk, bytes_eq, codes}
use Rattle.vh_design_code.specs.declared.code.Code.{Code}
use Rattle.vh_design_code.specs.declared.operation.Operation.{Operation}
use Rattle.vh_design_code.specs.declared.operation.Operation.TheVariants as op
use Rattle.vh_design_code.specs.declared.operation.Pause.TheVariants as pause
use Rattle.vh_design_code.specs.declared.operation.Single.{Single}
use Rattle.vh_design_code.specs.declared.operation.Single.TheVariants as single
use Rattle.vh_design_code.specs.declared.show.ShowTask.{ShowTask}
use Rattle.vh_design_code.specs.declared.statement.StmtKind.{StmtKind}
use Rattle.vh_design_code.specs.declared.statement.StmtKind.TheVariants as of_kind
use Rattle.vh_design_code.specs.declared.target.Delay.{Delay}
use Rattle.vh_design_code.specs.Targets.{targets_width}
use Rattle.vh_ast.specs.declared.routine.TaskDirection.{TaskDirection}
use Rattle.vh_ast.specs.declared.routine.TaskDirection.TheVariants as goes
use Rattle.vh_ast.specs.declared.stmt.AssignWord.{AssignWord}
use Rattle.vh_ast.specs.declared.stmt.AssignWord.TheVariants as assigns
use Rattle.vh_ast.specs.declared.stmt.BlockWord.{BlockWord}
use Rattle.vh_ast.specs.declared.stmt.BlockWord.TheVariants as blocks
use Rattle.vh_ast.specs.declared.stmt.CaseWord.{CaseWord}
use Rattle.vh_ast.specs.declared.stmt.LoopWord.{LoopWord}
use Rattle.vh_ast.specs.declared.stmt.LoopWord.TheVariants as loops
use Rattle.vh_ast.specs.declared.token.Id.{Id}
use Rattle.vh_ast.specs.Expressions.{ExprTree, NameTree}
use Rattle.vh_ast.specs.Statements.{DelayTree, EventTree, any_event, named_event, listed_events, LvTree, SetTree, SimpleTree, empty, assign, trigger, disable, force, release, task_call, system_call, MatchedTree, values, default, StmtTree, stmt, StmtFormTree, simple_stmt, delay_stmt, event_stmt, wait_stmt, if_stmt, case_stmt, for_stmt, loop_stmt, forever_stmt, block_stmt, ElseTree, no_else, else_stmt, Citems, no_citem, one_citem, Stmts, no_stmt, one_stmt}
use Rattle.vh_bind.specs.declared.scope.Mode.TheVariants as mode
use Rattle.vh_bind.specs.Constants.{bound}
use Rattle.vh_bind.specs.Steps.{Fault, Nodes, Step}
use Rattle.vh_bind_stmt.specs.Delays.{delay_bound}
use Rattle.vh_bind_stmt.specs.Targets.{targets_bound, output_bound}
use Rattle.vh_bind_stmt.specs.declared.surroundings.Argument.{Argument}
use Rattle.vh_bind_stmt.specs.Calls.{Surroundings, arguments_of, begin_of, end_of, calls_in, calls_at, calls_of}
use Rattle.vh_bind_stmt.specs.Shows.{show_task, arguments_fit, arguments_bound, takes_number}
use Rattle.vh_design_nodes.specs.Kinds.{is_event, is_disable_target}
use Rattle.vh_lower_flow.specs.declared.code_kind.CodeKind.{CodeKind}
use Rattle.vh_lower_flow.specs.declared.code_kind.CodeKind.TheVariants as of
use Rattle.vh_lower_flow.specs.declared.flow.Gate.{Gate}
use Rattle.vh_lower_flow.specs.declared.flow.Gate.TheVariants as gate
use Rattle.vh_lower_flow.specs.Trees.{FlowTree, ItemTree, flows, case_items}
use Rattle.vh_lower_flow.specs.Positions.{is_closed, is_plain, IsMeasured, AllMeasured, ItemsMeasured}
use Rattle.vh_lower_flow.proofs.PositionsLemmas.{code-closed}
use Rattle.vh_lower.specs.declared.heads.ForHead.{ForHead}
use Rattle.vh_lower.specs.declared.heads.Timing.{Timing}
use Rattle.vh_lower.specs.declared.heads.Head.{Head}
use Rattle.vh_lower.specs.Instructions.{instruction, further, from_first, instructions, in_row, nothing, gated, gated_further, again, delayed, behind_operations}
use Rattle.vh_lower.specs.Instructions as rows
use Rattle.vh_lower.specs.declared.fault.LowerFault.{LowerFault}
use Rattle.vh_lower.specs.Making.{Added, Making, Makes, and_then, performed, called_in, calls_between, with_stmt}
use Rattle.vh_lower.specs.Statements.{Cases, Calling, value_of, targets_of, delay_of, output_of, set_parts, set_of, delayed_parts, scheduled_parts, scheduled_later, assign_operations, object_of, whole_object, task_of, force_kinds, release_kinds, with_input, with_output, with_argument, with_arguments, no_call, task_operations, arguments_of_show, show_operations, ending_operations, other_operations, system_operations, simple_kind, simple_operations, is_null, simple_flow, values_of, or_nothing, case_flow, while_flow, repeat_flow, loop_flow, for_flow, for_turns, joined, named_block, block_number, block_scope, block_flow, inside_of, headed, delay_timing, wait_timing, event_timing, waited_terms, for_head, behind_timing, event_flow, item_with, if_kind, loop_kind, no_cases, stmt_flow, form_flow, else_flow, stmts_flow, items_flow, lowered}
use Rattle.vh_lower.specs.Processes.{plain_instructions, plain_code, initial_operations, initial_code, drive_at, drive_behind, drive_operations, drive_code}

-- What holds of what a step gives.
abbrev Outcome : Type 0 → Type 0
Outcome A = Result (A × Added) (Option Fault)

abbrev pub Holds : {A : Type 0} → (A → Type 0) → Outcome A → Type 0
Holds P (Ok r) = P r.0
Holds P (Err e) = ⊤

abbrev Any : {A : Type 0} → A → Type 0
Any x = ⊤

any : {A : Type 0} (o : Outcome A) → Holds Any o
any (Ok r) = tt
any (Err e) = tt

next : {A B : Type 0} (P : A → Type 0) (Q : B → Type 0) (o : Outcome A) (f : A → Making B) → Holds P o
    → ((x : A) (a : Added) → P x → Holds Q (f x a)) → Holds Q (and_then o f)
next P Q (Ok r) f h k = k r.0 r.1 h
next P Q (Err e) f h k = tt

chosen : {A : Type 0} (P : A → Type 0) (b : Bool) (p q : Making A) (a : Added) → Holds P (p a) → Holds P (q a)
    → Holds P ((if b then p else q) a)
chosen P true p q a h k = h
chosen P false p q a h k = k

-- Of two things both, and one of both.
both : {a b : Bool} → a ≡ true → b ≡ true → (a && b) ≡ true
both p q = rw (p, q) refl

first-of : (a b : Bool) → (a && b) ≡ true → a ≡ true
first-of true b h = refl
first-of false b h = h

second-of : (a b : Bool) → (a && b) ≡ true → b ≡ true
second-of true b h = h
second-of false b h = cc

-- Matched that go on behind themselves.
abbrev Plain : List Operation → Type 0
Plain os = list_all is_plain os ≡ true

plain-both : (os ps : List Operation) → Plain os → Plain ps → Plain (os ++ ps)
plain-both [] ps h k = k
plain-both (o ∷ os) ps h k =
    both (first-of (is_plain o) (list_all is_plain os) h) (plain-both os ps (second-of (is_plain o) (list_all is_plain os) h) k)

plain-push : (os : List Operation) (o : Operation) → Plain os → is_plain o ≡ true → Plain (os ++ o ∷ [])
plain-push os o h k = plain-both os (o ∷ []) h (both k refl)

-- An instruction behind some, and one behind these and others.
two-plain : (before behind : List Operation) (first last : Operation) → Plain before → Plain behind → is_plain first ≡ true
    → is_plain last ≡ true → Plain (rows.with_operation (rows.with_operation before first ++ behind) last)
two-plain before behind first last h k l m =
    plain-push (rows.with_operation before first ++ behind) last (plain-both (rows.with_operation before first) behind (plain-push before first h l) k) m

-- The calls that expressions make: a begin, an end, or both.
one-plain : (b : Bool) (o : Operation) → is_plain o ≡ true → Plain (if b then o ∷ [] else [])
one-plain true o h = both h refl
one-plain false o h = refl

calls-in-plain : (w : Surroundings) (ns : Nodes) (e : ℕ) (k : ExprKind) → Plain (calls_in w ns e k)
calls-in-plain w ns e (kind.Literal v) = refl
calls-in-plain w ns e (kind.Selected s) = refl
calls-in-plain w ns e (kind.Unary o part) = refl
calls-in-plain w ns e (kind.Arithmetic first rest) = refl
calls-in-plain w ns e (kind.Shift first rest) = refl
calls-in-plain w ns e (kind.Comparison first rest) = refl
calls-in-plain w ns e (kind.Logic first rest) = refl
calls-in-plain w ns e (kind.Choice condition a b) = refl
calls-in-plain w ns e (kind.Join first rest) = refl
calls-in-plain w ns e (kind.Repeat count part) = refl
calls-in-plain w ns e (kind.WithSign part signed) = refl
calls-in-plain w ns e (kind.Time unit) = refl
calls-in-plain w ns e (kind.Call function result arguments) =
    let all = arguments_of w function in
    plain-both (begin_of function all arguments) (end_of ns all arguments (record { call = e; variable = result }))
    (one-plain _ _ refl) (one-plain _ _ refl)
calls-in-plain w ns e (kind.SysCall o) = refl

calls-at-plain : (w : Surroundings) (ns : Nodes) (e : ℕ) (n : Option ExprNode) → Plain (calls_at w ns e n)
calls-at-plain w ns e None = refl
calls-at-plain w ns e (Some n) = calls-in-plain w ns e n.kind

calls-plain : (w : Surroundings) (ns : Nodes) (k e : ℕ) → Plain (calls_of w ns k e)
unfolding calls_of
calls-plain w ns zero e = refl
calls-plain w ns (suc k) e =
    plain-both (calls_at w ns e (slice_get ns e)) (calls_of w ns k (e + 1)) (calls-at-plain w ns e (slice_get ns e)) (calls-plain w ns k (e + 1))

abbrev Behind : {A : Type 0} → A × List Operation → Type 0
Behind v = Plain v.1

called-plain : {A : Type 0} (w : Surroundings) (before : List Operation) (a : Added) (o : Result (Option A × Nodes) Fault) → Plain before
    → Holds Behind (called_in w before a o)
called-plain w before a (Err fault) h = tt
called-plain w before a (Ok (None, ns)) h = tt
called-plain w before a (Ok (Some x, ns)) h =
    plain-both before (calls_between w ns (length a.exprs)) h (calls-plain w ns (length ns - length a.exprs) (length a.exprs))

performed-plain : {A : Type 0} (w : Surroundings) (before : List Operation) (p : Step (Option A)) (a : Added) → Plain before
    → Holds Behind (performed w before p a)
performed-plain w before p a h = called-plain w before a (p a.exprs) h

value-plain : (w : Surroundings) (before : List Operation) (e : ExprTree) (a : Added) → Plain before → Holds Behind (value_of w before e a)
value-plain w before e a h = performed-plain w before (bound mode.Value w.scope e) a h

targets-plain : (w : Surroundings) (before : List Operation) (lv : LvTree) (a : Added) → Plain before → Holds Behind (targets_of w before lv a)
targets-plain w before lv a h = performed-plain w before (targets_bound w.scope lv) a h

delay-plain : (w : Surroundings) (before : List Operation) (d : DelayTree) (a : Added) → Plain before → Holds Behind (delay_of w before d a)
delay-plain w before d a h = performed-plain w before (delay_bound w.scope d) a h

output-plain : (w : Surroundings) (before : List Operation) (e : ExprTree) (a : Added) → Plain before → Holds Behind (output_of w before e a)
output-plain w before e a h = performed-plain w before (output_bound w.scope e) a h

-- Assignments.
set-plain : (w : Surroundings) (lv : LvTree) (value : ExprTree) (a : Added) → Holds Plain (set_parts w lv value a)
set-plain w lv value a =
    next Behind Plain (targets_of w [] lv a) _ (targets-plain w [] lv a refl) (λ t b ht.
    next Behind Plain (value_of w t.1 value b) _ (value-plain w t.1 value b ht) (λ v c hv. plain-push v.1 _ hv refl))

delayed-plain : (w : Surroundings) (lv : LvTree) (d : DelayTree) (value : ExprTree) (a : Added) → Holds Plain (delayed_parts w lv d value a)
delayed-plain w lv d value a =
    next Behind Plain (targets_of w [] lv a) _ (targets-plain w [] lv a refl) (λ t b ht.
    next Behind Plain (delay_of w [] d b) _ (delay-plain w [] d b refl) (λ x c hx.
    next Behind Plain (value_of w x.1 value c) _ (value-plain w x.1 value c hx) (λ v e hv.
    two-plain v.1 t.1 (op.Hold v.0 (targets_width w.scope.objects t.0) x.0) (op.Store t.0) hv ht refl refl)))

scheduled-plain : (w : Surroundings) (lv : LvTree) (value : ExprTree) (a : Added) → Holds Plain (scheduled_parts w lv value a)
scheduled-plain w lv value a =
    next Behind Plain (targets_of w [] lv a) _ (targets-plain w [] lv a refl) (λ t b ht.
    next Behind Plain (value_of w t.1 value b) _ (value-plain w t.1 value b ht) (λ v c hv. plain-push v.1 _ hv refl))

later-plain : (w : Surroundings) (lv : LvTree) (d : DelayTree) (value : ExprTree) (a : Added) → Holds Plain (scheduled_later w lv d value a)
later-plain w lv d value a =
    next Behind Plain (targets_of w [] lv a) _ (targets-plain w [] lv a refl) (λ t b ht.
    next Behind Plain (delay_of w t.1 d b) _ (delay-plain w t.1 d b ht) (λ x c hx.
    next Behind Plain (value_of w x.1 value c) _ (value-plain w x.1 value c hx) (λ v e hv. plain-push v.1 _ hv refl)))

assign-plain : (w : Surroundings) (lv : LvTree) (word : AssignWord) (d : Option DelayTree) (value : ExprTree) (a : Added)
    → Holds Plain (assign_operations w lv word d value a)
assign-plain w lv assigns.Blocking None value a = set-plain w lv value a
assign-plain w lv assigns.Blocking (Some d) value a = delayed-plain w lv d value a
assign-plain w lv assigns.Nonblocking None value a = scheduled-plain w lv value a
assign-plain w lv assigns.Nonblocking (Some d) value a = later-plain w lv d value a

-- Calls of tasks.
abbrev CallPlain : Calling → Type 0
CallPlain c = Plain c.before × Plain c.behind

input-plain : (w : Surroundings) (c : Calling) (variable : ℕ) (e : ExprTree) (a : Added) → CallPlain c
    → Holds CallPlain (with_input w c variable e a)
input-plain w c variable e a h =
    next Behind CallPlain (value_of w c.before e a) _ (value-plain w c.before e a h.0) (λ v b hv. (hv, h.1))

call-output-plain : (w : Surroundings) (c : Calling) (variable : ℕ) (e : ExprTree) (a : Added) → CallPlain c
    → Holds CallPlain (with_output w c variable e a)
call-output-plain w c variable e a h =
    next Behind CallPlain (output_of w c.behind e a) _ (output-plain w c.behind e a h.1) (λ t b ht. (h.0, ht))

argument-plain : (w : Surroundings) (c : Calling) (d : TaskDirection) (variable : ℕ) (e : ExprTree) (a : Added) → CallPlain c
    → Holds CallPlain (with_argument w c d variable e a)
argument-plain w c goes.Input variable e a h = input-plain w c variable e a h
argument-plain w c goes.Output variable e a h = call-output-plain w c variable e a h
argument-plain w c goes.Inout variable e a h =
    next CallPlain CallPlain (with_input w c variable e a) _ (input-plain w c variable e a h) (λ d b hd. call-output-plain w d variable e b hd)

arguments-plain : (w : Surroundings) (c : Calling) (bs : List Argument) (es : List ExprTree) (a : Added) → CallPlain c
    → Holds CallPlain (with_arguments w c bs es a)
arguments-plain w c [] es a h = h
arguments-plain w c (b ∷ bs) [] a h = h
arguments-plain w c (b ∷ bs) (e ∷ es) a h =
    next CallPlain CallPlain (with_argument w c b.direction b.variable e a) _ (argument-plain w c b.direction b.variable e a h)
    (λ d x hd. arguments-plain w d bs es x hd)

task-plain : (w : Surroundings) (n : NameTree) (es : List ExprTree) (a : Added) → Holds Plain (task_operations w n es a)
task-plain w n es a =
    next Any Plain (task_of w n (length es) a) _ (any (task_of w n (length es) a)) (λ t b ht.
    next CallPlain Plain (with_arguments w no_call (arguments_of w t) es b) _ (arguments-plain w no_call (arguments_of w t) es b (refl, refl))
    (λ c x hc. two-plain c.before c.behind (op.Enter t c.inputs) (op.Leave (record { outputs = c.outputs; result = None })) hc.0 hc.1 refl refl))

-- System tasks.
shown-plain : (w : Surroundings) (place : Place) (es : List (Option ExprTree)) (task : ShowTask) (a : Added)
    → Holds Plain (show_operations w place es task a)
shown-plain w place es task a =
    chosen Plain (arguments_fit 0 es) _ _ a
    (next Behind Plain (arguments_of_show w [] es a) _ (performed-plain w [] (arguments_bound w.scope 0 [] es) a refl)
    (λ v b hv. plain-push v.1 (op.Single (single.Show (length b.shows))) hv refl))
    tt

ending-plain : (place : Place) (es : List (Option ExprTree)) (s : Single) (a : Added) → Holds Plain (ending_operations place es s a)
ending-plain place es s a = chosen Plain (takes_number es) _ _ a refl tt

other-plain : (id : Id) (es : List (Option ExprTree)) (a : Added) → Holds Plain (other_operations id es a)
other-plain id es a =
    chosen Plain (bytes_eq id.name (codes "$finish")) _ _ a (ending-plain id.place es single.Finish a)
    (chosen Plain (bytes_eq id.name (codes "$stop")) _ _ a (ending-plain id.place es single.Stop a) tt)

system-plain : (w : Surroundings) (id : Id) (es : List (Option ExprTree)) (task : Option ShowTask) (a : Added)
    → Holds Plain (system_operations w id es task a)
system-plain w id es None a = other-plain id es a
system-plain w id es (Some task) a = shown-plain w id.place es task a

-- A statement in which none stands.
simple-plain : (w : Surroundings) (s : SimpleTree) (a : Added) → Holds Plain (simple_operations w s a)
simple-plain w empty a = refl
simple-plain w (assign lv word delay value) a = assign-plain w lv word delay value a
simple-plain w (trigger n) a =
    next Any Plain (object_of w n is_event a) _ (any (object_of w n is_event a)) (λ o b h. refl)
simple-plain w (disable n) a =
    next Any Plain (object_of w n is_disable_target a) _ (any (object_of w n is_disable_target a)) (λ o b h. refl)
simple-plain w (force word set) a =
    next Any Plain (whole_object w set.target (force_kinds word) a) _ (any (whole_object w set.target (force_kinds word) a)) (λ o b h.
    next Behind Plain (value_of w [] set.value b) _ (value-plain w [] set.value b refl) (λ v c hv. plain-push v.1 _ hv refl))
simple-plain w (release word lv) a =
    next Any Plain (whole_object w lv (release_kinds word) a) _ (any (whole_object w lv (release_kinds word) a)) (λ o b h. refl)
simple-plain w (task_call n es) a = task-plain w n es a
simple-plain w (system_call id es) a = system-plain w id es (show_task id.name) a

-- Trees that count their instructions, in a row.
abbrev Rows : List FlowTree → Type 0
Rows fs = AllMeasured (flows fs)

rows-both : (fs gs : List FlowTree) → Rows fs → Rows gs → Rows (fs ++ gs)
rows-both [] gs h k = k
rows-both (f ∷ fs) gs h k = (h.0, rows-both fs gs h.1 k)

rows-push : (fs : List FlowTree) (f : FlowTree) → Rows fs → IsMeasured f → Rows (fs ++ f ∷ [])
rows-push fs f h k = rows-both fs (f ∷ []) h (k, tt)

row-measured : (fs : List FlowTree) → Rows fs → IsMeasured (in_row fs)
row-measured fs h = (refl, h)

nothing-measured : IsMeasured nothing
nothing-measured = (refl, tt)

further-measured : (n : ℕ) (os : List Operation) → Plain os → Rows (further n os)
further-measured n [] h = tt
further-measured n (o ∷ os) h =
    ((refl, first-of (is_plain o) (list_all is_plain os) h), further-measured n os (second-of (is_plain o) (list_all is_plain os) h))

first-measured : (n : ℕ) (os : List Operation) → Plain os → Rows (from_first n os)
first-measured n [] h = tt
first-measured n (o ∷ os) h =
    ((refl, first-of (is_plain o) (list_all is_plain os) h), further-measured n os (second-of (is_plain o) (list_all is_plain os) h))

instructions-measured : (n : ℕ) (os : List Operation) → Plain os → IsMeasured (instructions n os)
instructions-measured n os h = row-measured (from_first n os) (first-measured n os h)

behind-measured : (n : ℕ) (os : List Operation) (f : FlowTree) → Plain os → IsMeasured f → IsMeasured (behind_operations n os f)
behind-measured n os f h k = (refl, (instructions-measured n os h, (k, tt)))

gated-measured : (n : ℕ) (calls : List Operation) (g : Gate) (a b : FlowTree) → Plain calls → IsMeasured a → IsMeasured b
    → IsMeasured (gated n calls g a b)
gated-measured n calls g a b h k l = row-measured _ (rows-push (from_first n calls) _ (first-measured n calls h) (refl, (k, l)))

gated-further-measured : (n : ℕ) (calls : List Operation) (g : Gate) (a b : FlowTree) → Plain calls → IsMeasured a → IsMeasured b
    → IsMeasured (gated_further n calls g a b)
gated-further-measured n calls g a b h k l = row-measured _ (rows-push (further n calls) _ (further-measured n calls h) (refl, (k, l)))

again-measured : (n : ℕ) (calls : List Operation) (g : Gate) (body : List FlowTree) → Plain calls → Rows body
    → IsMeasured (again n calls g body)
again-measured n calls g body h k = (refl, row-measured _ (rows-both body (further n calls) k (further-measured n calls h)))

-- Statements.
record HeadPlain (h : Head) : Type 0 where
  calls : Plain h.calls

record FrontPlain (p : Timing) : Type 0 where
  instructions : Plain p.instructions

record ForPlain (h : ForHead) : Type 0 where
  start : Plain h.start
  calls : Plain h.calls
  step : Plain h.step

head-plain : (kind : StmtKind) (w : Surroundings) (place : Place) (e : ExprTree) (a : Added) → Holds HeadPlain (headed kind w place e a)
head-plain kind w place e a =
    let b = with_stmt kind w place a in
    next Behind HeadPlain (value_of w [] e b) _ (value-plain w [] e b refl) (λ v c hv. record { calls = hv })

delay-timing-plain : (w : Surroundings) (place : Place) (d : DelayTree) (a : Added) → Holds FrontPlain (delay_timing w place d a)
delay-timing-plain w place d a =
    let b = with_stmt of_kind.DelayControl w place a in
    next Behind FrontPlain (delay_of w [] d b) _ (delay-plain w [] d b refl)
    (λ x c hx. record { instructions = plain-push x.1 (op.Pause (pause.Wait x.0)) hx refl })

wait-timing-plain : (w : Surroundings) (place : Place) (e : ExprTree) (a : Added) → Holds FrontPlain (wait_timing w place e a)
wait-timing-plain w place e a =
    next HeadPlain FrontPlain (headed of_kind.Wait w place e a) _ (head-plain of_kind.Wait w place e a)
    (λ x c hx. record { instructions = plain-push x.calls (op.Pause (pause.WaitFor x.test (length c.waits))) hx.calls refl })

event-timing-plain : (w : Surroundings) (place : Place) (e : EventTree) (a : Added) → Holds FrontPlain (event_timing w place e a)
event-timing-plain w place e a =
    let b = with_stmt of_kind.EventControl w place a in
    next Any FrontPlain (waited_terms w e b) _ (any (waited_terms w e b)) (λ ts c hts. record { instructions = refl })

for-plain : (w : Surroundings) (place : Place) (start : SetTree) (e : ExprTree) (step : SetTree) (a : Added)
    → Holds ForPlain (for_head w place start e step a)
for-plain w place start e step a =
    let b = with_stmt of_kind.For w place a in
    next Plain ForPlain (set_of w start b) _ (set-plain w start.target start.value b) (λ s c hs.
    next Behind ForPlain (value_of w [] e c) _ (value-plain w [] e c refl) (λ v d hv.
    next Plain ForPlain (set_of w step d) _ (set-plain w step.target step.value d) (λ t x ht.
    record { start = hs; calls = hv; step = ht })))

while-measured : (h : Head) (body : FlowTree) → HeadPlain h → IsMeasured body → IsMeasured (while_flow h body)
while-measured h body p m =
    gated-measured h.number h.calls (gate.Test h.test) (again h.number h.calls (gate.Test h.test) (body ∷ [])) nothing p.calls
    (again-measured h.number h.calls (gate.Test h.test) (body ∷ []) p.calls (m, tt)) nothing-measured

repeat-measured : (h : Head) (body : FlowTree) → HeadPlain h → IsMeasured body → IsMeasured (repeat_flow h body)
repeat-measured h body p m =
    gated-measured h.number h.calls (gate.Repeat h.test) (again h.number [] gate.Again (body ∷ [])) nothing p.calls
    (again-measured h.number [] gate.Again (body ∷ []) refl (m, tt)) nothing-measured

loop-measured : (word : LoopWord) (h : Head) (body : FlowTree) → HeadPlain h → IsMeasured body → IsMeasured (loop_flow word h body)
loop-measured loops.While h body p m = while-measured h body p m
loop-measured loops.Repeat h body p m = repeat-measured h body p m

for-measured : (h : ForHead) (body : FlowTree) → ForPlain h → IsMeasured body → IsMeasured (for_flow h body)
for-measured h body p m =
    let turns = for_turns h.number h.calls (gate.Test h.test) h.step body in
    let all = again-measured h.number h.calls (gate.Test h.test) (body ∷ further h.number h.step) p.calls
    (m, further-measured h.number h.step p.step) in
    let test = gated-further-measured h.number h.calls (gate.Test h.test) turns nothing p.calls all nothing-measured in
    (refl, (instructions-measured h.number h.start p.start, (test, tt)))

joined-measured : (word : BlockWord) (n : ℕ) (fs : List FlowTree) → Rows fs → IsMeasured (joined word n fs)
joined-measured blocks.Begin n fs h = row-measured fs h
joined-measured blocks.Fork n fs h = (refl, h)

block-measured : (o : Option ℕ) (f : FlowTree) → IsMeasured f → IsMeasured (named_block o f)
block-measured None f h = h
block-measured (Some o) f h = (refl, h)

simple-measured : (w : Surroundings) (place : Place) (s : SimpleTree) (a : Added) → Holds IsMeasured (simple_flow w place s a)
simple-measured w place s a =
    let b = with_stmt (simple_kind s) w place a in
    chosen IsMeasured (is_null s) _ _ a nothing-measured
    (next Plain IsMeasured (simple_operations w s b) _ (simple-plain w s b) (λ os c hos. instructions-measured (length a.stmts) os hos))

-- A `case` so far.
record CasesMeasured (c : Cases) : Type 0 where
  calls : Plain c.calls
  items : ItemsMeasured (case_items c.items)
  default : Rows c.default

items-push : (is : List ItemTree) (i : ItemTree) → ItemsMeasured (case_items is) → IsMeasured i.body
    → ItemsMeasured (case_items (is ++ i ∷ []))
items-push [] i h k = (k, tt)
items-push (j ∷ is) i h k = (h.0, items-push is i h.1 k)

or-nothing-measured : (fs : List FlowTree) → Rows fs → IsMeasured (or_nothing fs)
or-nothing-measured [] h = nothing-measured
or-nothing-measured (f ∷ fs) h = h.0

case-measured : (word : CaseWord) (h : Head) (c : Cases) (a : Added) → CasesMeasured c → Holds IsMeasured (case_flow word h c a)
case-measured word h c a m =
    row-measured _ (rows-push (from_first h.number c.calls) _ (first-measured h.number c.calls m.calls)
    (refl, (m.items, or-nothing-measured c.default m.default)))

values-plain : (w : Surroundings) (ids : List ℕ) (calls : List Operation) (es : List ExprTree) (a : Added) → Plain calls
    → Holds Behind (values_of w ids calls es a)
values-plain w ids calls [] a h = h
values-plain w ids calls (e ∷ es) a h =
    next Behind Behind (value_of w calls e a) _ (value-plain w calls e a h) (λ v b hv. values-plain w (ids ++ v.0 ∷ []) v.1 es b hv)

item-measured : (w : Surroundings) (c : Cases) (all : MatchedTree) (body : Making FlowTree) (a : Added) → CasesMeasured c
    → ((b : Added) → Holds IsMeasured (body b)) → Holds CasesMeasured (item_with w c all body a)
item-measured w c (values es) body a m inside =
    next Behind CasesMeasured (values_of w [] c.calls es a) _ (values-plain w [] c.calls es a m.calls) (λ v b hv.
    next IsMeasured CasesMeasured (body b) _ (inside b) (λ f x hf. record {
      calls = hv;
      items = items-push c.items _ m.items hf;
      default = m.default;
    }))
item-measured w c default body a m inside =
    next IsMeasured CasesMeasured (body a) _ (inside a) (λ f x hf. record {
      calls = m.calls;
      items = m.items;
      default = rows-push c.default f m.default hf;
    })

behind-timing-measured : (w : Surroundings) (p : Making Timing) (body : Making FlowTree) (a : Added) → Holds FrontPlain (p a)
    → ((b : Added) → Holds IsMeasured (body b))
    → Holds IsMeasured (and_then (p a) (λ x. λ b. and_then (body b) (λ f. λ c. Ok (behind_timing x f, c))))
behind-timing-measured w p body a h inside =
    next FrontPlain IsMeasured (p a) _ h (λ x b hx.
    next IsMeasured IsMeasured (body b) _ (inside b) (λ f c hf. behind-measured x.number x.instructions f hx.instructions hf))

event-measured : (w : Surroundings) (place : Place) (e : EventTree) (body : Making FlowTree) (a : Added)
    → ((b : Added) → Holds IsMeasured (body b)) → Holds IsMeasured (event_flow w place e body a)
event-measured w place any_event body a inside =
    let b = with_stmt of_kind.EventControl w place a in
    next IsMeasured IsMeasured (body b) _ (inside b) (λ f d hf.
    behind-measured (length a.stmts) (op.Pause (pause.Await (length d.waits)) ∷ []) f refl hf)
event-measured w place (named_event n) body a inside =
    behind-timing-measured w (event_timing w place (named_event n)) body a (event-timing-plain w place (named_event n) a) inside
event-measured w place (listed_events es) body a inside =
    behind-timing-measured w (event_timing w place (listed_events es)) body a (event-timing-plain w place (listed_events es) a) inside

block-flow-measured : (w : Surroundings) (place : Place) (word : BlockWord) (id : Option Id) (all : Surroundings → Making (List FlowTree)) (a : Added)
    → ((u : Surroundings) (b : Added) → Holds Rows (all u b)) → Holds IsMeasured (block_flow w place word id all a)
block-flow-measured w place word id all a inside =
    next Any IsMeasured (block_number word w place a) _ (any (block_number word w place a)) (λ n b h.
    next Any IsMeasured (block_scope w id b) _ (any (block_scope w id b)) (λ o c hc.
    next Rows IsMeasured (all (inside_of w o) c) _ (inside (inside_of w o) c) (λ fs d hfs.
    block-measured o (joined word n fs) (joined-measured word n fs hfs))))

mutual
  stmt-measured : (s : StmtTree) (w : Surroundings) (a : Added) → Holds IsMeasured (stmt_flow w s a)
  stmt-measured (stmt place form) w a = form-measured form w place a

  form-measured : (form : StmtFormTree) (w : Surroundings) (place : Place) (a : Added) → Holds IsMeasured (form_flow w place form a)
  form-measured (simple_stmt s) w place a = simple-measured w place s a
  form-measured (delay_stmt d body) w place a =
      behind-timing-measured w (delay_timing w place d) (stmt_flow w body) a (delay-timing-plain w place d a) (λ b. stmt-measured body w b)
  form-measured (event_stmt e body) w place a = event-measured w place e (stmt_flow w body) a (λ b. stmt-measured body w b)
  form-measured (wait_stmt e body) w place a =
      behind-timing-measured w (wait_timing w place e) (stmt_flow w body) a (wait-timing-plain w place e a) (λ b. stmt-measured body w b)
  form-measured (if_stmt e holds fails) w place a =
      next HeadPlain IsMeasured (headed (if_kind fails) w place e a) _ (head-plain (if_kind fails) w place e a) (λ h b hh.
      next IsMeasured IsMeasured (stmt_flow w holds b) _ (stmt-measured holds w b) (λ f c hf.
      next IsMeasured IsMeasured (else_flow w fails c) _ (else-measured fails w c) (λ g d hg.
      gated-measured h.number h.calls (gate.Test h.test) f g hh.calls hf hg)))
  form-measured (case_stmt word e items) w place a =
      next HeadPlain IsMeasured (headed of_kind.Case w place e a) _ (head-plain of_kind.Case w place e a) (λ h b hh.
      next CasesMeasured IsMeasured (items_flow w (no_cases h.calls) items b) _
      (items-flow-measured items w (no_cases h.calls) b (record { calls = hh.calls; items = tt; default = tt }))
      (λ c x hc. case-measured word h c x hc))
  form-measured (for_stmt start e step body) w place a =
      next ForPlain IsMeasured (for_head w place start e step a) _ (for-plain w place start e step a) (λ h b hh.
      next IsMeasured IsMeasured (stmt_flow w body b) _ (stmt-measured body w b) (λ f c hf. for-measured h f hh hf))
  form-measured (loop_stmt word e body) w place a =
      next HeadPlain IsMeasured (headed (loop_kind word) w place e a) _ (head-plain (loop_kind word) w place e a) (λ h b hh.
      next IsMeasured IsMeasured (stmt_flow w body b) _ (stmt-measured body w b) (λ f c hf. loop-measured word h f hh hf))
  form-measured (forever_stmt body) w place a =
      let b = with_stmt of_kind.Forever w place a in
      let n = length a.stmts in
      next IsMeasured IsMeasured (stmt_flow w body b) _ (stmt-measured body w b) (λ f c hf.
      gated-measured n [] gate.Turn (again n [] gate.Turn (f ∷ [])) nothing refl (again-measured n [] gate.Turn (f ∷ []) refl (hf, tt)) nothing-measured)
  form-measured (block_stmt word id decls all) w place a =
      block-flow-measured w place word id (λ u. stmts_flow u [] all) a (λ u b. stmts-measured all u [] b tt)

  else-measured : (e : ElseTree) (w : Surroundings) (a : Added) → Holds IsMeasured (else_flow w e a)
  else-measured no_else w a = nothing-measured
  else-measured (else_stmt s) w a = stmt-measured s w a

  stmts-measured : (all : Stmts) (w : Surroundings) (before : List FlowTree) (a : Added) → Rows before
      → Holds Rows (stmts_flow w before all a)
  stmts-measured no_stmt w before a h = h
  stmts-measured (one_stmt s more) w before a h =
      next IsMeasured Rows (stmt_flow w s a) _ (stmt-measured s w a) (λ f b hf.
      stmts-measured more w (before ++ f ∷ []) b (rows-push before f h hf))

  items-flow-measured : (items : Citems) (w : Surroundings) (c : Cases) (a : Added) → CasesMeasured c
      → Holds CasesMeasured (items_flow w c items a)
  items-flow-measured no_citem w c a m = m
  items-flow-measured (one_citem place all body more) w c a m =
      next CasesMeasured CasesMeasured (item_with w c all (stmt_flow w body) a) _
      (item-measured w c all (stmt_flow w body) a m (λ b. stmt-measured body w b))
      (λ d x hd. items-flow-measured more w d x hd)

-- The code of a statement goes on at its own places.
abbrev pub ClosedCode : Code → Type 0
ClosedCode c = is_closed c ≡ true

-- Of what is answered for such an outcome.
answered : (o : Outcome Code) (r : Result Code LowerFault) (a : Added) → Holds ClosedCode o → Makes o r a → IfOk r ClosedCode
answered o (Ok c) a h is = rw is at h
answered o (Err fault) a h is = tt

statement-closed : (kind : CodeKind) (w : Surroundings) (s : StmtTree) (a : Added) → Holds ClosedCode (lowered kind w s a)
statement-closed kind w s a =
    next IsMeasured ClosedCode (stmt_flow w s a) _ (stmt-measured s w a) (λ f b hf. code-closed kind f hf)

pub lowered-closed : (kind : CodeKind) (w : Surroundings) (s : StmtTree) (a : Added) (r : Result Code LowerFault) (b : Added)
    → Makes (lowered kind w s a) r b → IfOk r ClosedCode
lowered-closed kind w s a r b is = answered (lowered kind w s a) r b (statement-closed kind w s a) is

-- The same of the codes that no statement makes.
plain-measured : (os : List Operation) → Plain os → Rows (plain_instructions os)
plain-measured [] h = tt
plain-measured (o ∷ os) h =
    ((refl, first-of (is_plain o) (list_all is_plain os) h), plain-measured os (second-of (is_plain o) (list_all is_plain os) h))

plain-closed : (kind : CodeKind) (os : List Operation) → Plain os → ClosedCode (plain_code kind os)
plain-closed kind os h = code-closed kind (in_row (plain_instructions os)) (row-measured (plain_instructions os) (plain-measured os h))

value-closed : (w : Surroundings) (o : ℕ) (e : ExprTree) (a : Added) → Holds ClosedCode (initial_code w o e a)
value-closed w o e a =
    next Plain ClosedCode (initial_operations w o e a) _
    (next Behind Plain (value_of w [] e a) _ (value-plain w [] e a refl) (λ v b hv. plain-push v.1 _ hv refl))
    (λ os b hos. plain-closed of.Value os hos)

pub initial-closed : (w : Surroundings) (o : ℕ) (e : ExprTree) (a : Added) (r : Result Code LowerFault) (b : Added)
    → Makes (initial_code w o e a) r b → IfOk r ClosedCode
initial-closed w o e a r b is = answered (initial_code w o e a) r b (value-closed w o e a) is

drive-behind-plain : (w : Surroundings) (drivers : List ℕ) (before : List Operation) (delay : Option Delay) (e : ExprTree) (a : Added)
    → Plain before → Holds Plain (drive_behind w drivers before delay e a)
drive-behind-plain w drivers before delay e a h =
    next Behind Plain (value_of w before e a) _ (value-plain w before e a h)
    (λ v c hv. plain-push v.1 (drive_at drivers v.0 delay (length c.waits)) hv refl)

drive-plain : (w : Surroundings) (drivers : List ℕ) (d : Option DelayTree) (e : ExprTree) (a : Added)
    → Holds Plain (drive_operations w drivers d e a)
drive-plain w drivers None e a = drive-behind-plain w drivers [] None e a refl
drive-plain w drivers (Some d) e a =
    next Behind Plain (delay_of w [] d a) _ (delay-plain w [] d a refl) (λ x b hx. drive-behind-plain w drivers x.1 (Some x.0) e b hx)

assignment-closed : (w : Surroundings) (drivers : List ℕ) (d : Option DelayTree) (e : ExprTree) (a : Added)
    → Holds ClosedCode (drive_code w drivers d e a)
assignment-closed w drivers d e a =
    next Plain ClosedCode (drive_operations w drivers d e a) _ (drive-plain w drivers d e a) (λ os b hos. plain-closed of.Assign os hos)

pub drive-closed : (w : Surroundings) (drivers : List ℕ) (d : Option DelayTree) (e : ExprTree) (a : Added) (r : Result Code LowerFault)
    (b : Added) → Makes (drive_code w drivers d e a) r b → IfOk r ClosedCode
drive-closed w drivers d e a r b is = answered (drive_code w drivers d e a) r b (assignment-closed w drivers d e a) is
