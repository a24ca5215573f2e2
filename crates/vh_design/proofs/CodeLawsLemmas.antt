-- Lemmas on `specs/CodeLaws.antt`: what each rule means, from the test that keeps it.
use Rattle.std.proofs.Common.{◌≡◌, ℕ, Bool, true, false, ◌&&◌, ◌||◌, ◌++◌, nat_eq, nat_le, nat_lt, List, [], ◌∷◌, length, map, flat_map, Option, Some, None, slice_get, slice_index_or, unwrap_or, zero, suc, refl, subst}
use Rattle.std.specs.Cmp.Derive.{both_true}
use Rattle.std.specs.List.{list_all}
use Rattle.std.specs.Option.{option_map}
use Rattle.std.proofs.lemmas.Bool.{eqb-true, leb-true, ltb-true}
use Rattle.std.proofs.lemmas.List.Sums.{AllPass-from_list_all}
use Rattle.vh_design_nodes.specs.declared.driver.DriverInfo.{DriverInfo}
use Rattle.vh_design_nodes.specs.declared.expr.Access.TheVariants as access
use Rattle.vh_design_nodes.specs.declared.expr.ExprNode.{ExprNode}
use Rattle.vh_design_nodes.specs.declared.expr.Selected.{Selected}
use Rattle.vh_design_nodes.specs.declared.fits.TheConstants.{MOST_UNIT}
use Rattle.vh_design_nodes.specs.declared.object.Kind.{Kind}
use Rattle.vh_design_nodes.specs.declared.object.ObjectInfo.{ObjectInfo}
use Rattle.vh_design_nodes.specs.Fits.{has_kind, has_body, is_width, is_unit, same_sign, before, fits_selected}
use Rattle.vh_design_nodes.specs.Kinds.{is_vector, is_variable, is_memory, is_forcible, is_event, is_disable_target, is_routine, is_system_task, is_system_function, is_scope}
use Rattle.vh_design_nodes.specs.Widths.{width_of, signed_of, widest, all_signed, selected_width}
use Rattle.vh_design_nodes.proofs.FitsLemmas.{and_left, and_right, only, of_kind, same, width_least, width_most}
use Rattle.vh_design_code.specs.declared.code.Code.{Code}
use Rattle.vh_design_code.specs.declared.code.Goes.{Goes}
use Rattle.vh_design_code.specs.declared.code.Goes.TheVariants as goes
use Rattle.vh_design_code.specs.declared.code.Instruction.{Instruction}
use Rattle.vh_design_code.specs.declared.codes.Limits.{Limits}
use Rattle.vh_design_code.specs.declared.operation.Arm.{Arm}
use Rattle.vh_design_code.specs.declared.operation.CaseTest.{CaseTest}
use Rattle.vh_design_code.specs.declared.operation.Leave.{Leave}
use Rattle.vh_design_code.specs.declared.operation.Loop.{Loop}
use Rattle.vh_design_code.specs.declared.operation.Loop.TheVariants as turn
use Rattle.vh_design_code.specs.declared.operation.Operation.{Operation}
use Rattle.vh_design_code.specs.declared.operation.Operation.TheVariants as op
use Rattle.vh_design_code.specs.declared.operation.Pause.{Pause}
use Rattle.vh_design_code.specs.declared.operation.Pause.TheVariants as pause
use Rattle.vh_design_code.specs.declared.operation.Returned.{Returned}
use Rattle.vh_design_code.specs.declared.operation.Single.{Single}
use Rattle.vh_design_code.specs.declared.operation.Single.TheVariants as single
use Rattle.vh_design_code.specs.declared.target.Delay.{Delay}
use Rattle.vh_design_code.specs.declared.target.Input.{Input}
use Rattle.vh_design_code.specs.declared.target.Output.{Output}
use Rattle.vh_design_code.specs.declared.wait.Term.{Term}
use Rattle.vh_design_code.specs.declared.wait.Term.TheVariants as term
use Rattle.vh_design_code.specs.Codes.{fits_instruction, fits_blocks, fits_term, fits_arg}
use Rattle.vh_design_code.specs.Operations.{fits_goes, fits_delayed, fits_pause, matched, fits_arm, fits_case, fits_loop, fits_result, fits_leave, fits_single, fits_operation}
use Rattle.vh_design_code.specs.Targets.{targets_width, fits_target, fits_targets, fits_drivers, fits_delay, fits_input, fits_output}
use Rattle.vh_design.specs.CodeLaws.{loop_goes, goes_of, IsPosition, change_of, single_changes, result_reads, changes_of, delay_units, pause_units, units_of, delay_exprs, pause_exprs, loop_exprs, single_exprs, result_exprs, exprs_of, term_read, IsUnit, CodesMayStand, BodiesMayStand, PositionsAreThere, ExpressionsAreThere, ChangesFit, DelaysFit, CasesAreMeasured, WaitsFit, ShowsFit, StatementsFit}
use Rattle.vh_design.specs.Laws.{selected_exprs, read}
use Rattle.vh_design.specs.Shape.{Shape}
use Rattle.vh_design.specs.Validity.{CodeFits, limits_of}
use Rattle.vh_design.proofs.LawsLemmas.{passes, selected_passes, selected_before}
use Rattle.vh_design.proofs.ValidityLemmas.{stmt_scope}

-- What each of some things passes, each of what they are turned into passes.
all_mapped : {A B : Type 0} (q : A → Bool) (p : B → Bool) (f : A → B) → ((x : A) → q x ≡ true → p (f x) ≡ true)
    → (xs : List A) → list_all q xs ≡ true → list_all p (map f xs) ≡ true
all_mapped q p f step [] h = refl
all_mapped q p f step (x ∷ xs) h =
    both_true (step x (and_left (q x) (list_all q xs) h)) (all_mapped q p f step xs (and_right (q x) (list_all q xs) h))

all_joined : {A : Type 0} (p : A → Bool) (xs ys : List A)
    → list_all p xs ≡ true → list_all p ys ≡ true → list_all p (xs ++ ys) ≡ true
all_joined p [] ys h more = more
all_joined p (x ∷ xs) ys h more =
    both_true (and_left (p x) (list_all p xs) h) (all_joined p xs ys (and_right (p x) (list_all p xs) h) more)

all_flat : {A B : Type 0} (q : A → Bool) (p : B → Bool) (f : A → List B) → ((x : A) → q x ≡ true → list_all p (f x) ≡ true)
    → (xs : List A) → list_all q xs ≡ true → list_all p (flat_map f xs) ≡ true
all_flat q p f step [] h = refl
all_flat q p f step (x ∷ xs) h =
    all_joined p (f x) (flat_map f xs) (step x (and_left (q x) (list_all q xs) h))
    (all_flat q p f step xs (and_right (q x) (list_all q xs) h))

-- What all of a list pass, the one at a position passes.
passes_at : {A : Type 0} (p : A → Bool) (xs : List A) (k : ℕ) (x : A)
    → list_all p xs ≡ true → slice_get xs k ≡ Some x → p x ≡ true
passes_at p [] k x h at = absurd (cc)
passes_at {A} p (y ∷ ys) zero x h at =
    let there : y ≡ x = cc in subst (λ (z : A). p z ≡ true) there (and_left (p y) (list_all p ys) h)
passes_at p (y ∷ ys) (suc k) x h at = passes_at p ys k x (and_right (p y) (list_all p ys) h) at

-- Each of three tests that pass together passes.
first_of : (a b c : Bool) → (a && b && c) ≡ true → a ≡ true
first_of a b c h = and_left a b (and_left (a && b) c h)

second_of : (a b c : Bool) → (a && b && c) ≡ true → b ≡ true
second_of a b c h = and_right a b (and_left (a && b) c h)

-- The operation of an instruction, and where it goes on.
module _ (d : Shape) (c : Code) (k : ℕ) (i : Instruction) (fits : CodeFits d c) (at : slice_get c.instructions k ≡ Some i) where
  abbrev test : Instruction → Bool
  test = fits_instruction d.objects d.exprs d.drivers (limits_of d) (length c.instructions) (length c.blocks)

  abbrev operation_test : Bool
  operation_test = fits_operation d.objects d.exprs d.drivers (limits_of d) (length c.instructions) i.operation

  abbrev next_test : Bool
  next_test = fits_goes (length c.instructions) i.next

  instruction_fits : test i ≡ true
  instruction_fits =
      passes_at test c.instructions k i
      (second_of (fits_goes (length c.instructions) c.start) (list_all test c.instructions)
      (fits_blocks d.objects (length c.instructions) c.blocks) fits) at

  both_fit : (operation_test && next_test) ≡ true
  both_fit =
      first_of (operation_test && next_test) (before (limits_of d).stmts i.stmt) (before (length c.blocks) i.block)
      instruction_fits

  operation_fits : operation_test ≡ true
  operation_fits = and_left operation_test next_test both_fit

  next_fits : next_test ≡ true
  next_fits = and_right operation_test next_test both_fit

-- The parts of a `case` that passes.
module _ (ns : List ExprNode) (positions : ℕ) (c : CaseTest) (h : fits_case ns positions c ≡ true) where
  abbrev subject_test : Bool
  subject_test = nat_lt c.subject (length ns)

  abbrev arms_test : Bool
  arms_test = list_all (fits_arm (length ns) positions) c.arms

  abbrev width_test : Bool
  width_test = nat_eq c.width (widest ns (width_of ns c.subject) (matched c.arms))

  abbrev sign_test : Bool
  sign_test = same_sign c.signed (signed_of ns c.subject && all_signed ns (matched c.arms))

  case_front : (subject_test && arms_test && width_test) ≡ true
  case_front = first_of (subject_test && arms_test && width_test) (is_width c.width) sign_test h

  case_subject : subject_test ≡ true
  case_subject = first_of subject_test arms_test width_test case_front

  case_arms : arms_test ≡ true
  case_arms = second_of subject_test arms_test width_test case_front

  case_width : c.width ≡ widest ns (width_of ns c.subject) (matched c.arms)
  case_width =
      eqb-true c.width (widest ns (width_of ns c.subject) (matched c.arms))
      (and_right (subject_test && arms_test) width_test case_front)

  case_range : is_width c.width ≡ true
  case_range = second_of (subject_test && arms_test && width_test) (is_width c.width) sign_test h

  case_signed : c.signed ≡ (signed_of ns c.subject && all_signed ns (matched c.arms))
  case_signed =
      same c.signed (signed_of ns c.subject && all_signed ns (matched c.arms))
      (and_right (subject_test && arms_test && width_test && is_width c.width) sign_test h)

-- Where an operation that passes goes on.
loop_pass : (exprs positions : ℕ) (t : Loop) → fits_loop exprs positions t ≡ true → list_all (fits_goes positions) (loop_goes t) ≡ true
loop_pass exprs positions (turn.Repeat count done) h =
    only (fits_goes positions done) (and_right (nat_lt count exprs) (fits_goes positions done) h)
loop_pass exprs positions (turn.Again done) h = only (fits_goes positions done) h
loop_pass exprs positions turn.Turn h = refl

goes_pass : (os : List ObjectInfo) (ns : List ExprNode) (ds : List DriverInfo) (l : Limits) (positions : ℕ) (o : Operation)
    → fits_operation os ns ds l positions o ≡ true → list_all (fits_goes positions) (goes_of o) ≡ true
goes_pass os ns ds l positions (op.Assign value targets) h = refl
goes_pass os ns ds l positions (op.Hold value width delay) h = refl
goes_pass os ns ds l positions (op.Store targets) h = refl
goes_pass os ns ds l positions (op.Schedule s) h = refl
goes_pass os ns ds l positions (op.Pause p) h = refl
goes_pass os ns ds l positions (op.Test condition otherwise) h =
    only (fits_goes positions otherwise) (and_right (nat_lt condition (length ns)) (fits_goes positions otherwise) h)
goes_pass os ns ds l positions (op.Case c) h =
    all_mapped (fits_arm (length ns) positions) (fits_goes positions) (λ (a : Arm). a.to)
    (λ a passed. and_right (nat_lt a.value (length ns)) (fits_goes positions a.to) passed) c.arms
    (case_arms ns positions c h)
goes_pass os ns ds l positions (op.Loop t) h = loop_pass (length ns) positions t h
goes_pass os ns ds l positions (op.Fork branches) h =
    all_mapped (λ b. nat_lt b positions) (fits_goes positions) (λ b. goes.To b) (λ b passed. passed) branches h
goes_pass os ns ds l positions op.End h = refl
goes_pass os ns ds l positions (op.Enter routine inputs) h = refl
goes_pass os ns ds l positions (op.Leave e) h = refl
goes_pass os ns ds l positions (op.SysCall o) h = refl
goes_pass os ns ds l positions (op.SysFunc o) h = refl
goes_pass os ns ds l positions (op.Single s) h = refl
goes_pass os ns ds l positions (op.Drive d) h = refl
goes_pass os ns ds l positions (op.Initial o value) h = refl

is_position : (positions : ℕ) (g : Goes) → fits_goes positions g ≡ true → IsPosition positions g
is_position positions goes.Back h = tt
is_position positions (goes.To position) h = ltb-true position positions h

pub positions_are_there : PositionsAreThere
positions_are_there d c k i fits at =
    let positions = length c.instructions in
    let passed : list_all (fits_goes positions) (i.next ∷ goes_of i.operation) ≡ true =
    both_true (next_fits d c k i fits at)
    (goes_pass d.objects d.exprs d.drivers (limits_of d) positions i.operation (operation_fits d c k i fits at)) in
    let all = AllPass-from_list_all (fits_goes positions) (i.next ∷ goes_of i.operation) passed in
    λ n g inside. is_position positions (slice_index_or (i.next ∷ goes_of i.operation) n g) (all n g inside)

-- The objects that an operation which passes changes or names.
target_pass : (os : List ObjectInfo) (exprs : ℕ) (t : Selected) → fits_target os exprs t ≡ true → passes os (change_of t) ≡ true
target_pass os exprs t h =
    selected_passes os exprs access.Assigned t
    (and_left (fits_selected os exprs access.Assigned t) (is_width (selected_width os t)) h)

targets_pass : (os : List ObjectInfo) (exprs : ℕ) (ts : List Selected)
    → fits_targets os exprs ts ≡ true → list_all (passes os) (map change_of ts) ≡ true
targets_pass os exprs ts h =
    all_mapped (fits_target os exprs) (passes os) change_of (target_pass os exprs) ts
    (and_left (list_all (fits_target os exprs) ts) (is_width (targets_width os ts)) h)

single_pass : (os : List ObjectInfo) (exprs shows : ℕ) (s : Single)
    → fits_single os exprs shows s ≡ true → list_all (passes os) (single_changes s) ≡ true
single_pass os exprs shows (single.Show show) h = refl
single_pass os exprs shows single.Finish h = refl
single_pass os exprs shows single.Stop h = refl
single_pass os exprs shows (single.Trigger o) h = only (has_kind is_event os o) h
single_pass os exprs shows (single.Disable o) h = only (has_kind is_disable_target os o) h
single_pass os exprs shows (single.Force o value) h =
    only (has_kind is_forcible os o) (and_left (has_kind is_forcible os o) (nat_lt value exprs) h)
single_pass os exprs shows (single.Release o) h = only (has_kind is_forcible os o) h
single_pass os exprs shows (single.Procedural o value) h =
    only (has_kind is_variable os o) (and_left (has_kind is_variable os o) (nat_lt value exprs) h)
single_pass os exprs shows (single.Deassign o) h = only (has_kind is_variable os o) h

output_pass : (os : List ObjectInfo) (exprs : ℕ) (o : Output) → fits_output os exprs o ≡ true
    → list_all (passes os) (read o.variable is_variable ∷ map change_of o.targets) ≡ true
output_pass os exprs o h =
    both_true (and_left (has_kind is_variable os o.variable) (fits_targets os exprs o.targets) h)
    (targets_pass os exprs o.targets (and_right (has_kind is_variable os o.variable) (fits_targets os exprs o.targets) h))

result_pass : (os : List ObjectInfo) (exprs : ℕ) (r : Option Returned)
    → fits_result os exprs r ≡ true → list_all (passes os) (result_reads r) ≡ true
result_pass os exprs None h = refl
result_pass os exprs (Some r) h =
    only (has_kind is_variable os r.variable) (and_right (nat_lt r.call exprs) (has_kind is_variable os r.variable) h)

leave_pass : (os : List ObjectInfo) (exprs : ℕ) (e : Leave)
    → fits_leave os exprs e ≡ true → list_all (passes os) (changes_of (op.Leave e)) ≡ true
leave_pass os exprs e h =
    let outputs = list_all (fits_output os exprs) e.outputs in
    let result = fits_result os exprs e.result in
    all_joined (passes os) (flat_map (λ (o : Output). read o.variable is_variable ∷ map change_of o.targets) e.outputs)
    (result_reads e.result)
    (all_flat (fits_output os exprs) (passes os) (λ (o : Output). read o.variable is_variable ∷ map change_of o.targets)
    (output_pass os exprs) e.outputs (and_left outputs result h))
    (result_pass os exprs e.result (and_right outputs result h))

enter_pass : (os : List ObjectInfo) (exprs routine : ℕ) (inputs : List Input)
    → (has_kind is_routine os routine && has_body os routine && list_all (fits_input os exprs) inputs) ≡ true
    → list_all (passes os) (changes_of (op.Enter routine inputs)) ≡ true
enter_pass os exprs routine inputs h =
    let called = has_kind is_routine os routine in
    let has = has_body os routine in
    let given = list_all (fits_input os exprs) inputs in
    both_true (first_of called has given h)
    (all_mapped (fits_input os exprs) (passes os) (λ (i : Input). read i.variable is_variable)
    (λ i passed. and_left (has_kind is_variable os i.variable) (nat_lt i.value exprs) passed) inputs
    (and_right (called && has) given h))

changes_pass : (os : List ObjectInfo) (ns : List ExprNode) (ds : List DriverInfo) (l : Limits) (positions : ℕ) (o : Operation)
    → fits_operation os ns ds l positions o ≡ true → list_all (passes os) (changes_of o) ≡ true
changes_pass os ns ds l positions (op.Assign value targets) h =
    targets_pass os (length ns) targets (and_right (nat_lt value (length ns)) (fits_targets os (length ns) targets) h)
changes_pass os ns ds l positions (op.Hold value width delay) h = refl
changes_pass os ns ds l positions (op.Store targets) h = targets_pass os (length ns) targets h
changes_pass os ns ds l positions (op.Schedule s) h =
    targets_pass os (length ns) s.targets
    (second_of (nat_lt s.value (length ns)) (fits_targets os (length ns) s.targets)
    (fits_delayed (length ns) l.precision s.delay) h)
changes_pass os ns ds l positions (op.Pause p) h = refl
changes_pass os ns ds l positions (op.Test condition otherwise) h = refl
changes_pass os ns ds l positions (op.Case c) h = refl
changes_pass os ns ds l positions (op.Loop t) h = refl
changes_pass os ns ds l positions (op.Fork branches) h = refl
changes_pass os ns ds l positions op.End h = refl
changes_pass os ns ds l positions (op.Enter routine inputs) h = enter_pass os (length ns) routine inputs h
changes_pass os ns ds l positions (op.Leave e) h = leave_pass os (length ns) e h
changes_pass os ns ds l positions (op.SysCall o) h = only (has_kind is_system_task os o) h
changes_pass os ns ds l positions (op.SysFunc o) h = only (has_kind is_system_function os o) h
changes_pass os ns ds l positions (op.Single s) h = single_pass os (length ns) l.shows s h
changes_pass os ns ds l positions (op.Drive d) h = refl
changes_pass os ns ds l positions (op.Initial o value) h =
    only (has_kind is_variable os o) (and_left (has_kind is_variable os o) (nat_lt value (length ns)) h)

pub changes_fit : ChangesFit
changes_fit d c k i fits at =
    let passed =
    changes_pass d.objects d.exprs d.drivers (limits_of d) (length c.instructions) i.operation
    (operation_fits d c k i fits at) in
    let all = AllPass-from_list_all (passes d.objects) (changes_of i.operation) passed in
    λ n r inside.
    let it = slice_index_or (changes_of i.operation) n r in
    of_kind d.objects it.test it.object (all n r inside)

-- The expressions of an operation that passes.
target_there : (os : List ObjectInfo) (exprs : ℕ) (t : Selected)
    → fits_target os exprs t ≡ true → list_all (λ e. nat_lt e exprs) (selected_exprs t) ≡ true
target_there os exprs t h =
    selected_before os exprs access.Assigned t
    (and_left (fits_selected os exprs access.Assigned t) (is_width (selected_width os t)) h)

targets_there : (os : List ObjectInfo) (exprs : ℕ) (ts : List Selected)
    → fits_targets os exprs ts ≡ true → list_all (λ e. nat_lt e exprs) (flat_map selected_exprs ts) ≡ true
targets_there os exprs ts h =
    all_flat (fits_target os exprs) (λ e. nat_lt e exprs) selected_exprs (target_there os exprs) ts
    (and_left (list_all (fits_target os exprs) ts) (is_width (targets_width os ts)) h)

delayed_there : (exprs precision : ℕ) (o : Option Delay)
    → fits_delayed exprs precision o ≡ true → list_all (λ e. nat_lt e exprs) (delay_exprs o) ≡ true
delayed_there exprs precision None h = refl
delayed_there exprs precision (Some it) h =
    only (nat_lt it.amount exprs) (and_left (nat_lt it.amount exprs) (is_unit precision it.unit) h)

pause_there : (exprs : ℕ) (l : Limits) (p : Pause)
    → fits_pause exprs l p ≡ true → list_all (λ e. nat_lt e exprs) (pause_exprs p) ≡ true
pause_there exprs l (pause.Wait it) h =
    only (nat_lt it.amount exprs) (and_left (nat_lt it.amount exprs) (is_unit l.precision it.unit) h)
pause_there exprs l (pause.Await wait) h = refl
pause_there exprs l (pause.WaitFor condition wait) h =
    only (nat_lt condition exprs) (and_left (nat_lt condition exprs) (nat_lt wait l.waits) h)

loop_there : (exprs positions : ℕ) (t : Loop)
    → fits_loop exprs positions t ≡ true → list_all (λ e. nat_lt e exprs) (loop_exprs t) ≡ true
loop_there exprs positions (turn.Repeat count done) h =
    only (nat_lt count exprs) (and_left (nat_lt count exprs) (fits_goes positions done) h)
loop_there exprs positions (turn.Again done) h = refl
loop_there exprs positions turn.Turn h = refl

single_there : (os : List ObjectInfo) (exprs shows : ℕ) (s : Single)
    → fits_single os exprs shows s ≡ true → list_all (λ e. nat_lt e exprs) (single_exprs s) ≡ true
single_there os exprs shows (single.Show show) h = refl
single_there os exprs shows single.Finish h = refl
single_there os exprs shows single.Stop h = refl
single_there os exprs shows (single.Trigger o) h = refl
single_there os exprs shows (single.Disable o) h = refl
single_there os exprs shows (single.Force o value) h =
    only (nat_lt value exprs) (and_right (has_kind is_forcible os o) (nat_lt value exprs) h)
single_there os exprs shows (single.Release o) h = refl
single_there os exprs shows (single.Procedural o value) h =
    only (nat_lt value exprs) (and_right (has_kind is_variable os o) (nat_lt value exprs) h)
single_there os exprs shows (single.Deassign o) h = refl

result_there : (os : List ObjectInfo) (exprs : ℕ) (r : Option Returned)
    → fits_result os exprs r ≡ true → list_all (λ e. nat_lt e exprs) (result_exprs r) ≡ true
result_there os exprs None h = refl
result_there os exprs (Some r) h =
    only (nat_lt r.call exprs) (and_left (nat_lt r.call exprs) (has_kind is_variable os r.variable) h)

leave_there : (os : List ObjectInfo) (exprs : ℕ) (e : Leave)
    → fits_leave os exprs e ≡ true → list_all (λ x. nat_lt x exprs) (exprs_of (op.Leave e)) ≡ true
leave_there os exprs e h =
    let outputs = list_all (fits_output os exprs) e.outputs in
    let result = fits_result os exprs e.result in
    all_joined (λ x. nat_lt x exprs) (flat_map (λ (o : Output). flat_map selected_exprs o.targets) e.outputs)
    (result_exprs e.result)
    (all_flat (fits_output os exprs) (λ x. nat_lt x exprs) (λ (o : Output). flat_map selected_exprs o.targets)
    (λ o passed.
    targets_there os exprs o.targets (and_right (has_kind is_variable os o.variable) (fits_targets os exprs o.targets) passed))
    e.outputs (and_left outputs result h))
    (result_there os exprs e.result (and_right outputs result h))

exprs_there : (os : List ObjectInfo) (ns : List ExprNode) (ds : List DriverInfo) (l : Limits) (positions : ℕ) (o : Operation)
    → fits_operation os ns ds l positions o ≡ true → list_all (λ e. nat_lt e (length ns)) (exprs_of o) ≡ true
exprs_there os ns ds l positions (op.Assign value targets) h =
    let there = nat_lt value (length ns) in
    let aimed = fits_targets os (length ns) targets in
    both_true (and_left there aimed h) (targets_there os (length ns) targets (and_right there aimed h))
exprs_there os ns ds l positions (op.Hold value width it) h =
    let there = nat_lt value (length ns) in
    let delayed = fits_delay (length ns) l.precision it in
    both_true (first_of there (is_width width) delayed h)
    (only (nat_lt it.amount (length ns))
    (and_left (nat_lt it.amount (length ns)) (is_unit l.precision it.unit) (and_right (there && is_width width) delayed h)))
exprs_there os ns ds l positions (op.Store targets) h = targets_there os (length ns) targets h
exprs_there os ns ds l positions (op.Schedule s) h =
    let there = nat_lt s.value (length ns) in
    let aimed = fits_targets os (length ns) s.targets in
    let delayed = fits_delayed (length ns) l.precision s.delay in
    both_true (first_of there aimed delayed h)
    (all_joined (λ e. nat_lt e (length ns)) (flat_map selected_exprs s.targets) (delay_exprs s.delay)
    (targets_there os (length ns) s.targets (second_of there aimed delayed h))
    (delayed_there (length ns) l.precision s.delay (and_right (there && aimed) delayed h)))
exprs_there os ns ds l positions (op.Pause p) h = pause_there (length ns) l p h
exprs_there os ns ds l positions (op.Test condition otherwise) h =
    only (nat_lt condition (length ns)) (and_left (nat_lt condition (length ns)) (fits_goes positions otherwise) h)
exprs_there os ns ds l positions (op.Case c) h =
    both_true (case_subject ns positions c h)
    (all_mapped (fits_arm (length ns) positions) (λ e. nat_lt e (length ns)) (λ (a : Arm). a.value)
    (λ a passed. and_left (nat_lt a.value (length ns)) (fits_goes positions a.to) passed) c.arms
    (case_arms ns positions c h))
exprs_there os ns ds l positions (op.Loop t) h = loop_there (length ns) positions t h
exprs_there os ns ds l positions (op.Fork branches) h = refl
exprs_there os ns ds l positions op.End h = refl
exprs_there os ns ds l positions (op.Enter routine inputs) h =
    all_mapped (fits_input os (length ns)) (λ e. nat_lt e (length ns)) (λ (i : Input). i.value)
    (λ i passed. and_right (has_kind is_variable os i.variable) (nat_lt i.value (length ns)) passed) inputs
    (and_right (has_kind is_routine os routine && has_body os routine) (list_all (fits_input os (length ns)) inputs) h)
exprs_there os ns ds l positions (op.Leave e) h = leave_there os (length ns) e h
exprs_there os ns ds l positions (op.SysCall o) h = refl
exprs_there os ns ds l positions (op.SysFunc o) h = refl
exprs_there os ns ds l positions (op.Single s) h = single_there os (length ns) l.shows s h
exprs_there os ns ds l positions (op.Drive d) h =
    let driven = fits_drivers ds d.drivers in
    let there = nat_lt d.value (length ns) in
    let delayed = fits_delayed (length ns) l.precision d.delay in
    let front = and_left (driven && there && delayed) (nat_lt d.wait l.waits) h in
    both_true (second_of driven there delayed front)
    (delayed_there (length ns) l.precision d.delay (and_right (driven && there) delayed front))
exprs_there os ns ds l positions (op.Initial o value) h =
    only (nat_lt value (length ns)) (and_right (has_kind is_variable os o) (nat_lt value (length ns)) h)

pub expressions_are_there : ExpressionsAreThere
expressions_are_there d c k i fits at =
    let passed =
    exprs_there d.objects d.exprs d.drivers (limits_of d) (length c.instructions) i.operation
    (operation_fits d c k i fits at) in
    let all = AllPass-from_list_all (λ e. nat_lt e (length d.exprs)) (exprs_of i.operation) passed in
    λ n e inside. ltb-true (slice_index_or (exprs_of i.operation) n e) (length d.exprs) (all n e inside)

-- The time units of an operation that passes.
delay_pass : (exprs precision : ℕ) (it : Delay) → fits_delay exprs precision it ≡ true → is_unit precision it.unit ≡ true
delay_pass exprs precision it h = and_right (nat_lt it.amount exprs) (is_unit precision it.unit) h

delayed_pass : (exprs precision : ℕ) (o : Option Delay)
    → fits_delayed exprs precision o ≡ true → list_all (is_unit precision) (delay_units o) ≡ true
delayed_pass exprs precision None h = refl
delayed_pass exprs precision (Some it) h = only (is_unit precision it.unit) (delay_pass exprs precision it h)

pause_pass : (exprs : ℕ) (l : Limits) (p : Pause)
    → fits_pause exprs l p ≡ true → list_all (is_unit l.precision) (pause_units p) ≡ true
pause_pass exprs l (pause.Wait it) h = only (is_unit l.precision it.unit) (delay_pass exprs l.precision it h)
pause_pass exprs l (pause.Await wait) h = refl
pause_pass exprs l (pause.WaitFor condition wait) h = refl

units_pass : (os : List ObjectInfo) (ns : List ExprNode) (ds : List DriverInfo) (l : Limits) (positions : ℕ) (o : Operation)
    → fits_operation os ns ds l positions o ≡ true → list_all (is_unit l.precision) (units_of o) ≡ true
units_pass os ns ds l positions (op.Assign value targets) h = refl
units_pass os ns ds l positions (op.Hold value width it) h =
    only (is_unit l.precision it.unit) (delay_pass (length ns) l.precision it
    (and_right (nat_lt value (length ns) && is_width width) (fits_delay (length ns) l.precision it) h))
units_pass os ns ds l positions (op.Store targets) h = refl
units_pass os ns ds l positions (op.Schedule s) h =
    delayed_pass (length ns) l.precision s.delay
    (and_right (nat_lt s.value (length ns) && fits_targets os (length ns) s.targets)
    (fits_delayed (length ns) l.precision s.delay) h)
units_pass os ns ds l positions (op.Pause p) h = pause_pass (length ns) l p h
units_pass os ns ds l positions (op.Test condition otherwise) h = refl
units_pass os ns ds l positions (op.Case c) h = refl
units_pass os ns ds l positions (op.Loop t) h = refl
units_pass os ns ds l positions (op.Fork branches) h = refl
units_pass os ns ds l positions op.End h = refl
units_pass os ns ds l positions (op.Enter routine inputs) h = refl
units_pass os ns ds l positions (op.Leave e) h = refl
units_pass os ns ds l positions (op.SysCall o) h = refl
units_pass os ns ds l positions (op.SysFunc o) h = refl
units_pass os ns ds l positions (op.Single s) h = refl
units_pass os ns ds l positions (op.Drive d) h =
    delayed_pass (length ns) l.precision d.delay
    (second_of (fits_drivers ds d.drivers && nat_lt d.value (length ns)) (fits_delayed (length ns) l.precision d.delay)
    (nat_lt d.wait l.waits) h)
units_pass os ns ds l positions (op.Initial o value) h = refl

unit_of : (d : Shape) (unit : ℕ) → is_unit d.precision unit ≡ true → IsUnit d unit
unit_of d unit h = record {
  most = leb-true unit MOST_UNIT (and_left (nat_le unit MOST_UNIT) (nat_le d.precision unit) h);
  least = leb-true d.precision unit (and_right (nat_le unit MOST_UNIT) (nat_le d.precision unit) h);
}

pub delays_fit : DelaysFit
delays_fit d c k i fits at =
    let passed =
    units_pass d.objects d.exprs d.drivers (limits_of d) (length c.instructions) i.operation
    (operation_fits d c k i fits at) in
    let all = AllPass-from_list_all (is_unit d.precision) (units_of i.operation) passed in
    λ n u inside. unit_of d (slice_index_or (units_of i.operation) n u) (all n u inside)

-- A `case`.
pub cases_are_measured : CasesAreMeasured
cases_are_measured d c k i it fits at is =
    let positions = length c.instructions in
    let h : fits_case d.exprs positions it ≡ true = rw is at (operation_fits d c k i fits at) in
    let range = case_range d.exprs positions it h in
    record {
      width = case_width d.exprs positions it h;
      least = width_least it.width range;
      most = width_most it.width range;
      signed = case_signed d.exprs positions it h;
    }

-- What a wait that passes waits for.
either : (a b : Kind → Bool) (o : Option ObjectInfo)
    → (unwrap_or (option_map (λ (i : ObjectInfo). a i.kind) o) false || unwrap_or (option_map (λ (i : ObjectInfo). b i.kind) o) false) ≡ true
    → unwrap_or (option_map (λ (i : ObjectInfo). a i.kind || b i.kind) o) false ≡ true
either a b None h = h
either a b (Some i) h = h

term_pass : (os : List ObjectInfo) (t : Term) → fits_term os t ≡ true → passes os (term_read t) ≡ true
term_pass os (term.Digits o low width edge) h = and_left (has_kind is_vector os o) (is_width width) h
term_pass os (term.Event o) h = h
term_pass os (term.Reads o) h = either is_vector is_memory (slice_get os o) h

pub waits_fit : WaitsFit
waits_fit d w i valid at =
    let all = AllPass-from_list_all (fits_term d.objects) i.terms (valid.names.waits w i at) in
    λ n t inside.
    let it = slice_index_or i.terms n t in
    of_kind d.objects (term_read it).test (term_read it).object (term_pass d.objects it (all n t inside))

-- A display call and a statement.
pub shows_fit : ShowsFit
shows_fit d s i valid at =
    let scope = has_kind is_scope d.objects i.scope in
    let unit = is_unit d.precision i.unit in
    let args = list_all (fits_arg (length d.exprs)) i.args in
    let h = valid.names.shows s i at in (
      of_kind d.objects is_scope i.scope (first_of scope unit args h),
      unit_of d i.unit (second_of scope unit args h),
    )

pub statements_fit : StatementsFit
statements_fit d n i valid at = stmt_scope d i (valid.names.stmts n i at)

-- The codes and the bodies.
pub codes_may_stand : CodesMayStand
codes_may_stand d p c valid at = valid.codes p c at

pub bodies_may_stand : BodiesMayStand
bodies_may_stand d n c valid at = valid.bodies n c at
