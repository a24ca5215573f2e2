use Rattle.std.proofs.Common.{◌≡◌, true, false, sym, ap}
use Rattle.vh_kernel.specs.Step.{is_end}
use Rattle.vh_kernel.specs.Views.{state_of, given_by}
use Rattle.vh_handles.proofs.NumberedLemmas.{next-new}
use Rattle.vh_kernel.proofs.RunLemmas.{makes-move, makes-step}
use Rattle.vh_kernel.proofs.StepLemmas.{label-goes}
use Rattle.vh_kernel.proofs.kernel.Kernel.step.Goals as goal
use Rattle.vh_kernel.proofs.kernel.Kernel.step.Goals.{then-not-is_end, else-not-is_end}

pub returns-clause-step : goal.returns-clause-step
returns-clause-step c = elim c.if-not-is_end.branch [
  | then-not-is_end w ↦
      makes-step (state_of c.args.self.now) (state_of c.make_label.new.self) (state_of c.if-not-is_end.self) c.args.k
      (given_by c.args.self.now) c.in_ok-label.label false (next-new c.args.self.now.world.handles.next) c.in_ok-label.ensures
      (sym w.if-not-is_end.ensures) (rw w.self-is w.settle.ensures)
  | else-not-is_end w ↦
      makes-step (state_of c.args.self.now) (state_of c.make_label.new.self) (state_of c.if-not-is_end.self) c.args.k
      (given_by c.args.self.now) c.in_ok-label.label true (next-new c.args.self.now.world.handles.next) c.in_ok-label.ensures
      (sym w.if-not-is_end.ensures) (ap state_of w.self-is)
]

pub returns-clause-in_order : goal.returns-clause-in_order
returns-clause-in_order c = elim c.if-not-is_end.branch [
  | then-not-is_end w ↦
      makes-move (state_of c.args.self.now) (state_of c.make_label.new.self) (state_of c.if-not-is_end.self) c.args.k
      (given_by c.args.self.now) c.in_ok-label.label false c.in_ok-label.ensures
      (sym w.if-not-is_end.ensures) (rw w.self-is w.settle.ensures)
  | else-not-is_end w ↦
      makes-move (state_of c.args.self.now) (state_of c.make_label.new.self) (state_of c.if-not-is_end.self) c.args.k
      (given_by c.args.self.now) c.in_ok-label.label true c.in_ok-label.ensures
      (sym w.if-not-is_end.ensures) (ap state_of w.self-is)
]

pub returns-clause-goes : goal.returns-clause-goes
returns-clause-goes c = elim c.if-not-is_end.branch [
  | then-not-is_end w ↦
      label-goes (state_of c.args.self.now) (state_of c.make_label.new.self) (state_of c.if-not-is_end.self) c.args.k
      (given_by c.args.self.now) c.in_ok-label.label c.requires c.in_ok-label.ensures
      (rw w.self-is w.settle.ensures)
  | else-not-is_end w ↦ λ open_yet. absurd (let h : true ≡ is_end c.in_ok-label.label = w.if-not-is_end.ensures in cc)
]
