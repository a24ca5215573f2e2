use Rattle.std.proofs.Common.{◌∙◌, sym, subst}
use Rattle.vh_proc.specs.Processes.{AllRun}
use Rattle.vh_proc_simulation.proofs.simulation.Simulation.change.Goals as goal

pub invariant_of-self-2 : goal.invariant_of-self-2
invariant_of-self-2 c = λ _.
    let before = c.self.invariant c.if-self.false in record {
      runs = c.in_ok-enter_all.ensures.runs c.self.inside.design (subst (AllRun c.self.inside.design) (sym c.take_list-made.ensures.same) before.runs);
      waits = c.in_ok-enter_all.ensures.waits ∙ before.waits;
      now = c.in_ok-take_changes.ensures.time ∙ before.now ∙ sym c.in_ok-enter_all.ensures.now;
    }
