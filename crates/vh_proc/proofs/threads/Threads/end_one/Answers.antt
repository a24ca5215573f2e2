use Rattle.std.proofs.Common.{◌≡◌, ◌∙◌, Option, None, sym, ap}
use Rattle.vh_proc_turn.specs.declared.process.Process.{Process}
use Rattle.vh_proc.specs.Disabled.{ended_in}
use Rattle.vh_proc.specs.Processes.{Processes, process_at, scheduled}
use Rattle.vh_proc.proofs.FamiliesLemmas.{none-gone}
use Rattle.vh_proc.proofs.threads.Threads.end_one.Goals as goal

pub returns-in_default-clause-ended : goal.returns-in_default-clause-ended
returns-in_default-clause-ended c =
    let none : process_at c.args.p c.args.self.now ≡ None = sym c.take_out.ensures.process ∙ c.in_default.is in
    ap (λ (ps : Processes). scheduled ps c.args.sense.now c.args.q.now) (c.take_out.ensures.gone ∙ none-gone c.args.p c.args.self.now none)
    ∙ sym (ap (λ (o : Option Process). ended_in o c.args.p (scheduled c.args.self.now c.args.sense.now c.args.q.now)) none)
