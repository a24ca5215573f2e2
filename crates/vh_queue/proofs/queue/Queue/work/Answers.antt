use Rattle.std.proofs.Common.{◌∙◌, ℕ, Some, None, ap, option_copied}
use Rattle.std.specs.Map.{values_of}
use Rattle.vh_queue.specs.Events.{Events, work_of}
use Rattle.vh_queue.specs.Views.{all_seen}
use Rattle.vh_queue.proofs.QueuesLemmas.{work-found}
use Rattle.vh_queue.proofs.queue.Queue.work.Goals as goal

pub returns-in_err-entry : goal.returns-in_err-entry
returns-in_err-entry c =
    let i = c.self.inside in
    ap option_copied c.from_residual.ensures
    ∙ work-found i.next i.time i.starts i.ready c.number.result i.horizons i.entries i.index None c.self.invariant c.in_err-entry.ensures
    ∙ ap (λ (n : ℕ). work_of n (let q : Events = record { entries = all_seen i.time i.horizons (values_of i.entries); next = i.next; time = i.time } in q)) c.number.ensures
    ∙ ap (λ (q : Events). work_of c.args.s q) c.self.view_is

pub returns : goal.returns
returns c =
    let i = c.self.inside in
    work-found i.next i.time i.starts i.ready c.number.result i.horizons i.entries i.index (Some c.in_ok-entry.entry.now) c.self.invariant c.in_ok-entry.ensures
    ∙ ap (λ (n : ℕ). work_of n (let q : Events = record { entries = all_seen i.time i.horizons (values_of i.entries); next = i.next; time = i.time } in q)) c.number.ensures
    ∙ ap (λ (q : Events). work_of c.args.s q) c.self.view_is
