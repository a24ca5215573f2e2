use Rattle.std.proofs.Common.{◌∙◌, ◌-◌, ℕ, List, reverse, ap}
use Rattle.vh_proc_thread.specs.declared.call.Repeat.{Repeat}
use Rattle.vh_proc_thread.specs.Control.{Control, repeat_turned}
use Rattle.vh_proc_thread.proofs.ControlLemmas.{turn-last}
use Rattle.vh_proc_thread.proofs.thread.Thread.take_turn.Goals as goal

pub returns-then-repeat-gt0-clause-turned : goal.returns-then-repeat-gt0-clause-turned
returns-then-repeat-gt0-clause-turned c =
    let i = c.self.inside in
    ap (λ (rs : List Repeat). (let q : Control = record { root = i.root; outer = i.outer; calls = reverse i.calls.items; repeats = rs; goes = i.goes } in q))
    (turn-last _ i.repeats.items c.in-Some.repeat.now (ap (λ (n : ℕ). n - 1) i.repeats.ok.0)
    c.in-Some.ensures.item.3.0 c.in-Some.ensures.value c.if-repeat-gt0.true)
    ∙ ap repeat_turned c.self.view_is
