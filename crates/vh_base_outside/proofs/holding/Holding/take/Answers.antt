use Rattle.std.proofs.Common.{◌∙◌, ap, take, Result, Ok, Err, OnErr}
use Rattle.vh_base.specs.Outside.{appended}
use Rattle.vh_base_outside.proofs.Appended.{front_of_kept, all_of_kept}
use Rattle.vh_base_outside.proofs.holding.Holding.take.Goals as goal

on_err : {A E : Type 0} (r : Result A E) (P : Type 0) → P → OnErr r P
on_err (Ok x) P p = tt
on_err (Err e) P p = p

-- A front of what was kept was written out
pub returns-in_err-flush-clause-err : goal.returns-in_err-flush-clause-err
returns-in_err-flush-clause-err g c =
    let (part, w) = c.in_err-flush.ensures.err in
    on_err _ _
    (front_of_kept _ _ _ c.keep.new.self.held.items _ c.in_ok-keep.ensures.ok (
      part,
      w ∙ ap (λ s. appended (g.K.Sink.written s) (take part c.is_due.new.self.held.items)) c.is_due.ensures.sink
          ∙ ap (λ l. appended (g.K.Sink.written c.keep.new.self.sink) (take part l)) c.is_due.ensures.held,
    ))

-- All of it was
pub returns-in_ok-flush-clause-ok : goal.returns-in_ok-flush-clause-ok
returns-in_ok-flush-clause-ok g c =
    all_of_kept _ _ _ c.keep.new.self.held.items _ _ c.in_ok-keep.ensures.ok
    (c.in_ok-flush.ensures.ok ∙ ap (λ s. appended (g.K.Sink.written s) c.is_due.new.self.held.items) c.is_due.ensures.sink
    ∙ ap (λ l. appended (g.K.Sink.written c.keep.new.self.sink) l) c.is_due.ensures.held)
    c.in_ok-flush.ensures.nothing
