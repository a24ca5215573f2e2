use Rattle.std.proofs.Common.{◌∙◌, ap, take}
use Rattle.std.proofs.lemmas.Result.{on_ok_weaker, on_err_weaker}
use Rattle.vh_base.specs.Outside.{appended}
use Rattle.vh_base_outside.proofs.Appended.{kept_whole, front_whole}
use Rattle.vh_base_outside.proofs.holding.Holding.keep.Goals as goal

-- The piece was written behind all that was held
pub returns-clause-ok : goal.returns-clause-ok
returns-clause-ok g c =
    on_ok_weaker c.write_whole.result
    (λ w. kept_whole _ _ _ _ _ _
    (c.in_ok-flush.ensures.ok ∙ ap (λ s. appended (g.K.Sink.written s) c.hold.new.self.held.items) c.hold.ensures.sink
    ∙ ap (λ l. appended (g.K.Sink.written c.args.self.now.sink) l) c.if-hold.ensures.held)
    (w ∙ ap (λ s. appended (g.K.Sink.written s) c.args.piece.now) c.hold-2.ensures.sink)
    (c.if-hold-2.ensures.held ∙ c.in_ok-flush.ensures.nothing))
    c.write_whole.ensures.ok

-- Or a front of it
pub returns-clause-err : goal.returns-clause-err
returns-clause-err g c =
    on_err_weaker c.write_whole.result
    (λ (part, w). front_whole _ _ _ _ _
    (c.in_ok-flush.ensures.ok ∙ ap (λ s. appended (g.K.Sink.written s) c.hold.new.self.held.items) c.hold.ensures.sink
    ∙ ap (λ l. appended (g.K.Sink.written c.args.self.now.sink) l) c.if-hold.ensures.held)
    (part, w ∙ ap (λ s. appended (g.K.Sink.written s) (take part c.args.piece.now)) c.hold-2.ensures.sink))
    c.write_whole.ensures.err
