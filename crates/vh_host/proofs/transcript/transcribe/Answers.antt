use Rattle.std.proofs.Common.{ℕ, Some, None, subst, arith, ◌∙◌}
use Rattle.vh_kernel.specs.Views.{state_of}
use Rattle.vh_host.specs.Turn.{Turned}
use Rattle.vh_host.proofs.TurnLemmas.{so_far_more, so_far_ends, so_far_spent}
use Rattle.vh_host.proofs.transcript.transcribe.Goals as goal

pub returns-in-Some-clause-wrote : goal.returns-in-Some-clause-wrote
returns-in-Some-clause-wrote g c =
    let P : ℕ → Type 0 = λ k. Turned k (Some c.in-Some.status) (state_of c.loop-made.kernel) (state_of c.turn.new.kernel)
    (g.K.Sink.written c.loop-made.out) (g.K.Sink.written c.turn.new.out) in
    so_far_ends _ _ _ _ _ _ _ _ _ _ _ c.requires.lawful c.loop-made.invariant.0 c.loop-made-test.true
    (subst P c.choose-k.ensures.choice c.in-Some.ensures.turned)

pub returns-in-Some-clause-calm : goal.returns-in-Some-clause-calm
returns-in-Some-clause-calm g c other = c.in-Some.ensures.calm (λ e. other (cc)) ∙ c.loop-made.invariant.2

pub loop-made-preserved : goal.loop-made-preserved
loop-made-preserved g c =
    let P : ℕ → Type 0 = λ k. Turned k None (state_of c.loop-made.kernel) (state_of c.turn.new.kernel)
    (g.K.Sink.written c.loop-made.out) (g.K.Sink.written c.turn.new.out) in (
      rw c.choose-k.ensures.next
          (so_far_more _ _ _ _ _ _ _ _ _ c.loop-made.invariant.0 (subst P c.choose-k.ensures.choice c.in_default.ensures.turned)),
      c.in_default.ensures.turned.3,
      c.in_default.ensures.calm (λ e. cc) ∙ c.loop-made.invariant.2,
    )

pub returns-clause-wrote : goal.returns-clause-wrote
returns-clause-wrote g c = so_far_spent _ _ _ _ _ _ _ _ c.requires.lawful c.loop-made.invariant.0 (omega arith)
