use Rattle.std.proofs.Common.{◌≡◌, ◌++◌, ℕ, List, OnErr, ap, subst, ◌∙◌}
use Rattle.vh_base.specs.Outside.{AppendsFront}
use Rattle.vh_kernel.specs.Run.{line_of_move}
use Rattle.vh_kernel.specs.Views.{state_of}
use Rattle.vh_host.proofs.transcript.tell.Goals as goal

pub returns-in-Ok-clause-err : goal.returns-in-Ok-clause-err
returns-in-Ok-clause-err g c =
    let told : List ℕ = line_of_move (c.args.label.now, state_of c.args.kernel.now) in
    let line : c.as_bytes.result.now ≡ told =
    c.as_bytes.ensures.value ∙ c.in-Ok.ensures ∙ ap (λ (w : List ℕ). w ++ told) c.clear.ensures.bytes in
    let P : List ℕ → Type 0 = λ w. OnErr c.offer.result (AppendsFront (g.K.Sink.written c.args.out.now) (g.K.Sink.written c.offer.new.out) w) in
    subst P line c.offer.ensures.err
