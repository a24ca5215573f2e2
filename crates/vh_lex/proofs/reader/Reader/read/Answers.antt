use Rattle.std.proofs.Common.{◌≡◌, ◌-◌, length, take, ◌∙◌, ap, length-take, length-drop, arith}
use Rattle.vh_lex.specs.Spelling.{read}
use Rattle.vh_lex.specs.State.{moved}
use Rattle.vh_lex.proofs.SpellingLemmas.{read-more}
use Rattle.vh_lex.proofs.reader.Reader.read.Goals as goal

pub loop-behind-preserved : goal.loop-behind-preserved
loop-behind-preserved c =
    let n = c.in-Some.ensures.cases.1 in
    let len = c.in-Ok-step.len in
    let t : length c.upto.result.now ≡ length (take c.in-Ok-step.len c.loop-behind.rest.now) = ap length c.upto.ensures in
    let d = length-drop (c.in-Ok-step.len - 1) c.in-Some.behind.now in
    let k = length-take c.in-Ok-step.len c.loop-behind.rest.now in
    rw (c.after-rest.ensures, c.saturating_sub.ensures) (
      read-more (read c.args.bytes.now c.args.self.now) c.in-Some.field-0-0.now c.in-Some.behind.now c.loop-behind.rest.now c.loop-behind.self c.step.new.self c.in-Ok-step.len c.moved-self.result
          c.in-Some.ensures.cases.0 c.in-Ok-step.ensures (c.moved-self.ensures.value ∙ ap (λ bs. moved bs c.loop-behind.self.place) c.upto.ensures) c.loop-behind.invariant.0,
      omega arith,
      omega arith,
      c.moved-self.ensures.first,
    )
