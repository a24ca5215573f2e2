use Rattle.std.proofs.Common.{◌-◌, length, arith, rules}
use Rattle.vh_lex.specs.Texts.{decoded}
use Rattle.vh_lex.proofs.TextsLemmas.{plain-byte}
use Rattle.vh_lex.proofs.text.decoded.Goals as goal

pub loop-first-preserved : goal.loop-first-preserved
loop-first-preserved c =
    let e = c.in-Some.ensures.cases.0 in
    let n = c.in-Some.ensures.cases.1 in
    let h = rw e at c.loop-first.invariant.1 in
    rw c.in_ok-push-2.ensures.items
    (omega arith, plain-byte _ (length c.args.text.now - length c.in-Some.behind.now) c.loop-first.bytes.items c.in-Some.first.now c.in-Some.behind.now (decoded c.args.text.now) (search rules) (omega arith) h)
