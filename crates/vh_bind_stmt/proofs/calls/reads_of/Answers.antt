use Rattle.std.proofs.Common.{◌≡◌, ◌∙◌, ◌<◌, ◌≤◌, ◌++◌, [], length, sym, ap, arith, rules}
use Rattle.std.proofs.lemmas.List.{append-nil, append_assoc}
use Rattle.vh_design_code.specs.declared.wait.Term.{Term}
use Rattle.std.specs.Prelude.{List}
use Rattle.vh_bind_stmt.proofs.CallsLemmas.{reads-more, reads-none}
use Rattle.vh_bind_stmt.proofs.calls.reads_of.Goals as goal

pub loop-e-preserved : goal.loop-e-preserved
loop-e-preserved c =
    let ns = c.args.nodes.now in
    let more = reads-more ns c.loop-e.e c.loop-e-test.true in
    rw (c.in_ok-add_reads_there.ensures, c.at.ensures, append_assoc _ _ _, ← more) c.loop-e.invariant

pub returns : goal.returns
returns c =
    let ns = c.args.nodes.now in
    let outside : length ns ≤ c.loop-e.e = omega (arith, c.loop-e-test.false) in
    c.new.ensures ∙ sym (append-nil _)
    ∙ ap (λ (ts : List Term). c.loop-e.terms.items ++ ts) (sym (reads-none ns c.loop-e.e outside))
    ∙ c.loop-e.invariant
