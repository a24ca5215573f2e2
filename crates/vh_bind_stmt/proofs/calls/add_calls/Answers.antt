use Rattle.std.proofs.Common.{◌≡◌, ◌∙◌, ◌<◌, ◌≤◌, ◌++◌, [], length, sym, ap, arith, rules}
use Rattle.std.proofs.lemmas.List.{append-nil, append_assoc}
use Rattle.std.specs.Prelude.{List}
use Rattle.vh_design_code.specs.declared.operation.Operation.{Operation}
use Rattle.vh_bind_stmt.specs.Views.{surroundings_seen}
use Rattle.vh_bind_stmt.proofs.CallsLemmas.{calls-more, calls-none}
use Rattle.vh_bind_stmt.proofs.calls.add_calls.Goals as goal

pub loop-e-preserved : goal.loop-e-preserved
loop-e-preserved c =
    let ns = c.args.nodes.now in
    let more = calls-more (surroundings_seen c.args.around.now) ns c.loop-e.e c.loop-e-test.true in
    rw (c.in_ok-add_calls_there.ensures, c.at.ensures, append_assoc _ _ _, ← more) c.loop-e.invariant

pub returns : goal.returns
returns c =
    let ns = c.args.nodes.now in
    let outside : length ns ≤ c.loop-e.e = omega (arith, c.loop-e-test.false) in
    sym (append-nil _)
    ∙ ap (λ (os : List Operation). c.loop-e.operations.items ++ os) (sym (calls-none (surroundings_seen c.args.around.now) ns c.loop-e.e outside))
    ∙ c.loop-e.invariant
