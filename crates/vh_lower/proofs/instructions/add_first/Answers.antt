use Rattle.std.proofs.Common.{rules, sym, refl, append_assoc, ◌≡◌, [], ◌∷◌, ◌++◌}
use Rattle.std.proofs.lemmas.List.{map-append}
use Rattle.vh_lower_flow.specs.Views.{flow_tree}
use Rattle.vh_lower.specs.Instructions.{instruction, from_first}
use Rattle.vh_lower.proofs.InstructionsLemmas.{first-more, more-there}
use Rattle.vh_lower.proofs.instructions.add_first.Goals as goal

pub loop-operation-preserved : goal.loop-operation-preserved
loop-operation-preserved c =
    let is : flow_tree c.in_ok-instruction.field-0 ≡ instruction c.args.number c.loop-operation.first c.in-Some.operation = search rules in
    let more : from_first c.args.number (c.loop-operation.yielded ++ c.in-Some.operation ∷ [])
    ≡ from_first c.args.number c.loop-operation.yielded ++ flow_tree c.in_ok-instruction.field-0 ∷ [] =
    rw (first-more c.args.number c.loop-operation.yielded c.in-Some.operation, ← c.loop-operation.invariant.first, is) refl in
    record {
      row = rw (
        more,
        c.in_ok-push.ensures.ok,
        map-append flow_tree c.loop-operation.row (c.in_ok-instruction.field-0 ∷ []),
        c.loop-operation.invariant.row,
      ) (search (rules, append_assoc));
      first = sym (more-there c.loop-operation.yielded c.in-Some.operation);
    }
