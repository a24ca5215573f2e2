use Rattle.std.proofs.Common.{◌∙◌}
use Rattle.vh_orders.proofs.LookUpLemmas.{place-named}
use Rattle.vh_orders.proofs.look_up.Index.position_named.Goals as goal

pub returns-in_default : goal.returns-in_default
returns-in_default c =
    c.in_default.ensures ∙ place-named c.args.text.now c.args.self.now c.args.names.now c.candidate-object.result
    c.memory_candidate-memory.result c.requires.indexes c.requires.whole c.candidate-object.ensures c.memory_candidate-memory.ensures

pub returns : goal.returns
returns c =
    c.in-Some.ensures ∙ place-named c.args.text.now c.args.self.now c.args.names.now c.candidate-object.result
    c.memory_candidate-memory.result c.requires.indexes c.requires.whole c.candidate-object.ensures c.memory_candidate-memory.ensures
