use Rattle.vh_bind.specs.Views.{numbers_of}
use Rattle.vh_lower.specs.Views.{added_of}
use Rattle.vh_elab.specs.Views.{coding_of, inputs_seen, ready_of}
use Rattle.vh_elab.proofs.InputsLemmas.{input-below}
use Rattle.vh_elab.proofs.gates.code_input.Goals as goal

pub returns-clause-below : goal.returns-clause-below
returns-clause-below c =
    input-below (numbers_of c.args.inputs.numbers) _ (ready_of c.args.coder.now) (coding_of c.args.coder.now) _
    (added_of c.gate_input-outcome.new.maker) c.gate_input-outcome.result c.in_ok-number.number (inputs_seen c.in_ok-inputs.inputs)
    c.requires.below c.gate_input-outcome.ensures.below c.gate_input-outcome.ensures.grows c.in_ok-number.ensures
    c.in_ok-inputs.ensures
