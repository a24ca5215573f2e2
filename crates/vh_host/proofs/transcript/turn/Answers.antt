use Rattle.std.proofs.Common.{inr}
use Rattle.vh_kernel.specs.Views.{state_of}
use Rattle.vh_host.proofs.transcript.turn.Goals as goal

-- Memory was refused with the label's line
pub returns-clause-turned : goal.returns-clause-turned
returns-clause-turned g c = inr ((c.in-Ok.label, state_of c.step.new.self), c.in-Ok.ensures.step, c.in-Err-NoMemory.ensures.err)
