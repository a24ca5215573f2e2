use Rattle.vh_kernel.specs.Views.{state_of}
use Rattle.vh_kernel.proofs.kernel.Kernel.new.Goals as goal

pub returns-clause-opens : goal.returns-clause-opens
returns-clause-opens c = record {
  before = state_of c.in_ok-kernel.kernel;
  is = c.in_ok-kernel.ensures;
  settles = c.settle.ensures;
}
