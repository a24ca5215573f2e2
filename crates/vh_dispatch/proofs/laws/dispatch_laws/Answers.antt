use Rattle.vh_dispatch.proofs.FramesLemmas.{loses_number, keeps_frames}
use Rattle.vh_dispatch.proofs.laws.dispatch_laws.Goals as goal

pub returns-clause-loses : goal.returns-clause-loses
returns-clause-loses g c = loses_number

pub returns-clause-keeps : goal.returns-clause-keeps
returns-clause-keeps g c = keeps_frames
