use Rattle.std.proofs.Common.{◌≡◌, ◌<◌}
use Rattle.vh_kernel.specs.Views.{state_of}
use Rattle.vh_kernel.specs.Step.{choices_of}
use Rattle.vh_host.proofs.TurnLemmas.{SoFar}
use Rattle.vh_host.proofs.transcript.transcribe.Given as goal

abbrev pub invariant-loop-made : goal.invariant-loop-made
invariant-loop-made g l =
    SoFar l.fn.chooser l.next (state_of l.fn.kernel) (state_of l.kernel) l.made (g.K.Sink.written l.fn.out) (g.K.Sink.written l.out)
    × (0 < choices_of (state_of l.kernel))
    × (g.K.Sink.faults l.out ≡ g.K.Sink.faults l.fn.out)
