use Rattle.std.proofs.Common.{◌≡◌, take, map}
use Rattle.vh_app.specs.Next.{no_answers}
use Rattle.vh_kernel.proofs.kernel.opening.all_vars.Given as goal

abbrev pub invariant-loop-script : goal.invariant-loop-script
invariant-loop-script l = l.vars.items ≡ map no_answers (take l.script-index l.scripts)
