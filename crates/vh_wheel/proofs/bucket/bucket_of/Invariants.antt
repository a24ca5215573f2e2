use Rattle.std.proofs.Common.{◌≡◌, ◌+◌, ◌-◌, ◌*◌}
use Rattle.vh_wheel.specs.Views.{bucket_from}
use Rattle.vh_wheel.proofs.TimesLemmas.{HasBytes}
use Rattle.vh_wheel.proofs.bucket.bucket_of.Given as goal

abbrev pub invariant-loop-level : goal.invariant-loop-level
invariant-loop-level l =
    (bucket_from 7 l.fn.now l.time ≡ 256 * l.level + bucket_from (7 - l.level) l.base l.rest) × HasBytes (7 - l.level) l.rest
