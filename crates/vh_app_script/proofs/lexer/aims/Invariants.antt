-- What follows decides.
use Rattle.std.proofs.Common.{◌≡◌, false, length}
use Rattle.vh_app_script.specs.Spelling
use Rattle.vh_app_script.proofs.lexer.aims.Given as goal

abbrev pub invariant-blank : goal.invariant-blank
invariant-blank l = Spelling.aims false l.bytes ≡ Spelling.aims l.comment l.rest

abbrev pub decreases-blank : goal.decreases-blank
decreases-blank l = length l.rest
