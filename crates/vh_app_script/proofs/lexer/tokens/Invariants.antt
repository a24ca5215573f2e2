-- The tokens of the bytes are those so far and those of what is left.
use Rattle.std.proofs.Common.{◌≡◌, ◌++◌, length, map}
use Rattle.vh_app_script.specs.Spelling
use Rattle.vh_app_script.specs.Views.{token_seen}
use Rattle.vh_app_script.proofs.lexer.tokens.Given as goal

abbrev pub invariant-loop-rest : goal.invariant-loop-rest
invariant-loop-rest l = Spelling.tokens_of l.bytes ≡ map token_seen l.found.items ++ Spelling.tokens_of l.rest

abbrev pub decreases-loop-rest : goal.decreases-loop-rest
decreases-loop-rest l = length l.rest
