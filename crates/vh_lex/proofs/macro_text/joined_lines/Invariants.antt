use Rattle.std.proofs.Common.{◌≡◌, ◌++◌, length}
use Rattle.vh_lex.specs.MacroTexts.{joined_lines}
use Rattle.vh_lex.proofs.macro_text.joined_lines.Given as goal

abbrev pub invariant-loop-first : goal.invariant-loop-first
invariant-loop-first l = joined_lines l.text ≡ l.joined.items ++ joined_lines l.rest

abbrev pub decreases-loop-first : goal.decreases-loop-first
decreases-loop-first l = length l.rest
