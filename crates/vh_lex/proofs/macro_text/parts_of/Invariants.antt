use Rattle.std.proofs.Common.{◌≡◌, ◌++◌, length}
use Rattle.vh_lex.specs.MacroTexts.{parts_of}
use Rattle.vh_lex.proofs.macro_text.parts_of.Given as goal

abbrev pub invariant-loop-first : goal.invariant-loop-first
invariant-loop-first l = (parts_of l.text ≡ l.parts.items ++ parts_of l.rest) × (l.made ≡ l.fn.made)

abbrev pub decreases-loop-first : goal.decreases-loop-first
decreases-loop-first l = length l.rest
