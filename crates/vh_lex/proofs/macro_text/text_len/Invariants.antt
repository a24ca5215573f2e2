use Rattle.std.proofs.Common.{◌≡◌, ◌+◌, ◌≤◌, length}
use Rattle.vh_lex.specs.MacroTexts.{macro_text_len, text_end}
use Rattle.vh_lex.proofs.macro_text.text_len.Given as goal

abbrev pub invariant-loop-first : goal.invariant-loop-first
invariant-loop-first l =
    (length l.rest ≤ length l.bytes) × (macro_text_len l.bytes + length l.rest ≡ length l.bytes + text_end l.passes l.mode l.rest)

abbrev pub decreases-loop-first : goal.decreases-loop-first
decreases-loop-first l = length l.rest
