use Rattle.std.proofs.Common.{◌≡◌, ◌-◌, ◌≤◌, length}
use Rattle.vh_lex.specs.Texts.{decoded}
use Rattle.vh_lex.proofs.TextsLemmas.{onto}
use Rattle.vh_lex.proofs.text.decoded.Given as goal

abbrev pub invariant-loop-first : goal.invariant-loop-first
invariant-loop-first l = (length l.rest ≤ length l.text) × (decoded l.text ≡ onto (length l.text - length l.rest) l.bytes.items (decoded l.rest))

abbrev pub decreases-loop-first : goal.decreases-loop-first
decreases-loop-first l = length l.rest
