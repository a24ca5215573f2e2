-- The bytes so far and those that are left.
use Rattle.std.proofs.Common.{◌≡◌, ◌+◌, ◌≤◌, false, length}
use Rattle.vh_app_script.specs.Spelling.{unescaped}
use Rattle.vh_app_script.proofs.take.unescaped_length.Given as goal

abbrev pub invariant-text : goal.invariant-text
invariant-text l = (length (unescaped false l.fn.text) ≡ l.length + length (unescaped l.escaped l.rest)) × (l.length + length l.rest ≤ length l.fn.text)

abbrev pub decreases-text : goal.decreases-text
decreases-text l = length l.rest
