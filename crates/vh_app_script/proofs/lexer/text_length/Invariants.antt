use Rattle.std.proofs.Common.{◌≡◌, ◌≤◌, ◌-◌, false, length}
use Rattle.vh_app_script.specs.Spelling
use Rattle.vh_app_script.proofs.Cutting.{further_by}
use Rattle.vh_app_script.proofs.lexer.text_length.Given as goal

abbrev pub invariant-text : goal.invariant-text
invariant-text l =
    (length l.rest ≤ length l.bytes) × (Spelling.text_len false l.bytes ≡ further_by (length l.bytes - length l.rest) (Spelling.text_len l.escaped l.rest))

abbrev pub decreases-text : goal.decreases-text
decreases-text l = length l.rest
