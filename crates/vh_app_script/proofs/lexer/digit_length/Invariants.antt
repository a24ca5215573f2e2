use Rattle.std.proofs.Common.{◌≡◌, ◌+◌, ◌≤◌, length}
use Rattle.std.specs.List.{prefix_len}
use Rattle.vh_base.specs.Classes.{is_digit}
use Rattle.vh_app_script.proofs.lexer.digit_length.Given as goal

abbrev pub invariant-loop-rest : goal.invariant-loop-rest
invariant-loop-rest l = (length l.rest ≤ length l.bytes) × (prefix_len is_digit l.bytes + length l.rest ≡ prefix_len is_digit l.rest + length l.bytes)

abbrev pub decreases-loop-rest : goal.decreases-loop-rest
decreases-loop-rest l = length l.rest
