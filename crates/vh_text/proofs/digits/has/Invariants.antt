use Rattle.std.proofs.Common.{◌≡◌, length, take, false}
use Rattle.std.specs.List.{list_any}
use Rattle.vh_logic.specs.Digit.{is_same}
use Rattle.vh_text.proofs.digits.has.Given as goal

abbrev pub invariant-loop-i : goal.invariant-loop-i
invariant-loop-i l = (l.i-end ≡ length l.v.digits) × (list_any (is_same l.digit) (take l.i l.v.digits) ≡ false)
