use Rattle.std.proofs.Common.{◌≡◌, ◌-◌, ◌*◌, ◌≤◌, length, drop}
use Rattle.std.specs.String.{string_bytes}
use Rattle.vh_text.specs.Texts.{groups_text, group_count}
use Rattle.vh_text.proofs.text.write_grouped.Given as goal

abbrev pub invariant-loop-left : goal.invariant-loop-left
invariant-loop-left l =
    (string_bytes l.out ≡ groups_text (group_count l.group (length l.v.digits) - l.left) l.group (drop (l.left * l.group) l.v.digits))
    × (l.left ≤ group_count l.group (length l.v.digits))
    × (l.width ≡ length l.v.digits)

abbrev pub decreases-loop-left : goal.decreases-loop-left
decreases-loop-left l = l.left
