use Rattle.std.proofs.Common.{◌≡◌, drop}
use Rattle.vh_display.specs.declared.format.Mode.TheVariants as mode
use Rattle.vh_display.specs.Formats.{front, with_text}
use Rattle.vh_display.proofs.format.front.Given as goal

-- What is there, before what is left.
abbrev pub invariant-loop-i : goal.invariant-loop-i
invariant-loop-i l =
    with_text l.out.items (front l.name l.mode (drop l.i l.format))
    ≡ with_text l.initial.out.items (front l.name mode.Plain l.format)
