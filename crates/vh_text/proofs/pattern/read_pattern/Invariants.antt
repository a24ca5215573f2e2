use Rattle.std.proofs.Common.{◌≡◌, ◌<◌, drop, length, List, Some}
use Rattle.vh_logic.specs.declared.digits.Digit.{Digit}
use Rattle.vh_text.specs.Digits.{spelled_digits, characters, joined_digits}
use Rattle.vh_text.specs.Views.{pattern_of}
use Rattle.vh_text.proofs.pattern.read_pattern.Given as goal

-- The digits that are read so far, and those of the whole text by what is left of it
abbrev pub invariant-loop-b : goal.invariant-loop-b
invariant-loop-b l =
    (ds : List Digit)
    × (0 < length ds)
    × (spelled_digits l.group (characters l.bytes) ≡ joined_digits (spelled_digits l.group (characters (drop l.b-index l.rest))) (Some ds))
    × (l.pattern ≡ pattern_of ds)
