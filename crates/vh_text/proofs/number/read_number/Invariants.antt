use Rattle.std.proofs.Common.{◌≡◌, ℕ, drop}
use Rattle.vh_text.specs.Digits.{decimal_number, characters}
use Rattle.vh_text.specs.Views.{number_kept}
use Rattle.vh_text.proofs.LiteralsLemmas.{number_after}
use Rattle.vh_text.proofs.number.read_number.Given as goal

-- The number that is read so far, and that of the whole text by what is left of it
abbrev pub invariant-loop-b : goal.invariant-loop-b
invariant-loop-b l =
    (n : ℕ)
    × (decimal_number (characters l.bytes) ≡ number_after n (characters (drop l.b-index l.bytes)))
    × (l.number ≡ number_kept n)
