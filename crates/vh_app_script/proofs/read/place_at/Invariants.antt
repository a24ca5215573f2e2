-- The place behind the bytes so far.
use Rattle.std.proofs.Common.{◌≡◌, ℕ, ◌≤◌, ◌+◌, fold, take}
use Rattle.vh_base.specs.declared.place.Place.{Place}
use Rattle.vh_app_script.specs.Places.{start, behind}
use Rattle.vh_app_script.proofs.read.place_at.Given as goal

abbrev so_far : ℕ → ℕ → Place
so_far line column = record { file = 0; line = line; column = column }

abbrev pub invariant-loop-byte : goal.invariant-loop-byte
invariant-loop-byte l =
    (so_far l.line l.column ≡ fold behind start (take l.byte-index l.front)) × (l.line ≤ l.byte-index + 1) × (l.column ≤ l.byte-index + 1)
