use Rattle.std.proofs.Common.{◌≡◌, ◌+◌, ◌≤◌, drop}
use Rattle.vh_lex.specs.State.{moved}
use Rattle.vh_lex.proofs.place.moved.Given as goal

abbrev pub invariant-loop-b : goal.invariant-loop-b
invariant-loop-b l =
    (moved l.bytes l.place ≡ moved (drop l.b-index l.bytes) (record { file = l.place.file; line = l.line; column = l.column }))
    × (l.line ≤ l.place.line + l.b-index) × (l.column ≤ l.place.column + l.b-index) × (1 ≤ l.column)
