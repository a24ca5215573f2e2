use Rattle.std.proofs.Common.{◌≡◌, ◌+◌, ◌≤◌, length}
use Rattle.vh_lex.specs.Spelling.{read}
use Rattle.vh_lex.proofs.reader.Reader.read.Given as goal

abbrev pub invariant-loop-behind : goal.invariant-loop-behind
invariant-loop-behind l =
    (read l.bytes l.fn.self ≡ read l.rest l.self)
    × (l.self.place.line + length l.rest ≤ l.fn.self.place.line + length l.bytes)
    × (l.self.place.column + length l.rest ≤ l.fn.self.place.column + length l.bytes)
    × (1 ≤ l.self.place.column)

abbrev pub decreases-loop-behind : goal.decreases-loop-behind
decreases-loop-behind l = length l.rest
