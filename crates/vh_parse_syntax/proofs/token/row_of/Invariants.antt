use Rattle.std.proofs.Common.{◌≡◌, drop}
use Rattle.std.specs.List.{find}
use Rattle.vh_parse_syntax.specs.Lexemes.{same}
use Rattle.vh_parse_syntax.proofs.token.row_of.Given as goal

abbrev pub invariant-loop-own : goal.invariant-loop-own
invariant-loop-own g l = find (λ row. same row.0 l.lexeme) l.rows ≡ find (λ row. same row.0 l.lexeme) (drop l.own-index l.rows)
