use Rattle.std.proofs.Common.{◌≡◌, map, drop}
use Rattle.std.specs.Prelude.{bytes_eq}
use Rattle.std.specs.List.{find}
use Rattle.vh_lex.specs.Views.{row_seen}
use Rattle.vh_lex.proofs.table.spelled.Given as goal

abbrev pub invariant-loop-spelling : goal.invariant-loop-spelling
invariant-loop-spelling g l = find (λ row. bytes_eq row.0 l.word) (map row_seen l.rows) ≡ find (λ row. bytes_eq row.0 l.word) (map row_seen (drop l.spelling-index l.rows))
