use Rattle.std.proofs.Common.{◌≡◌, map, drop, nat_eq}
use Rattle.std.specs.List.{find, starts_with}
use Rattle.vh_lex.specs.Views.{row_seen}
use Rattle.vh_lex.proofs.table.begun.Given as goal

abbrev pub invariant-loop-spelling : goal.invariant-loop-spelling
invariant-loop-spelling g l = find (λ row. starts_with nat_eq l.bytes row.0) (map row_seen l.rows) ≡ find (λ row. starts_with nat_eq l.bytes row.0) (map row_seen (drop l.spelling-index l.rows))
