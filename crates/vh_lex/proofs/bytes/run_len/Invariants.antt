use Rattle.std.proofs.Common.{◌≡◌, ◌+◌, drop}
use Rattle.std.specs.List.{prefix_len}
use Rattle.vh_lex.specs.Classes.{of_class}
use Rattle.vh_lex.proofs.bytes.run_len.Given as goal

abbrev pub invariant-loop-i : goal.invariant-loop-i
invariant-loop-i l = prefix_len (of_class l.class) l.bytes ≡ l.i + prefix_len (of_class l.class) (drop l.i l.bytes)
