use Rattle.std.proofs.Common.{◌≡◌, ◌+◌, drop, false}
use Rattle.std.specs.Option.{option_map}
use Rattle.vh_lex.specs.Bytes.{through}
use Rattle.vh_lex.proofs.bytes.through.Given as goal

abbrev pub invariant-loop-i : goal.invariant-loop-i
invariant-loop-i l = through l.first l.second false l.bytes ≡ option_map (λ len. l.i + len) (through l.first l.second l.half (drop l.i l.bytes))
