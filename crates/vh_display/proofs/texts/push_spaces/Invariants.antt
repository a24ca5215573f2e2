use Rattle.std.proofs.Common.{◌≡◌, ◌++◌, replicate}
use Rattle.vh_display.proofs.texts.push_spaces.Given as goal

-- So many spaces are there.
abbrev pub invariant-loop : goal.invariant-loop
invariant-loop l = l.out.items ≡ l.initial.out.items ++ replicate l.counter 32
