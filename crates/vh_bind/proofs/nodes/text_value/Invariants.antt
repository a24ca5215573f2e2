use Rattle.std.proofs.Common.{◌≡◌, ◌+◌, ◌*◌, drop}
use Rattle.std.specs.List.{fold}
use Rattle.vh_logic.specs.Vector.{width_of}
use Rattle.vh_bind.specs.Nodes.{with_byte}
use Rattle.vh_bind.proofs.nodes.text_value.Given as goal

-- The bytes so far, with those that are left, make the number.
abbrev pub invariant-loop-byte : goal.invariant-loop-byte
invariant-loop-byte l = record {
  value : fold with_byte l.value (drop l.byte-index l.rest) ≡ fold with_byte l.initial.value l.rest;
  width : width_of l.value ≡ 8 * (l.byte-index + 1);
}
