use Rattle.std.proofs.Common.{◌≡◌, take}
use Rattle.std.specs.List.{flat_map}
use Rattle.vh_app_lines.specs.Quoted.{plain}
use Rattle.vh_app_lines.proofs.quoted.is_plain.Given as goal

abbrev pub invariant-loop-byte : goal.invariant-loop-byte
invariant-loop-byte l = flat_map plain (take l.byte-index l.name) ≡ take l.byte-index l.name
