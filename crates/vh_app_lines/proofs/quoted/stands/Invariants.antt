use Rattle.std.proofs.Common.{◌≡◌, true, take}
use Rattle.std.specs.List.{flat_map}
use Rattle.vh_app_lines.specs.Quoted.{escaped}
use Rattle.vh_app_lines.proofs.quoted.stands.Given as goal

abbrev pub invariant-loop-byte : goal.invariant-loop-byte
invariant-loop-byte l = l.all ≡ true → flat_map escaped (take l.byte-index l.text) ≡ take l.byte-index l.text
