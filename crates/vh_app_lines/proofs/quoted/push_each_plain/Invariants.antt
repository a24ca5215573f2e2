use Rattle.std.proofs.Common.{◌≡◌, ◌++◌, take, string_bytes}
use Rattle.std.specs.List.{flat_map}
use Rattle.vh_app_lines.specs.Quoted.{plain}
use Rattle.vh_app_lines.proofs.quoted.push_each_plain.Given as goal

abbrev pub invariant-loop-byte : goal.invariant-loop-byte
invariant-loop-byte l = string_bytes l.line ≡ string_bytes l.initial.line ++ flat_map plain (take l.byte-index l.name)
