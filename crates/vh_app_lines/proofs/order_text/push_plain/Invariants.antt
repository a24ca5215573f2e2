use Rattle.std.proofs.Common.{◌≡◌, ◌++◌, take, string_bytes}
use Rattle.vh_app_lines.proofs.order_text.push_plain.Given as goal

abbrev pub invariant-loop-byte : goal.invariant-loop-byte
invariant-loop-byte l = string_bytes l.line ≡ string_bytes l.initial.line ++ take l.byte-index l.text
