use Rattle.std.proofs.Common.{◌≡◌, ◌≤◌, ◌++◌, false, length, take, drop}
use Rattle.vh_app_script.specs.Spelling.{unescaped}
use Rattle.vh_app.proofs.forms.text.Given as goal

abbrev pub invariant-loop-byte : goal.invariant-loop-byte
invariant-loop-byte l =
    (l.length ≤ 255) × (length l.buffer ≡ 255) × (take l.length l.buffer ++ unescaped l.escaped (drop l.byte-index l.bytes) ≡ unescaped false l.bytes)
