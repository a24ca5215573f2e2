use Rattle.std.proofs.Common.{◌≡◌, ◌<◌, ◌^◌, drop}
use Rattle.vh_text.specs.Values.{hex_number}
use Rattle.vh_text.proofs.ValuesLemmas.{hex_after}
use Rattle.vh_text.proofs.value.hex_number.Given as goal

-- The number of the whole text by what is left of it
abbrev pub invariant-loop-b : goal.invariant-loop-b
invariant-loop-b l = (hex_number l.bytes ≡ hex_after l.number (drop l.b-index l.bytes)) × (l.number < 16 ^ l.b-index)
