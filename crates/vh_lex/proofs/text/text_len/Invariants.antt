use Rattle.std.proofs.Common.{◌≡◌, ◌+◌, drop, false}
use Rattle.std.specs.Option.{option_map}
use Rattle.vh_lex.specs.Texts.{text_len}
use Rattle.vh_lex.proofs.text.text_len.Given as goal

abbrev pub invariant-loop-i : goal.invariant-loop-i
invariant-loop-i l = text_len false l.bytes ≡ option_map (λ len. l.i + len) (text_len l.escaped (drop l.i l.bytes))
