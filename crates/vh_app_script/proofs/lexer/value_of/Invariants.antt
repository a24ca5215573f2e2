use Rattle.std.proofs.Common.{◌≡◌, ◌<◌, length}
use Rattle.vh_app_script.specs.Spelling.{value_of}
use Rattle.vh_app_script.proofs.Numbers.{number_from}
use Rattle.vh_app_script.proofs.lexer.value_of.Given as goal

abbrev pub invariant-digits : goal.invariant-digits
invariant-digits l = (number_from l.number l.rest ≡ value_of l.spelling) × (l.number < 18446744073709551616)

abbrev pub decreases-digits : goal.decreases-digits
decreases-digits l = length l.rest
