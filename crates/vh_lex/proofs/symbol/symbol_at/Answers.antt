use Rattle.std.proofs.Common.{map}
use Rattle.std.specs.Option.{option_map}
use Rattle.vh_lex.specs.Views.{row_seen}
use Rattle.vh_lex.proofs.ViewsLemmas.{symbol-from, no-symbol}
use Rattle.vh_lex.proofs.symbol.symbol_at.Goals as goal

pub returns : goal.returns
returns c =
    record {
      value = symbol-from c.args.bytes.now c.in-Some.first.now c.in-Some.field-0-1.now (map row_seen c.symbols_from.result.now) (option_map row_seen c.begun.result)
          c.in-Some.ensures.cases.0 c.symbols_from.ensures c.begun.ensures.value;
      inside = c.begun.ensures.inside;
    }

pub returns-in_default-clause-value : goal.returns-in_default-clause-value
returns-in_default-clause-value c = no-symbol c.args.bytes.now c.in_default.ensures.cases
