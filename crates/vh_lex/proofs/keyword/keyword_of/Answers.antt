use Rattle.std.proofs.Common.{map}
use Rattle.vh_lex.specs.Views.{row_seen}
use Rattle.vh_lex.proofs.ViewsLemmas.{keyword-from, no-keyword}
use Rattle.vh_lex.proofs.keyword.keyword_of.Goals as goal

pub returns-in_default : goal.returns-in_default
returns-in_default c = no-keyword c.args.name.now c.in_default.ensures.cases

pub returns : goal.returns
returns c =
    keyword-from c.args.name.now c.in-Some.first.now c.in-Some.field-0-1.now (map row_seen c.keywords_from.result.now) c.spelled.result
    c.in-Some.ensures.cases.0 c.keywords_from.ensures c.spelled.ensures
