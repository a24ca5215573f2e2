-- The tokens of a source are spelled so.
use Rattle.std.proofs.Common.{refl, map}
use Rattle.vh_parse_syntax.specs.Tokens.{token_seen}
use Rattle.vh_parse_items.proofs.AnswersLemmas.{spelled}
use Rattle.vh_parse_items.proofs.whole.parse.Goals as goal

pub returns-in-Ok-clause-spelled : goal.returns-in-Ok-clause-spelled
returns-in-Ok-clause-spelled c = spelled (map token_seen c.args.tokens.now) (map token_seen c.args.tokens.now) _ c.syntax_laws.ensures.sources refl c.in-Ok.ensures
