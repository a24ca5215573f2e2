use Rattle.vh_lex.proofs.EndsLemmas.{answers-end}
use Rattle.vh_lex.proofs.lexer.Lexer.end.Goals as goal

pub returns-clause-text : goal.returns-clause-text
returns-clause-text c = answers-end c.args.self.now c.closed.result c.closed.ensures
