use Rattle.vh_lex.proofs.EndsLemmas.{answers-file}
use Rattle.vh_lex.proofs.lexer.Lexer.file.Goals as goal

pub returns-clause-text : goal.returns-clause-text
returns-clause-text c = answers-file c.read.new.self c.read.result c.read.ensures.answer
