use Rattle.vh_lex.specs.Outcomes.{stop_of}
use Rattle.vh_lex.specs.declared.piece.Part.TheVariants.{Token}
use Rattle.vh_lex.specs.declared.piece.Piece.TheVariants.{Kept}
use Rattle.vh_lex.specs.declared.token.Kind.TheVariants.{Symbol}
use Rattle.vh_lex.proofs.SpellingLemmas.{made-went, step-piece}
use Rattle.vh_lex.proofs.reader.Reader.symbol_step.Goals as goal

pub returns-clause-went : goal.returns-clause-went
returns-clause-went c =
    rw c.made.ensures (step-piece c.args._bytes.now c.args.self.now (record c.args.self.now { made = c.push_symbol.new.self }) (Kept (Token (Symbol c.args.symbol)) 1)
    (stop_of 1 c.push_symbol.result) c.requires.read c.requires.lone.piece
    (made-went (Symbol c.args.symbol) c.args._bytes.now c.args.self.now c.push_symbol.new.self c.push_symbol.result c.push_symbol.ensures))
