-- Each clause is a law of the grammar's table.
use Rattle.vh_parse_grammar.proofs.LawsLemmas.{laws_of_productions, laws_of_sources, classes_are_firsts, spells_without_classes, begins_without_classes}
use Rattle.vh_parse_grammar.proofs.exact.Goals as goal

pub returns : goal.returns
returns g c =
    let t = g.G.Grammar.table in
    record {
      productions = laws_of_productions t;
      sources = laws_of_sources t;
      firsts = classes_are_firsts t;
      spelled = spells_without_classes t;
      begun = begins_without_classes t;
    }
