-- Each is a law of the kit, at this table.
use Rattle.vh_parse_grammar.proofs.LawsLemmas.{laws_of_productions, laws_of_sources, classes_are_firsts, spells_without_classes, begins_without_classes}
use Rattle.vh_app_script.specs.Table.{script_table}
use Rattle.vh_app_script.proofs.laws.script_laws.Goals as goal

pub returns : goal.returns
returns c rules earlier =
    let t = script_table rules earlier in
    record {
      productions = laws_of_productions t;
      sources = laws_of_sources t;
      firsts = classes_are_firsts t;
      spelled = spells_without_classes t;
      begun = begins_without_classes t;
    }
