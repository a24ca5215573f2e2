-- The table: the productions, with the proofs that they meet the conditions under which reading them
-- means what it should.
use Rattle.std.specs.Prelude.{Bool, false, List, ℕ}
use Rattle.vh_base.specs.declared.faults.AppFault.{AppFault}
use Rattle.vh_parse_grammar.specs.Table.{Table}
use Rattle.vh_parse_grammar.specs.Laws.{LawsOfProductions, LawsOfSources, ClassesAreFirsts, SpellsWithoutClasses, BeginsWithoutClasses}
use Rattle.vh_app_script.specs.Token.{Terminal}
use Rattle.vh_app_script.specs.Tree.{App}
use Rattle.vh_app_script.specs.Grammar.{Name, tree_of, grammar, app}
use Rattle.vh_app_script.specs.Conditions.{eating, advancing, start_advancing, settled, heeding, start_heeding}

-- No token stands for something that is left out (own).
abbrev pub none_left_out : Terminal → Bool
none_left_out t = false

-- The table of a script in front of which scripts of these names stand, with the rules up to this
-- fault (own).
abbrev pub script_table : AppFault → List (List ℕ) → Table
script_table rules earlier = record {
  Token = Terminal;
  left_out = none_left_out;
  Name = Name;
  tree_of = tree_of;
  grammar = grammar;
  Source = App;
  start = app rules earlier;
  eating = eating;
  advancing = advancing;
  start_advancing = start_advancing rules earlier;
  reach = 1;
  settled = settled;
  heeding = heeding;
  start_heeding = start_heeding rules earlier;
}

-- The laws of reading, of each of these tables (own).
pub record ScriptLaws (rules : AppFault) (earlier : List (List ℕ)) : Type 0 where
  pub productions : LawsOfProductions (script_table rules earlier)
  pub sources : LawsOfSources (script_table rules earlier)
  pub firsts : ClassesAreFirsts (script_table rules earlier)
  pub spelled : SpellsWithoutClasses (script_table rules earlier)
  pub begun : BeginsWithoutClasses (script_table rules earlier)
