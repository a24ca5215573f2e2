-- Parts of the table that have no name there, for the functions that read them.
use Rattle.std.specs.Prelude.{◌&&◌, List, Option}
use Rattle.vh_parse_grammar.specs.Part.{rep, barred, only, opt, two, after, listed}
use Rattle.vh_ast.specs.Statements.{DelayTree, EvTree}
use Rattle.vh_parse_syntax.specs.declared.lexeme.Lexeme.TheVariants as lexeme
use Rattle.vh_parse_syntax.specs.Tokens.{is}
use Rattle.vh_parse_syntax.specs.Parts.{G, at_the}
use Rattle.vh_parse_syntax.specs.Statements.{delay_of, is_expr, delay_value, delay, is_or, ev}

-- A delay up to the bracket that ends it: the "," behind its expression shows a second one (IEEE
-- 1364-2005, A.2.2.3).
abbrev pub delay_front : G DelayTree
delay_front =
    barred (λ d t. is_expr d.value && is lexeme.Comma t) (two delay_of (at_the lexeme.Hash) delay_value)

-- Event expressions, and further ones alone (IEEE 1364-2005, A.6.5).
abbrev pub ev_list : G (List EvTree)
ev_list = listed is_or (only is_or) ev

abbrev pub more_evs : G (List EvTree)
more_evs = rep is_or (after (only is_or) ev)

-- A delay, if one is written (IEEE 1364-2005, A.2.2.3).
abbrev pub delay_behind : G (Option DelayTree)
delay_behind = opt (is lexeme.Hash) delay
