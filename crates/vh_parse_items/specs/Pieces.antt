-- Parts of the table that have no name there, for the functions that read them.
use Rattle.std.specs.Prelude.{ℕ, Option}
use Rattle.vh_parse_grammar.specs.Part.{act, alt, iter, unless, opt, after}
use Rattle.vh_ast.specs.declared.token.Id.{Id}
use Rattle.vh_ast.specs.Declarations.{PortsTree}
use Rattle.vh_ast.specs.Items.{ItemTree}
use Rattle.vh_parse_syntax.specs.declared.lexeme.Lexeme.TheVariants as lexeme
use Rattle.vh_parse_syntax.specs.Tokens.{is, is_name, in_rows}
use Rattle.vh_parse_syntax.specs.Parts.{G, the, at_the, an_id}
use Rattle.vh_parse_syntax.specs.Items.{Region, process_rows, begins_ports, ports, instance_item, process_item, task_item, function_item, for_item, if_item, item, with_item, with_generate, with_endgenerate, region_goes, region_turn, within_goes, within_turn}

-- The branches of an item from an instance on (IEEE 1364-2005, A.1.4).
abbrev pub last_items : G ItemTree
last_items =
    alt is_name instance_item
    (alt (in_rows process_rows) process_item
    (alt (is lexeme.Task) task_item
    (alt (is lexeme.Function) function_item
    (alt (is lexeme.For) for_item if_item))))

-- An item in a row; with "generate", and where a region is open with "endgenerate" (IEEE 1364-2005,
-- A.1.4 and A.4.2).
abbrev pub item_part : Region → G Region
item_part r = act (with_item r) item

abbrev pub outer_word : Region → G Region
outer_word r = alt (is lexeme.Generate) (act (with_generate r) (at_the lexeme.Generate)) (item_part r)

abbrev pub inner_word : ℕ → Region → G Region
inner_word depth r =
    alt (is lexeme.Generate) (act (with_generate r) (at_the lexeme.Generate))
    (alt (is lexeme.Endgenerate) (act (with_endgenerate depth r) (at_the lexeme.Endgenerate))
    (item_part r))

-- Items as far as they go, and up to the end of the region that is open (IEEE 1364-2005, A.1.4 and
-- A.4.2).
abbrev pub all_items : Region → G Region
all_items r = iter (λ u t. region_goes u.depth t) (λ u. region_turn u.depth u) r

abbrev pub within : Region → G Region
within r = iter (λ u t. within_goes u.depth t) (λ u. within_turn u.depth u) r

-- The name of a block of items (IEEE 1364-2005, A.4.2).
abbrev pub written_name : G (Option Id)
written_name = opt (is lexeme.Colon) (after (the lexeme.Colon) an_id)

-- The ports in the brackets of a header, if there are any (IEEE 1364-2005, A.1.3).
abbrev pub maybe_ports : G (Option PortsTree)
maybe_ports = unless (is lexeme.Inout) (opt begins_ports ports)
