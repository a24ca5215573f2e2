-- Lists that are trees already.
use Rattle.std.proofs.Common.{ℕ, List, map, Result, Ok, Err, ap, ◌∙◌}
use Rattle.std.proofs.lemmas.List.{map-id}
use Rattle.vh_parse_grammar.specs.declared.stop.Stop.{Stop}
use Rattle.vh_parse_grammar.specs.Reading.{Out, got}
use Rattle.vh_parse_grammar.specs.Says.{Says}
use Rattle.vh_ast.specs.declared.token.Id.{Id}
use Rattle.vh_parse_syntax.specs.Tokens.{Token, token_seen}
use Rattle.vh_parse_expr.specs.Views.{At}

-- identifiers, each of which is its own tree
pub ids_same : (o : Out Token (List Id × ℕ)) (r : Result (List Id × At) Stop) → Says token_seen (map (λ (i : Id). i)) o r → Says token_seen (λ all. all) o r
ids_same o (Ok found) e = e ∙ ap (λ all. got (all, (found.1).omission) (map token_seen (found.1).tokens.now)) (map-id found.0)
ids_same o (Err fault) e = e
