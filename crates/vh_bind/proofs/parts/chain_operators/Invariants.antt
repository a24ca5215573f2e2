use Rattle.std.proofs.Common.{◌≡◌, ◌++◌, drop}
use Rattle.std.specs.Prelude.{map}
use Rattle.vh_ast.specs.Expressions.{links}
use Rattle.vh_ast.specs.Views.{link_tree}
use Rattle.vh_bind.specs.Constants.{operators}
use Rattle.vh_bind.proofs.parts.chain_operators.Given as goal

-- The operators so far, with those that are left, are those of the chain.
abbrev pub invariant-loop-link : goal.invariant-loop-link
invariant-loop-link l =
    l.operators.items ++ operators (links (map link_tree (drop l.link-index l.links)))
    ≡ operators (links (map link_tree l.links))
