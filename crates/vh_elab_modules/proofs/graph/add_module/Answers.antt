use Rattle.std.proofs.Common.{◌≡◌, ◌++◌, ◌∙◌, ℕ, List, Bor, ap, subst}
use Rattle.std.specs.Prelude.{map, OnOk}
use Rattle.vh_ast.specs.declared.token.Id.{Id}
use Rattle.vh_ast.specs.Views.{module_tree}
use Rattle.vh_elab_mentions.specs.Mentions.{Ids, instantiated}
use Rattle.vh_elab_mentions.specs.Views.{ids_seen}
use Rattle.vh_elab_modules.specs.Numbers.{Numbered, number_of, numbered_in}
use Rattle.vh_elab_modules.specs.Views.{holdings_seen}
use Rattle.vh_elab_modules.proofs.ModulesLemmas.{holdings-numbered}
use Rattle.vh_elab_modules.proofs.graph.add_module.Goals as goal

pub returns : goal.returns
returns c =
    let ns = c.args.index.now in
    let tree = module_tree c.args.module.now in
    let is =
    ap (λ (from : ℕ). map (numbered_in ns from) (ids_seen c.deref.result.now)) (c.number_of-from.ensures ∙ ap (number_of ns) c.as_slice.ensures)
    ∙ ap (λ (ids : List (Bor Id)). map (numbered_in ns (number_of ns tree.id.name)) (ids_seen ids)) c.deref.ensures.value
    ∙ ap (λ (ids : Ids). map (numbered_in ns (number_of ns tree.id.name)) ids) c.in_ok-ids.ensures
    ∙ holdings-numbered ns tree.id.name (instantiated tree) in
    subst (λ (hs : List Numbered). OnOk c.add_holdings.result (holdings_seen c.add_holdings.new.holdings.items ≡ holdings_seen c.args.holdings.now.items ++ hs))
    is c.add_holdings.ensures
