use Rattle.std.proofs.Common.{length, map, sym}
use Rattle.std.proofs.lemmas.List.{length-map}
use Rattle.vh_ast.specs.Views.{module_tree}
use Rattle.vh_elab_modules.specs.Views.{holdings_seen}
use Rattle.vh_elab_modules.proofs.ModulesLemmas.{top-found-by}
use Rattle.vh_elab_modules.proofs.top.only_top.Goals as goal

pub returns : goal.returns
returns c =
    top-found-by (map module_tree c.args.modules.now) c.args.index.now (length c.args.modules.now) (holdings_seen c.args.graph.now)
    c.in_ok-held.held.items c.deref.result.now c.in_ok-tops.tops.items c.deref-2.result.now c.only_one.result
    c.requires.named (sym (length-map c.args.modules.now module_tree)) c.requires.numbered
    c.in_ok-held.ensures c.deref.ensures.value c.in_ok-tops.ensures c.deref-2.ensures.value c.only_one.ensures
