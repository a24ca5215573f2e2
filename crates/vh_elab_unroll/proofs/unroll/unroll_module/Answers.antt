-- A module without a construct comes to nothing.
use Rattle.std.proofs.Common.{◌∙◌, List, None, false, ap, map, sym}
use Rattle.std.specs.List.{list_any}
use Rattle.vh_ast.specs.Views.{item_tree, module_tree}
use Rattle.vh_elab_sites.specs.Views.{choice_seen}
use Rattle.vh_elab_unroll.specs.Constructs.{Unrolled, is_construct}
use Rattle.vh_elab_unroll.proofs.NothingLemmas.{nothing-comes}
use Rattle.vh_elab_unroll.proofs.unroll.unroll_module.Goals as goal

pub returns-then-not-has_construct : goal.returns-then-not-has_construct
returns-then-not-has_construct c =
    ap (λ l. record { choices = map choice_seen l; fault = None; passed = false }) c.new.ensures.items
    ∙ nothing-comes _ (module_tree c.args.ports.now)
    (sym (c.has_construct.ensures ∙ ap (λ l. list_any is_construct (map item_tree l)) c.as_slice-items.ensures
    ∙ ap (λ m. list_any is_construct (module_tree m).items) c.module-module.ensures) ∙ c.if-not-has_construct.true)
