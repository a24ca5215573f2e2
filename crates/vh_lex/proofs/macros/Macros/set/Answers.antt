use Rattle.std.proofs.Common.{refl, ◌∙◌, ap}
use Rattle.vh_lex.specs.Gathered.{with_macro}
use Rattle.vh_lex.specs.MacroViews.{macros_seen}
use Rattle.vh_lex.proofs.GatheredLemmas.{seen-insert}
use Rattle.vh_lex.proofs.macros.Macros.set.Goals as goal

pub returns : goal.returns
returns c =
    ap macros_seen c.in_ok-insert.ensures.entries
    ∙ seen-insert _ (λ x y. refl) c.self.inside.texts.entries c.in_ok-name.name c.args.text
    ∙ ap (λ n. with_macro n c.args.text (macros_seen c.self.inside.texts.entries)) c.in_ok-name.ensures.items
    ∙ ap (with_macro c.args.name.now c.args.text) c.self.view_is
