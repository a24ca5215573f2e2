use Rattle.std.proofs.Common.{Some, None, sym, ◌∙◌, ap}
use Rattle.vh_lex.proofs.GatheredLemmas.{found-text}
use Rattle.vh_lex.proofs.macros.Macros.text.Goals as goal

pub returns-in_default : goal.returns-in_default
returns-in_default c = found-text c.args.name.now c.self.inside.texts.entries c.args.self.now None c.self.view_is c.in_default.ensures.value

pub returns-in_default-held : goal.returns-in_default-held
returns-in_default-held c =
    found-text c.args.name.now c.self.inside.texts.entries c.args.self.now (Some None) c.self.view_is (ap Some (sym c.in_default-held.is) ∙ c.in-Some.ensures.value)

pub returns : goal.returns
returns c =
    ap Some c.as_slice.ensures
    ∙ found-text c.args.name.now c.self.inside.texts.entries c.args.self.now (Some (Some c.in-Some-held.text)) c.self.view_is (ap Some (sym c.in-Some-held.is) ∙ c.in-Some.ensures.value)
