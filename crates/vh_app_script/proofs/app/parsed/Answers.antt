-- What a parser reads is what the table answers.
use Rattle.std.proofs.Common.{sym, ap, ◌∙◌, subst}
use Rattle.vh_parse_grammar.specs.Says.{Accepts}
use Rattle.vh_app_script.specs.Answers.{answer}
use Rattle.vh_app_script.specs.Views.{app_seen, terminals}
use Rattle.vh_app_script.proofs.Plain.{answer-read, kinds-terminals}
use Rattle.vh_app_script.proofs.app.parsed.Goals as goal

pub returns : goal.returns
returns c =
    subst (λ o. Accepts app_seen o c.whole_app.result)
    (sym (ap (λ ts. answer c.args.rules c.args.earlier.now ts) (kinds-terminals c.args.tokens.now) ∙ answer-read c.args.rules c.args.earlier.now (terminals c.args.tokens.now)))
    c.whole_app.ensures
