-- What is left are the last tokens.
use Rattle.std.proofs.Common.{ap, ◌∙◌, map, drop}
use Rattle.std.proofs.lemmas.List.{take_rest}
use Rattle.vh_parse_syntax.specs.Tokens.{token_seen}
use Rattle.vh_parse_expr.specs.Views.{tokens_seen}
use Rattle.vh_parse_expr.proofs.AnswersLemmas.{parsed}
use Rattle.vh_parse_expr.proofs.parse.parse_expr.Goals as goal

pub overflow_sub-result : goal.overflow_sub-result
overflow_sub-result c = rw c.as_slice-all.ensures.value (parsed _ c.args.calls c.args.tokens.now.items c.args.from c.args.after _ (c.in-Ok.expr, c.in-Ok.left) c.syntax_laws.ensures.productions c.requires.within (ap tokens_seen (take_rest c.as_slice-all.result.now c.args.from) ∙ ap (λ l. map token_seen (drop c.args.from l)) c.as_slice-all.ensures.value) c.in-Ok.ensures).2

pub returns-in-Ok-clause-answer : goal.returns-in-Ok-clause-answer
returns-in-Ok-clause-answer c = rw c.as_slice-all.ensures.value (parsed _ c.args.calls c.args.tokens.now.items c.args.from c.args.after _ (c.in-Ok.expr, c.in-Ok.left) c.syntax_laws.ensures.productions c.requires.within (ap tokens_seen (take_rest c.as_slice-all.result.now c.args.from) ∙ ap (λ l. map token_seen (drop c.args.from l)) c.as_slice-all.ensures.value) c.in-Ok.ensures).0

pub returns-in-Ok-clause-spelled : goal.returns-in-Ok-clause-spelled
returns-in-Ok-clause-spelled c = rw c.as_slice-all.ensures.value (parsed _ c.args.calls c.args.tokens.now.items c.args.from c.args.after _ (c.in-Ok.expr, c.in-Ok.left) c.syntax_laws.ensures.productions c.requires.within (ap tokens_seen (take_rest c.as_slice-all.result.now c.args.from) ∙ ap (λ l. map token_seen (drop c.args.from l)) c.as_slice-all.ensures.value) c.in-Ok.ensures).1
