use Rattle.std.proofs.Common.{ℕ, List, sym, subst, ◌∙◌}
use Rattle.std.specs.Prelude.{IfOk}
use Rattle.vh_host.specs.Acceptance.{Verdict, by_files}
use Rattle.vh_host.specs.Headline.{IsTextBy}
use Rattle.vh_host.specs.Reading.{files_seen}
use Rattle.vh_host.proofs.ReadingLemmas.{none_long, none_too_long, same_short}
use Rattle.vh_host.proofs.plain.text_of_files.Goals as goal

pub returns-then-any_too_long : goal.returns-then-any_too_long
returns-then-any_too_long c =
    let P : List ℕ → Type 0 = IsTextBy c.args.chooser c.args.budget (by_files (files_seen c.args.files.now)) in
    subst P (sym c.new.ensures.items) (none_long c.args.chooser c.args.files.now c.args.budget (sym c.any_too_long.ensures ∙ c.if-any_too_long.true))

pub text_of_texts-requires-clause-short : goal.text_of_texts-requires-clause-short
text_of_texts-requires-clause-short c = none_too_long c.args.files.now (sym c.any_too_long.ensures ∙ c.if-any_too_long.false)

pub returns : goal.returns
returns c =
    let P : Verdict → Type 0 = λ v. IfOk c.text_of_texts.result (λ text. IsTextBy c.args.chooser c.args.budget v text.items) in
    subst P (same_short c.args.files.now (sym c.any_too_long.ensures ∙ c.if-any_too_long.false)) c.text_of_texts.ensures
