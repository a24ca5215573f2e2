use Rattle.std.proofs.Common.{◌≡◌, Option, Some, subst}
use Rattle.std.specs.Prelude.{IfOk}
use Rattle.vh_host_words.specs.Words.{Reading, reading, texts, chooser_of}
use Rattle.vh_host_words.specs.Views.{asked}
use Rattle.vh_host.specs.Acceptance.{Verdict, verdict}
use Rattle.vh_host.specs.Headline.{IsTextBy}
use Rattle.vh_host.specs.Reading.{files_seen}
use Rattle.vh_host.proofs.ReadingLemmas.{same_words}
use Rattle.vh_host.proofs.plain.plain_text.Goals as goal

pub returns : goal.returns
returns c =
    let r : Reading = asked c.in-Some.asked in
    let is : Some r ≡ reading (texts c.args.words.now) = rw c.in-Some.is at c.in_ok-asked.ensures.reading in
    let P : Verdict → Type 0 = λ v. IfOk c.text_of_files.result (λ text. IsTextBy r.chooser c.args.budget v text.items) in
    let Q : Option Reading → Type 0 = λ o. IfOk c.text_of_files.result
    (λ text. IsTextBy (chooser_of o) c.args.budget (verdict (texts c.args.words.now) c.args.contents.now) text.items) in
    subst Q is
    (subst P (same_words (texts c.args.words.now) c.args.contents.now r (files_seen c.in_ok-files.files.items) is
    (rw c.as_slice.ensures.value at c.in_ok-files.ensures.files))
    (rw c.as_slice-2.ensures.value at c.text_of_files.ensures))
