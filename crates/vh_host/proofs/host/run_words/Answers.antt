use Rattle.std.proofs.Common.{refl}
use Rattle.vh_host_words.specs.Words.{texts}
use Rattle.vh_host_words.specs.Views.{asked}
use Rattle.vh_host.specs.Reading.{files_seen}
use Rattle.vh_host.proofs.JudgingLemmas.{accounts_files, accounts_long, accounts_failed, accounts_none}
use Rattle.vh_host.proofs.host.run_words.Goals as goal

pub returns-in-Err-clause-accounts : goal.returns-in-Err-clause-accounts
returns-in-Err-clause-accounts g c =
    accounts_none (texts c.args.words.now) (λ f. g.F.Files.holds c.args.files.now f) (g.K.Sink.written c.args.out.now)

pub returns-in-Ok-clause-accounts : goal.returns-in-Ok-clause-accounts
returns-in-Ok-clause-accounts g c =
    accounts_files (texts c.args.words.now) (λ f. g.F.Files.holds c.args.files.now f) c.run_files.result
    (g.K.Sink.written c.args.out.now) (g.K.Sink.written c.run_files.new.out) (asked c.in-Ok-Some.asked) (files_seen c.in-Ok.found.items)
    (rw c.in-Ok-Some.field-0-is at c.in-Ok-Some.ensures.reading) (rw c.as_slice.ensures.value at c.in-Ok.ensures.read) c.in-Ok.ensures.short
    (rw c.as_slice-in-Ok.ensures.value at c.run_files.ensures.answers)

pub returns-in-Err-TooLong-clause-accounts : goal.returns-in-Err-TooLong-clause-accounts
returns-in-Err-TooLong-clause-accounts g c =
    accounts_long (texts c.args.words.now) (λ f. g.F.Files.holds c.args.files.now f) (g.K.Sink.written c.args.out.now) (asked c.in-Ok-Some.asked) _
    (rw c.in-Ok-Some.field-0-is at c.in-Ok-Some.ensures.reading) (rw c.as_slice.ensures.value at c.in-Err-TooLong.ensures.long _ (cc))

pub returns-in-Err-Failed-clause-accounts : goal.returns-in-Err-Failed-clause-accounts
returns-in-Err-Failed-clause-accounts g c =
    accounts_failed (texts c.args.words.now) (λ f. g.F.Files.holds c.args.files.now f) (g.K.Sink.written c.args.out.now) (asked c.in-Ok-Some.asked) _
    (rw c.in-Ok-Some.field-0-is at c.in-Ok-Some.ensures.reading) (rw c.as_slice.ensures.value at c.in-Err-Failed.ensures.in_order _ (cc))

pub returns-in-Err-Failed-clause-source_calm : goal.returns-in-Err-Failed-clause-source_calm
returns-in-Err-Failed-clause-source_calm g c = λ other. absurd (other _ refl)

pub returns-clause-accounts : goal.returns-clause-accounts
returns-clause-accounts g c =
    accounts_none (texts c.args.words.now) (λ f. g.F.Files.holds c.args.files.now f) (g.K.Sink.written c.args.out.now)
