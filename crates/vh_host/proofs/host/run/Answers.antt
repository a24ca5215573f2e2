use Rattle.std.proofs.Common.{List, subst}
use Rattle.std.specs.declared.alloc.Global.{Global}
use Rattle.std.specs.Prelude.{String}
use Rattle.vh_host_words.specs.Words.{texts}
use Rattle.vh_host.specs.Headline.{Accounts}
use Rattle.vh_host.proofs.JudgingLemmas.{transcribes_of, refuses_of}
use Rattle.vh_host.proofs.host.run.Goals as goal

pub returns-clause-accounts : goal.returns-clause-accounts
returns-clause-accounts g c =
    let P : List (String Global) → Type 0 = λ ws. Accounts (texts ws) (λ f. g.F.Files.holds c.args.files.now f)
    c.run_words.result (g.K.Sink.written c.args.out.now) (g.K.Sink.written c.run_words.new.out) in
    subst P c.as_slice.ensures.value c.run_words.ensures.accounts

pub returns-clause-headline : goal.returns-clause-headline
returns-clause-headline g c =
    transcribes_of (texts c.args.words.now.items) (λ f. g.F.Files.holds c.args.files.now f)
    c.run_words.result (g.K.Sink.written c.args.out.now) (g.K.Sink.written c.run_words.new.out) (returns-clause-accounts g c)

pub returns-clause-refused : goal.returns-clause-refused
returns-clause-refused g c =
    refuses_of (texts c.args.words.now.items) (λ f. g.F.Files.holds c.args.files.now f)
    c.run_words.result (g.K.Sink.written c.args.out.now) (g.K.Sink.written c.run_words.new.out) (returns-clause-accounts g c)
