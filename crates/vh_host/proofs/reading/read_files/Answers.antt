use Rattle.std.proofs.Common.{◌≡◌, ◌+◌, ◌∷◌, [], Some, Err, refl, ap, sym, ◌∙◌, arith}
use Rattle.std.proofs.lemmas.List.{length-map, map-append}
use Rattle.std.specs.Prelude.{string_bytes}
use Rattle.vh_host.specs.declared.reading.Unread.{Unread}
use Rattle.vh_host.specs.declared.reading.Unread.TheVariants as unread
use Rattle.vh_host_words.specs.Words.{texts}
use Rattle.vh_host.specs.Reading.{file_seen, files_seen}
use Rattle.vh_host.proofs.ReadingLemmas.{read_more, read_all, meets_long, meets_none_long, word_at, word_numbered, answered_same}
use Rattle.vh_host.proofs.reading.read_files.Goals as goal

pub returns-in-Err-clause-long : goal.returns-in-Err-clause-long
returns-in-Err-clause-long g c = λ n e.
    let same : c.in-Err.unread ≡ unread.TooLong n = cc in
    let long = c.in-Err.ensures.long n (ap (λ (u : Unread). Err u) same) in
    let at : n ≡ c.loop-word.word-index + 1 = omega (arith, long.0) in
    rw at
    (meets_long (λ f. g.F.Files.holds c.args.files.now f) (texts c.args.words.now) c.loop-word.word-index (files_seen c.loop-word.found.items)
    c.as_str.result.now long.1.0 (omega (arith, length-map c.args.words.now string_bytes))
    (word_at c.args.words.now c.loop-word.word-index c.word-item.result c.as_str.result.now (omega arith) c.word-item.is c.as_str.ensures.value)
    (answered_same (λ f. g.F.Files.holds c.args.files.now f) (λ f. g.F.Files.holds c.loop-word.files f) c.as_str.result.now c.as_str.result.now long.1.0
    c.loop-word.invariant.2 refl long.1.1)
    long.1.2 c.loop-word.invariant.0)

pub returns-in-Err-clause-in_order : goal.returns-in-Err-clause-in_order
returns-in-Err-clause-in_order g c = λ n e.
    let same : c.in-Err.unread ≡ unread.Failed n = cc in
    let failed = c.in-Err.ensures.failed n (ap (λ (u : Unread). Err u) same) in
    meets_none_long (λ f. g.F.Files.holds c.args.files.now f) (texts c.args.words.now) c.loop-word.word-index n (files_seen c.loop-word.found.items)
    (omega (arith, failed.0)) c.loop-word.invariant.0

pub returns-in-Err-clause-blamed : goal.returns-in-Err-clause-blamed
returns-in-Err-clause-blamed g c = λ n e.
    let same : c.in-Err.unread ≡ unread.Failed n = cc in
    let failed = c.in-Err.ensures.failed n (ap (λ (u : Unread). Err u) same) in
    let blamed = c.in-Err.ensures.blamed n (ap (λ (u : Unread). Err u) same) in
    word_numbered (texts c.args.words.now) c.loop-word.word-index n c.as_str.result.now (omega (arith, length-map c.args.words.now string_bytes))
    (word_at c.args.words.now c.loop-word.word-index c.word-item.result c.as_str.result.now (omega arith) c.word-item.is c.as_str.ensures.value)
    (omega (arith, failed.0))
    ∙ ap (λ w. Some w) (sym blamed)

pub loop-word-preserved : goal.loop-word-preserved
loop-word-preserved g c = (
  rw (c.in_ok-push.ensures.items, map-append file_seen c.loop-word.found.items (c.in-Ok.file ∷ []))
      (read_more (λ f. g.F.Files.holds c.args.files.now f) (texts c.args.words.now) c.loop-word.word-index (files_seen c.loop-word.found.items) (file_seen c.in-Ok.file)
      (omega (arith, length-map c.args.words.now string_bytes))
      (word_at c.args.words.now c.loop-word.word-index c.word-item.result c.in-Ok.file.word.now (omega arith) c.word-item.is (c.in-Ok.ensures.word ∙ c.as_str.ensures.value))
      (answered_same (λ f. g.F.Files.holds c.args.files.now f) (λ f. g.F.Files.holds c.loop-word.files f) c.as_str.result.now c.in-Ok.file.word.now c.in-Ok.file.bytes.items
      c.loop-word.invariant.2 c.in-Ok.ensures.word c.in-Ok.ensures.read)
      c.in-Ok.ensures.short c.loop-word.invariant.0),
  omega arith,
  (λ other. c.in-Ok.ensures.same other ∙ c.loop-word.invariant.2 other),
  c.in-Ok.ensures.calm (λ n e. cc) ∙ c.loop-word.invariant.3,
)

pub returns-clause-short : goal.returns-clause-short
returns-clause-short g c =
    (read_all (λ f. g.F.Files.holds c.args.files.now f) (texts c.args.words.now) c.loop-word.word-index (files_seen c.loop-word.found.items)
    (omega (arith, length-map c.args.words.now string_bytes)) c.loop-word.invariant.0).2
