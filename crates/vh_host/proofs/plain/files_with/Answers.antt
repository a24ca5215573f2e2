use Rattle.std.proofs.Common.{◌∷◌, [], ◌∙◌, length-append, arith}
use Rattle.std.proofs.lemmas.List.{length-map, map-append}
use Rattle.std.specs.Prelude.{string_bytes}
use Rattle.vh_host_words.specs.Words.{texts}
use Rattle.vh_host.specs.Reading.{file_seen, files_seen}
use Rattle.vh_host.proofs.ReadingLemmas.{with_short, with_more, word_at}
use Rattle.vh_host.proofs.plain.files_with.Goals as goal

pub returns-then-number-contents-clause-files : goal.returns-then-number-contents-clause-files
returns-then-number-contents-clause-files c =
    with_short (files_seen c.loop-word.files.items) c.loop-word.word-index (texts c.args.words.now) c.args.contents.now (omega arith) c.loop-word.invariant.0

pub loop-word-preserved : goal.loop-word-preserved
loop-word-preserved c = (
  rw (c.in_ok-push.ensures.items, map-append file_seen c.loop-word.files.items (record { word = c.as_str.result; bytes = c.in_ok-copied.copied } ∷ []))
      (with_more (files_seen c.loop-word.files.items) c.loop-word.word-index (texts c.args.words.now) c.args.contents.now
      c.as_str.result.now c.in_ok-copied.copied.items c.index-contents-number.result _ (omega (arith, length-map c.args.words.now string_bytes))
      (word_at c.args.words.now c.loop-word.word-index c.word-item.result c.as_str.result.now (omega arith) c.word-item.is c.as_str.ensures.value)
      (omega arith) c.index-contents-number.is (c.in_ok-copied.ensures.items ∙ c.as_slice.ensures) (omega arith) c.loop-word.invariant.0),
  rw c.in_ok-push.ensures.items (omega (arith, length-append c.loop-word.files.items (record { word = c.as_str.result; bytes = c.in_ok-copied.copied } ∷ []))),
)
