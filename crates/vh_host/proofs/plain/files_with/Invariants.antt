use Rattle.std.proofs.Common.{◌≡◌, length}
use Rattle.vh_host_words.specs.Words.{texts}
use Rattle.vh_host.specs.Reading.{files_seen}
use Rattle.vh_host.proofs.ReadingLemmas.{AreWith}
use Rattle.vh_host.proofs.plain.files_with.Given as goal

-- The files so far, with those that are left
abbrev pub invariant-loop-word : goal.invariant-loop-word
invariant-loop-word l =
    (AreWith (files_seen l.files.items) l.word-index (texts l.words) l.contents)
    × (length l.files.items ≡ l.word-index)
