use Rattle.std.proofs.Common.{◌≡◌, ℕ, List}
use Rattle.vh_host_words.specs.Words.{texts}
use Rattle.vh_host.specs.Reading.{files_seen}
use Rattle.vh_host.proofs.ReadingLemmas.{ReadUpTo}
use Rattle.vh_host.proofs.reading.read_files.Given as goal

-- The files of the words so far were read, and nothing failed
abbrev pub invariant-loop-word : goal.invariant-loop-word
invariant-loop-word g l =
    (ReadUpTo (λ f. g.F.Files.holds l.fn.files f) (texts l.words) l.word-index (files_seen l.found.items))
    × (l.number ≡ l.word-index)
    × ((other : List ℕ) → g.F.Files.holds l.files other ≡ g.F.Files.holds l.fn.files other)
    × (g.F.Files.faults l.files ≡ g.F.Files.faults l.fn.files)
