-- The files that are read. (own)
use Rattle.std.specs.Prelude.{◌≡◌, ◌≤◌, ℕ, List, map, Some}
use Rattle.vh_host.specs.declared.file.TextFile.{TextFile}
use Rattle.vh_host.specs.Acceptance.{File, first_too_long, files_with}
use Rattle.vh_host.specs.Headline.{Holds, WereAnswered}

-- A file of the code, without where it lies in memory.
abbrev pub file_seen : TextFile → File
file_seen file = record { word = file.word.now; bytes = file.bytes.items }

abbrev pub files_seen : List TextFile → List File
files_seen = map file_seen

-- The words and the contents of files.
abbrev pub words_of : List File → List (List ℕ)
words_of files = map (λ file. file.word) files

abbrev pub contents_of : List File → List (List ℕ)
contents_of files = map (λ file. file.bytes) files

-- The files are those of the words, with contents that the source may have answered.
abbrev pub AreRead : Holds → List (List ℕ) → List File → Type 0
AreRead holds words files = (words_of files ≡ words) × WereAnswered holds words (contents_of files)

-- The source may have answered contents of which the file of this number is the first that is too long.
pub record MeetsLong (holds : Holds) (words : List (List ℕ)) (n : ℕ) : Type 0 where
  pub contents : List (List ℕ)
  pub answered : WereAnswered holds words contents
  pub first : first_too_long 1 (files_with words contents) ≡ Some n

-- The source may have answered contents of which no file before that of this number is too long.
pub record MeetsNoneLong (holds : Holds) (words : List (List ℕ)) (n : ℕ) : Type 0 where
  pub contents : List (List ℕ)
  pub answered : WereAnswered holds words contents
  pub none : (k : ℕ) → first_too_long 1 (files_with words contents) ≡ Some k → n ≤ k
