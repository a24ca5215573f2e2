-- How the files that a source in memory was given are seen.
use Rattle.std.specs.declared.alloc.Global.{Global}
use Rattle.std.specs.Prelude.{ℕ, List, [], map, string_bytes, Option, Some, None, Vec, String}

-- Names and bytes, without where they lie in memory.
abbrev pub shelf_files : List (String Global × Vec ℕ Global) → List (List ℕ × List ℕ)
shelf_files files = map (λ f. (string_bytes f.0, f.1.items)) files

-- A text that may be missing, as empty where it is.
abbrev pub text_or_empty : Option (String Global) → List ℕ
text_or_empty None = []
text_or_empty (Some text) = string_bytes text
