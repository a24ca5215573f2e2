-- The word of a file by its number, as the code holds the words.
use Rattle.std.proofs.Common.{◌≡◌, ℕ, ◌+◌, List, [], Option, string_bytes, String, unwrap_or, sym, ap, ◌∙◌, add-one}
use Rattle.std.specs.declared.alloc.Global.{Global}
use Rattle.std.specs.List.{slice_get}
use Rattle.std.specs.Option.{option_map}
use Rattle.std.proofs.lemmas.Option.{slice_get-map}
use Rattle.vh_host_words.specs.Words.{texts, numbered}

-- The word of a number
pub numbered-texts : (files : List (String Global)) (n i : ℕ) → n ≡ i + 1 → numbered (texts files) n ≡ option_map string_bytes (slice_get files i)
numbered-texts files n i e = ap (λ (k : ℕ). numbered (texts files) k) (e ∙ add-one i) ∙ slice_get-map string_bytes files i

-- The word of a number, or nothing
pub word-texts : (files : List (String Global)) (n i : ℕ) → n ≡ i + 1
    → unwrap_or (option_map string_bytes (slice_get files i)) [] ≡ unwrap_or (numbered (texts files) n) []
word-texts files n i e = sym (ap (λ (o : Option (List ℕ)). unwrap_or o []) (numbered-texts files n i e))
