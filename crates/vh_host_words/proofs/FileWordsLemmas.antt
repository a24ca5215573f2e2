-- Which file words can be run, by the words as the code holds them.
use Rattle.std.proofs.Common.{◌≡◌, ◌<◌, ◌≤◌, ℕ, List, [], ◌∷◌, length, Bool, true, false, ◌&&◌, ◌||◌, nat_le, string_bytes, String, refl, sym, ap, ◌∙◌, arith}
use Rattle.std.specs.declared.alloc.Global.{Global}
use Rattle.std.specs.List.{list_all, list_any}
use Rattle.std.proofs.lemmas.List.{length-map}
use Rattle.std.proofs.lemmas.List.Folds.{list_all-map}
use Rattle.std.proofs.lemmas.Bool.Decides.{nat_tests}
use Rattle.vh_host_words.specs.Words.{can_be_run, is_design_word, is_file_word, texts}

-- One of the words passes a test
any-texts : (p : List ℕ → Bool) (files : List (String Global)) → list_any p (texts files) ≡ list_any (λ file. p (string_bytes file)) files
any-texts p [] = refl
any-texts p (file ∷ files) = ap (λ (b : Bool). p (string_bytes file) || b) (any-texts p files)

-- The three tests of file words
abbrev tests : ℕ → Bool → Bool → Bool
tests length all design = nat_le length 8 && all && design

tests-texts : (files : List (String Global)) → tests (length files) (list_all (λ file. is_file_word (string_bytes file)) files)
    (list_any (λ file. is_design_word (string_bytes file)) files) ≡ can_be_run (texts files)
tests-texts files =
    ap (λ (n : ℕ). tests n (list_all (λ file. is_file_word (string_bytes file)) files) (list_any (λ file. is_design_word (string_bytes file)) files)) (sym (length-map files string_bytes))
    ∙ ap (λ (b : Bool). tests (length (texts files)) b (list_any (λ file. is_design_word (string_bytes file)) files)) (sym (list_all-map is_file_word string_bytes files))
    ∙ ap (λ (b : Bool). tests (length (texts files)) (list_all is_file_word (texts files)) b) (sym (any-texts is_design_word files))

-- Too many words
pub too_many : (files : List (String Global)) → 8 < length files → false ≡ can_be_run (texts files)
too_many files long =
    let no_room : nat_le (length files) 8 ≡ false = grind (arith, nat_tests) in
    sym (ap (λ (b : Bool). b && list_all (λ file. is_file_word (string_bytes file)) files && list_any (λ file. is_design_word (string_bytes file)) files) no_room)
    ∙ tests-texts files

-- A word that names no file
pub no_file : (files : List (String Global)) → length files ≤ 8 → list_all (λ file. is_file_word (string_bytes file)) files ≡ false → false ≡ can_be_run (texts files)
no_file files few none =
    let room : nat_le (length files) 8 ≡ true = grind (arith, nat_tests) in
    sym (ap (λ (b : Bool). b && list_all (λ file. is_file_word (string_bytes file)) files && list_any (λ file. is_design_word (string_bytes file)) files) room
    ∙ ap (λ (b : Bool). b && list_any (λ file. is_design_word (string_bytes file)) files) none)
    ∙ tests-texts files

-- Words that name files, by whether one names a Verilog file
pub by_design : (files : List (String Global)) → length files ≤ 8 → list_all (λ file. is_file_word (string_bytes file)) files ≡ true
    → list_any (λ file. is_design_word (string_bytes file)) files ≡ can_be_run (texts files)
by_design files few all =
    let room : nat_le (length files) 8 ≡ true = grind (arith, nat_tests) in
    sym (ap (λ (b : Bool). b && list_all (λ file. is_file_word (string_bytes file)) files && list_any (λ file. is_design_word (string_bytes file)) files) room
    ∙ ap (λ (b : Bool). b && list_any (λ file. is_design_word (string_bytes file)) files) all)
    ∙ tests-texts files
