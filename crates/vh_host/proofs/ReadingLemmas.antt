-- Files, by their words and their contents.
use Rattle.std.proofs.Common.{◌≡◌, ℕ, ◌+◌, ◌<◌, ◌≤◌, List, [], ◌∷◌, ◌++◌, length, take, drop, get_or, Bool, true, false, ◌||◌, cond, Option, Some, None, nat_lt, refl, sym, ap, subst, ◌∙◌, append_assoc, add-one, arith}
use Rattle.std.proofs.lemmas.Bool.{ltb-true, lt-ltb, ltb-false}
use Rattle.std.proofs.lemmas.List.{take_all, take_more, take-append-drop, drop_more, drop_all, length-take-le, map-append, append-nil}
use Rattle.std.proofs.lemmas.Option.{get_or_from_slice_get, slice_get-get_or, slice_get-map}
use Rattle.std.proofs.lemmas.List.Elements.{all_zip_more}
use Rattle.std.specs.List.{AllZip, slice_get, list_any}
use Rattle.std.specs.Option.{is_some, option_map}
use Rattle.std.specs.Prelude.{String, string_bytes}
use Rattle.std.specs.declared.alloc.Global.{Global}
use Rattle.vh_base.specs.Outside.{IsAnswered}
use Rattle.vh_host.specs.Acceptance.{File, limit_of, files_with, is_too_long, first_too_long, by_files, by_length, by_texts, by_reading, verdict}
use Rattle.vh_host_words.specs.Words.{Reading, reading, texts, numbered}
use Rattle.vh_host.specs.declared.file.TextFile.{TextFile}
use Rattle.vh_kernel_choice.specs.declared.chooser.Chooser.{Chooser}
use Rattle.vh_host.specs.Headline.{Holds, WereAnswered, Tells, IsTextBy}
use Rattle.vh_host.specs.Reading.{words_of, contents_of, MeetsLong, MeetsNoneLong, file_seen, files_seen}

-- The words and the contents of files give the files again.
pub files_back : (files : List File) → files_with (words_of files) (contents_of files) ≡ files
files_back [] = refl
files_back (file ∷ files) = ap (λ (more : List File). file ∷ more) (files_back files)

-- The same with more words and contents behind them.
pub files_front : (files : List File) (words contents : List (List ℕ))
    → files_with (words_of files ++ words) (contents_of files ++ contents) ≡ files ++ files_with words contents
files_front [] words contents = refl
files_front (file ∷ files) words contents = ap (λ (more : List File). file ∷ more) (files_front files words contents)

-- Bytes that a source may have answered.
pub some_answer : (o : Option (List ℕ)) (limit : ℕ) → (bytes : List ℕ) × IsAnswered o limit bytes
some_answer None limit = ([], omega arith)
some_answer (Some whole) limit = (take (limit + 1) whole, refl)

-- Contents that a source may have answered.
pub some_contents : (holds : Holds) (words : List (List ℕ)) → (contents : List (List ℕ)) × WereAnswered holds words contents
some_contents holds [] = ([], tt)
some_contents holds (word ∷ words) =
    let first : (bytes : List ℕ) × IsAnswered (holds word) (limit_of word) bytes = some_answer (holds word) (limit_of word) in
    let more : (contents : List (List ℕ)) × WereAnswered holds words contents = some_contents holds words in
    (first.0 ∷ more.0, (first.1, more.1))

-- What holds of two pairs of lists holds of both, one behind the other.
all_zip_both : {A B : Type 0} (R : A → B → Type 0) (xs : List A) (ys : List B) (us : List A) (vs : List B)
    → AllZip R xs ys → AllZip R us vs → AllZip R (xs ++ us) (ys ++ vs)
all_zip_both R [] [] us vs a b = b
all_zip_both R [] (y ∷ ys) us vs a b = absurd a
all_zip_both R (x ∷ xs) [] us vs a b = absurd a
all_zip_both R (x ∷ xs) (y ∷ ys) us vs a b = (a.0, all_zip_both R xs ys us vs a.1 b)

-- Reading one byte more than the limit tells whether a file is too long.
long_front : (b : Bool) (n : ℕ) (whole : List ℕ) → nat_lt n (length whole) ≡ b → nat_lt n (length (take (n + 1) whole)) ≡ b
long_front true n whole is =
    let long : n < length whole = ltb-true n (length whole) is in
    let cut : length (take (n + 1) whole) ≡ n + 1 = length-take-le (n + 1) whole (omega arith) in
    rw cut (lt-ltb n (n + 1) (omega arith))
long_front false n whole is =
    let short : length whole ≤ n = ltb-false n (length whole) is in
    let all : take (n + 1) whole ≡ whole = take_all (n + 1) whole (omega arith) in
    ap (λ (w : List ℕ). nat_lt n (length w)) all ∙ is

-- And it gives all of one that isn't.
short_front : (n : ℕ) (whole : List ℕ) → nat_lt n (length whole) ≡ false → take (n + 1) whole ≡ whole
short_front n whole is =
    let short : length whole ≤ n = ltb-false n (length whole) is in take_all (n + 1) whole (omega arith)

-- The two have the same first file that is too long, and are the same where there is none.
abbrev pub AlikeFrom : ℕ → List File → List File → Type 0
AlikeFrom n read whole =
    (first_too_long n read ≡ first_too_long n whole) × (first_too_long n whole ≡ None → read ≡ whole)

-- One file more in front, of which a front was read.
alike_one : (b : Bool) (n : ℕ) (word bytes whole : List ℕ) (read more : List File) → nat_lt (limit_of word) (length whole) ≡ b
    → bytes ≡ take (limit_of word + 1) whole → AlikeFrom (n + 1) read more
    → AlikeFrom n (record { word = word; bytes = bytes } ∷ read) (record { word = word; bytes = whole } ∷ more)
alike_one true n word bytes whole read more is front alike =
    let cut : nat_lt (limit_of word) (length bytes) ≡ true = ap (λ (w : List ℕ). nat_lt (limit_of word) (length w)) front ∙ long_front true (limit_of word) whole is in (
      ap (λ (b : Bool). cond b (Some n) (first_too_long (n + 1) read)) cut ∙ sym (ap (λ (b : Bool). cond b (Some n) (first_too_long (n + 1) more)) is),
      (λ none. let bad : Some n ≡ None = sym (ap (λ (b : Bool). cond b (Some n) (first_too_long (n + 1) more)) is) ∙ none in cc),
    )
alike_one false n word bytes whole read more is front alike =
    let cut : nat_lt (limit_of word) (length bytes) ≡ false = ap (λ (w : List ℕ). nat_lt (limit_of word) (length w)) front ∙ long_front false (limit_of word) whole is in
    let here : first_too_long n (record { word = word; bytes = whole } ∷ more) ≡ first_too_long (n + 1) more = ap (λ (b : Bool). cond b (Some n) (first_too_long (n + 1) more)) is in (
      ap (λ (b : Bool). cond b (Some n) (first_too_long (n + 1) read)) cut ∙ alike.0 ∙ sym here,
      (λ none.
          let same : read ≡ more = alike.1 (sym here ∙ none) in
          let all : bytes ≡ whole = front ∙ short_front (limit_of word) whole is in
          ap (λ (w : List ℕ). record { word = word; bytes = w } ∷ read) all ∙ ap (λ (z : List File). record { word = word; bytes = whole } ∷ z) same),
    )

-- Where the source tells the contents, what it answered is like them.
alike_read : (holds : Holds) (n : ℕ) (words read whole : List (List ℕ)) → WereAnswered holds words read → Tells holds words whole
    → AlikeFrom n (files_with words read) (files_with words whole)
alike_read holds n [] read whole answered told = (refl, λ _. refl)
alike_read holds n (word ∷ words) [] whole answered told = absurd answered
alike_read holds n (word ∷ words) (bytes ∷ read) [] answered told = absurd (cc)
alike_read holds n (word ∷ words) (bytes ∷ read) (all ∷ whole) answered told =
    let tells : holds word ≡ Some all = cc in
    let others : Tells holds words whole = cc in
    let P : Option (List ℕ) → Type 0 = λ o. IsAnswered o (limit_of word) bytes in
    alike_one (nat_lt (limit_of word) (length all)) n word bytes all (files_with words read) (files_with words whole) refl
    (subst P tells answered.0) (alike_read holds (n + 1) words read whole answered.1 others)

-- Files that are alike have the same verdict.
alike_verdict : (o : Option ℕ) (read whole : List File) → first_too_long 1 whole ≡ o → AlikeFrom 1 read whole → by_files read ≡ by_files whole
alike_verdict (Some n) read whole is alike =
    ap (λ (o : Option ℕ). by_length o read) (alike.0 ∙ is) ∙ sym (ap (λ (o : Option ℕ). by_length o whole) is)
alike_verdict None read whole is alike = ap (λ (files : List File). by_files files) (alike.1 is)

-- So the verdict on what was read is that on the whole files.
pub told_verdict : (holds : Holds) (words read whole : List (List ℕ)) → WereAnswered holds words read → Tells holds words whole
    → by_files (files_with words read) ≡ by_files (files_with words whole)
told_verdict holds words read whole answered told =
    alike_verdict (first_too_long 1 (files_with words whole)) (files_with words read) (files_with words whole) refl
    (alike_read holds 1 words read whole answered told)

-- The files of the first so many words were read, and none of them is too long.
pub record ReadUpTo (holds : Holds) (words : List (List ℕ)) (i : ℕ) (files : List File) : Type 0 where
  pub named : words_of files ≡ take i words
  pub answered : WereAnswered holds (take i words) (contents_of files)
  pub short : (more : List File) → first_too_long 1 (files ++ more) ≡ first_too_long (i + 1) more

-- One file more.
pub read_more : (holds : Holds) (words : List (List ℕ)) (i : ℕ) (files : List File) (file : File) → i < length words
    → file.word ≡ get_or words i file.word → IsAnswered (holds file.word) (limit_of file.word) file.bytes → is_too_long file ≡ false
    → ReadUpTo holds words i files → ReadUpTo holds words (i + 1) (files ++ file ∷ [])
read_more holds words i files file below here answered short before = record {
  named =
      map-append (λ (f : File). f.word) files (file ∷ []) ∙ ap (λ (ws : List (List ℕ)). ws ++ file.word ∷ []) before.named
      ∙ ap (λ (w : List ℕ). take i words ++ w ∷ []) here ∙ sym (take_more words i file.word below);
  answered =
      let R : List ℕ → List ℕ → Type 0 = λ word bytes. IsAnswered (holds word) (limit_of word) bytes in
      let P : List (List ℕ) → Type 0 = λ contents. WereAnswered holds (take (i + 1) words) contents in
      subst P (sym (map-append (λ (f : File). f.bytes) files (file ∷ [])))
      (all_zip_more R words (contents_of files) i file.word file.bytes below here before.answered answered);
  short = λ more.
      ap (λ (fs : List File). first_too_long 1 fs) (append_assoc files (file ∷ []) more) ∙ before.short (file ∷ more)
      ∙ ap (λ (b : Bool). cond b (Some (i + 1)) (first_too_long (i + 1 + 1) more)) short;
}

-- All files were read.
pub read_all : (holds : Holds) (words : List (List ℕ)) (i : ℕ) (files : List File) → length words ≤ i → ReadUpTo holds words i files
    → (words_of files ≡ words) × (WereAnswered holds words (contents_of files)) × (first_too_long 1 files ≡ None)
read_all holds words i files end before =
    let all : take i words ≡ words = take_all i words end in
    let P : List (List ℕ) → Type 0 = λ ws. WereAnswered holds ws (contents_of files) in (
      before.named ∙ all,
      subst P all before.answered,
      ap (λ (fs : List File). first_too_long 1 fs) (sym (append-nil files)) ∙ before.short [],
    )

-- The next file is too long.
pub meets_long : (holds : Holds) (words : List (List ℕ)) (i : ℕ) (files : List File) (word bytes : List ℕ) → i < length words
    → word ≡ get_or words i word → IsAnswered (holds word) (limit_of word) bytes → is_too_long (record { word = word; bytes = bytes }) ≡ true
    → ReadUpTo holds words i files → MeetsLong holds words (i + 1)
meets_long holds words i files word bytes below here answered long before =
    let rest : List (List ℕ) = drop (i + 1) words in
    let more : (contents : List (List ℕ)) × WereAnswered holds rest contents = some_contents holds rest in
    let split : words ≡ take i words ++ word ∷ rest =
    sym (take-append-drop i words) ∙ ap (λ (ws : List (List ℕ)). take i words ++ ws) (drop_more words i word below)
    ∙ ap (λ (w : List ℕ). take i words ++ w ∷ rest) (sym here) in
    let R : List ℕ → List ℕ → Type 0 = λ w b. IsAnswered (holds w) (limit_of w) b in
    let whole : WereAnswered holds (take i words ++ word ∷ rest) (contents_of files ++ bytes ∷ more.0) =
    all_zip_both R (take i words) (contents_of files) (word ∷ rest) (bytes ∷ more.0) before.answered (answered, more.1) in
    let P : List (List ℕ) → Type 0 = λ ws. WereAnswered holds ws (contents_of files ++ bytes ∷ more.0) in
    let files_are : files_with words (contents_of files ++ bytes ∷ more.0) ≡ files ++ record { word = word; bytes = bytes } ∷ files_with rest more.0 =
    ap (λ (ws : List (List ℕ)). files_with ws (contents_of files ++ bytes ∷ more.0)) (split ∙ ap (λ (ws : List (List ℕ)). ws ++ word ∷ rest) (sym before.named))
    ∙ files_front files (word ∷ rest) (bytes ∷ more.0) in record {
      contents = contents_of files ++ bytes ∷ more.0;
      answered = subst P (sym split) whole;
      first =
          ap (λ (fs : List File). first_too_long 1 fs) files_are ∙ before.short (record { word = word; bytes = bytes } ∷ files_with rest more.0)
          ∙ ap (λ (b : Bool). cond b (Some (i + 1)) (first_too_long (i + 1 + 1) (files_with rest more.0))) long;
    }

-- The first that is too long has a number from that of the first on.
long_head : (b : Bool) (n k : ℕ) (more : Option ℕ) → (more ≡ Some k → n + 1 ≤ k) → cond b (Some n) more ≡ Some k → n ≤ k
long_head true n k more rest is = let same : n ≡ k = cc in omega arith
long_head false n k more rest is = let above = rest is in omega arith

long_from : (n k : ℕ) (files : List File) → first_too_long n files ≡ Some k → n ≤ k
long_from n k [] is = absurd (cc)
long_from n k (file ∷ files) is = long_head (is_too_long file) n k (first_too_long (n + 1) files) (long_from (n + 1) k files) is

-- So none of the files that were read is too long, whatever the others are.
pub meets_none_long : (holds : Holds) (words : List (List ℕ)) (i n : ℕ) (files : List File) → n ≡ i + 1
    → ReadUpTo holds words i files → MeetsNoneLong holds words n
meets_none_long holds words i n files at before =
    let rest : List (List ℕ) = drop i words in
    let more : (contents : List (List ℕ)) × WereAnswered holds rest contents = some_contents holds rest in
    let split : words ≡ take i words ++ rest = sym (take-append-drop i words) in
    let R : List ℕ → List ℕ → Type 0 = λ w b. IsAnswered (holds w) (limit_of w) b in
    let whole : WereAnswered holds (take i words ++ rest) (contents_of files ++ more.0) =
    all_zip_both R (take i words) (contents_of files) rest more.0 before.answered more.1 in
    let P : List (List ℕ) → Type 0 = λ ws. WereAnswered holds ws (contents_of files ++ more.0) in
    let files_are : files_with words (contents_of files ++ more.0) ≡ files ++ files_with rest more.0 =
    ap (λ (ws : List (List ℕ)). files_with ws (contents_of files ++ more.0)) (split ∙ ap (λ (ws : List (List ℕ)). ws ++ rest) (sym before.named))
    ∙ files_front files rest more.0 in record {
      contents = contents_of files ++ more.0;
      answered = subst P (sym split) whole;
      none = λ k is.
          let above = long_from (i + 1) k (files_with rest more.0)
          (sym (ap (λ (fs : List File). first_too_long 1 fs) files_are ∙ before.short (files_with rest more.0)) ∙ is) in
          omega arith;
    }

-- The files of the words so far, and those that are left.
abbrev pub AreWith : List File → ℕ → List (List ℕ) → List (List ℕ) → Type 0
AreWith files i words contents = files ++ files_with (drop i words) (drop i contents) ≡ files_with words contents

-- One file more.
pub with_more : (files : List File) (i : ℕ) (words contents : List (List ℕ)) (word bytes item : List ℕ) (j : ℕ) → i < length words → word ≡ get_or words i word
    → j < length contents → item ≡ get_or contents j item → bytes ≡ item → j ≡ i
    → AreWith files i words contents → AreWith (files ++ record { word = word; bytes = bytes } ∷ []) (i + 1) words contents
with_more files i words contents word bytes item j below here inside found same at before =
    let file : File = record { word = word; bytes = bytes } in
    let words_are : drop i words ≡ word ∷ drop (i + 1) words = drop_more words i word below ∙ ap (λ (w : List ℕ). w ∷ drop (i + 1) words) (sym here) in
    let item_is : get_or contents i item ≡ bytes = ap (λ (k : ℕ). get_or contents k item) (sym at) ∙ sym found ∙ sym same in
    let contents_are : drop i contents ≡ bytes ∷ drop (i + 1) contents =
    drop_more contents i item (omega arith) ∙ ap (λ (b : List ℕ). b ∷ drop (i + 1) contents) item_is in
    append_assoc files (file ∷ []) (files_with (drop (i + 1) words) (drop (i + 1) contents))
    ∙ ap (λ (more : List File). files ++ more)
    (sym (ap (λ (ws : List (List ℕ)). files_with ws (drop i contents)) words_are ∙ ap (λ (cs : List (List ℕ)). files_with (word ∷ drop (i + 1) words) cs) contents_are))
    ∙ before

-- No contents are left.
without : (words : List (List ℕ)) → files_with words [] ≡ []
without [] = refl
without (word ∷ words) = refl

pub with_short : (files : List File) (i : ℕ) (words contents : List (List ℕ)) → length contents ≤ i → AreWith files i words contents → files ≡ files_with words contents
with_short files i words contents end before =
    let none : files_with (drop i words) (drop i contents) ≡ [] = ap (λ (cs : List (List ℕ)). files_with (drop i words) cs) (drop_all i contents end) ∙ without (drop i words) in
    sym (append-nil files) ∙ ap (λ (more : List File). files ++ more) (sym none) ∙ before

-- A file is too long exactly where there is a first one.
long-more : (b : Bool) (n : ℕ) (files : List File) → is_some (first_too_long (n + 1) files) ≡ list_any is_too_long files
    → is_some (cond b (Some n) (first_too_long (n + 1) files)) ≡ (b || list_any is_too_long files)
long-more true n files more = refl
long-more false n files more = more

long-any : (n : ℕ) (files : List File) → is_some (first_too_long n files) ≡ list_any is_too_long files
long-any n [] = refl
long-any n (file ∷ files) = long-more (is_too_long file) n files (long-any (n + 1) files)

any-seen : (files : List TextFile) → list_any is_too_long (files_seen files) ≡ list_any (λ file. is_too_long (file_seen file)) files
any-seen [] = refl
any-seen (file ∷ files) = ap (λ (b : Bool). is_too_long (file_seen file) || b) (any-seen files)

text-long : (chooser : Chooser) (o : Option ℕ) (files : List File) (budget : ℕ) → is_some o ≡ true → IsTextBy chooser budget (by_length o files) []
text-long chooser (Some n) files budget is = refl
text-long chooser None files budget is = absurd (cc)

none-long : (o : Option ℕ) (files : List File) → is_some o ≡ false → by_texts files ≡ by_length o files
none-long (Some n) files is = absurd (cc)
none-long None files is = refl

-- So the text is none where one is, and else the verdict is that of the texts.
pub none_long : (chooser : Chooser) (files : List TextFile) (budget : ℕ) → list_any (λ file. is_too_long (file_seen file)) files ≡ true
    → IsTextBy chooser budget (by_files (files_seen files)) []
none_long chooser files budget is =
    text-long chooser (first_too_long 1 (files_seen files)) (files_seen files) budget (long-any 1 (files_seen files) ∙ any-seen files ∙ is)

pub same_short : (files : List TextFile) → list_any (λ file. is_too_long (file_seen file)) files ≡ false
    → by_texts (files_seen files) ≡ by_files (files_seen files)
same_short files is =
    none-long (first_too_long 1 (files_seen files)) (files_seen files) (long-any 1 (files_seen files) ∙ any-seen files ∙ is)

pub none_too_long : (files : List TextFile) → list_any (λ file. is_too_long (file_seen file)) files ≡ false → first_too_long 1 (files_seen files) ≡ None
none_too_long files is = none_of (first_too_long 1 (files_seen files)) (long-any 1 (files_seen files) ∙ any-seen files ∙ is)
  where
    none_of : (o : Option ℕ) → is_some o ≡ false → o ≡ None
    none_of (Some n) is = absurd (cc)
    none_of None is = refl

-- The same by the words.
pub same_words : (words : List (List ℕ)) (contents : List (List ℕ)) (r : Reading) (files : List File)
    → Some r ≡ reading words → files ≡ files_with r.files contents → by_files files ≡ verdict words contents
same_words words contents r files is are =
    ap by_files are ∙ ap (λ (r : Option Reading). by_reading r contents) is

-- The word of this turn, among the words as plain lists.
pub word_at : (words : List (String Global)) (i : ℕ) (item : String Global) (word : List ℕ) → i < length words → item ≡ get_or words i item
    → word ≡ string_bytes item → word ≡ get_or (texts words) i word
word_at words i item word below is bytes =
    let found : slice_get (texts words) i ≡ Some word =
    slice_get-map string_bytes words i ∙ ap (λ (o : Option (String Global)). option_map string_bytes o) (slice_get-get_or words i item below ∙ ap (λ (s : String Global). Some s) (sym is))
    ∙ ap (λ (w : List ℕ). Some w) (sym bytes) in
    sym (get_or_from_slice_get (texts words) i word word found)

-- Its number.
pub word_numbered : (words : List (List ℕ)) (i n : ℕ) (word : List ℕ) → i < length words → word ≡ get_or words i word → n ≡ i + 1
    → numbered words n ≡ Some word
word_numbered words i n word below here at =
    ap (λ (k : ℕ). numbered words k) (at ∙ add-one i) ∙ slice_get-get_or words i word below ∙ ap (λ (w : List ℕ). Some w) (sym here)

-- What was answered, of the same word and the same source.
pub answered_same : (old new : Holds) (word same bytes : List ℕ) → ((other : List ℕ) → new other ≡ old other) → same ≡ word
    → IsAnswered (new word) (limit_of word) bytes → IsAnswered (old same) (limit_of same) bytes
answered_same old new word same bytes kept is answered =
    let P : List ℕ → Type 0 = λ w. IsAnswered (old w) (limit_of w) bytes in
    let Q : Option (List ℕ) → Type 0 = λ o. IsAnswered o (limit_of word) bytes in
    subst P (sym is) (subst Q (kept word) answered)
