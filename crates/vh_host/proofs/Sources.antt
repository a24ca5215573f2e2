-- The Verilog files of a call, as one source.
use Rattle.std.proofs.Common.{◌≡◌, ◌≢◌, ◌∙◌, ◌<◌, ◌≤◌, ◌+◌, ◌^◌, ◌∷◌, [], ℕ, zero, suc, Bool, true, false, cond, List, length, get_or, drop, Option, Some, None, Result, Err, slice_get, refl, sym, ap, subst, arith}
use Rattle.std.specs.Prelude.{if◌then◌else◌}
use Rattle.std.proofs.lemmas.Bool.{ltb-false}
use Rattle.std.proofs.lemmas.List.{at_drop_more}
use Rattle.vh_base.specs.declared.faults.DesignFault.{DesignFault}
use Rattle.vh_base.specs.declared.place.Place.{Place}
use Rattle.vh_lex.specs.declared.fault.LexFault.{LexFault}
use Rattle.vh_lex.specs.declared.fault.LexFault.TheVariants.{Refused, NoMemory}
use Rattle.vh_lex.specs.declared.conditional.Conditional.{Conditional}
use Rattle.vh_lex.specs.declared.token.Token.{Token}
use Rattle.vh_lex.specs.Lexed.{Lexed, reading, refused, exhausted, file_read, files_after, answer_of, closed_by, end_of}
use Rattle.vh_lex.specs.Lexed as lexed
use Rattle.vh_host.specs.declared.file.TextFile.{TextFile}
use Rattle.vh_host_words.specs.Words.{is_design_word, is_script_word}
use Rattle.vh_ast.specs.Items.{SourceTree}
use Rattle.vh_host.specs.Acceptance.{DesignRefusal, closed_answer, lexed_answer, File, limit_of, is_too_long, first_too_long, design_files}
use Rattle.vh_host.specs.declared.judging.Refusal.{Refusal}
use Rattle.vh_host.specs.Judging.{Sources, Lexes, refusal_of}
use Rattle.vh_host.specs.Reading.{file_seen, files_seen}

-- No file has more bytes than a Verilog file may have.
limit-most : (b : Bool) → cond b 1048576 4194304 ≤ 4194304
limit-most true = omega arith
limit-most false = omega arith

short-bytes : (file : File) → is_too_long file ≡ false → length file.bytes < 2 ^ 31
short-bytes file short =
    let within : length file.bytes ≤ limit_of file.word = ltb-false (limit_of file.word) (length file.bytes) short in
    let most : limit_of file.word ≤ 4194304 = limit-most (is_script_word file.word) in
    omega (arith, within, most)

-- Where no file is too long, each of them isn't.
first-short : (b : Bool) (n : ℕ) (o : Option ℕ) → cond b (Some n) o ≡ None → (b ≡ false) × (o ≡ None)
first-short true n o h = absurd (cc)
first-short false n o h = (refl, h)

short-at : (n : ℕ) (files : List TextFile) (i : ℕ) (d : TextFile) → first_too_long n (files_seen files) ≡ None → i < length files
    → is_too_long (file_seen (get_or files i d)) ≡ false
short-at n [] i d short inside = absurd (omega arith)
short-at n (file ∷ files) zero d short inside = (first-short _ n _ short).0
short-at n (file ∷ files) (suc i) d short inside = short-at (n + 1) files i d (first-short _ n _ short).1 (omega arith)

pub bytes-at : (files : List TextFile) (i : ℕ) (d : TextFile) → first_too_long 1 (files_seen files) ≡ None → i < length files
    → length (get_or files i d).bytes.items < 2 ^ 31
bytes-at files i d short inside = short-bytes (file_seen (get_or files i d)) (short-at 1 files i d short inside)

-- The Verilog files from here on, with the next file.
module _ (files : List TextFile) (i : ℕ) (d : TextFile) (before after : Lexed) (target : Lexed) (inside : i < length files)
    (is : files_after before (design_files (i + 1) (files_seen (drop i files))) ≡ target) where
  next : files_after before (design_files (i + 1) (files_seen (get_or files i d ∷ drop (i + 1) files))) ≡ target
  next = sym (at_drop_more (λ xs. files_after before (design_files (i + 1) (files_seen xs))) files i d inside) ∙ is

  -- It is read.
  pub files-more : (m : ℕ) (bytes : List ℕ) → m ≡ i + 1 → bytes ≡ (get_or files i d).bytes.items → is_design_word (get_or files i d).word.now ≡ true
      → after ≡ file_read (record { number = m; bytes = bytes }) before
      → files_after after (design_files (i + 1 + 1) (files_seen (drop (i + 1) files))) ≡ target
  files-more m bytes number held design made =
      ap (λ (l : Lexed). files_after l (design_files (i + 1 + 1) (files_seen (drop (i + 1) files))))
      (made ∙ ap (λ (k : ℕ). file_read (record { number = k; bytes = bytes }) before) number
      ∙ ap (λ (bs : List ℕ). file_read (record { number = i + 1; bytes = bs }) before) held)
      ∙ sym (ap (λ (b : Bool). files_after before (if b then record { number = i + 1; bytes = (get_or files i d).bytes.items } ∷ design_files (i + 1 + 1) (files_seen (drop (i + 1) files)) else design_files (i + 1 + 1) (files_seen (drop (i + 1) files)))) design)
      ∙ next

-- A fault stays, whatever files follow.
stays : (files : List lexed.File) (fault : DesignFault) (at : Place) → files_after (refused fault at) files ≡ refused fault at
stays [] fault at = refl
stays (f ∷ files) fault at = stays files fault at

refused-so : (l : Lexed) (fault : DesignFault) (at : Place) → answer_of l ≡ Err (Refused fault at) → l ≡ refused fault at
refused-so (reading first s) fault at h = absurd (cc)
refused-so (refused f p) fault at h = cc
refused-so exhausted fault at h = absurd (cc)

-- It is refused.
pub files-refused : (l target : Lexed) (files : List lexed.File) (fault : DesignFault) (at : Place)
    → files_after l files ≡ target → answer_of l ≡ Err (Refused fault at) → target ≡ refused fault at
files-refused l target files fault at is answer =
    sym is ∙ ap (λ (x : Lexed). files_after x files) (refused-so l fault at answer) ∙ stays files fault at

-- So the code's refusal says.
pub file-stops : (new target : Lexed) (files : List lexed.File) (fault : LexFault) (r : Refusal) → r ≡ refusal_of fault
    → answer_of new ≡ Err fault → (fault ≢ NoMemory → files_after new files ≡ target) → Lexes {A = Bool} target (Err r) new
file-stops new target files (Refused fault at) r is answer come =
    let P : Refusal → Type 0 = λ x. Lexes {A = Bool} target (Err x) new in
    subst P (sym is) (files-refused new target files fault at (come (λ e. cc)) answer)
file-stops new target files NoMemory r is answer come =
    let P : Refusal → Type 0 = λ x. Lexes {A = Bool} target (Err x) new in subst P (sym is) tt

-- The answer at the end of the last file is the first fault of the design.
told-closed : (o : Option Conditional) (tokens : List Token) (after : Place) (fault : DesignFault) (at : Place) → closed_by o ≡ Err (Refused fault at)
    → closed_answer o tokens after ≡ Err (fault, at)
told-closed (Some c) tokens after fault at h = cc
told-closed None tokens after fault at h = absurd (cc)

told : (l : Lexed) (fault : DesignFault) (at : Place) → end_of l ≡ Err (Refused fault at) → lexed_answer l ≡ Err (fault, at)
told (reading first s) fault at h = told-closed (slice_get s.conditionals 0) s.made.tokens s.place fault at h
told (refused f p) fault at h = cc
told exhausted fault at h = absurd (cc)

pub ended-refused : (l : Lexed) (answer : Result SourceTree DesignRefusal) (fault : LexFault) (why : Refusal) → why ≡ refusal_of fault
    → answer ≡ lexed_answer l → end_of l ≡ Err fault → Sources answer (Err why)
ended-refused l answer (Refused fault at) why e a h = subst (λ (w : Refusal). Sources answer (Err w)) (sym e) (a ∙ told l fault at h)
ended-refused l answer NoMemory why e a h = subst (λ (w : Refusal). Sources answer (Err w)) (sym e) tt
