-- How a call's answer follows from the verdict.
use Rattle.std.proofs.Common.{◌≡◌, ◌+◌, ◌≤◌, ℕ, List, [], ◌∷◌, ◌++◌, Bool, true, false, cond, Option, Some, None, Result, Ok, Err, IfErr, refl, sym, ap, subst, ◌∙◌, arith, inl, inr}
use Rattle.vh_base.specs.Outside.{appended}
use Rattle.vh_design.specs.Shape.{Shape}
use Rattle.vh_elab.specs.Elaborated.{Elaborated, made, elaborated}
use Rattle.vh_elab.specs.Elaborated as elab
use Rattle.vh_ast.specs.Items.{SourceTree}
use Rattle.vh_app.specs.Script.{ScriptData}
use Rattle.vh_app.specs.Reading.{app_of}
use Rattle.vh_base.specs.declared.faults.AppFault.{AppFault}
use Rattle.vh_base.specs.declared.place.Place.{Place}
use Rattle.vh_kernel_choice.specs.declared.chooser.Chooser.{Chooser}
use Rattle.vh_kernel.specs.Settle.{Opens}
use Rattle.vh_kernel.specs.State.{State}
use Rattle.vh_kernel_laws.proofs.LawsLemmas.{runs-keep-laws, opens-fresh}
use Rattle.vh_host.specs.declared.status.Status.{Status}
use Rattle.vh_host.specs.declared.status.Status.TheVariants as status
use Rattle.vh_host.specs.declared.judging.Refusal.{Refusal}
use Rattle.vh_host.specs.declared.judging.Refusal.TheVariants as refusal
use Rattle.vh_host_words.specs.Words.{Reading, reading, files_of, chooser_of, budget_of, file_words, is_script_word}
use Rattle.vh_host.specs.Acceptance.{Verdict, accepts, refuses, by_reading, by_files, by_length, by_texts, by_source, by_scripts, by_elaboration, begin_from, names_of, script_in, script_then, scripts_of, DesignRefusal, source_of, verdict, File, files_with, first_too_long}
use Rattle.vh_host.specs.Transcript.{WroteOf, WroteFromOpening}
use Rattle.vh_host.specs.Headline.{Holds, FailsBefore, AnswersWith, Accounts, Transcribes, Refuses, WereAnswered, Tells}
use Rattle.vh_host.specs.Reading.{AreRead, MeetsLong, MeetsNoneLong, contents_of}
use Rattle.vh_host.specs.Judging.{RefusesTexts, status_of}
use Rattle.vh_base_outside.proofs.Appended.{appended_nothing}
use Rattle.vh_host.proofs.OpeningsLemmas.{has-opening}
use Rattle.vh_host.proofs.ReadingLemmas.{files_back, some_contents, told_verdict}

-- Nothing is written of a run before its first label.
none_from : (chooser : Chooser) (budget : ℕ) (design : Shape) (scripts : List ScriptData) (s : Status) → WroteOf budget [] s []
    → (opening : State) → Opens design scripts opening → WroteFromOpening chooser budget design scripts s []
none_from chooser budget design scripts s is opening opens =
    let fresh = opens-fresh design scripts opening opens in record {
      opening = opening;
      opens = opens;
      wrote = record { moves = []; run = tt; laws = runs-keep-laws opening fresh chooser [] tt; in_budget = omega arith; text = is };
    }

wrote_none : (chooser : Chooser) (budget : ℕ) (design : Shape) (scripts : List ScriptData) (s : Status) → WroteOf budget [] s []
    → WroteFromOpening chooser budget design scripts s []
wrote_none chooser budget design scripts s is =
    let o = has-opening design scripts in none_from chooser budget design scripts s is o.0 o.1

-- Want of memory before the run begins, on any verdict.
pub no_memory : (chooser : Chooser) (budget : ℕ) (v : Verdict) (w : Option (List ℕ)) → AnswersWith chooser budget v status.NoMemory w w
no_memory chooser budget (refuses r) w = record { written = []; appends = sym (appended_nothing w); answers = (inr tt, refl) }
no_memory chooser budget (accepts design scripts) w = record {
  written = [];
  appends = sym (appended_nothing w);
  answers = wrote_none chooser budget design scripts status.NoMemory (record { part = 0; front = refl; but_last_line = omega arith });
}

-- A read that failed, where a refusal is found later.
failed_refusal : (chooser : Chooser) (budget : ℕ) (r : Status) (n : ℕ) (w : Option (List ℕ)) → FailsBefore n r
    → AnswersWith chooser budget (refuses r) (status.ReadFault n) w w
failed_refusal chooser budget r n w before = record { written = []; appends = sym (appended_nothing w); answers = (inr before, refl) }

-- The scripts are refused once all files were read.
either_later : (m : ℕ) (b : Bool) (r s : Result (List ScriptData) Status) → IfErr r (FailsBefore m) → IfErr s (FailsBefore m)
    → IfErr (cond b r s) (FailsBefore m)
either_later m true r s one other = one
either_later m false r s one other = other

script_later : (m : ℕ) (found : List ScriptData) (further : List ScriptData → Result (List ScriptData) Status) (n : ℕ) (r : Result ScriptData (AppFault × Place))
    → ((scripts : List ScriptData) → IfErr (further scripts) (FailsBefore m)) → IfErr (script_then found further (script_in n r)) (FailsBefore m)
script_later m found further n (Err why) later = tt
script_later m found further n (Ok script) later = later (found ++ script ∷ [])

scripts_later : (m n : ℕ) (found : List ScriptData) (files : List File) → IfErr (scripts_of n found files) (FailsBefore m)
scripts_later m n found [] = tt
scripts_later m n found (file ∷ files) =
    either_later m (is_script_word file.word) _ _
    (script_later m found (λ scripts. scripts_of (n + 1) scripts files) n (app_of file.bytes (names_of found))
    (λ scripts. scripts_later m (n + 1) scripts files))
    (scripts_later m (n + 1) found files)

failed_elaboration : (chooser : Chooser) (budget : ℕ) (e : Elaborated) (scripts : List ScriptData) (n : ℕ) (w : Option (List ℕ))
    → AnswersWith chooser budget (by_elaboration e scripts) (status.ReadFault n) w w
failed_elaboration chooser budget (made design) scripts n w = record {
  written = [];
  appends = sym (appended_nothing w);
  answers = wrote_none chooser budget design scripts (status.ReadFault n) (refl, refl);
}
failed_elaboration chooser budget (elab.refused f) scripts n w = failed_refusal chooser budget _ n w tt
failed_elaboration chooser budget elab.later scripts n w = failed_refusal chooser budget _ n w tt

failed_scripts : (chooser : Chooser) (budget : ℕ) (begin : Place) (source : SourceTree) (scripts : Result (List ScriptData) Status) (n : ℕ) (w : Option (List ℕ))
    → IfErr scripts (FailsBefore n) → AnswersWith chooser budget (by_scripts begin source scripts) (status.ReadFault n) w w
failed_scripts chooser budget begin source (Ok scripts) n w later = failed_elaboration chooser budget (elaborated begin source) scripts n w
failed_scripts chooser budget begin source (Err refusal) n w later = failed_refusal chooser budget refusal n w later

-- So are the texts.
failed_source : (chooser : Chooser) (budget : ℕ) (source : Result SourceTree DesignRefusal) (files : List File) (n : ℕ) (w : Option (List ℕ))
    → AnswersWith chooser budget (by_source source files) (status.ReadFault n) w w
failed_source chooser budget (Err refusal) files n w = failed_refusal chooser budget _ n w tt
failed_source chooser budget (Ok source) files n w =
    failed_scripts chooser budget (begin_from 1 files) source (scripts_of 1 [] files) n w (scripts_later n 1 [] files)

-- A read that failed, where no file before is too long.
pub read_failed : (chooser : Chooser) (budget : ℕ) (o : Option ℕ) (files : List File) (n : ℕ) (w : Option (List ℕ))
    → ((k : ℕ) → o ≡ Some k → n ≤ k) → AnswersWith chooser budget (by_length o files) (status.ReadFault n) w w
read_failed chooser budget None files n w before = failed_source chooser budget (source_of files) files n w
read_failed chooser budget (Some k) files n w before = failed_refusal chooser budget (status.TooLong k) n w (before k refl)

-- A refusal.
pub refuses_so : (chooser : Chooser) (budget : ℕ) (v : Verdict) (r : Status) (w : Option (List ℕ)) → v ≡ refuses r → AnswersWith chooser budget v r w w
refuses_so chooser budget v r w is =
    let P : Verdict → Type 0 = λ u. AnswersWith chooser budget u r w w in
    subst P (sym is) (record { written = []; appends = sym (appended_nothing w); answers = (inl refl, refl) })

-- A refusal of the texts.
pub refused_texts : (chooser : Chooser) (budget : ℕ) (r : Refusal) (v : Verdict) (w : Option (List ℕ)) → RefusesTexts r v
    → AnswersWith chooser budget v (status_of r) w w
refused_texts chooser budget (refusal.Design fault at) v w is = refuses_so chooser budget v (status.DesignRefused fault at) w is
refused_texts chooser budget (refusal.Script n fault at) v w is = refuses_so chooser budget v (status.AppRefused n fault at) w is
refused_texts chooser budget refusal.NoMemory v w is = no_memory chooser budget v w

-- The account of a call, by the reading of its words.
account_of : (words : List (List ℕ)) (holds : Holds) (s : Status) (old new : Option (List ℕ)) (r : Option Reading) (contents : List (List ℕ))
    → r ≡ reading words → WereAnswered holds (files_of r) contents
    → AnswersWith (chooser_of r) (budget_of r) (by_reading r contents) s old new → Accounts words holds s old new
account_of words holds s old new r contents is answered answers =
    let P : Option Reading → Type 0 = λ r. WereAnswered holds (files_of r) contents in
    let Q : Option Reading → Type 0 = λ r. AnswersWith (chooser_of r) (budget_of r) (by_reading r contents) s old new in
    record { contents = contents; answered = subst P is answered; answers = subst Q is answers }

-- Files that were read whole.
pub accounts_files : (words : List (List ℕ)) (holds : Holds) (s : Status) (old new : Option (List ℕ)) (r : Reading) (files : List File)
    → Some r ≡ reading words → AreRead holds r.files files → first_too_long 1 files ≡ None
    → AnswersWith r.chooser r.budget (by_texts files) s old new → Accounts words holds s old new
accounts_files words holds s old new r files is read short answers =
    let back : files_with r.files (contents_of files) ≡ files = ap (λ (ws : List (List ℕ)). files_with ws (contents_of files)) (sym read.0) ∙ files_back files in
    let same : by_files (files_with r.files (contents_of files)) ≡ by_texts files =
    ap (λ (fs : List File). by_files fs) back ∙ ap (λ (o : Option ℕ). by_length o files) short in
    let P : Verdict → Type 0 = λ v. AnswersWith r.chooser r.budget v s old new in
    account_of words holds s old new (Some r) (contents_of files) is read.1 (subst P (sym same) answers)

-- A file that is too long.
pub accounts_long : (words : List (List ℕ)) (holds : Holds) (w : Option (List ℕ)) (r : Reading) (n : ℕ)
    → Some r ≡ reading words → MeetsLong holds r.files n → Accounts words holds (status.TooLong n) w w
accounts_long words holds w r n is long =
    account_of words holds (status.TooLong n) w w (Some r) long.contents is long.answered
    (refuses_so r.chooser r.budget (by_files (files_with r.files long.contents)) (status.TooLong n) w
    (ap (λ (o : Option ℕ). by_length o (files_with r.files long.contents)) long.first))

-- A file whose read failed.
pub accounts_failed : (words : List (List ℕ)) (holds : Holds) (w : Option (List ℕ)) (r : Reading) (n : ℕ)
    → Some r ≡ reading words → MeetsNoneLong holds r.files n → Accounts words holds (status.ReadFault n) w w
accounts_failed words holds w r n is failed =
    account_of words holds (status.ReadFault n) w w (Some r) failed.contents is failed.answered
    (read_failed r.chooser r.budget (first_too_long 1 (files_with r.files failed.contents)) (files_with r.files failed.contents) n w failed.none)

-- Want of memory before the files were read.
pub accounts_none : (words : List (List ℕ)) (holds : Holds) (w : Option (List ℕ)) → Accounts words holds status.NoMemory w w
accounts_none words holds w =
    let some : (contents : List (List ℕ)) × WereAnswered holds (file_words words) contents = some_contents holds (file_words words) in
    account_of words holds status.NoMemory w w (reading words) some.0 refl some.1 (no_memory _ _ (by_reading (reading words) some.0) w)

-- Where the source tells the contents, the verdict on what was read is that on them.
told_reading : (r : Option Reading) (holds : Holds) (read whole : List (List ℕ)) → WereAnswered holds (files_of r) read → Tells holds (files_of r) whole
    → by_reading r read ≡ by_reading r whole
told_reading None holds read whole answered told = refl
told_reading (Some r) holds read whole answered told = told_verdict holds r.files read whole answered told

-- So is the account.
told_answers : (words : List (List ℕ)) (holds : Holds) (s : Status) (old new : Option (List ℕ)) (contents : List (List ℕ)) (v : Verdict)
    → Accounts words holds s old new → Tells holds (files_of (reading words)) contents → verdict words contents ≡ v
    → AnswersWith (chooser_of (reading words)) (budget_of (reading words)) v s old new
told_answers words holds s old new contents v a told is =
    let Q : Verdict → Type 0 = λ u. AnswersWith (chooser_of (reading words)) (budget_of (reading words)) u s old new in
    subst Q (told_reading (reading words) holds a.contents contents a.answered told ∙ is) a.answers

-- The headline, of the account.
pub transcribes_of : (words : List (List ℕ)) (holds : Holds) (s : Status) (old new : Option (List ℕ))
    → Accounts words holds s old new → Transcribes words holds s old new
transcribes_of words holds s old new a contents before design scripts told accepted known =
    let w : AnswersWith (chooser_of (reading words)) (budget_of (reading words)) (accepts design scripts) s old new = told_answers words holds s old new contents (accepts design scripts) a told accepted in
    (w.written, w.appends ∙ ap (λ (o : Option (List ℕ)). appended o w.written) known, w.answers)

-- The refusals, of the account.
pub refuses_of : (words : List (List ℕ)) (holds : Holds) (s : Status) (old new : Option (List ℕ))
    → Accounts words holds s old new → Refuses words holds s old new
refuses_of words holds s old new a contents refusal told refused =
    let w : AnswersWith (chooser_of (reading words)) (budget_of (reading words)) (refuses refusal) s old new = told_answers words holds s old new contents (refuses refusal) a told refused in
    (w.answers.0, w.appends ∙ ap (λ (x : List ℕ). appended old x) w.answers.1 ∙ appended_nothing old)
