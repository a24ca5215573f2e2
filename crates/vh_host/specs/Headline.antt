-- The headline: what `run` writes is exactly the text of a run of the machine.
use Rattle.std.specs.Prelude.{◌≡◌, ◌≤◌, ℕ, ◌++◌, List, [], map, Option, Some, ◌⊎◌}
use Rattle.std.specs.List.{AllZip}
use Rattle.vh_base.specs.Outside.{IsAnswered, appended}
use Rattle.vh_design.specs.Shape.{Shape}
use Rattle.vh_kernel_choice.specs.declared.chooser.Chooser.{Chooser}
use Rattle.vh_app.specs.Script.{ScriptData}
use Rattle.vh_host.specs.declared.status.Status.{Status}
use Rattle.vh_host.specs.declared.status.Status.TheVariants as status
use Rattle.vh_host_words.specs.Words.{file_words, chooser_word, budget_word}
use Rattle.vh_host.specs.Acceptance.{Verdict, accepts, refuses, verdict, limit_of}
use Rattle.vh_host.specs.Transcript.{WroteFromOpening, IsTextFromOpening}

-- What a source of files tells of a name.
abbrev pub Holds : Type 0
Holds = List ℕ → Option (List ℕ)

-- May the read of the m-th file fail before a refusal is found? That a file is too long is found when it
-- is read, and before any later file is; what else is refused, when all were read.
abbrev pub FailsBefore : ℕ → Status → Type 0
FailsBefore m (status.TooLong n) = m ≤ n
FailsBefore m (status.DesignRefused f p) = Unit {0}
FailsBefore m (status.AppRefused n f p) = Unit {0}
-- Words without a reading name no file
FailsBefore m status.Usage = ⊥
-- No refusals
FailsBefore m (status.Done cause) = ⊥
FailsBefore m (status.ReadFault n) = ⊥
FailsBefore m (status.RunFault f) = ⊥
FailsBefore m status.BudgetSpent = ⊥
FailsBefore m status.WriteFault = ⊥
FailsBefore m status.NoMemory = ⊥

-- May a status come in place of a refusal? One of the two that an outside fault or want of memory gives
-- before the refusal is found.
abbrev pub ComesBefore : Status → Status → Type 0
ComesBefore refusal (status.ReadFault m) = FailsBefore m refusal
ComesBefore refusal status.NoMemory = Unit {0}
ComesBefore refusal (status.Done cause) = ⊥
ComesBefore refusal status.Usage = ⊥
ComesBefore refusal (status.TooLong n) = ⊥
ComesBefore refusal (status.DesignRefused f p) = ⊥
ComesBefore refusal (status.AppRefused n f p) = ⊥
ComesBefore refusal (status.RunFault f) = ⊥
ComesBefore refusal status.BudgetSpent = ⊥
ComesBefore refusal status.WriteFault = ⊥

-- What a call answers and writes, by the verdict: a refused input gets its refusal and nothing is
-- written, unless the source failed or memory was refused before that was found; an accepted one gets a run.
abbrev pub Answers : Chooser → ℕ → Verdict → Status → List ℕ → Type 0
Answers chooser budget (refuses refusal) s written = ((s ≡ refusal) ⊎ ComesBefore refusal s) × (written ≡ [])
Answers chooser budget (accepts design scripts) s written = WroteFromOpening chooser budget design scripts s written

-- The contents are those that the source may have answered for the files, in word order.
abbrev pub WereAnswered : Holds → List (List ℕ) → List (List ℕ) → Type 0
WereAnswered holds files contents = AllZip (λ file bytes. IsAnswered (holds file) (limit_of file) bytes) files contents

-- The source tells that the files have these contents, in word order.
abbrev pub Tells : Holds → List (List ℕ) → List (List ℕ) → Type 0
Tells holds files contents = map holds files ≡ map Some contents

-- What is written once the files' contents are there: nothing, or a run's text.
pub record AnswersWith (chooser : Chooser) (budget : ℕ) (v : Verdict) (s : Status) (old new : Option (List ℕ)) : Type 0 where
  pub written : List ℕ
  pub appends : new ≡ appended old written
  pub answers : Answers chooser budget v s written

-- The whole account of a call: on the contents that the source answered, whatever it tells, the status
-- and the written bytes are those of the verdict, under the order of choice and with the budget that the words ask for.
pub record Accounts (words : List (List ℕ)) (holds : Holds) (s : Status) (old new : Option (List ℕ)) : Type 0 where
  pub contents : List (List ℕ)
  pub answered : WereAnswered holds (file_words words) contents
  pub answers : AnswersWith (chooser_word words) (budget_word words) (verdict words contents) s old new

-- The headline. For accepted words, texts and scripts, where the source tells the files' contents and the
-- sink tells its own, the bytes written are exactly the text of a run of the machine from the opening
-- of the design with its scripts under the order of choice that the words ask for, ending only at its end
-- or at their budget, or a front of that text after want of memory or a failed write, or nothing after a failed read.
abbrev pub Transcribes : List (List ℕ) → Holds → Status → Option (List ℕ) → Option (List ℕ) → Type 0
Transcribes words holds s old new =
    (contents : List (List ℕ)) (before : List ℕ) (design : Shape) (scripts : List ScriptData) →
    Tells holds (file_words words) contents → verdict words contents ≡ accepts design scripts → old ≡ Some before →
    (written : List ℕ) × (new ≡ Some (before ++ written))
    × WroteFromOpening (chooser_word words) (budget_word words) design scripts s written

-- A refused input gets its refusal, and nothing is written, unless the source failed or memory was
-- refused before that was found; where the source tells the files' contents.
abbrev pub Refuses : List (List ℕ) → Holds → Status → Option (List ℕ) → Option (List ℕ) → Type 0
Refuses words holds s old new =
    (contents : List (List ℕ)) (refusal : Status) →
    Tells holds (file_words words) contents → verdict words contents ≡ refuses refusal →
    ((s ≡ refusal) ⊎ ComesBefore refusal s) × (new ≡ old)

-- A status comes exactly where a fact holds, unless memory was refused.
abbrev pub Exactly : Status → Status → Type 0 → Type 0
Exactly s given P = (s ≡ given → P) × (P → (s ≡ given) ⊎ (s ≡ status.NoMemory))

-- The text is that of the run that a verdict allows, of so many labels at most; none for a refused input.
abbrev pub IsTextBy : Chooser → ℕ → Verdict → List ℕ → Type 0
IsTextBy chooser budget (refuses r) text = text ≡ []
IsTextBy chooser budget (accepts design scripts) text = IsTextFromOpening chooser budget design scripts text
