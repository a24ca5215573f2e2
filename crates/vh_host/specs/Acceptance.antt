-- Which words and texts are accepted: one function that gives the design and the scripts, or the first refusal. (own)
use Rattle.std.specs.Prelude.{ℕ, ◌+◌, List, [], ◌∷◌, ◌++◌, Bool, if◌then◌else◌, Option, Some, None, Result, Ok, Err, nat_lt, length, map, slice_get}
use Rattle.vh_base.specs.declared.faults.AppFault.{AppFault}
use Rattle.vh_base.specs.declared.faults.DesignFault.{DesignFault}
use Rattle.vh_base.specs.declared.faults.DesignFault.TheVariants as fault
use Rattle.vh_base.specs.declared.place.Place.{Place}
use Rattle.vh_base.specs.Checks.{with_ok}
use Rattle.vh_ast.specs.Items.{SourceTree}
use Rattle.vh_design.specs.Shape.{Shape}
use Rattle.vh_lex.specs.declared.conditional.Conditional.{Conditional}
use Rattle.vh_lex.specs.declared.token.Token as lexed
use Rattle.vh_lex.specs.Lexed as lexed_files
use Rattle.vh_lex.specs.Lexed.{Lexed, reading, refused, exhausted, files_read}
use Rattle.vh_parse_syntax.specs.Tokens.{token_seen}
use Rattle.vh_parse_expr.specs.Answers.{placed}
use Rattle.vh_parse_items.specs.Answers.{source_answer}
use Rattle.vh_elab.specs.Elaborated.{Elaborated, made, later, elaborated}
use Rattle.vh_elab.specs.Elaborated as elab
use Rattle.vh_app.specs.Script.{ScriptData}
use Rattle.vh_app.specs.Reading.{app_of}
use Rattle.vh_host.specs.declared.status.Status.{Status}
use Rattle.vh_host.specs.declared.status.Status.TheVariants as status
use Rattle.vh_host_words.specs.Words as words
use Rattle.vh_host_words.specs.Words.{Reading, is_design_word, is_script_word}

pub data Verdict : Type 0 where
  accepts : Shape → List ScriptData → Verdict
  refuses : Status → Verdict

-- How many bytes the file of a word may have: a script 1,048,576, a Verilog file 4,194,304.
abbrev pub limit_of : List ℕ → ℕ
limit_of word = if is_script_word word then 1048576 else 4194304

-- A file: its word, and its bytes.
pub record File : Type 0 where
  pub word : List ℕ
  pub bytes : List ℕ

-- The files of these words with these contents, in word order.
abbrev pub files_with : List (List ℕ) → List (List ℕ) → List File
files_with [] contents = []
files_with (word ∷ words) [] = []
files_with (word ∷ words) (bytes ∷ contents) = record { word = word; bytes = bytes } ∷ files_with words contents

-- A place.
abbrev pub place : ℕ → ℕ → ℕ → Place
place file line column = record { file = file; line = line; column = column }

-- Does the file have more bytes than it may have?
abbrev pub is_too_long : File → Bool
is_too_long file = nat_lt (limit_of file.word) (length file.bytes)

-- The number of the first file that is too long; the first of these files has the number n.
abbrev pub first_too_long : ℕ → List File → Option ℕ
first_too_long n [] = None
first_too_long n (file ∷ files) = if is_too_long file then Some n else first_too_long (n + 1) files

-- The Verilog files, each with its number among all files; the first of these files has the number n.
abbrev pub design_files : ℕ → List File → List lexed_files.File
design_files n [] = []
design_files n (file ∷ files) =
    if is_design_word file.word
    then record { number = n; bytes = file.bytes } ∷ design_files (n + 1) files else design_files (n + 1) files

-- The first fault of the Verilog files, and where it stands.
abbrev pub DesignRefusal : Type 0
DesignRefusal = DesignFault × Place

-- Where the Verilog files begin; the first of these files has the number n.
abbrev pub begin_from : ℕ → List File → Place
begin_from n [] = place 0 1 1
begin_from n (file ∷ files) = if is_design_word file.word then place n 1 1 else begin_from (n + 1) files

-- The source of tokens; or the first fault of the grammar, with the place behind the last byte where no token is left.
unfoldable pub tokens_answer : List lexed.Token → Place → Result SourceTree DesignRefusal
tokens_answer tokens after =
    with_ok (placed tokens after (source_answer (map token_seen tokens))) (λ parsed. Ok parsed.0)

-- The same of the tokens of whole files: the outermost conditional that is open behind the last file is L2.
abbrev pub closed_answer : Option Conditional → List lexed.Token → Place → Result SourceTree DesignRefusal
closed_answer (Some opened) tokens after = Err (fault.L2, opened.place)
closed_answer None tokens after = tokens_answer tokens after

-- The same of what files come to: a lexical fault comes before every other.
abbrev pub lexed_answer : Lexed → Result SourceTree DesignRefusal
lexed_answer (reading first s) = closed_answer (slice_get s.conditionals 0) s.made.tokens s.place
lexed_answer (refused lexical at) = Err (lexical, at)
-- Want of memory is nothing that files come to
lexed_answer exhausted = tokens_answer [] (place 1 1 1)

-- The source of the Verilog files among these, which are one text in word order; or their first fault.
abbrev pub source_of : List File → Result SourceTree DesignRefusal
source_of files = lexed_answer (files_read (design_files 1 files))

-- The names of scripts.
abbrev pub names_of : List ScriptData → List (List ℕ)
names_of scripts = map (λ (s : ScriptData). s.name) scripts

-- The refusal of a script in the file of this number.
abbrev pub script_refused : ℕ → AppFault × Place → Status
script_refused n why = status.AppRefused n why.0 (record why.1 { file = n })

abbrev pub script_in : ℕ → Result ScriptData (AppFault × Place) → Result ScriptData Status
script_in n (Ok script) = Ok script
script_in n (Err why) = Err (script_refused n why)

-- A script behind those that were found, and what comes behind it; or its refusal.
abbrev pub script_then : List ScriptData → (List ScriptData → Result (List ScriptData) Status) → Result ScriptData Status
    → Result (List ScriptData) Status
script_then found further (Ok script) = further (found ++ script ∷ [])
script_then found further (Err refusal) = Err refusal

-- The scripts in word order behind those that were found, none of which has the name of one before it; or
-- the first refusal. The first of these files has the number n.
abbrev pub scripts_of : ℕ → List ScriptData → List File → Result (List ScriptData) Status
scripts_of n found [] = Ok found
scripts_of n found (file ∷ files) =
    if is_script_word file.word
    then script_then found (λ scripts. scripts_of (n + 1) scripts files) (script_in n (app_of file.bytes (names_of found)))
    else scripts_of (n + 1) found files

-- The design with its scripts, or its least fault; or S3 where the source has what comes later.
abbrev pub by_elaboration : Elaborated → List ScriptData → Verdict
by_elaboration (made d) scripts = accepts d scripts
by_elaboration (elab.refused f) scripts = refuses (status.DesignRefused f.0 f.1)
by_elaboration later scripts = refuses (status.DesignRefused fault.S3 (place 1 1 1))

-- The scripts come before the source, which begins at this place, is elaborated.
abbrev pub by_scripts : Place → SourceTree → Result (List ScriptData) Status → Verdict
by_scripts begin source (Ok scripts) = by_elaboration (elaborated begin source) scripts
by_scripts begin source (Err refusal) = refuses refusal

-- What the Verilog text's tokens and grammar refuse comes before the scripts.
abbrev pub by_source : Result SourceTree DesignRefusal → List File → Verdict
by_source (Err refusal) files = refuses (status.DesignRefused refusal.0 refusal.1)
by_source (Ok source) files = by_scripts (begin_from 1 files) source (scripts_of 1 [] files)

-- The texts, each of which is short enough.
abbrev pub by_texts : List File → Verdict
by_texts files = by_source (source_of files) files

abbrev pub by_length : Option ℕ → List File → Verdict
by_length (Some n) files = refuses (status.TooLong n)
by_length None files = by_texts files

abbrev pub by_files : List File → Verdict
by_files files = by_length (first_too_long 1 files) files

abbrev pub by_reading : Option Reading → List (List ℕ) → Verdict
by_reading None contents = refuses status.Usage
by_reading (Some r) contents = by_files (files_with r.files contents)

-- The verdict on words and on the contents of the files that they name, in word order.
abbrev pub verdict : List (List ℕ) → List (List ℕ) → Verdict
verdict given contents = by_reading (words.reading given) contents
