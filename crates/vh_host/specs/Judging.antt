-- Which verdict a refusal of the texts says. (own)
use Rattle.std.specs.Prelude.{◌≡◌, Bool, true, false, List, Result, Ok, Err}
use Rattle.vh_base.specs.declared.place.Place.{Place}
use Rattle.vh_ast.specs.declared.module.Source.{Source}
use Rattle.vh_ast.specs.Items.{SourceTree}
use Rattle.vh_ast.specs.Views.{source_tree}
use Rattle.vh_design.specs.Shape.{Shape}
use Rattle.vh_lex.specs.declared.fault.LexFault.{LexFault}
use Rattle.vh_lex.specs.declared.fault.LexFault.TheVariants as lexical
use Rattle.vh_lex.specs.Lexed.{Lexed, refused, IsBegun}
use Rattle.vh_app.specs.Script.{ScriptData}
use Rattle.vh_host.specs.declared.status.Status.{Status}
use Rattle.vh_host.specs.declared.status.Status.TheVariants as status
use Rattle.vh_host.specs.declared.judging.Refusal.{Refusal}
use Rattle.vh_host.specs.declared.judging.Refusal.TheVariants as refusal
use Rattle.vh_elab.specs.Elaborated.{Elaborated, made}
use Rattle.vh_host.specs.Acceptance.{Verdict, refuses, DesignRefusal, by_elaboration}

-- The status of a refusal.
abbrev pub status_of : Refusal → Status
status_of (refusal.Design fault at) = status.DesignRefused fault at
status_of (refusal.Script n fault at) = status.AppRefused n fault at
status_of refusal.NoMemory = status.NoMemory

-- A refusal says that it is the verdict; want of memory says nothing of it.
abbrev pub RefusesTexts : Refusal → Verdict → Type 0
RefusesTexts (refusal.Design fault at) v = v ≡ refuses (status.DesignRefused fault at)
RefusesTexts (refusal.Script n fault at) v = v ≡ refuses (status.AppRefused n fault at)
RefusesTexts refusal.NoMemory v = Unit {0}

-- The same of scripts, where no Verilog text is refused.
abbrev pub RefusesScript : Refusal → Result (List ScriptData) Status → Type 0
RefusesScript (refusal.Design fault at) r = ⊥
RefusesScript (refusal.Script n fault at) r = r ≡ Err (status.AppRefused n fault at)
RefusesScript refusal.NoMemory r = Unit {0}

-- The same of one file.
abbrev pub RefusesFile : Refusal → Result ScriptData Status → Type 0
RefusesFile (refusal.Design fault at) r = ⊥
RefusesFile (refusal.Script n fault at) r = r ≡ Err (status.AppRefused n fault at)
RefusesFile refusal.NoMemory r = Unit {0}

-- A lexical fault as a refusal.
abbrev pub refusal_of : LexFault → Refusal
refusal_of (lexical.Refused fault at) = refusal.Design fault at
refusal_of lexical.NoMemory = refusal.NoMemory

-- The source of the Verilog files, or their first fault, is what the code answers.
abbrev pub Sources : Result SourceTree DesignRefusal → Result Source Refusal → Type 0
Sources answer (Ok source) = answer ≡ Ok (source_tree source)
Sources answer (Err (refusal.Design fault at)) = answer ≡ Err (fault, at)
Sources answer (Err (refusal.Script n fault at)) = ⊥
Sources answer (Err refusal.NoMemory) = Unit {0}

-- The design of a source, or its fault, whatever the scripts beside it.
abbrev pub Designs : Elaborated → Result Shape Refusal → Type 0
Designs elaborated (Ok design) = elaborated ≡ made design
Designs elaborated (Err why) = (scripts : List ScriptData) → RefusesTexts why (by_elaboration elaborated scripts)

-- Files come to what a lexer holds after them, or are refused.
abbrev pub Lexes : {A : Type 0} → Lexed → Result A Refusal → Lexed → Type 0
Lexes given (Ok a) held = held ≡ given
Lexes given (Err (refusal.Design fault at)) held = given ≡ refused fault at
Lexes given (Err (refusal.Script n fault at)) held = ⊥
Lexes given (Err refusal.NoMemory) held = Unit {0}

-- A lexer has read a file, or is as it was.
abbrev pub Begins : Bool → Lexed → Lexed → Type 0
Begins true old new = IsBegun new
Begins false old new = new ≡ old
