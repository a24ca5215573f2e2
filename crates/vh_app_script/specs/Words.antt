-- What a token means where it stands, under the rules that count. Where the rule that an unknown word
-- breaks doesn't count, it is read as any word.
use Rattle.std.specs.Prelude.{ℕ, ◌&&◌, Bool, true, false, List, [], ◌∷◌, Option, Some, None, option_map, if◌then◌else◌, codes, bytes_eq}
use Rattle.std.specs.List.{find}
use Rattle.vh_base.specs.Words.{reason_text}
use Rattle.vh_base.specs.declared.faults.AppFault.{AppFault}
use Rattle.vh_base.specs.declared.faults.AppFault.TheVariants as fault
use Rattle.vh_base.specs.declared.format.Format.{Format}
use Rattle.vh_base.specs.declared.format.Format.TheVariants as format
use Rattle.vh_base.specs.declared.words.Mode.{Mode}
use Rattle.vh_base.specs.declared.words.Mode.TheVariants as mode
use Rattle.vh_base.specs.declared.words.Property.{Property}
use Rattle.vh_base.specs.declared.words.Property.TheVariants as property
use Rattle.vh_base.specs.declared.words.Reason.{Reason}
use Rattle.vh_base.specs.declared.words.Reason.TheVariants as reason
use Rattle.vh_base.specs.declared.words.Relation.{Relation}
use Rattle.vh_base.specs.declared.words.Relation.TheVariants as relation
use Rattle.vh_base.specs.declared.words.SystfKind.{SystfKind}
use Rattle.vh_base.specs.declared.words.SystfKind.TheVariants as kind
use Rattle.vh_app_lines.specs.OrderText.{relation_text, property_text, format_text, mode_text, kind_text, control_text}
use Rattle.vh_app_lines.specs.Routines.{routine_text}
use Rattle.vh_app_lines.specs.declared.routine.Routine.{Routine}
use Rattle.vh_app_script.specs.declared.env.Block.{Block}
use Rattle.vh_app_script.specs.declared.env.Block.TheVariants as blocks
use Rattle.vh_app_script.specs.declared.words.Opening.{Opening}
use Rattle.vh_app_script.specs.declared.words.Opening.TheVariants as opens
use Rattle.vh_app_script.specs.declared.words.BodyWord.{BodyWord}
use Rattle.vh_app_script.specs.declared.words.BodyWord.TheVariants as bodies
use Rattle.vh_app_script.specs.Token.{Terminal, word, number, text, symbol, wrong}
use Rattle.vh_app_script.specs.Tree as tree
use Rattle.vh_app_script.specs.Tree.{Atom}
use Rattle.vh_app_script.specs.Built.{built_routines, built_reasons, natives_are_built}
use Rattle.vh_app_script.specs.Env.{Env, counts, is_long_name, is_long_text, is_one_too_many, is_taken, with_name, variable_of}

-- All relations, properties, formats and modes, and both kinds of user system names (IEEE 1364-2005,
-- 26.6, 27.14, 27.32 and 27.34).
abbrev pub relations : List Relation
relations =
    relation.VpiModule ∷ relation.VpiScope ∷ relation.VpiParent ∷ relation.VpiSysTfCall ∷
    relation.VpiInternalScope ∷ relation.VpiNet ∷ relation.VpiPort ∷ relation.VpiContAssign ∷
    relation.VpiProcess ∷ relation.VpiReg ∷ relation.VpiVariables ∷ relation.VpiMemory ∷
    relation.VpiParameter ∷ relation.VpiNamedEvent ∷ relation.VpiMemoryWord ∷ relation.VpiArgument ∷ []

abbrev pub properties : List Property
properties =
    property.VpiType ∷ property.VpiSize ∷ property.VpiSigned ∷ property.VpiTopModule ∷
    property.VpiDirection ∷ property.VpiNetType ∷ property.VpiPortIndex ∷ property.VpiLineNo ∷
    property.VpiName ∷ property.VpiFullName ∷ property.VpiDefName ∷ []

abbrev pub formats : List Format
formats =
    format.VpiBinStrVal ∷ format.VpiOctStrVal ∷ format.VpiHexStrVal ∷ format.VpiDecStrVal ∷
    format.VpiIntVal ∷ format.VpiScalarVal ∷ format.VpiVectorVal ∷ []

abbrev pub modes : List Mode
modes =
    mode.VpiNoDelay ∷ mode.VpiInertialDelay ∷ mode.VpiTransportDelay ∷ mode.VpiPureTransportDelay ∷
    mode.VpiForceFlag ∷ mode.VpiReleaseFlag ∷ []

abbrev pub kinds : List SystfKind
kinds = kind.Task ∷ kind.Func ∷ []

-- The one of these whose word the bytes are (own).
abbrev pub named : {A : Type 0} → (A → List ℕ) → List A → List ℕ → Option A
named text_of all bytes = find (λ a. bytes_eq bytes (text_of a)) all

-- What was found; where an unknown word isn't refused, any (own).
abbrev pub known : {A : Type 0} → AppFault → A → Option A → Option A
known rules any (Some a) = Some a
known rules any None = if counts rules fault.A3 then None else Some any

-- What the name or the word means, if the token is one (own).
abbrev pub of_word : {A : Type 0} → (List ℕ → Option A) → Terminal → Option A
of_word meaning (word aimed bytes) = meaning bytes
of_word meaning (number n) = None
of_word meaning (text bytes) = None
of_word meaning (symbol m) = None
of_word meaning wrong = None

-- One of these by its word: another word is unknown (own).
abbrev pub one_of : {A : Type 0} → (A → List ℕ) → AppFault → A → List A → Terminal → Option A
one_of text_of rules any all t = of_word (λ bytes. known rules any (named text_of all bytes)) t

-- A reason, a relation, a property, a format and a mode (own).
abbrev pub reason_in : AppFault → Terminal → Option Reason
reason_in rules t = one_of reason_text rules reason.CbValueChange built_reasons t

abbrev pub relation_in : AppFault → Terminal → Option Relation
relation_in rules t = one_of relation_text rules relation.VpiModule relations t

abbrev pub property_in : AppFault → Terminal → Option Property
property_in rules t = one_of property_text rules property.VpiType properties t

abbrev pub format_in : AppFault → Terminal → Option Format
format_in rules t = one_of format_text rules format.VpiBinStrVal formats t

abbrev pub mode_in : AppFault → Terminal → Option Mode
mode_in rules t = one_of mode_text rules mode.VpiNoDelay modes t

-- "task" or "func", and "finish" or "stop": another token could not stand there (own).
abbrev pub kind_in : Terminal → Option SystfKind
kind_in t = of_word (named kind_text kinds) t

abbrev pub control_of : List ℕ → Option Bool
control_of bytes = named control_text (false ∷ true ∷ []) bytes

abbrev pub control_in : Terminal → Option Bool
control_in t = of_word control_of t

-- "proc", and "native" where natives are built (own).
abbrev pub body_word_of : List ℕ → Option BodyWord
body_word_of bytes =
    if bytes_eq bytes (codes "proc") then Some bodies.Proc
    else (if natives_are_built && bytes_eq bytes (codes "native") then Some bodies.Native else None)

abbrev pub body_word_in : Terminal → Option BodyWord
body_word_in t = of_word body_word_of t

-- NAME, which isn't too long (own).
abbrev pub name_of : AppFault → List ℕ → Option (List ℕ)
name_of rules bytes = if is_long_name rules bytes then None else Some bytes

abbrev pub name_in : AppFault → Terminal → Option (List ℕ)
name_in rules t = of_word (name_of rules) t

-- NAME, which is none of these (own).
abbrev pub new_name_of : AppFault → List (List ℕ) → List ℕ → Option (List ℕ)
new_name_of rules names bytes = if is_taken rules names bytes then None else name_of rules bytes

abbrev pub new_name_in : AppFault → List (List ℕ) → Terminal → Option (List ℕ)
new_name_in rules names t = of_word (new_name_of rules names) t

-- The names with one more that is none of them (own).
abbrev pub names_in : AppFault → List (List ℕ) → Terminal → Option (List (List ℕ))
names_in rules names t = option_map (with_name names) (new_name_in rules names t)

-- A variable's name (own).
abbrev pub variable_in : List (List ℕ) → Terminal → Option ℕ
variable_in variables t = of_word (variable_of variables) t

-- What a name is in an atom of a procedure: these words, also where a variable has that name, and else
-- a variable (own).
abbrev pub procedure_word : List (List ℕ) → List ℕ → Option Atom
procedure_word variables bytes =
    if bytes_eq bytes (codes "null") then Some tree.null
    else (if bytes_eq bytes (codes "obj") then Some tree.obj
    else (if bytes_eq bytes (codes "me") then Some tree.me
    else (if bytes_eq bytes (codes "value") then Some tree.value
    else (if bytes_eq bytes (codes "index") then Some tree.index
    else (if bytes_eq bytes (codes "data") then Some tree.data_
    else (if bytes_eq bytes (codes "time") then Some tree.time
    else (if bytes_eq bytes (codes "last") then Some tree.last
    else option_map (λ n. tree.variable n) (variable_of variables bytes))))))))

-- In a startup null is the only one (own).
abbrev pub startup_word : List ℕ → Option Atom
startup_word bytes = if bytes_eq bytes (codes "null") then Some tree.null else None

abbrev pub atom_word : Block → List (List ℕ) → List ℕ → Option Atom
atom_word blocks.Startup variables bytes = startup_word bytes
atom_word blocks.Procedure variables bytes = procedure_word variables bytes

-- TEXT, which isn't too long (own).
abbrev pub text_atom : AppFault → List ℕ → Option Atom
text_atom rules bytes = if is_long_text rules bytes then None else Some (tree.text bytes)

-- atom (own)
abbrev pub atom_in : Env → Terminal → Option Atom
atom_in env (word aimed bytes) = atom_word env.block env.variables bytes
atom_in env (number n) = Some (tree.number n)
atom_in env (text bytes) = text_atom env.rules bytes
atom_in env (symbol m) = None
atom_in env wrong = None

-- A routine that is built: another word is unknown (own).
abbrev pub routine_of : List ℕ → Option Routine
routine_of bytes = named routine_text built_routines bytes

-- What an order begins with, where it has to stand (own).
abbrev pub order_of : Option Routine → Opening
order_of (Some routine) = opens.Ask routine
order_of None = opens.Nothing

-- The word of an order: another one is unknown (own).
abbrev pub order_word : AppFault → List ℕ → Option Opening
order_word rules bytes = known rules opens.Nothing (option_map (λ routine. opens.Ask routine) (routine_of bytes))

abbrev pub order_in : AppFault → Terminal → Option Opening
order_in rules t = of_word (order_word rules) t

-- A routine, or a variable, which could stand there though what follows can't. Another word is an unknown
-- routine (own).
abbrev pub order_or_variable : AppFault → Option Routine → Option ℕ → Option Opening
order_or_variable rules (Some routine) v = Some (opens.Ask routine)
order_or_variable rules None (Some n) = Some opens.Nothing
order_or_variable rules None None = known rules opens.Nothing None

-- What a command begins with whose first word isn't aimed at: one of the words, or a routine (own).
abbrev pub plain_opening : Env → List ℕ → Option Opening
plain_opening env bytes =
    if bytes_eq bytes (codes "set") then Some opens.Set
    else (if bytes_eq bytes (codes "return") then Some opens.Return
    else (if bytes_eq bytes (codes "if") then Some opens.If
    else (if bytes_eq bytes (codes "while") then Some opens.While
    else order_or_variable env.rules (routine_of bytes) (variable_of env.variables bytes))))

-- What a command begins with: before a "=" a variable alone (own).
abbrev pub opening_of : Env → Bool → List ℕ → Option Opening
opening_of env true bytes = option_map (λ n. opens.Target n) (variable_of env.variables bytes)
opening_of env false bytes = plain_opening env bytes

-- The same, where there is room for so many commands (own).
abbrev pub opening_in : Env → ℕ → Terminal → Option Opening
opening_in env room (word aimed bytes) = if is_one_too_many env.rules room then None else opening_of env aimed bytes
opening_in env room (number n) = None
opening_in env room (text bytes) = None
opening_in env room (symbol m) = None
opening_in env room wrong = None
