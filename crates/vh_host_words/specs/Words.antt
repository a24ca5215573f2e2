-- The words of the command line: the mode, its options and its files. (own)
use Rattle.std.specs.Prelude.{ℕ, zero, suc, ◌^◌, List, [], ◌∷◌, ◌++◌, Bool, true, false, ◌&&◌, ◌||◌, not, if◌then◌else◌, Option, Some, None, is_some, unwrap_or, bytes_eq, ◌==◌, nat_le, nat_lt, codes, length, drop, map, slice_get, string_bytes, String}
use Rattle.std.specs.Option.{option_map, option_and_then}
use Rattle.std.specs.List.{ends_with, starts_with, list_all, list_any}
use Rattle.std.specs.Str.Parse.{digits_value}
use Rattle.std.specs.declared.alloc.Global.{Global}
use Rattle.vh_kernel_choice.specs.declared.chooser.Chooser.{Chooser}
use Rattle.vh_kernel_choice.specs.declared.chooser.Chooser.TheVariants as chooser
use Rattle.vh_host_words.specs.declared.said.Expects.{Expects}
use Rattle.vh_host_words.specs.declared.said.Expects.TheVariants as expects
use Rattle.vh_host_words.specs.declared.said.Mode.{Mode}
use Rattle.vh_host_words.specs.declared.said.Mode.TheVariants as mode

-- What the words ask for: to run these files under this order of choice, for so many labels at most.
pub record Reading : Type 0 where
  pub files : List (List ℕ)
  pub chooser : Chooser
  pub budget : ℕ

-- A word that names a Verilog file, and one that names an application's script.
abbrev pub is_design_word : List ℕ → Bool
is_design_word word = ends_with ◌==◌ word (codes ".v")

abbrev pub is_script_word : List ℕ → Bool
is_script_word word = ends_with ◌==◌ word (codes ".app")

abbrev pub is_file_word : List ℕ → Bool
is_file_word word = is_design_word word || is_script_word word

-- File words that can be run: eight at most, one of which at least names a Verilog file.
abbrev pub can_be_run : List (List ℕ) → Bool
can_be_run files =
    nat_le (length files) 8 && list_all is_file_word files && list_any is_design_word files

-- A number: decimal digits without a sign and without a leading zero, below 2^64.
abbrev pub is_digit : ℕ → Bool
is_digit byte = nat_le 48 byte && nat_le byte 57

abbrev pub is_numeral : List ℕ → Bool
is_numeral word =
    nat_lt 0 (length word) && list_all is_digit word && (nat_le (length word) 1 || not (starts_with ◌==◌ word (codes "0")))

abbrev pub below : ℕ → ℕ → Option ℕ
below limit n = if nat_lt n limit then Some n else None

abbrev pub number_named : List ℕ → Option ℕ
number_named word = if is_numeral word then below (2 ^ 64) (digits_value 10 word) else None

-- The values of the options: an order of choice, and a budget from 1 to 2^63 - 1.
abbrev pub seed_named : List ℕ → Option Chooser
seed_named word = option_map (λ n. chooser.Seeded n) (number_named word)

abbrev pub chooser_named : List ℕ → Option Chooser
chooser_named word =
    if bytes_eq word (codes "fifo") then Some chooser.Fifo else (if bytes_eq word (codes "lifo") then Some chooser.Lifo
    else (if starts_with ◌==◌ word (codes "seeded:") then seed_named (drop 7 word) else None))

abbrev pub budget_in : ℕ → Option ℕ
budget_in n = if nat_lt 0 n then below (2 ^ 63) n else None

abbrev pub budget_named : List ℕ → Option ℕ
budget_named word = option_and_then budget_in (number_named word)

-- What the words said so far, and what the next one is read as: anything, the value of an option, or behind `--` a word
-- by position.
pub record Saying : Type 0 where
  pub mode : Option Mode
  pub files : List (List ℕ)
  pub chooser : Option Chooser
  pub budget : Option ℕ
  pub expects : Expects

-- The first word by position is the mode, and the others are file words.
abbrev pub mode_named : List ℕ → Option Mode
mode_named word = if bytes_eq word (codes "run") then Some mode.Run else None

abbrev pub with_mode : Saying → Option Mode → Option Saying
with_mode s None = None
with_mode s (Some m) = Some (record s { mode = Some m })

abbrev pub with_file : List ℕ → Saying → Option Saying
with_file word s = Some (record s { files = s.files ++ word ∷ [] })

abbrev pub with_position : List ℕ → Saying → Option Saying
with_position word s = if is_some s.mode then with_file word s else with_mode s (mode_named word)

-- An option is said once at most.
abbrev pub with_chooser : Option Chooser → Saying → Option Saying
with_chooser None s = None
with_chooser (Some by) s =
    if is_some s.chooser then None else Some (record s { chooser = Some by; expects = expects.Anything })

abbrev pub with_budget : Option ℕ → Saying → Option Saying
with_budget None s = None
with_budget (Some budget) s =
    if is_some s.budget then None else Some (record s { budget = Some budget; expects = expects.Anything })

-- Words other than options' values: `--` ends the options, and another word that begins with `-` is an option, but for `-`
-- itself. An option's value is the next word, or stands behind `=`.
abbrev pub expecting : Expects → Saying → Option Saying
expecting e s = Some (record s { expects = e })

abbrev pub is_option : List ℕ → Bool
is_option word = starts_with ◌==◌ word (codes "-") && not (bytes_eq word (codes "-"))

abbrev pub with_valued : List ℕ → Saying → Option Saying
with_valued word s =
    if starts_with ◌==◌ word (codes "--order=") then with_chooser (chooser_named (drop 8 word)) s
    else (if starts_with ◌==◌ word (codes "--budget=") then with_budget (budget_named (drop 9 word)) s else None)

abbrev pub with_option : List ℕ → Saying → Option Saying
with_option word s =
    if bytes_eq word (codes "--") then expecting expects.Position s
    else (if bytes_eq word (codes "--order") then expecting expects.Order s
    else (if bytes_eq word (codes "--budget") then expecting expects.Budget s else with_valued word s))

abbrev pub with_any : List ℕ → Saying → Option Saying
with_any word s = if is_option word then with_option word s else with_position word s

-- One word more, by what is expected.
abbrev pub with_expected : Expects → List ℕ → Saying → Option Saying
with_expected expects.Anything word s = with_any word s
with_expected expects.Order word s = with_chooser (chooser_named word) s
with_expected expects.Budget word s = with_budget (budget_named word) s
with_expected expects.Position word s = with_position word s

abbrev pub with_word : List ℕ → Saying → Option Saying
with_word word s = with_expected s.expects word s

-- And all words.
abbrev pub nothing_said : Saying
nothing_said = record { mode = None; files = []; chooser = None; budget = None; expects = expects.Anything }

abbrev pub said : List (List ℕ) → Saying → Option Saying
said [] s = Some s
said (word ∷ words) s = option_and_then (said words) (with_word word s)

-- What was said has a reading where no option is left without its value, and a mode with what it takes.
abbrev pub default_budget : ℕ
default_budget = 100000000

abbrev pub run_reading : Saying → Option Reading
run_reading s =
    if can_be_run s.files then
    Some (record { files = s.files; chooser = unwrap_or s.chooser chooser.Fifo; budget = unwrap_or s.budget default_budget })
    else None

abbrev pub mode_reading : Option Mode → Saying → Option Reading
mode_reading None s = None
mode_reading (Some mode.Run) s = run_reading s

abbrev pub is_whole : Expects → Bool
is_whole expects.Anything = true
is_whole expects.Order = false
is_whole expects.Budget = false
is_whole expects.Position = true

abbrev pub reading_said : Saying → Option Reading
reading_said s = if is_whole s.expects then mode_reading s.mode s else None

abbrev pub reading : List (List ℕ) → Option Reading
reading words = option_and_then reading_said (said words nothing_said)

-- The file words, the order and the budget; where the words have no reading there are no files.
abbrev pub files_of : Option Reading → List (List ℕ)
files_of None = []
files_of (Some r) = r.files

abbrev pub file_words : List (List ℕ) → List (List ℕ)
file_words words = files_of (reading words)

abbrev pub chooser_of : Option Reading → Chooser
chooser_of None = chooser.Fifo
chooser_of (Some r) = r.chooser

abbrev pub chooser_word : List (List ℕ) → Chooser
chooser_word words = chooser_of (reading words)

abbrev pub budget_of : Option Reading → ℕ
budget_of None = default_budget
budget_of (Some r) = r.budget

abbrev pub budget_word : List (List ℕ) → ℕ
budget_word words = budget_of (reading words)

-- The n-th of the files, from 1.
abbrev pub numbered : List (List ℕ) → ℕ → Option (List ℕ)
numbered files zero = None
numbered files (suc n) = slice_get files n

abbrev pub file_word : List (List ℕ) → ℕ → Option (List ℕ)
file_word words n = numbered (file_words words) n

-- Words without where they lie in memory.
abbrev pub texts : List (String Global) → List (List ℕ)
texts words = map string_bytes words
