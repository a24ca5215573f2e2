-- What decides on a token beside the grammar's rows: which rules count, and which names are in sight.
use Rattle.std.specs.Prelude.{◌==◌, ℕ, Bool, ◌&&◌, nat_le, nat_lt, List, [], ◌∷◌, ◌++◌, length, Option, if◌then◌else◌, bytes_eq, position}
use Rattle.std.specs.List.{list_any}
use Rattle.vh_base.specs.declared.faults.AppFault.{AppFault}
use Rattle.vh_base.specs.declared.faults.AppFault.TheVariants as fault
use Rattle.vh_app_script.specs.declared.env.TheConstants.{MOST_NAME, MOST_TEXT}
use Rattle.vh_app_script.specs.declared.env.Block.{Block}
use Rattle.vh_app_script.specs.declared.env.Block.TheVariants as blocks

-- The faults in order (own).
abbrev pub rank : AppFault → ℕ
rank fault.A1 = 1
rank fault.A2 = 2
rank fault.A3 = 3
rank fault.A4 = 4
rank fault.A5 = 5

-- The rules up to the first fault are read; the rules of the second count (own).
abbrev pub counts : AppFault → AppFault → Bool
counts rules of_fault = nat_le (rank of_fault) (rank rules)

-- Where commands stand: the rules that count, the kind of block, and the variables by their
-- numbers (own).
pub record Env : Type 0 where
  pub rules : AppFault
  pub block : Block
  pub variables : List (List ℕ)

-- Where the orders of a startup stand: no variable is in sight (own).
abbrev pub startup_env : AppFault → Env
startup_env rules = record { rules = rules; block = blocks.Startup; variables = [] }

-- Where the commands of a procedure stand (own).
abbrev pub procedure_env : AppFault → List (List ℕ) → Env
procedure_env rules variables = record { rules = rules; block = blocks.Procedure; variables = variables }

-- A name and a text are too long, and a command is one too many (own).
abbrev pub is_long_name : AppFault → List ℕ → Bool
is_long_name rules bytes = counts rules fault.A5 && nat_lt MOST_NAME (length bytes)

abbrev pub is_long_text : AppFault → List ℕ → Bool
is_long_text rules bytes = counts rules fault.A5 && nat_lt MOST_TEXT (length bytes)

abbrev pub is_one_too_many : AppFault → ℕ → Bool
is_one_too_many rules room = counts rules fault.A5 && room == 0

-- The name is among these (own).
abbrev pub is_among : List (List ℕ) → List ℕ → Bool
is_among names bytes = list_any (bytes_eq bytes) names

-- The names with one more; one that is there stays alone (own).
abbrev pub with_name : List (List ℕ) → List ℕ → List (List ℕ)
with_name names bytes = if is_among names bytes then names else names ++ bytes ∷ []

-- A variable's number (own).
abbrev pub variable_of : List (List ℕ) → List ℕ → Option ℕ
variable_of names bytes = position (bytes_eq bytes) names

-- The name is taken (own).
abbrev pub is_taken : AppFault → List (List ℕ) → List ℕ → Bool
is_taken rules names bytes = counts rules fault.A4 && is_among names bytes
