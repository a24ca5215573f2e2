-- The tree of a script: commands that contain commands. Variables have their numbers.
use Rattle.std.specs.Prelude.{ℕ, Bool, List, [], ◌∷◌, Option}
use Rattle.vh_base.specs.declared.format.Format.{Format}
use Rattle.vh_base.specs.declared.words.Mode.{Mode}
use Rattle.vh_base.specs.declared.words.Property.{Property}
use Rattle.vh_base.specs.declared.words.Reason.{Reason}
use Rattle.vh_base.specs.declared.words.Relation.{Relation}
use Rattle.vh_base.specs.declared.words.SystfKind.{SystfKind}

-- What stands where an order wants a value (own).
pub data Atom : Type 0 where
  number : ℕ → Atom
  text : List ℕ → Atom
  null : Atom
  -- a variable, by its number
  variable : ℕ → Atom
  obj : Atom
  me : Atom
  value : Atom
  index : Atom
  data_ : Atom
  time : Atom
  last : Atom

-- What a callback is to call: a procedure of the script, or a native (own).
pub data Body : Type 0 where
  proc : List ℕ → Body
  native : List ℕ → Body

-- An order as it is written, a row for each routine (own; IEEE 1364-2005, clause 27).
pub data Order : Type 0 where
  by_name : Atom → Atom → Order
  by_index : Atom → Atom → Order
  handle : Relation → Atom → Order
  iterate : Relation → Atom → Order
  scan : Atom → Order
  free : Atom → Order
  compare : Atom → Atom → Order
  get : Property → Atom → Order
  get_str : Property → Atom → Order
  get_value : Atom → Format → Order
  -- object, format, text, mode, time, and whether its event is wanted
  put_value : Atom → Format → Atom → Mode → Atom → Bool → Order
  cancel : Atom → Order
  get_time : Order
  -- reason, object, time, what it calls, user data
  register : Reason → Atom → Atom → Body → Atom → Order
  remove : Atom → Order
  cb_info : Atom → Order
  -- kind, name, size, and the procedures that are called at each execution and at compilation
  register_systf : SystfKind → Atom → Atom → List ℕ → Option (List ℕ) → Order
  chk_error : Order
  -- whether it is to stop, and not to finish
  control : Bool → Order
  print : Atom → Order
  set_data : Atom → Order

-- A test: whether two values are the same, or whether they aren't (own).
pub record Test : Type 0 where
  pub left : Atom
  pub same : Bool
  pub right : Atom

mutual
  -- A command (own).
  pub data Command : Type 0 where
    -- an order, and the variable that its answer goes to, if there is one
    ask : Option ℕ → Order → Command
    -- a variable, what it is set to, and what is added to that
    set : ℕ → Atom → Option Atom → Command
    finish : Command
    -- the commands where the test holds, and those where it doesn't
    choose : Test → Commands → Commands → Command
    loop : Test → Commands → Command

  -- Commands in a row (own).
  pub data Commands : Type 0 where
    no_command : Commands
    one_command : Command → Commands → Commands

-- Commands of a list (own).
abbrev pub commands : List Command → Commands
commands [] = no_command
commands (c ∷ more) = one_command c (commands more)

-- A procedure (own).
pub record Procedure : Type 0 where
  pub name : List ℕ
  pub commands : List Command

-- A script: its name, the names of its variables by their numbers, the orders of its startup, and its
-- procedures (own).
pub record App : Type 0 where
  pub name : List ℕ
  pub variables : List (List ℕ)
  pub startup : List Order
  pub procedures : List Procedure
