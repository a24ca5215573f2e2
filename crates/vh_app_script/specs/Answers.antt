-- What is answered for the bytes of a script: its tree, or its first fault and where that stands.
use Rattle.std.specs.Prelude.{◌==◌, ℕ, ◌-◌, Bool, true, false, if◌then◌else◌, List, length, slice_get, Option, Some, None, Result, Ok, Err}
use Rattle.vh_base.specs.declared.faults.AppFault.{AppFault}
use Rattle.vh_base.specs.declared.faults.AppFault.TheVariants.{A1, A2, A3, A4, A5}
use Rattle.vh_base.specs.declared.place.Place.{Place}
use Rattle.vh_parse_grammar.specs.Reading.{lost, deep, left_out, Out, got, stop}
use Rattle.vh_parse_grammar.specs.Table.{source}
use Rattle.vh_app_script.specs.declared.app.TheConstants.{MOST_LEVELS}
use Rattle.vh_app_script.specs.Token.{Terminal, word, number, text, symbol, wrong, Token}
use Rattle.vh_app_script.specs.Spelling.{tokens_of, kinds_of}
use Rattle.vh_app_script.specs.Places.{place_at}
use Rattle.vh_app_script.specs.Tree.{App}
use Rattle.vh_app_script.specs.Table.{script_table}

-- What the table answers for the tokens, with the rules up to this fault: the laws of reading are about
-- this (own).
abbrev pub answer : AppFault → List (List ℕ) → List Terminal → Out Terminal App
answer rules earlier ts = source (script_table rules earlier) MOST_LEVELS ts

-- The token with so many left, itself among them (own).
abbrev pub token_at : List Token → ℕ → Option Token
token_at ts left = slice_get ts (length ts - left)

-- No token begins there, or a number is too large (own).
abbrev pub is_wrong : Option Token → Bool
is_wrong None = false
is_wrong (Some t) = is_wrong_kind t.kind
  where
    is_wrong_kind : Terminal → Bool
    is_wrong_kind (word aimed bytes) = false
    is_wrong_kind (number n) = false
    is_wrong_kind (text bytes) = false
    is_wrong_kind (symbol m) = false
    is_wrong_kind wrong = true

-- A token is refused with so many left (own).
abbrev pub is_lost_at : Out Terminal App → ℕ → Bool
is_lost_at (got a rest) left = false
is_lost_at (stop lost n) left = n == left
is_lost_at (stop deep n) left = false
is_lost_at (stop left_out n) left = false

-- The first fault at a token that is refused: the least whose rules, with those of the faults before it,
-- refuse the token too (own).
abbrev pub fault_at : List (List ℕ) → List Token → ℕ → AppFault
fault_at earlier ts left =
    if is_wrong (token_at ts left) then A1
    else (if is_lost_at (answer A2 earlier (kinds_of ts)) left then A2
    else (if is_lost_at (answer A3 earlier (kinds_of ts)) left then A3
    else (if is_lost_at (answer A4 earlier (kinds_of ts)) left then A4 else A5)))

-- How many bytes are left at a token, and none behind the last one (own).
abbrev pub bytes_left : Option Token → ℕ
bytes_left None = 0
bytes_left (Some t) = t.left

-- Where the token stands (own).
abbrev pub place_of : List ℕ → List Token → ℕ → Place
place_of bytes ts left = place_at bytes (bytes_left (token_at ts left))

-- A block that is too deep is the last fault; another refusal is told by the token (own).
abbrev pub answered : List ℕ → List (List ℕ) → List Token → Out Terminal App → Result App (AppFault × Place)
answered bytes earlier ts (got app rest) = Ok app
answered bytes earlier ts (stop lost left) = Err (fault_at earlier ts left, place_of bytes ts left)
answered bytes earlier ts (stop deep left) = Err (A5, place_of bytes ts left)
answered bytes earlier ts (stop left_out left) = Err (A5, place_of bytes ts left)

-- What the bytes are, the scripts of these names standing before them (own).
abbrev pub script_of : List ℕ → List (List ℕ) → Result App (AppFault × Place)
script_of bytes earlier = answered bytes earlier (tokens_of bytes) (answer A5 earlier (kinds_of (tokens_of bytes)))
