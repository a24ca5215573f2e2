-- The digits that a text of digit characters spells, and how many of them a width holds.
use Rattle.std.specs.Prelude.{ℕ, ◌^◌, ◌==◌, nat_lt, Bool, not, if◌then◌else◌, List, [], ◌∷◌, ◌++◌, take, drop, map, filter, replicate, Option, Some, None}
use Rattle.std.specs.Char.{digit_value}
use Rattle.std.specs.List.{list_all}
use Rattle.std.specs.Str.{all_ascii_digits}
use Rattle.std.specs.Str.Parse.{digits_value}
use Rattle.vh_logic.specs.declared.digits.Digit.{Digit}
use Rattle.vh_logic.specs.declared.digits.Digit.TheVariants.{Zero, One, X, Z}
use Rattle.vh_logic.specs.Digit.{is_same}
use Rattle.vh_logic.specs.Vector.{highest}
use Rattle.vh_logic.specs.Number.{binary}
use Rattle.vh_text.specs.Symbols.{is_x_letter, is_z_letter, question, underscore, lower_z}

-- The `k` binary digits, lowest first, of one character in a base of 2 ^ k digits (IEEE 1364-2005, 3.5.1)
abbrev pub character_digits : ℕ → ℕ → Option (List Digit)
character_digits k c =
    if is_x_letter c then Some (replicate k X) else
    (if is_z_letter c then Some (replicate k Z) else
    (if nat_lt (digit_value c) (2 ^ k) then Some (binary k (digit_value c)) else None))

-- Two parts of a number, where both are digits
abbrev pub joined_digits : Option (List Digit) → Option (List Digit) → Option (List Digit)
joined_digits None high = None
joined_digits (Some low) None = None
joined_digits (Some low) (Some high) = Some (low ++ high)

-- The binary digits, lowest first, of a text of characters, highest first (3.5.1)
unfoldable pub spelled_digits : ℕ → List ℕ → Option (List Digit)
spelled_digits k [] = Some []
spelled_digits k (c ∷ cs) = joined_digits (spelled_digits k cs) (character_digits k c)

-- The number of a text of decimal digits (3.5.1)
abbrev pub decimal_number : List ℕ → Option ℕ
decimal_number cs = if all_ascii_digits cs then Some (digits_value 10 cs) else None

-- `?` is z (3.5.1)
abbrev pub question_as_z : ℕ → ℕ
question_as_z c = if c == question then lower_z else c

-- The digit characters of a part of a literal: underscores say nothing (3.5.1)
abbrev pub characters : List ℕ → List ℕ
characters bs = map question_as_z (filter (λ b. not (b == underscore)) bs)

-- The digit characters of a part of a literal, which begins with a digit (3.5.1)
abbrev pub spelled_characters : List ℕ → Option (List ℕ)
spelled_characters [] = None
spelled_characters (b ∷ bs) = if b == underscore then None else Some (characters (b ∷ bs))

-- The digit that fills the places above a highest digit: x and z go on, else 0 (3.5.1)
abbrev pub fill_of : Digit → Digit
fill_of Zero = Zero
fill_of One = Zero
fill_of X = X
fill_of Z = Z

-- Digits cut at the left, or filled, to a size (3.5.1)
abbrev pub sized_digits : ℕ → List Digit → List Digit
sized_digits w ds = take w (ds ++ replicate w (fill_of (highest ds)))

-- Filling gives the digits back from their `w` lowest: each one above is the digit that fills (own)
abbrev pub is_held : ℕ → List Digit → Bool
is_held w ds = list_all (is_same (fill_of (highest (take w ds)))) (drop w ds)
