-- Formats: which conversions they have, and what stands between them. (IEEE 1364-2005, 17.1.1.1)
use Rattle.std.specs.Prelude.{ℕ, ◌+◌, ◌-◌, ◌*◌, ◌++◌, List, [], ◌∷◌, ◌==◌, Bool, ◌||◌, ◌&&◌, nat_le, min, if◌then◌else◌, Option, Some, None, unwrap_or}
use Rattle.vh_text.specs.declared.radix.Radix.TheVariants as radix
use Rattle.vh_display.specs.declared.conversion.Conversion.{Conversion}
use Rattle.vh_display.specs.declared.conversion.Form.TheVariants as form
use Rattle.vh_display.specs.declared.conversion.Letter.{Letter}
use Rattle.vh_display.specs.declared.conversion.Letter.TheVariants as letter
use Rattle.vh_display.specs.declared.format.Mode.{Mode}
use Rattle.vh_display.specs.declared.format.Mode.TheVariants as mode
use Rattle.vh_display.specs.declared.format.Next.{Next}
use Rattle.vh_display.specs.declared.format.Next.TheVariants as next
use Rattle.vh_display.specs.declared.format.TheConstants.{MOST_PLACES}
use Rattle.vh_display.specs.Texts.{at_right}

-- A letter, in either case. (17.1.1.1)
abbrev pub is_letter : ℕ → ℕ → Bool
is_letter small b = b == small || b + 32 == small

-- What a letter behind `%` asks for, a row for each. (Table 17-1)
abbrev pub letter_of : ℕ → Option Letter
letter_of b =
    if is_letter 98 b then Some (letter.Value (form.Number radix.Binary)) else
    (if is_letter 111 b then Some (letter.Value (form.Number radix.Octal)) else
    (if is_letter 104 b then Some (letter.Value (form.Number radix.Hex)) else
    (if is_letter 100 b then Some (letter.Value (form.Number radix.Decimal)) else
    (if is_letter 116 b then Some (letter.Value form.Time) else
    (if is_letter 115 b then Some (letter.Value form.Text) else
    (if is_letter 99 b then Some (letter.Value form.Character) else
    (if is_letter 109 b then Some letter.Name else
    (if b == 37 then Some letter.Percent else None))))))))

-- One more digit of a number of columns, of which 999 are the most. (own)
abbrev pub with_digit : Option ℕ → ℕ → ℕ
with_digit columns b = min MOST_PLACES (10 * unwrap_or columns 0 + (b - 48))

abbrev pub is_digit : ℕ → Bool
is_digit b = nat_le 48 b && nat_le b 57

-- A text in so many columns, or as it is. (own)
abbrev pub in_columns : Option ℕ → List ℕ → List ℕ
in_columns None t = t
in_columns (Some columns) t = at_right columns t

-- What a byte of a format shows by itself, and how the format goes on.
pub record Step : Type 0 where
  pub text : List ℕ
  pub next : Next

-- The letter behind `%` and its digits; `%m` shows the name of the scope, and what is no conversion shows
-- nothing. (17.1.1.1 and 17.1.1.6; own for the last)
abbrev pub at_letter : List ℕ → Option ℕ → Option Letter → Step
at_letter name columns None = record { text = []; next = next.On mode.Plain }
at_letter name columns (Some letter.Percent) = record { text = 37 ∷ []; next = next.On mode.Plain }
at_letter name columns (Some letter.Name) = record { text = in_columns columns name; next = next.On mode.Plain }
at_letter name columns (Some (letter.Value f)) =
    record { text = []; next = next.Wants (record { form = f; columns = columns }) }

-- A byte, by what stands before it. (17.1.1.1)
abbrev pub step_of : List ℕ → Mode → ℕ → Step
step_of name mode.Plain b =
    if b == 37 then record { text = []; next = next.On (mode.Open None) }
    else record { text = b ∷ []; next = next.On mode.Plain }
step_of name (mode.Open columns) b =
    if is_digit b then record { text = []; next = next.On (mode.Open (Some (with_digit columns b))) }
    else at_letter name columns (letter_of b)

-- A format up to its first conversion that wants a value: the text, that conversion, and what is behind it.
pub record Front : Type 0 where
  pub text : List ℕ
  pub wants : Option (Conversion × List ℕ)

abbrev pub with_text : List ℕ → Front → Front
with_text t f = record f { text = t ++ f.text }

abbrev pub behind : (Mode → Front) → List ℕ → Next → Front
behind rest bs (next.On m) = rest m
behind rest bs (next.Wants c) = record { text = []; wants = Some (c, bs) }

unfoldable pub front : List ℕ → Mode → List ℕ → Front
front name m [] = record { text = []; wants = None }
front name m (b ∷ bs) =
    let s = step_of name m b in with_text s.text (behind (λ n. front name n bs) bs s.next)
