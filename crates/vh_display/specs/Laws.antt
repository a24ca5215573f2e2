-- What the reading of formats means, piece by piece: every format is bytes that are no `%`, and conversions. (own)
use Rattle.std.specs.Prelude.{◌≡◌, ℕ, ◌++◌, List, [], ◌∷◌, ◌==◌, not, true, false, Option, Some, None}
use Rattle.std.specs.List.{fold, list_all}
use Rattle.vh_display.specs.declared.conversion.Form.{Form}
use Rattle.vh_display.specs.declared.conversion.Letter.TheVariants as letter
use Rattle.vh_display.specs.declared.format.Mode.TheVariants as mode
use Rattle.vh_display.specs.Formats.{Front, front, with_text, in_columns, is_digit, letter_of, with_digit}

-- The columns that some digits write; none where there are none.
abbrev pub columns_of : List ℕ → Option ℕ
columns_of digits = fold (λ columns b. Some (with_digit columns b)) None digits

-- A format from its begin.
abbrev pub format_front : List ℕ → List ℕ → Front
format_front name format = front name mode.Plain format

-- Bytes that are no `%` are shown as they are. (IEEE 1364-2005, 17.1.1)
abbrev pub ShowsBytes : Type 0
ShowsBytes = (name t rest : List ℕ) → list_all (λ b. not (b == 37)) t ≡ true
    → format_front name (t ++ rest) ≡ with_text t (format_front name rest)

-- `%`, digits and the letter of a value ask for the next argument, and what is behind is left. (17.1.1.1)
abbrev pub WantsValues : Type 0
WantsValues = (name digits rest : List ℕ) (b : ℕ) (f : Form) → list_all is_digit digits ≡ true → is_digit b ≡ false
    → letter_of b ≡ Some (letter.Value f)
    → format_front name (37 ∷ digits ++ b ∷ rest)
    ≡ record { text = []; wants = Some (record { form = f; columns = columns_of digits }, rest) }

-- `%m` shows the name of the scope, in as many columns. (17.1.1.6)
abbrev pub ShowsNames : Type 0
ShowsNames = (name digits rest : List ℕ) (b : ℕ) → list_all is_digit digits ≡ true → is_digit b ≡ false
    → letter_of b ≡ Some letter.Name
    → format_front name (37 ∷ digits ++ b ∷ rest) ≡ with_text (in_columns (columns_of digits) name) (format_front name rest)

-- `%%` shows `%`. (17.1.1)
abbrev pub ShowsPercents : Type 0
ShowsPercents = (name rest : List ℕ) → format_front name (37 ∷ 37 ∷ rest) ≡ with_text (37 ∷ []) (format_front name rest)

-- An empty format, and a `%` behind which it ends, show nothing and want nothing. (own)
abbrev pub EndsWithNothing : Type 0
EndsWithNothing = (name digits : List ℕ) → list_all is_digit digits ≡ true
    → format_front name (37 ∷ digits) ≡ record { text = []; wants = None }
