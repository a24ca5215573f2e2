-- The definitions at rows that are worked out from the rules.
use Rattle.std.proofs.Common.{◌≡◌, refl, List, [], ◌∷◌, ◌++◌, replicate, Some, None, Ok, Err, true, false}
use Rattle.std.specs.Prelude.{codes}
use Rattle.std.specs.Fmt.{digits}
use Rattle.vh_base.specs.declared.format.Format.TheVariants.{VpiBinStrVal, VpiHexStrVal, VpiDecStrVal, VpiIntVal, VpiVectorVal}
use Rattle.vh_logic.specs.declared.digits.Digit.{Digit}
use Rattle.vh_logic.specs.declared.digits.Digit.TheVariants.{Zero, One, X, Z}
use Rattle.vh_logic.specs.Vector.{Vector}
use Rattle.vh_logic.specs.Number.{binary, number_of}
use Rattle.vh_logic.specs.Planes.{plane_of, digits_of}
use Rattle.vh_text.specs.declared.radix.Radix.TheVariants.{Binary, Octal, Hex, Decimal}
use Rattle.vh_text.specs.declared.literal.LiteralFault.TheVariants.{Malformed, TooWide}
use Rattle.vh_text.specs.Texts.{text, vector_text, groups_text}
use Rattle.vh_text.specs.Digits.{spelled_digits}
use Rattle.vh_text.specs.Literals.{literal}
use Rattle.vh_text.specs.Values.{value_of_text}

-- A vector of digits, lowest first
abbrev of : List Digit → Vector
of ds = record { digits = ds; signed = false }

abbrev signed_of : List Digit → Vector
signed_of ds = record { digits = ds; signed = true }

-- Texts: `1x0z`, `zzzz`, and `xxxx00zx1111`, in hexadecimal
text_mixed : text Hex (of (Z ∷ Zero ∷ X ∷ One ∷ [])) ≡ codes "X"
unfolding groups_text number_of
text_mixed = refl

text_all_z : text Hex (of (replicate 4 Z)) ≡ codes "z"
unfolding groups_text number_of
text_all_z = refl

text_three_groups : text Hex (of (replicate 4 One ++ (X ∷ Z ∷ Zero ∷ Zero ∷ replicate 4 X))) ≡ codes "xXf"
unfolding groups_text number_of
text_three_groups = refl

-- The highest group has only the digits that it has
text_octal_part : text Octal (of (Zero ∷ One ∷ Zero ∷ X ∷ [])) ≡ codes "x2"
unfolding groups_text number_of
text_octal_part = refl

text_octal_z : text Octal (of (Zero ∷ One ∷ Zero ∷ Z ∷ Zero ∷ [])) ≡ codes "Z2"
unfolding groups_text number_of
text_octal_z = refl

text_binary : text Binary (of (Z ∷ Zero ∷ X ∷ One ∷ [])) ≡ codes "1x0z"
unfolding groups_text number_of
text_binary = refl

-- Decimal texts
text_negative : text Decimal (signed_of (replicate 4 One)) ≡ codes "-1"
unfolding number_of digits
text_negative = refl

text_ones : text Decimal (of (replicate 64 One)) ≡ codes "18446744073709551615"
unfolding number_of digits
text_ones = refl

text_some_x : text Decimal (of (One ∷ X ∷ Z ∷ [])) ≡ codes "X"
text_some_x = refl

text_some_z : text Decimal (signed_of (One ∷ Z ∷ [])) ≡ codes "Z"
text_some_z = refl

text_planes : vector_text (of (Zero ∷ One ∷ Z ∷ X ∷ Zero ∷ [])) ≡ codes "a:c"
unfolding plane_of digits
text_planes = refl

-- Literals
literal_z : literal (codes "8'hz") ≡ Ok (of (replicate 8 Z))
unfolding spelled_digits binary
literal_z = refl

literal_too_wide : literal (codes "65'h1") ≡ Err TooWide
unfolding spelled_digits binary
literal_too_wide = refl

literal_no_digit : literal (codes "8'hg") ≡ Err Malformed
unfolding spelled_digits binary
literal_no_digit = refl

literal_marks : literal (codes "4'b1_0x?") ≡ Ok (of (Z ∷ X ∷ Zero ∷ One ∷ []))
unfolding spelled_digits binary
literal_marks = refl

literal_cut : literal (codes "12'bxxxx00zx1111") ≡ Ok (of (replicate 4 One ++ (X ∷ Z ∷ Zero ∷ Zero ∷ replicate 4 X)))
unfolding spelled_digits binary
literal_cut = refl

literal_signed : literal (codes "'sd5") ≡ Ok (signed_of (One ∷ Zero ∷ One ∷ replicate 29 Zero))
unfolding spelled_digits binary
literal_signed = refl

literal_white : literal (codes "8 'h  fF") ≡ Ok (of (replicate 8 One))
unfolding spelled_digits binary
literal_white = refl

literal_short : literal (codes "2147483647") ≡ Ok (signed_of (replicate 31 One ++ Zero ∷ []))
unfolding binary
literal_short = refl

literal_long : literal (codes "2147483648") ≡ Ok (signed_of (replicate 31 Zero ++ (One ∷ replicate 32 Zero)))
unfolding binary
literal_long = refl

literal_beyond : literal (codes "18446744073709551616") ≡ Err TooWide
literal_beyond = refl

literal_no_size : literal (codes "0'h1") ≡ Err Malformed
literal_no_size = refl

literal_x_behind : literal (codes "8'd1x") ≡ Err Malformed
literal_x_behind = refl

literal_x : literal (codes "8'dx") ≡ Ok (of (replicate 8 X))
literal_x = refl

literal_fraction : literal (codes "1.5") ≡ Err Malformed
literal_fraction = refl

literal_exponent : literal (codes "1e3") ≡ Err Malformed
literal_exponent = refl

literal_held : literal (codes "'hxxxxxxxxx") ≡ Ok (of (replicate 32 X))
unfolding spelled_digits binary
literal_held = refl

literal_not_held : literal (codes "'hx00000000") ≡ Ok (of (replicate 32 Zero ++ replicate 32 X))
unfolding spelled_digits binary
literal_not_held = refl

literal_leading_white : literal (codes " 'h1") ≡ Err Malformed
literal_leading_white = refl

-- Values
value_cut : value_of_text VpiBinStrVal 2 (codes "1xz") ≡ Some (of (Z ∷ X ∷ []))
unfolding spelled_digits binary
value_cut = refl

value_padded : value_of_text VpiHexStrVal 6 (codes "X") ≡ Some (of (replicate 4 X ++ replicate 2 Zero))
unfolding spelled_digits binary
value_padded = refl

value_empty : value_of_text VpiBinStrVal 8 [] ≡ None
value_empty = refl

value_65 : value_of_text VpiBinStrVal 8 (replicate 65 48) ≡ None
value_65 = refl

value_minus : value_of_text VpiDecStrVal 8 (codes "-") ≡ None
value_minus = refl

value_negative : value_of_text VpiDecStrVal 4 (codes "-1") ≡ Some (of (replicate 4 One))
unfolding binary
value_negative = refl

value_int_least : value_of_text VpiIntVal 32 (codes "-2147483648") ≡ Some (of (replicate 31 Zero ++ One ∷ []))
unfolding binary
value_int_least = refl

value_int_above : value_of_text VpiIntVal 32 (codes "2147483648") ≡ None
value_int_above = refl

value_planes : value_of_text VpiVectorVal 5 (codes "a:c") ≡ Some (of (Zero ∷ One ∷ Z ∷ X ∷ Zero ∷ []))
unfolding digits_of
value_planes = refl

value_planes_zero : value_of_text VpiVectorVal 5 (codes "0a:c") ≡ None
value_planes_zero = refl
