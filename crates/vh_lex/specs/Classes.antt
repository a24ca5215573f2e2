-- The classes of bytes that runs are made of, a row for each.
use Rattle.std.specs.Prelude.{ℕ, Bool}
use Rattle.vh_lex.specs.declared.bytes.Class.{Class}
use Rattle.vh_lex.specs.declared.bytes.Class.TheVariants.{Space, Line, Graphic, Source, Name, Digit, Decimal, BasedLetter, Based, Octal}
use Rattle.vh_lex.specs.Bytes.{is_line_byte, is_graphic, is_source, is_name_byte, is_decimal, is_based_letter, is_based, is_octal}
use Rattle.vh_base.specs.Classes.{is_space, is_digit}

abbrev pub of_class : Class → ℕ → Bool
of_class Space = is_space
of_class Line = is_line_byte
of_class Graphic = is_graphic
of_class Source = is_source
of_class Name = is_name_byte
of_class Digit = is_digit
of_class Decimal = is_decimal
of_class BasedLetter = is_based_letter
of_class Based = is_based
of_class Octal = is_octal
