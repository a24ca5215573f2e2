-- What a net shows by its drivers. (IEEE 1364-2005, 4.6)
use Rattle.std.specs.Prelude.{ℕ, ◌-◌, List, ◌&&◌, if◌then◌else◌, min, nat_lt}
use Rattle.std.specs.List.{fold}
use Rattle.vh_logic.specs.declared.digits.Digit.{Digit}
use Rattle.vh_logic.specs.declared.digits.Digit.TheVariants.{Z}
use Rattle.vh_logic.specs.Digit.{digit_and, digit_or, digit_merge}
use Rattle.vh_logic.specs.Vector.{Vector, width_of, zip_digits}
use Rattle.vh_logic.specs.Parts.{part_of, replaced}
use Rattle.vh_design_nodes.specs.declared.object.NetType.{NetType}
use Rattle.vh_design_nodes.specs.declared.object.NetType.TheVariants as net
use Rattle.vh_store.specs.declared.net.Driven.{Driven}

-- A z yields, equal digits stay, and all else is x. (4.6.1)
abbrev pub wire_digit : Digit → Digit → Digit
wire_digit Z e = e
wire_digit d Z = d
wire_digit d e = digit_merge d e

-- A z yields, a 0 wins, two ones are 1, and all else is x. (4.6.2)
abbrev pub wired_and_digit : Digit → Digit → Digit
wired_and_digit Z e = e
wired_and_digit d Z = d
wired_and_digit d e = digit_and d e

-- A z yields, a 1 wins, two zeros are 0, and all else is x. (4.6.2)
abbrev pub wired_or_digit : Digit → Digit → Digit
wired_or_digit Z e = e
wired_or_digit d Z = d
wired_or_digit d e = digit_or d e

-- The table of a net's type.
abbrev pub digit_joined : NetType → Digit → Digit → Digit
digit_joined net.Wire = wire_digit
digit_joined net.Tri = wire_digit
digit_joined net.Wand = wired_and_digit
digit_joined net.TriAnd = wired_and_digit
digit_joined net.Wor = wired_or_digit
digit_joined net.TriOr = wired_or_digit

-- The same of all digits of two vectors.
abbrev pub joined : NetType → Vector → Vector → Vector
joined t a b = record { digits = zip_digits (digit_joined t) a.digits b.digits; signed = a.signed }

-- The digits of a driver that have a position in a net, those below the net's lowest and past its highest being driven nowhere.
abbrev pub digits_inside : ℕ → Driven → Vector
digits_inside width d = part_of d.value d.below (min (width_of d.value - d.below) (width - d.low))

-- These digits at their position in the net, z at all others.
abbrev pub placed : Vector → Driven → Vector
placed undriven d =
    if nat_lt d.low (width_of undriven) && nat_lt d.below (width_of d.value)
    then replaced undriven d.low (digits_inside (width_of undriven) d)
    else undriven

abbrev pub with_driver : NetType → Vector → Vector → Driven → Vector
with_driver t undriven v d = joined t v (placed undriven d)

-- What a net shows: its drivers joined one after another, and without drivers z at each digit.
abbrev pub resolution : NetType → Vector → List Driven → Vector
resolution t undriven ds = fold (with_driver t undriven) undriven ds
