-- The values that a statement reads. (IEEE 1364-2005, 5.4, 9.2 and 9.7.1)
use Rattle.std.specs.Prelude.{ℕ, ◌+◌, ◌*◌, ◌-◌, ◌^◌, ℤ, max, if◌then◌else◌, nat_le, Option, Some, None, unwrap_or}
use Rattle.std.specs.Option.{option_map}
use Rattle.vh_logic.specs.Number.{integer_of, wrapped}
use Rattle.vh_logic.specs.Parts.{part_of}
use Rattle.vh_logic.specs.Vector.{Vector}
use Rattle.vh_design_nodes.specs.Widths.{width_of, signed_of}
use Rattle.vh_design_code.specs.declared.target.Delay.{Delay}
use Rattle.vh_design.specs.Shape.{Shape}
use Rattle.vh_store.specs.Contents.{Contents}
use Rattle.vh_eval.specs.Value.{value_of}
use Rattle.vh_base.specs.declared.limits.TheConstants.{MOST_TIME}

-- An expression where nothing around it asks for more, and the integer that it stands for. (5.4.1)
abbrev pub value_alone : Shape → Contents → ℕ → Vector
value_alone d s e = value_of d s e (width_of d.exprs e) (signed_of d.exprs e)

abbrev pub integer_alone : Shape → Contents → ℕ → Option ℤ
integer_alone d s e = integer_of (value_alone d s e)

-- The right side of an assignment to so many digits: it has the greater of its own width and theirs, and is cut at
-- the left. (5.4.1 and 9.2)
abbrev pub right_side : Shape → Contents → ℕ → ℕ → Vector
right_side d s e width = part_of (value_of d s e (max (width_of d.exprs e) width) (signed_of d.exprs e)) 0 width

-- A delay in units of the simulation's precision: one with an x or z digit is 0, and a negative one is read modulo
-- 2^64. (9.7.1 and 19.8)
abbrev pub units_in : Option ℤ → ℕ
units_in amount = unwrap_or (option_map (wrapped 64) amount) 0

abbrev pub delay_of : Shape → Contents → Delay → ℕ
delay_of d s delay = units_in (integer_alone d s delay.amount) * 10 ^ (delay.unit - d.precision)

-- The time after it, where it isn't above the last one that there is. (own)
abbrev pub time_after : Shape → Contents → Delay → Option ℕ
time_after d s delay = let time = s.time + delay_of d s delay in if nat_le time MOST_TIME then Some time else None
