-- Orders of choice: which of the choices of a label is taken. (own: IEEE 1364-2005, 11.4.2 leaves the choice open)
use Rattle.std.specs.Prelude.{ℕ, ◌+◌, ◌-◌, ◌*◌, ◌/◌, ◌%◌, ◌^◌, nat_lt, if◌then◌else◌}
use Rattle.vh_kernel_choice.specs.declared.chooser.Chooser.{Chooser}
use Rattle.vh_kernel_choice.specs.declared.chooser.Chooser.TheVariants as chooser

-- A generator of numbers: its next state, and the number that it draws with it. (own)
abbrev pub next_state : ℕ → ℕ
next_state state = (state * 6364136223846793005 + 1442695040888963407) % 2 ^ 64

abbrev pub drawn : ℕ → ℕ
drawn state = next_state state / 2 ^ 33

-- The number of the choice among so many, from 0: the choices of a label stand in rising order, and fifo takes the first of
-- them, lifo the last, and a generator one that it draws.
abbrev pub chosen : Chooser → ℕ → ℕ
chosen chooser.Fifo count = 0
chosen chooser.Lifo count = count - 1
chosen (chooser.Seeded state) count = if nat_lt 1 count then drawn state % count else 0

-- The order of choice for the labels after this one: where there is one choice, nothing is drawn.
abbrev pub chooser_after : Chooser → ℕ → Chooser
chooser_after chooser.Fifo count = chooser.Fifo
chooser_after chooser.Lifo count = chooser.Lifo
chooser_after (chooser.Seeded state) count = chooser.Seeded (if nat_lt 1 count then next_state state else state)
