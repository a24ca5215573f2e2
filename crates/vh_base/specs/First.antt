-- Designs of the first subset. (own)
use Rattle.std.specs.Prelude.{ℕ, Bool, true, nat_lt, length}
use Rattle.std.specs.List.{list_all}
use Rattle.vh_base.specs.declared.first.First.{First}
use Rattle.vh_base.specs.declared.first.FirstCode.{FirstCode}
use Rattle.vh_base.specs.declared.first.FirstCode.TheVariants as code

-- Does the statement assign to a register out of so many, if it assigns?
abbrev pub is_declared : ℕ → FirstCode → Bool
is_declared regs (code.Wait d) = true
is_declared regs (code.Assign reg bit) = nat_lt reg regs
is_declared regs (code.Show text) = true
is_declared regs code.Finish = true

-- Does each statement of the design assign to its registers alone?
abbrev pub are_declared : First → Bool
are_declared f = list_all (list_all (is_declared (length f.regs))) f.blocks
