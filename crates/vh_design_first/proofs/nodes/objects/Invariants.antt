use Rattle.std.proofs.Common.{◌≡◌, ◌∷◌, map, take}
use Rattle.vh_design_first.specs.Designs.{module_info, register_info}
use Rattle.vh_design_first.proofs.nodes.objects.Given as goal

abbrev pub invariant-loop-reg : goal.invariant-loop-reg
invariant-loop-reg l = l.all.items ≡ module_info l.name ∷ map register_info (take l.reg-index l.regs)
