-- Why the code of a statement isn't made.
use Rattle.vh_bind.specs.declared.fault.ElabFault.{ElabFault}
use Rattle.vh_bind.specs.declared.fault.ElabFault.TheVariants as elab
use Rattle.vh_lower.specs.declared.fault.LowerFault.{LowerFault}
use Rattle.vh_lower.specs.declared.fault.LowerFault.TheVariants as lower

-- What an expression was refused for.
abbrev pub fault_of : ElabFault → LowerFault
fault_of (elab.Refused fault place) = lower.Refused fault place
fault_of elab.NoMemory = lower.NoMemory
