-- What the transcript and the status line call an end or a fault: a row for each. (own)
use Rattle.std.specs.Prelude.{ℕ, List, codes}
use Rattle.vh_base.specs.declared.faults.AppFault.{AppFault}
use Rattle.vh_base.specs.declared.faults.AppFault.TheVariants as app
use Rattle.vh_base.specs.declared.faults.Cause.{Cause}
use Rattle.vh_base.specs.declared.faults.Cause.TheVariants as cause
use Rattle.vh_base.specs.declared.faults.DesignFault.{DesignFault}
use Rattle.vh_base.specs.declared.faults.DesignFault.TheVariants as design
use Rattle.vh_base.specs.declared.faults.Fault.{Fault}
use Rattle.vh_base.specs.declared.faults.Fault.TheVariants as fault

-- The word for the end of a run without a fault.
abbrev pub cause_name : Cause → List ℕ
cause_name cause.Finish = codes "finish"
cause_name cause.Stop = codes "stop"
cause_name cause.Nothing = codes "none"

-- The short name of a run's fault.
abbrev pub fault_name : Fault → List ℕ
fault_name fault.F1 = codes "F1"
fault_name fault.F2 = codes "F2"
fault_name fault.F3 = codes "F3"
fault_name fault.F4 = codes "F4"

-- The short name of a fault of a Verilog text.
abbrev pub design_fault_name : DesignFault → List ℕ
design_fault_name design.L1 = codes "L1"
design_fault_name design.L2 = codes "L2"
design_fault_name design.L3 = codes "L3"
design_fault_name design.L4 = codes "L4"
design_fault_name design.L5 = codes "L5"
design_fault_name design.L6 = codes "L6"
design_fault_name design.S1 = codes "S1"
design_fault_name design.S2 = codes "S2"
design_fault_name design.S3 = codes "S3"
design_fault_name design.N1 = codes "N1"
design_fault_name design.N2 = codes "N2"
design_fault_name design.N3 = codes "N3"
design_fault_name design.N4 = codes "N4"
design_fault_name design.N5 = codes "N5"
design_fault_name design.N6 = codes "N6"
design_fault_name design.N7 = codes "N7"
design_fault_name design.N8 = codes "N8"
design_fault_name design.N9 = codes "N9"
design_fault_name design.N10 = codes "N10"
design_fault_name design.N11 = codes "N11"

-- The short name of a fault of a script.
abbrev pub app_fault_name : AppFault → List ℕ
app_fault_name app.A1 = codes "A1"
app_fault_name app.A2 = codes "A2"
app_fault_name app.A3 = codes "A3"
app_fault_name app.A4 = codes "A4"
app_fault_name app.A5 = codes "A5"
