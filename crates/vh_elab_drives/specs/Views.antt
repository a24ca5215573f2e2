-- How contracts see what the code holds.
use Rattle.std.specs.Prelude.{◌≡◌, Bool, true, false, Option, Some, None, Result, Ok, Err}
use Rattle.vh_bind.specs.declared.fault.ElabFault.{ElabFault}
use Rattle.vh_bind.specs.declared.fault.ElabFault.TheVariants as faults
use Rattle.vh_bind.specs.Selects.{Outcome}
use Rattle.vh_elab_drives.specs.Nets.{Drivers}

-- A row of drivers, if none was passed over.
abbrev pub row_seen : Bool → Drivers → Option Drivers
row_seen true ds = Some ds
row_seen false ds = None

-- It is what comes of a row. (Want of memory is free.)
abbrev pub Drives : Outcome (Option Drivers) → Result Bool ElabFault → Drivers → Type 0
Drives outcome (Ok b) ds = outcome ≡ Ok (row_seen b ds)
Drives outcome (Err (faults.Refused f p)) ds = outcome ≡ Err (f, p)
Drives outcome (Err faults.NoMemory) ds = Unit {0}
