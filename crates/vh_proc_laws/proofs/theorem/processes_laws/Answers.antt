use Rattle.vh_proc_laws.proofs.DigitsLemmas.{assigns-digits}
use Rattle.vh_proc_laws.proofs.FoundLemmas.{finds-all}
use Rattle.vh_proc_laws.proofs.StopsLemmas.{disable-stops}
use Rattle.vh_proc_laws.proofs.NumbersLemmas.{opens-numbered, keeps-numbers, notes-numbers, gives-fresh-numbers, next-never-falls}
use Rattle.vh_proc_laws.proofs.WaitsLemmas.{opens-waits, keeps-waits, wakes-in-order}
use Rattle.vh_proc_laws.proofs.theorem.processes_laws.Goals as goal

pub returns : goal.returns
returns c = record {
  found = finds-all;
  stops = disable-stops;
  opens = opens-numbered;
  keeps = keeps-numbers;
  notes = notes-numbers;
  waits = opens-waits;
  waiting = keeps-waits;
  wakes = wakes-in-order;
  fresh = gives-fresh-numbers;
  rises = next-never-falls;
  digits = assigns-digits;
}
