use Rattle.std.proofs.Common.{◌≡◌, map, take}
use Rattle.vh_store.specs.Opening.{opening_record}
use Rattle.vh_store.specs.Views.{record_of}
use Rattle.vh_store.proofs.opening.opening_records.Given as goal

-- Each object so far has its record.
abbrev pub invariant-loop-o : goal.invariant-loop-o
invariant-loop-o l = map record_of l.records.items ≡ map (opening_record l.d.exprs) (take l.o l.d.objects)
