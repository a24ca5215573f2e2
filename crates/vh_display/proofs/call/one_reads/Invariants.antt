use Rattle.std.proofs.Common.{◌≡◌, drop}
use Rattle.std.specs.List.{list_any}
use Rattle.vh_display.specs.Calls.{argument_reads}
use Rattle.vh_display.proofs.call.one_reads.Given as goal

-- None so far does.
abbrev pub invariant-loop-arg : goal.invariant-loop-arg
invariant-loop-arg l =
    list_any (argument_reads l.d.exprs l.o) (drop l.arg-index l.args) ≡ list_any (argument_reads l.d.exprs l.o) l.args
