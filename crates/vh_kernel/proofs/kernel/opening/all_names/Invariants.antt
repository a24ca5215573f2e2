use Rattle.std.proofs.Common.{◌≡◌, map}
use Rattle.std.specs.List.{range_with_len}
use Rattle.vh_orders.specs.Names.{named_at}
use Rattle.vh_kernel.proofs.kernel.opening.all_names.Given as goal

abbrev pub invariant-loop-o : goal.invariant-loop-o
invariant-loop-o l = l.names.items ≡ map (named_at l.d.objects) (range_with_len 0 l.o)
