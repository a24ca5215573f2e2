use Rattle.std.proofs.Common.{◌≡◌, ◌≤◌, ◌+◌, ◌++◌, length}
use Rattle.std.specs.VecDeque.{deque_len, deque_capacity}
use Rattle.std.specs.VecDeque.Iter.{deque_iter_rest}
use Rattle.vh_callbacks.proofs.numbers.put_all.Given as goal

abbrev pub invariant-loop-c : goal.invariant-loop-c
invariant-loop-c l =
    (l.items.items ++ deque_iter_rest l.c-iterator ≡ l.numbers.items)
    × (deque_len l.items + length (deque_iter_rest l.c-iterator) ≤ deque_capacity l.items)
