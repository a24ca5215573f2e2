use Rattle.std.proofs.Common.{◌≡◌, ◌-◌, length}
use Rattle.vh_app.specs.Next.{next_in, next_of}
use Rattle.vh_app.proofs.script.Script.next.Given as goal

-- From where the steps have led, the way to the order goes on.
abbrev pub invariant-loop : goal.invariant-loop
invariant-loop l =
    next_in (length l.self.nodes - l.counter) l.self l.seen l.vars l.at ≡ next_of l.self l.fn.at l.fn.vars l.seen
