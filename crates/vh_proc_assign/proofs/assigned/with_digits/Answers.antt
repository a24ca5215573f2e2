use Rattle.std.proofs.Common.{rules}
use Rattle.vh_proc_assign.proofs.AssignedLemmas.{some-put}
use Rattle.vh_proc_assign.proofs.assigned.with_digits.Goals as goal

pub returns : goal.returns
returns c =
    some-put c.args.old.now c.args.v.now c.select.result c.replace.result c.args.low c.min-there.result (search rules) (search rules) c.select.ensures.value
    c.select.ensures.width c.replace.ensures.value
