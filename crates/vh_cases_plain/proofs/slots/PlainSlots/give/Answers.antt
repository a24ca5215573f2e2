use Rattle.vh_cases_plain.proofs.ViewsLemmas.{gives-reuse}
use Rattle.vh_cases_plain.proofs.slots.PlainSlots.give.Goals as goal

pub returns-in-Some-clause-given : goal.returns-in-Some-clause-given
returns-in-Some-clause-given g c =
    gives-reuse c.args.value c.in-Some.slot c.args.self.now c.reuse.new.self c.reuse.result c.in-Some.ensures.some c.reuse.ensures.given
