use Rattle.std.proofs.Common.{map}
use Rattle.std.proofs.lemmas.Result.{on_ok_weaker}
use Rattle.vh_sense.specs.Views.{follows_in}
use Rattle.vh_sense.proofs.SensitivityLemmas.{wait_is}
use Rattle.vh_sense.proofs.sense.Sense.wait.Goals as goal

pub returns-clause-waits : goal.returns-clause-waits
returns-clause-waits c =
    on_ok_weaker c.enter.result
    (λ h. wait_is c.args.self.now c.self.inside.waits.items (map follows_in c.self.inside.readers.items) c.self.inside.waiting.entries
    c.leave.new.waiting.entries c.enter.new.waiting.entries c.args.p c.number-process.result c.args.terms c.number.result
    c.self.view_is c.leave.ensures.gone h c.number-process.ensures c.number.ensures)
    c.enter.ensures.added
