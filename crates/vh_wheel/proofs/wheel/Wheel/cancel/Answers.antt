use Rattle.vh_wheel.specs.Views.{schedule_in}
use Rattle.vh_wheel.proofs.SchedulesLemmas.{cancels-held, cancels}
use Rattle.vh_wheel.proofs.wheel.Wheel.cancel.Goals as goal

pub returns-clause-cancelled : goal.returns-clause-cancelled
returns-clause-cancelled c = cancels c.self.inside.present c.args.node c.self.inside.buckets c.free.new.buckets c.args.self.now c.self.view_is c.free.ensures.freed

pub returns-clause-held : goal.returns-clause-held
returns-clause-held c =
    cancels-held c.args.node c.args.self.now (schedule_in c.free.new.buckets c.self.inside.present) (returns-clause-cancelled c) c.requires
