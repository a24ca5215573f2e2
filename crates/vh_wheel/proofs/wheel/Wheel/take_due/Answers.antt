use Rattle.std.proofs.Common.{arith, subst, sym, refl, ◌≤◌}
use Rattle.std.specs.Prelude.{IfSome}
use Rattle.vh_wheel.specs.Schedule.{Schedule, least_time}
use Rattle.vh_wheel.proofs.TimesLemmas.{level-never-rises}
use Rattle.vh_wheel.proofs.NodesLemmas.{moves-are}
use Rattle.vh_wheel.specs.Views.{schedule_in}
use Rattle.vh_wheel.proofs.SchedulesLemmas.{takes-held, later-nodes, takes-none, takes-due, moves-seen, freed-placed, freed-moves}
use Rattle.vh_wheel.proofs.wheel.Wheel.take_due.Goals as goal

pub advance-requires-clause-later : goal.advance-requires-clause-later
advance-requires-clause-later g c =
    later-nodes c.self.inside.buckets c.args.time
    (subst (λ (s : Schedule). IfSome (least_time s.entries) (λ u. c.args.time ≤ u)) (sym c.self.view_is) c.requires.least)

pub returns-in_err-due-clause-taken : goal.returns-in_err-due-clause-taken
returns-in_err-due-clause-taken g c =
    takes-none c.args.time c.self.inside.present c.self.inside.buckets c.advance.new.buckets c.from_residual.result c.args.self.now c.self.view_is
    c.advance.ensures.entries c.advance.ensures.placed (c.in_err-due.ensures.none refl) c.from_residual.ensures

pub returns-in_err-due-clause-steps : goal.returns-in_err-due-clause-steps
returns-in_err-due-clause-steps g c =
    omega (
      arith,
      c.tick.ensures,
      c.advance.ensures.steps,
      moves-are c.args.time c.advance.new.buckets c.advance.ensures.placed,
      moves-seen c.self.inside.present c.self.inside.buckets c.args.self.now c.self.view_is c.self.invariant,
    )

pub returns-clause-taken : goal.returns-clause-taken
returns-clause-taken g c =
    takes-due c.args.time c.self.inside.present c.in_ok-due.due c.free.result c.self.inside.buckets c.advance.new.buckets c.free.new.buckets c.args.self.now
    c.self.view_is c.advance.ensures.entries c.advance.ensures.placed c.in_ok-due.ensures.some.0 c.in_ok-due.ensures.some.1 c.free.ensures.payload c.free.ensures.freed

pub returns-clause-steps : goal.returns-clause-steps
returns-clause-steps g c =
    let after = freed-placed c.args.time c.in_ok-due.due c.advance.new.buckets c.free.new.buckets c.advance.ensures.placed c.in_ok-due.ensures.some.0 c.free.ensures.freed in
    let fewer = freed-moves c.in_ok-due.due c.advance.new.buckets c.free.new.buckets c.in_ok-due.ensures.some.0 c.free.ensures.freed in
    omega (
      arith,
      c.tick.ensures,
      c.advance.ensures.steps,
      fewer,
      moves-are c.args.time c.free.new.buckets after,
      moves-seen c.self.inside.present c.self.inside.buckets c.args.self.now c.self.view_is c.self.invariant,
    )

pub returns-clause-held : goal.returns-clause-held
returns-clause-held g c =
    takes-held c.args.time c.free.result c.args.self.now (schedule_in c.free.new.buckets c.args.time) (returns-clause-taken g c)

pub returns-in_err-due-clause-each : goal.returns-in_err-due-clause-each
returns-in_err-due-clause-each g c = λ t h. level-never-rises 7 c.args.self.now.present c.args.time t c.requires.later h

pub returns-clause-each : goal.returns-clause-each
returns-clause-each g c = λ t h. level-never-rises 7 c.args.self.now.present c.args.time t c.requires.later h
