use Rattle.std.proofs.Common.{List, subst}
use Rattle.vh_wheel.specs.declared.node.Node.{Node}
use Rattle.vh_wheel.specs.Views.{Lies}
use Rattle.vh_wheel.proofs.LiesLemmas.{first-of, none-in}
use Rattle.vh_wheel.proofs.buckets.Buckets.first.Goals as goal

pub returns-clause-some : goal.returns-clause-some
returns-clause-some c =
    let lies : Lies c.self.inside.links c.args.self.now = subst (λ (ns : List Node). Lies c.self.inside.links ns) c.self.view_is c.self.invariant.lies in
    first-of c.self.inside.links c.args.self.now c.args.bucket c.first.result lies c.first.ensures

pub returns-clause-none : goal.returns-clause-none
returns-clause-none c =
    let lies : Lies c.self.inside.links c.args.self.now = subst (λ (ns : List Node). Lies c.self.inside.links ns) c.self.view_is c.self.invariant.lies in
    none-in c.self.inside.links c.args.self.now c.args.bucket c.first.result lies c.first.ensures
