use Rattle.std.proofs.Common.{◌<◌, List, length, arith, subst, sym}
use Rattle.std.specs.Prelude.{IfSome}
use Rattle.vh_wheel.specs.declared.node.Node.{Node}
use Rattle.vh_wheel.specs.Views.{bucket_at, IsKept, AreFrom}
use Rattle.vh_wheel.proofs.FlagsLemmas.{first-held}
use Rattle.vh_wheel.proofs.buckets.Buckets.first_held.Goals as goal

pub returns-clause-some : goal.returns-clause-some
returns-clause-some g c =
    let kept = subst (λ (ns : List Node). IsKept c.self.inside.occupied c.self.inside.links ns) c.self.view_is c.self.invariant in
    let at = first-held c.self.inside.occupied c.self.inside.links c.args.self.now c.in_ok-bucket.bucket c.first-2.result kept c.in_ok-bucket.ensures.some c.first-2.ensures in
    subst (λ r. IfSome r (λ x. x < length c.args.self.now)) (sym at.1) at.2

pub returns-clause-held : goal.returns-clause-held
returns-clause-held g c =
    let kept = subst (λ (ns : List Node). IsKept c.self.inside.occupied c.self.inside.links ns) c.self.view_is c.self.invariant in
    let at = first-held c.self.inside.occupied c.self.inside.links c.args.self.now c.in_ok-bucket.bucket c.first-2.result kept c.in_ok-bucket.ensures.some c.first-2.ensures in
    subst (λ r. IfSome r (λ x. bucket_at c.args.self.now x < 2048)) (sym at.1) (omega (arith, at.3, c.in_ok-bucket.ensures.some.low))

pub returns-clause-first : goal.returns-clause-first
returns-clause-first g c =
    let kept = subst (λ (ns : List Node). IsKept c.self.inside.occupied c.self.inside.links ns) c.self.view_is c.self.invariant in
    let at = first-held c.self.inside.occupied c.self.inside.links c.args.self.now c.in_ok-bucket.bucket c.first-2.result kept c.in_ok-bucket.ensures.some c.first-2.ensures in
    subst (λ r. IfSome r (λ x. AreFrom (bucket_at c.args.self.now x) c.args.self.now)) (sym at.1)
    (subst (λ b. AreFrom b c.args.self.now) (sym at.3) at.4)
