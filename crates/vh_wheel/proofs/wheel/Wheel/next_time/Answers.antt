use Rattle.std.proofs.Common.{◌≡◌, ◌<◌, ◌∙◌, ℕ, List, Some, ap, refl, subst}
use Rattle.vh_wheel.specs.declared.node.Node.{Node}
use Rattle.vh_wheel.specs.Schedule.{Schedule, least_time}
use Rattle.vh_wheel.specs.Views.{node_at, bucket_at}
use Rattle.vh_wheel.proofs.SchedulesLemmas.{least-of, least-low, none-held}
use Rattle.vh_wheel.proofs.wheel.Wheel.next_time.Goals as goal

pub returns-in_err-first-clause-time : goal.returns-in_err-first-clause-time
returns-in_err-first-clause-time g c =
    c.from_residual.ensures ∙ none-held c.self.inside.present c.self.inside.buckets c.self.invariant (c.in_err-first.ensures.none refl)
    ∙ ap (λ (s : Schedule). least_time s.entries) c.self.view_is

pub returns-then-node-lt256-clause-time : goal.returns-then-node-lt256-clause-time
returns-then-node-lt256-clause-time g c =
    let p : ℕ = c.self.inside.present in
    let ns : List Node = c.self.inside.buckets in
    let x : ℕ = c.in_ok-first.first in
    let time : c.get-node.result.time ≡ (node_at ns x).time = ap (λ (n : Node). n.time) c.get-node.ensures in
    let low : bucket_at ns x < 256 = subst (λ b. b < 256) (ap (λ (n : Node). n.bucket) c.get-node.ensures) c.if-node-lt256.true in
    ap (λ t. Some t) time
    ∙ least-of p ns x (node_at ns x).time c.self.invariant c.in_ok-first.ensures.some c.in_ok-first.ensures.held c.in_ok-first.ensures.first
    (least-low p ns x c.self.invariant c.in_ok-first.ensures.some low)
    ∙ ap (λ (s : Schedule). least_time s.entries) c.self.view_is

pub returns-clause-time : goal.returns-clause-time
returns-clause-time g c =
    least-of c.self.inside.present c.self.inside.buckets c.in_ok-first.first c.least.result c.self.invariant
    c.in_ok-first.ensures.some c.in_ok-first.ensures.held c.in_ok-first.ensures.first c.least.ensures
    ∙ ap (λ (s : Schedule). least_time s.entries) c.self.view_is
