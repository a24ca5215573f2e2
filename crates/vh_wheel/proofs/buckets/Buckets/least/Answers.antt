use Rattle.std.proofs.Common.{◌≡◌, ◌<◌, ◌∙◌, ℕ, List, length, ap, arith, sym, subst, refl}
use Rattle.std.specs.List.{slice_get}
use Rattle.vh_links.specs.Lists.{list_of}
use Rattle.vh_wheel.specs.declared.node.Node.{Node}
use Rattle.vh_wheel.specs.Views.{Lies, node_at, bucket_at}
use Rattle.vh_wheel.proofs.LiesLemmas.{linked}
use Rattle.vh_wheel.proofs.WalkLemmas.{left_of, Walks, walk-begins, walk-goes, walk-ends}
use Rattle.vh_wheel.proofs.buckets.Buckets.least.Goals as goal
use Rattle.vh_wheel.proofs.buckets.Buckets.least.Goals.{then-time-least, else-time-least}

pub loop-at-init : goal.loop-at-init
loop-at-init c =
    let ns : List Node = c.args.self.now in
    let b : ℕ = bucket_at ns c.args.number in
    let first = c.first-at.ensures ∙ ap (λ (n : Node). slice_get (list_of n.bucket c.self.inside.links) 0) c.get-first.ensures in
    walk-begins ns (list_of b c.self.inside.links) c.first-at.result b c.get-first.result.time first
    (c.args.number, c.requires, refl, ap (λ (n : Node). n.time) (sym c.get-first.ensures))

pub get-time-requires : goal.get-time-requires
get-time-requires c =
    let lies : Lies c.self.inside.links c.args.self.now = subst (λ (ns : List Node). Lies c.self.inside.links ns) c.self.view_is c.self.invariant.lies in
    (lies.sound (bucket_at c.args.self.now c.args.number) c.in-Some.number (c.loop-at.invariant.here c.in-Some.number c.in-Some.is)).0

pub next-at-requires : goal.next-at-requires
next-at-requires c =
    linked c.self.inside.links (bucket_at c.args.self.now c.args.number) c.in-Some.number (c.loop-at.invariant.here c.in-Some.number c.in-Some.is)

turn : (c : goal.After-next-at) → Walks c.args.self.now (list_of (bucket_at c.args.self.now c.args.number) c.self.inside.links) c.next-at.result
    (bucket_at c.args.self.now c.args.number) c.if-time-least.least
    × (length (left_of c.next-at.result (list_of (bucket_at c.args.self.now c.args.number) c.self.inside.links))
    < length (left_of c.loop-at.at (list_of (bucket_at c.args.self.now c.args.number) c.self.inside.links)))
turn c =
    let ns : List Node = c.args.self.now in
    let b : ℕ = bucket_at ns c.args.number in
    let x : ℕ = c.in-Some.number in
    let lies : Lies c.self.inside.links ns = subst (λ (ms : List Node). Lies c.self.inside.links ms) c.self.view_is c.self.invariant.lies in
    let sound = lies.sound b x (c.loop-at.invariant.here x c.in-Some.is) in
    let time : c.get-time.result.time ≡ (node_at ns x).time = ap (λ (n : Node). n.time) c.get-time.ensures in
    elim c.if-time-least.branch [
      | then-time-least w ↦
          walk-goes c.self.inside.links ns c.loop-at.at b c.loop-at.least c.if-time-least.least x c.next-at.result lies (lies.bound c.args.number c.requires)
          c.in-Some.is c.loop-at.invariant c.next-at.ensures (omega (arith, w.least-is, w.if-time-least.true)) (omega (arith, w.least-is, time))
          (x, sound.0, sound.1, sym time ∙ sym w.least-is)
      | else-time-least w ↦
          walk-goes c.self.inside.links ns c.loop-at.at b c.loop-at.least c.if-time-least.least x c.next-at.result lies (lies.bound c.args.number c.requires)
          c.in-Some.is c.loop-at.invariant c.next-at.ensures (omega (arith, w.least-is)) (omega (arith, w.least-is, w.if-time-least.false, time))
          (c.loop-at.invariant.some.0, c.loop-at.invariant.some.1, c.loop-at.invariant.some.2, c.loop-at.invariant.some.3 ∙ sym w.least-is)
    ]

pub loop-at-smaller : goal.loop-at-smaller
loop-at-smaller c = (turn c).1

pub loop-at-preserved : goal.loop-at-preserved
loop-at-preserved c = (turn c).0

pub returns : goal.returns
returns c =
    let lies : Lies c.self.inside.links c.args.self.now = subst (λ (ms : List Node). Lies c.self.inside.links ms) c.self.view_is c.self.invariant.lies in
    record {
      some = c.loop-at.invariant.some;
      all = walk-ends c.self.inside.links c.args.self.now c.loop-at.at (bucket_at c.args.self.now c.args.number) c.loop-at.least lies c.in_default.is c.loop-at.invariant;
    }
