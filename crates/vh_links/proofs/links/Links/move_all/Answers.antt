use Rattle.std.proofs.Common.{◌≡◌, ℕ, ◌<◌, List, ap, arith, sym, ◌∙◌, subst}
use Rattle.vh_links.specs.declared.links.Link.{Link}
use Rattle.vh_links.specs.Lists.{Lists, list_of, after_move}
use Rattle.vh_links.specs.Views.{Holds, Joins, prev_at, next_at}
use Rattle.vh_links.proofs.ViewsLemmas.{lists_in-is, holds-seen, holds-move, move-none, move-same, empty-list, read-at}
use Rattle.vh_links.proofs.links.Links.move_all.Goals as goal
use Rattle.vh_links.proofs.links.Links.move_all.Goals.{then-from-to-via-then-from-to, then-from-to-via-else-from-to+then-moved-from}

pub returns-then-from-to : goal.returns-then-from-to
returns-then-from-to c =
    let A : ℕ = c.self.inside.anchors in
    let ls : List Link = c.self.inside.links.items in
    let s : Lists = c.args.self.now in
    let held : Holds A ls s = subst (λ (t : Lists). Holds A ls t) c.self.view_is c.self.invariant in
    let below : c.args.from < A = omega (arith, c.requires.from, held.count) in
    let is = ap (λ (l : Link). l.next) (read-at ls c.args.from c.index-moved.result.now (omega (arith, held.size)) c.index-moved.ensures) in
    elim c.then-from-to.branch [
      | then-from-to-via-then-from-to w ↦ move-same s c.args.from c.args.to w.if-from-to.true
      | then-from-to-via-else-from-to+then-moved-from w ↦
          sym (move-none s c.args.from c.args.to
          (empty-list A ls c.args.from (list_of c.args.from s) below (held.ring c.args.from below) (sym is ∙ w.if-moved-from.true)))
    ]

after : (c : goal.After-join-3) → Holds c.self.inside.anchors c.join-3.new.links.items (after_move c.args.from c.args.to c.args.self.now)
after c =
    let A : ℕ = c.self.inside.anchors in
    let ls : List Link = c.self.inside.links.items in
    let s : Lists = c.args.self.now in
    let held : Holds A ls s = subst (λ (t : Lists). Holds A ls t) c.self.view_is c.self.invariant in
    let f : ℕ = c.args.from in
    let t : ℕ = c.args.to in
    let m1 : List Link = c.join.new.links.items in
    let m2 : List Link = c.join-2.new.links.items in
    let hf : f < A = omega (arith, c.requires.from, held.count) in
    let ht : t < A = omega (arith, c.requires.to, held.count) in
    let moved = read-at ls f c.index-moved.result.now (omega (arith, held.size)) c.index-moved.ensures in
    let last = ap (λ (l : Link). l.prev) (read-at ls t c.index.result.now (omega (arith, held.size)) c.index.ensures) in
    let some : next_at ls f ≡ f → ⊥ = λ e. c.if-moved-from.false (ap (λ (l : Link). l.next) moved ∙ e) in
    let j1 : Joins (prev_at ls t) (next_at ls f) ls m1 =
    subst (λ (l : Link). Joins (prev_at ls t) l.next ls m1) moved (subst (λ n. Joins n c.index-moved.result.now.next ls m1) last c.join.ensures) in
    let j2 : Joins (prev_at ls f) t m1 m2 = subst (λ (l : Link). Joins l.prev t m1 m2) moved c.join-2.ensures in
    holds-move A ls m1 m2 c.join-3.new.links.items s f t held hf ht c.if-from-to.false some j1 j2 c.join-3.ensures

pub invariant_of-self : goal.invariant_of-self
invariant_of-self c = holds-seen _ _ _ (after c)

pub returns : goal.returns
returns c = lists_in-is _ _ _ (after c)
