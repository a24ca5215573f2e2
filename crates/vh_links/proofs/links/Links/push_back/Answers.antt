use Rattle.std.proofs.Common.{ℕ, ◌+◌, ◌<◌, List, ap, arith, subst}
use Rattle.vh_links.specs.declared.links.Link.{Link}
use Rattle.vh_links.specs.Lists.{Lists, after_push}
use Rattle.vh_links.specs.Views.{Holds, Joins, prev_at}
use Rattle.vh_links.proofs.ViewsLemmas.{lists_in-is, holds-seen, holds-push, read-at}
use Rattle.vh_links.proofs.links.Links.push_back.Goals as goal

after : (c : goal.After-join-2) → Holds c.self.inside.anchors c.join-2.new.links.items (after_push c.args.anchor c.args.node c.args.self.now)
after c =
    let A : ℕ = c.self.inside.anchors in
    let ls : List Link = c.self.inside.links.items in
    let s : Lists = c.args.self.now in
    let held : Holds A ls s = subst (λ (t : Lists). Holds A ls t) c.self.view_is c.self.invariant in
    let below : c.args.anchor < A = omega (arith, c.requires.anchor, held.count) in
    let last = ap (λ (l : Link). l.prev) (read-at ls c.args.anchor c.index.result.now (omega (arith, held.size)) c.index.ensures) in
    let first : Joins (prev_at ls c.args.anchor) (A + c.args.node) ls c.join.new.links.items =
    subst (λ n. Joins n (A + c.args.node) ls c.join.new.links.items) last c.join.ensures in
    holds-push A ls c.join.new.links.items c.join-2.new.links.items s c.args.anchor c.args.node held below c.requires.node c.requires.free first c.join-2.ensures

pub invariant_of-self : goal.invariant_of-self
invariant_of-self c = holds-seen _ _ _ (after c)

pub returns : goal.returns
returns c = lists_in-is _ _ _ (after c)
