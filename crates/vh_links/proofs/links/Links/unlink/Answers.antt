use Rattle.std.proofs.Common.{ℕ, ◌+◌, List, ap, arith, subst}
use Rattle.vh_links.specs.declared.links.Link.{Link}
use Rattle.vh_links.specs.Lists.{Lists, after_unlink}
use Rattle.vh_links.specs.Views.{Holds, Joins, prev_at, next_at}
use Rattle.vh_links.proofs.ViewsLemmas.{lists_in-is, holds-seen, linked-at, holds-unlink, read-at}
use Rattle.vh_links.proofs.links.Links.unlink.Goals as goal

pub index-link-requires : goal.index-link-requires
index-link-requires c =
    let A : ℕ = c.self.inside.anchors in
    let ls : List Link = c.self.inside.links.items in
    let s : Lists = c.args.self.now in
    let held : Holds A ls s = subst (λ (t : Lists). Holds A ls t) c.self.view_is c.self.invariant in
    let at = linked-at A ls s held c.args.node c.requires in
    omega (arith, at.4, c.self.inside.links.ok.0)

pub join-requires-clause-left : goal.join-requires-clause-left
join-requires-clause-left c =
    let A : ℕ = c.self.inside.anchors in
    let ls : List Link = c.self.inside.links.items in
    let s : Lists = c.args.self.now in
    let held : Holds A ls s = subst (λ (t : Lists). Holds A ls t) c.self.view_is c.self.invariant in
    let at = linked-at A ls s held c.args.node c.requires in
    let is = ap (λ (l : Link). l.prev) (read-at ls (A + c.args.node) c.index-link.result.now at.4 c.index-link.ensures) in
    omega (arith, is, held.closed.prev (A + c.args.node) at.4)

pub join-requires-clause-right : goal.join-requires-clause-right
join-requires-clause-right c =
    let A : ℕ = c.self.inside.anchors in
    let ls : List Link = c.self.inside.links.items in
    let s : Lists = c.args.self.now in
    let held : Holds A ls s = subst (λ (t : Lists). Holds A ls t) c.self.view_is c.self.invariant in
    let at = linked-at A ls s held c.args.node c.requires in
    let is = ap (λ (l : Link). l.next) (read-at ls (A + c.args.node) c.index-link.result.now at.4 c.index-link.ensures) in
    omega (arith, is, held.closed.next (A + c.args.node) at.4)

after : (c : goal.After-join) → Holds c.self.inside.anchors c.join.new.links.items (after_unlink c.args.node c.args.self.now)
after c =
    let A : ℕ = c.self.inside.anchors in
    let ls : List Link = c.self.inside.links.items in
    let s : Lists = c.args.self.now in
    let held : Holds A ls s = subst (λ (t : Lists). Holds A ls t) c.self.view_is c.self.invariant in
    let at = linked-at A ls s held c.args.node c.requires in
    let is = read-at ls (A + c.args.node) c.index-link.result.now at.4 c.index-link.ensures in
    let joined : Joins (prev_at ls (A + c.args.node)) (next_at ls (A + c.args.node)) ls c.join.new.links.items =
    subst (λ (l : Link). Joins l.prev l.next ls c.join.new.links.items) is c.join.ensures in
    holds-unlink A ls c.join.new.links.items s c.args.node at.0 held at.1 at.2 joined

pub invariant_of-self : goal.invariant_of-self
invariant_of-self c = holds-seen _ _ _ (after c)

pub returns : goal.returns
returns c = lists_in-is _ _ _ (after c)
