use Rattle.std.proofs.Common.{ℕ, ◌+◌, List, ap, arith, ◌∙◌, subst}
use Rattle.vh_links.specs.declared.links.Link.{Link}
use Rattle.vh_links.specs.Lists.{Lists}
use Rattle.vh_links.specs.Views.{Holds, node_of}
use Rattle.vh_links.proofs.ViewsLemmas.{linked-at, next-is, read-at}
use Rattle.vh_links.proofs.links.Links.next.Goals as goal

pub index-requires : goal.index-requires
index-requires c =
    let A : ℕ = c.self.inside.anchors in
    let ls : List Link = c.self.inside.links.items in
    let s : Lists = c.args.self.now in
    let held : Holds A ls s = subst (λ (t : Lists). Holds A ls t) c.self.view_is c.self.invariant in
    let at = linked-at A ls s held c.args.node c.requires in
    omega (arith, at.4, c.self.inside.links.ok.0)

pub node_at-requires : goal.node_at-requires
node_at-requires c =
    let A : ℕ = c.self.inside.anchors in
    let ls : List Link = c.self.inside.links.items in
    let s : Lists = c.args.self.now in
    let held : Holds A ls s = subst (λ (t : Lists). Holds A ls t) c.self.view_is c.self.invariant in
    let at = linked-at A ls s held c.args.node c.requires in
    let is = ap (λ (l : Link). l.next) (read-at ls (A + c.args.node) c.index.result.now at.4 c.index.ensures) in
    omega (arith, is, held.closed.next (A + c.args.node) at.4, held.size, held.fits)

pub returns : goal.returns
returns c =
    let A : ℕ = c.self.inside.anchors in
    let ls : List Link = c.self.inside.links.items in
    let s : Lists = c.args.self.now in
    let held : Holds A ls s = subst (λ (t : Lists). Holds A ls t) c.self.view_is c.self.invariant in
    let at = linked-at A ls s held c.args.node c.requires in
    let is = ap (λ (l : Link). l.next) (read-at ls (A + c.args.node) c.index.result.now at.4 c.index.ensures) in
    c.node_at.ensures ∙ ap (node_of A) is ∙ next-is A ls s held c.args.node c.requires
