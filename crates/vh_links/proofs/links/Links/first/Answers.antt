use Rattle.std.proofs.Common.{ℕ, ◌<◌, List, ap, arith, ◌∙◌, subst}
use Rattle.vh_links.specs.declared.links.Link.{Link}
use Rattle.vh_links.specs.Lists.{Lists, list_of}
use Rattle.vh_links.specs.Views.{Holds, node_of}
use Rattle.vh_links.proofs.ViewsLemmas.{first-node, read-at}
use Rattle.vh_links.proofs.links.Links.first.Goals as goal

pub returns : goal.returns
returns c =
    let A : ℕ = c.self.inside.anchors in
    let ls : List Link = c.self.inside.links.items in
    let s : Lists = c.args.self.now in
    let held : Holds A ls s = subst (λ (t : Lists). Holds A ls t) c.self.view_is c.self.invariant in
    let below : c.args.anchor < A = omega (arith, c.requires, held.count) in
    let is = ap (λ (l : Link). l.next) (read-at ls c.args.anchor c.index.result.now (omega (arith, held.size)) c.index.ensures) in
    c.node_at.ensures ∙ ap (node_of A) is ∙ first-node A ls c.args.anchor (list_of c.args.anchor s) c.args.anchor (held.ring c.args.anchor below) below
