use Rattle.std.proofs.Common.{◌≡◌, ◌∙◌, ◌++◌, [], List, inl, inr, sym, ap}
use Rattle.std.proofs.lemmas.List.{append-nil}
use Rattle.vh_design_nodes.specs.declared.expr.Link.{Link}
use Rattle.vh_bind.specs.Nodes.{links_by}
use Rattle.vh_bind.proofs.NodesLemmas.{links-no_operator, links-no_operand}
use Rattle.vh_bind.proofs.operators.links_of.Goals as goal

pub returns : goal.returns
returns g c =
    let os = c.loop-operator.operator-iterator.a.rest.now in
    let es = c.loop-operator.operator-iterator.b.rest.now in
    let none : links_by g.Op.Linked.pick os es ≡ [] = elim c.in-None.ensures.steps [
      | inl p ↦ links-no_operator g.Op.Linked.pick os es p.1.0
      | inr p ↦ links-no_operand g.Op.Linked.pick os es p.1.0
    ] in
    c.new.ensures ∙ sym (append-nil c.loop-operator.links.items)
    ∙ ap (λ (rest : List (Link _)). c.loop-operator.links.items ++ rest) (sym none) ∙ c.loop-operator.invariant
