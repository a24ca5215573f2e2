use Rattle.std.proofs.Common.{◌≡◌, ap, ◌∙◌, sym, subst, length, ◌<◌, ◌++◌, ◌∷◌, [], List}
use Rattle.vh_links.specs.Lists.{is_linked, after_push}
use Rattle.vh_wheel.specs.declared.node.Node.{Node}
use Rattle.vh_wheel.proofs.LiesLemmas.{new-free}
use Rattle.vh_wheel.proofs.FlagsLemmas.{kept-add}
use Rattle.vh_wheel.proofs.buckets.Buckets.add.Goals as goal

pub push_back-requires-clause-free : goal.push_back-requires-clause-free
push_back-requires-clause-free c =
    let x : c.in_ok-number.number ≡ length c.self.inside.nodes.items = c.in_ok-number.ensures.number ∙ c.self.invariant.lies.size in
    ap (is_linked c.in_ok-number.number) c.in_ok-number.ensures.added
    ∙ new-free c.self.inside.links c.self.inside.nodes.items c.self.invariant.lies c.in_ok-number.number x

pub invariant_of-self-2 : goal.invariant_of-self-2
invariant_of-self-2 c =
    let ns : List Node = c.self.inside.nodes.items in
    kept-add c.self.inside.links ns c.push_reserved.new.self.items c.self.inside.occupied c.set.new.self c.in_ok-number.number c.args.node c.push_back.new.self
    c.self.invariant (subst (λ (xs : List Node). length xs < 2147483648) (sym c.self.view_is) c.requires.few) c.requires.bucket
    (c.in_ok-number.ensures.number ∙ c.self.invariant.lies.size)
    (c.push_back.ensures ∙ ap (after_push c.args.node.bucket c.in_ok-number.number) c.in_ok-number.ensures.added)
    (c.push_reserved.ensures.items ∙ ap (λ (xs : List Node). xs ++ c.args.node ∷ []) c.reserve.ensures.items)
    c.set.ensures.there c.set.ensures.others
