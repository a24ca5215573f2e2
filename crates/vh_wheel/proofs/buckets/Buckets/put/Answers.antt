use Rattle.std.proofs.Common.{ap, ◌∙◌, sym, subst, List, length, ◌<◌}
use Rattle.vh_wheel.specs.declared.node.Node.{Node}
use Rattle.vh_links.specs.Lists.{is_linked, after_push}
use Rattle.vh_wheel.specs.Views.{bucket_at}
use Rattle.vh_wheel.proofs.LiesLemmas.{linked, unlinked-free}
use Rattle.vh_wheel.proofs.FlagsLemmas.{kept-put, flag-there}
use Rattle.vh_wheel.proofs.buckets.Buckets.put.Goals as goal

pub unlink-requires : goal.unlink-requires
unlink-requires c =
    let h : c.args.number < length c.self.inside.nodes.items = subst (λ (ns : List Node). c.args.number < length ns) (sym c.self.view_is) c.requires.number in
    linked c.self.inside.links (bucket_at c.self.inside.nodes.items c.args.number) c.args.number (c.self.invariant.lies.whole c.args.number h)

pub push_back-requires-clause-free : goal.push_back-requires-clause-free
push_back-requires-clause-free c =
    ap (is_linked c.args.number) c.unlink.ensures ∙ unlinked-free c.args.number c.self.inside.links

pub clear_if_empty-requires-clause-set : goal.clear_if_empty-requires-clause-set
clear_if_empty-requires-clause-set c =
    let h : c.args.number < length c.self.inside.nodes.items = subst (λ (ns : List Node). c.args.number < length ns) (sym c.self.view_is) c.requires.number in
    flag-there c.self.inside.links c.self.inside.nodes.items c.self.inside.occupied c.set.new.self c.args.number c.get-from.result.bucket c.args.node.bucket
    c.self.invariant h (ap (λ (n : Node). n.bucket) c.get-from.ensures ∙ ap (λ (ns : List Node). bucket_at ns c.args.number) (sym c.self.view_is))
    c.set.ensures.there c.set.ensures.others

pub invariant_of-self : goal.invariant_of-self
invariant_of-self c =
    let h : c.args.number < length c.self.inside.nodes.items = subst (λ (ns : List Node). c.args.number < length ns) (sym c.self.view_is) c.requires.number in
    kept-put c.self.inside.links c.self.inside.nodes.items c.self.inside.occupied c.set.new.self c.clear_if_empty.new.occupied c.args.number
    c.get-from.result.bucket c.args.node c.push_back.new.self c.self.invariant h c.requires.bucket
    (ap (λ (n : Node). n.bucket) c.get-from.ensures ∙ ap (λ (ns : List Node). bucket_at ns c.args.number) (sym c.self.view_is))
    (c.push_back.ensures ∙ ap (after_push c.args.node.bucket c.args.number) c.unlink.ensures)
    c.set.ensures.there c.set.ensures.others c.clear_if_empty.ensures.there c.clear_if_empty.ensures.others
