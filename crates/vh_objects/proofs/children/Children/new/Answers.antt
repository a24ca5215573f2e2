use Rattle.std.proofs.Common.{◌≡◌, ◌<◌, ◌+◌, length, ℕ, Option, Some, IfSome, slice_get, ◌∙◌, ap, subst, sym, arith}
use Rattle.vh_objects.specs.Views.{AreChildren, lists_of, position_of, with_one}
use Rattle.vh_objects.proofs.ViewsLemmas.{children-more}
use Rattle.vh_objects.proofs.children.Children.new.Goals as goal

pub loop-k-preserved : goal.loop-k-preserved
loop-k-preserved c =
    let os = c.args.d.now.objects in
    let k : ℕ = c.loop-k.k in
    let lists = lists_of c.loop-k.lists.items in
    let i = c.object.result.now in
    let at : slice_get os k ≡ Some i = ap (slice_get os) (sym c.new-o.ensures) ∙ c.object.ensures.value in
    let before : IfSome i.parent (λ s. s < k) = subst (λ (n : ℕ). IfSome i.parent (λ s. s < n)) c.new-o.ensures c.object.ensures.scope in
    let is : lists_of c.add.new.lists.items ≡ with_one (position_of i.parent) k lists =
    c.in_ok-add.ensures ∙ ap (λ (position : ℕ). with_one position c.new-o.result lists) c.position_of.ensures
    ∙ ap (λ (o : ℕ). with_one (position_of i.parent) o lists) c.new-o.ensures in
    let within : k < length os = omega (arith, c.loop-k.invariant.there) in
    record {
      made = subst (AreChildren (k + 1) os) (sym is) (children-more k os lists i c.loop-k.invariant.made at before within);
      there = c.loop-k.invariant.there;
    }
