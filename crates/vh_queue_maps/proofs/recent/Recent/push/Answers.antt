use Rattle.std.proofs.Common.{◌++◌, ◌∙◌, ◌∷◌, [], ◌<◌, sym, ap, subst}
use Rattle.std.specs.List.{All}
use Rattle.std.specs.List.Sorted.{IsStrictlySortedBy}
use Rattle.std.specs.Map.{keys_of}
use Rattle.std.specs.Ordering.{nat_cmp}
use Rattle.vh_queue_maps.proofs.RecentLemmas.{all-behind, climbs-more}
use Rattle.vh_queue_maps.proofs.recent.Recent.push.Goals as goal

pub settle-requires : goal.settle-requires
settle-requires g c =
    let tree = c.self.inside.tree.entries in let row = c.self.inside.row.items in
    let n = c.args.number in
    subst (λ es. IsStrictlySortedBy nat_cmp (keys_of es))
    (sym (all-behind tree row ((n, c.args.value) ∷ [])) ∙ ap (λ es. tree ++ es) (sym c.in_ok-push.ensures.items))
    (climbs-more n c.args.value (tree ++ row) c.self.invariant (subst (λ es. All (λ m. m < n) (keys_of es)) (sym c.self.view_is) c.requires))

pub invariant_of-self-2 : goal.invariant_of-self-2
invariant_of-self-2 g c =
    let tree = c.self.inside.tree.entries in let row = c.self.inside.row.items in
    let n = c.args.number in
    subst (λ es. IsStrictlySortedBy nat_cmp (keys_of es))
    (sym (all-behind tree row ((n, c.args.value) ∷ [])) ∙ ap (λ es. tree ++ es) (sym c.in_ok-push.ensures.items) ∙ sym c.settle.ensures)
    (climbs-more n c.args.value (tree ++ row) c.self.invariant (subst (λ es. All (λ m. m < n) (keys_of es)) (sym c.self.view_is) c.requires))
