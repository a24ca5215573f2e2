use Rattle.std.proofs.Common.{◌≡◌, ◌++◌, ◌∷◌, [], ℕ, ◌<◌, ◌-◌, ◌^◌, List, ap, sym, ◌∙◌, subst, length}
use Rattle.vh_links.specs.declared.links.Link.{Link}
use Rattle.vh_links.specs.Lists.{Lists, after_add}
use Rattle.vh_links.specs.Views.{Holds}
use Rattle.vh_links.proofs.ViewsLemmas.{lists_in-is, holds-seen, holds-add}
use Rattle.vh_links.proofs.links.Links.add_node.Goals as goal

-- The lists with one position more
after : (A n : ℕ) (ls ms : List Link) (v s : Lists) → v ≡ s → Holds A ls v → s.nodes < 2 ^ 32 - 1 → n ≡ length ls
    → ms ≡ ls ++ record { prev = n; next = n } ∷ [] → Holds A ms (after_add s)
after A n ls ms v s seen held room position more =
    let l : ℕ → Link = λ k. record { prev = k; next = k } in
    subst (λ (xs : List Link). Holds A xs (after_add s)) (sym (more ∙ ap (λ k. ls ++ l k ∷ []) position))
    (holds-add A ls s (subst (λ (t : Lists). Holds A ls t) seen held) room)

pub invariant_of-self-2 : goal.invariant_of-self-2
invariant_of-self-2 c =
    holds-seen _ _ _ (after _ _ _ _ _ _ c.self.view_is c.self.invariant c.requires (c.len-position.ensures ∙ c.self.inside.links.ok.0) c.in_ok-push.ensures.items)

pub returns-clause-added : goal.returns-clause-added
returns-clause-added c =
    lists_in-is _ _ _ (after _ _ _ _ _ _ c.self.view_is c.self.invariant c.requires (c.len-position.ensures ∙ c.self.inside.links.ok.0) c.in_ok-push.ensures.items)
