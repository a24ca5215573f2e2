-- A walk, an instance at a time.
use Rattle.std.proofs.Common.{◌≡◌, ◌∙◌, ◌++◌, ℕ, zero, suc, List, [], ◌∷◌, reverse, refl, ap, sym}
use Rattle.std.proofs.lemmas.List.{map-append, reverse-append}
use Rattle.vh_ast.specs.Items.{SourceTree}
use Rattle.vh_elab_walk.specs.declared.walk.Waiting as next
use Rattle.vh_elab_walk.specs.Walks.{Waiting, Walk, Walked, walked, later, walk, on, ended, going, one_walked}
use Rattle.vh_elab_walk.specs.Views.{all_waiting, stack_seen, waiting_seen}

-- The last of a stack comes first.
pub stack_popped : (all rest : List next.Waiting) (w : next.Waiting) → all ≡ rest ++ w ∷ [] → stack_seen all ≡ waiting_seen w ∷ stack_seen rest
stack_popped all rest w is =
    ap stack_seen is
    ∙ ap reverse (map-append waiting_seen rest (w ∷ []))
    ∙ reverse-append (all_waiting rest) (waiting_seen w ∷ [])

walk-over : (m : ℕ) (ms : SourceTree) (top : List ℕ) (wk : Walk) → walk (suc m) ms top [] wk ≡ walked wk
unfolding walk
walk-over m ms top wk = refl

walk-next : (m : ℕ) (ms : SourceTree) (top : List ℕ) (w : Waiting) (rest : List Waiting) (wk : Walk)
    → walk (suc m) ms top (w ∷ rest) wk ≡ going (walk m ms top) (one_walked ms top w rest wk)
unfolding walk
walk-next m ms top w rest wk = refl

-- Where none waits it is over.
pub walk_over : (n m : ℕ) (ms : SourceTree) (top : List ℕ) (ws : List Waiting) (wk : Walk)
    → n ≡ suc m → ws ≡ [] → walk n ms top ws wk ≡ walked wk
walk_over n m ms top ws wk more none =
    ap (λ k. walk k ms top ws wk) more ∙ ap (λ xs. walk (suc m) ms top xs wk) none ∙ walk-over m ms top wk

-- It goes on with what the next one leaves.
pub walk_on : (n m : ℕ) (ms : SourceTree) (top : List ℕ) (ws : List Waiting) (w : Waiting) (rest others : List Waiting) (wk wk' : Walk)
    → n ≡ suc m → ws ≡ w ∷ rest → on others wk' ≡ one_walked ms top w rest wk → walk n ms top ws wk ≡ walk m ms top others wk'
walk_on n m ms top ws w rest others wk wk' more popped goes =
    ap (λ k. walk k ms top ws wk) more
    ∙ ap (λ xs. walk (suc m) ms top xs wk) popped
    ∙ walk-next m ms top w rest wk
    ∙ ap (λ g. going (walk m ms top) g) (sym goes)

-- Or it ends with it.
pub walk_ends : (n m : ℕ) (ms : SourceTree) (top : List ℕ) (ws : List Waiting) (w : Waiting) (rest : List Waiting) (wk : Walk) (end : Walked)
    → n ≡ suc m → ws ≡ w ∷ rest → ended end ≡ one_walked ms top w rest wk → walk n ms top ws wk ≡ end
walk_ends n m ms top ws w rest wk end more popped goes =
    ap (λ k. walk k ms top ws wk) more
    ∙ ap (λ xs. walk (suc m) ms top xs wk) popped
    ∙ walk-next m ms top w rest wk
    ∙ ap (λ g. going (walk m ms top) g) (sym goes)

walk-spent : (ms : SourceTree) (top : List ℕ) (ws : List Waiting) (wk : Walk) → walk zero ms top ws wk ≡ later
unfolding walk
walk-spent ms top ws wk = refl

-- Where no instance may be walked any more the rest comes later.
pub walk_spent : (n : ℕ) (ms : SourceTree) (top : List ℕ) (ws : List Waiting) (wk : Walk) → n ≡ zero → walk n ms top ws wk ≡ later
walk_spent n ms top ws wk none = ap (λ k. walk k ms top ws wk) none ∙ walk-spent ms top ws wk
