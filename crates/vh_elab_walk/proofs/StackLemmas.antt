-- Instances that are put onto a stack of others.
use Rattle.std.proofs.Common.{◌≡◌, ◌∙◌, ◌++◌, List, [], ◌∷◌, map, reverse, refl, ap, sym}
use Rattle.std.proofs.lemmas.List.{map-append, reverse-append, reverse-reverse}
use Rattle.vh_elab_walk.specs.declared.walk.Waiting as next
use Rattle.vh_elab_walk.specs.Views.{all_waiting, stack_seen, waiting_seen}

pub map-reverse : (ws : List next.Waiting) → all_waiting (reverse ws) ≡ reverse (all_waiting ws)
map-reverse [] = refl
map-reverse (w ∷ ws) =
    ap all_waiting (reverse-append (w ∷ []) ws)
    ∙ map-append waiting_seen (reverse ws) (w ∷ [])
    ∙ ap (λ xs. xs ++ waiting_seen w ∷ []) (map-reverse ws)
    ∙ sym (reverse-append (waiting_seen w ∷ []) (all_waiting ws))

-- Those that are put onto it in reverse come in their order.
pub stack_put : (cs rs ws all : List next.Waiting) → rs ≡ reverse cs → all ≡ ws ++ rs → stack_seen all ≡ all_waiting cs ++ stack_seen ws
stack_put cs rs ws all turned put =
    ap stack_seen (put ∙ ap (λ xs. ws ++ xs) turned)
    ∙ ap reverse (map-append waiting_seen ws (reverse cs))
    ∙ reverse-append (all_waiting ws) (all_waiting (reverse cs))
    ∙ ap (λ xs. reverse xs ++ stack_seen ws) (map-reverse cs)
    ∙ ap (λ xs. xs ++ stack_seen ws) (reverse-reverse (all_waiting cs))
