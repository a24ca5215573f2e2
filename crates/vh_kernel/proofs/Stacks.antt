-- A stack is a list from its other end.
use Rattle.std.proofs.Common.{◌≡◌, List, [], ◌∷◌, map, reverse, refl, arith}
use Rattle.std.proofs.lemmas.Grind.{common_steps}
use Rattle.std.proofs.lemmas.List.{reverse-append}

-- A change of each one doesn't either.
pub map-reverse : {X Y : Type 0} (f : X → Y) (xs : List X) → map f (reverse xs) ≡ reverse (map f xs)
map-reverse f [] = refl
map-reverse f (x ∷ xs) =
    grind (arith, common_steps, reverse-append (x ∷ []) xs, reverse-append (f x ∷ []) (map f xs), map-reverse f xs)
