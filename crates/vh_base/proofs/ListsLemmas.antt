-- Names that differ, a name at a time.
use Rattle.std.proofs.Common.{◌≡◌, ℕ, ◌+◌, ◌<◌, Bool, not, ◌&&◌, ◌||◌, cond, List, [], ◌∷◌, ◌++◌, Bor, refl, ap, ◌∙◌}
use Rattle.std.specs.List.{list_any, position, prefix_len}
use Rattle.std.proofs.lemmas.List.{length-map}
use Rattle.vh_base.specs.Lists.{names_seen}

-- The place of a name among the names of the code
pub position-seen : (p : List ℕ → Bool) (keys : List (Bor (List ℕ))) → position p (names_seen keys) ≡ position (λ key. p key.now) keys
position-seen p keys = rw (length-map keys (λ key. key.now), prefix-seen p keys) refl
  where
    prefix-seen : (p : List ℕ → Bool) (keys : List (Bor (List ℕ))) → prefix_len (λ x. not (p x)) (names_seen keys) ≡ prefix_len (λ key. not (p key.now)) keys
    prefix-seen p [] = refl
    prefix-seen p (key ∷ keys) = ap (λ n. cond (not (p key.now)) (1 + n) 0) (prefix-seen p keys)

pub list_any-seen : (p : List ℕ → Bool) (keys : List (Bor (List ℕ))) → list_any p (names_seen keys) ≡ list_any (λ key. p key.now) keys
list_any-seen p [] = refl
list_any-seen p (key ∷ keys) = ap (λ b. p key.now || b) (list_any-seen p keys)
