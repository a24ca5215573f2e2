-- Names of the code, with one more.
use Rattle.std.proofs.Common.{◌≡◌, ℕ, Bool, true, false, if◌then◌else◌, List, [], ◌∷◌, ◌++◌, Bor, refl, ap, ◌∙◌}
use Rattle.std.specs.List.{list_any}
use Rattle.std.specs.Str.{bytes_eq}
use Rattle.std.proofs.lemmas.List.{map_push}
use Rattle.vh_base.specs.Lists.{names_seen}
use Rattle.vh_base.proofs.ListsLemmas.{list_any-seen}
use Rattle.vh_app_script.specs.Env.{with_name}

either : (b : Bool) (keys : List (Bor (List ℕ))) (name : Bor (List ℕ)) → names_seen (if b then keys else keys ++ name ∷ []) ≡ (if b then names_seen keys else names_seen keys ++ name.now ∷ [])
either true keys name = refl
either false keys name = map_push (λ key. key.now) keys name

pub names-grown : (keys grown : List (Bor (List ℕ))) (name : Bor (List ℕ)) → grown ≡ (if list_any (λ key. bytes_eq name.now key.now) keys then keys else keys ++ name ∷ []) → names_seen grown ≡ with_name (names_seen keys) name.now
names-grown keys grown name e =
    rw (list_any-seen (bytes_eq name.now) keys) (ap names_seen e ∙ either (list_any (λ key. bytes_eq name.now key.now) keys) keys name)
