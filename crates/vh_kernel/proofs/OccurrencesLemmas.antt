-- An occurrence is watched where some callback has its reason and object.
use Rattle.std.proofs.Common.{◌≡◌, ◌∙◌, ◌||◌, ℕ, List, [], ◌∷◌, length, Bool, true, false, not, cond, map, filter, refl, ap, arith}
use Rattle.std.proofs.lemmas.List.{length-append}
use Rattle.std.specs.List.{list_any}
use Rattle.vh_kernel.specs.Occurrences.{is_empty}
use Rattle.vh_logic.specs.declared.digits.Digit.{Digit}
use Rattle.vh_logic.specs.declared.digits.Digit.TheVariants.{Zero, One, X, Z}
use Rattle.vh_logic.specs.Vector.{Vector, width_of}
use Rattle.vh_text.specs.declared.radix.Radix.TheVariants.{Binary}
use Rattle.vh_text.specs.Texts.{character_text, groups_text, group_count, text}

some-by : {X Y : Type 0} (b : Bool) (f : X → Y) (x : X) (kept : List X) (rest : Bool)
    → rest ≡ not (is_empty (map f kept)) → (b || rest) ≡ not (is_empty (map f (cond b (x ∷ kept) kept)))
some-by true f x kept rest same = refl
some-by false f x kept rest same = same

-- Where any passes, those that pass are some.
pub any-some : {X Y : Type 0} (p : X → Bool) (f : X → Y) (xs : List X)
    → list_any p xs ≡ not (is_empty (map f (filter p xs)))
any-some p f [] = refl
any-some p f (x ∷ xs) = some-by (p x) f x (filter p xs) (list_any p xs) (any-some p f xs)

-- The text of a value has as many bytes as the value has digits.
length-digit : (d : Digit) → length (character_text (d ∷ [])) ≡ 1
length-digit Zero = refl
length-digit One = refl
length-digit X = refl
length-digit Z = refl

length-groups : (ds : List Digit) → length (groups_text (length ds) 1 ds) ≡ length ds
unfolding groups_text
length-groups [] = refl
length-groups (d ∷ ds) =
    length-append (groups_text (length ds) 1 ds) (character_text (d ∷ [])) ∙ omega (arith, length-groups ds, length-digit d)

pub short-text : (v : Vector) → length (text Binary v) ≡ width_of v
short-text v =
    let e : group_count 1 (length v.digits) ≡ length v.digits = omega arith in
    ap (λ (n : ℕ). length (groups_text n 1 v.digits)) e ∙ length-groups v.digits
