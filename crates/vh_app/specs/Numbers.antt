-- How the number of a procedure is found by its name. (own)
use Rattle.std.specs.Prelude.{◌≡◌, ℕ, List, [], ◌∷◌, ◌++◌, length, Vec, Option, bytes_eq, position}
use Rattle.std.specs.Map.{lookup}
use Rattle.vh_app.specs.declared.form.Procedure.{Procedure}

-- The number that a table has for a name.
abbrev pub number_listed : {A : Type 0} → List (Vec ℕ A × ℕ) → List ℕ → Option ℕ
number_listed rows name = lookup (λ k. bytes_eq name k.items) rows

-- A table has for each name the number of its first procedure, and none for another text.
abbrev pub IsTableOf : {A : Type 0} → List Procedure → List (Vec ℕ A × ℕ) → Type 0
IsTableOf procedures rows =
    (name : List ℕ) → number_listed rows name ≡ position (λ (p : Procedure). bytes_eq p.name name) procedures

-- A table gets one procedure more, which has this number.
abbrev pub Adds : {A : Type 0} → ℕ → Procedure → List (Vec ℕ A × ℕ) → List (Vec ℕ A × ℕ) → Type 0
Adds n p old new =
    (procedures : List Procedure) → length procedures ≡ n → IsTableOf procedures old
    → IsTableOf (procedures ++ p ∷ []) new
