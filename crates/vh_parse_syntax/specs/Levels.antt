-- Levels of operators: what a chain can go on with, and that an operator has one level.
use Rattle.std.proofs.Common.{◌≡◌, if◌then◌else◌, ℕ, zero, suc, ◌≤◌, Bool, true, false, ◌||◌, ◌&&◌, is_some, Option, Some, None, ◌⊎◌, inl, inr, ◌≢◌, eqb, refl, ap, ◌∙◌, arith}
use Rattle.std.proofs.lemmas.Bool.{ne_eqb, or_from}
use Rattle.std.proofs.lemmas.Bool.Decides.{eqb_tells}
use Rattle.vh_ast.specs.declared.operator.Binary.{Binary}
use Rattle.vh_parse_syntax.specs.Tokens.{of_level}

-- The operator is of a level below this one.
abbrev pub below : ℕ → Option (ℕ × Binary) → Bool
below zero o = false
below (suc level) o = below level o || is_some (of_level level o)

-- No operator is of a level below its own.
not-below : (level l : ℕ) (b : Binary) → level ≤ l → below level (Some (l, b)) ≡ false
not-below zero l b h = refl
not-below (suc level) l b h = or_from (below level (Some (l, b))) (is_some (of_level level (Some (l, b)))) (not-below level l b (omega arith)) (ap (λ (x : Bool). is_some (if x then Some b else None)) (ne_eqb l level (omega arith)))

and-false : (b : Bool) → (b && false) ≡ false
and-false true = refl
and-false false = refl

-- An operator of the level is of none below.
pub apart : (level : ℕ) (o : Option (ℕ × Binary)) → (is_some (of_level level o) && below level o) ≡ false
apart level None = refl
apart level (Some row) = decide (eqb_tells row.0 level)
  where
    decide : ((eqb row.0 level ≡ true) × (row.0 ≡ level)) ⊎ ((eqb row.0 level ≡ false) × (row.0 ≢ level)) → (is_some (of_level level (Some row)) && below level (Some row)) ≡ false
    decide (inl h) = ap (λ (x : Bool). is_some (of_level level (Some row)) && x) (not-below level row.0 row.1 (omega (arith, h.1))) ∙ and-false (is_some (of_level level (Some row)))
    decide (inr h) = ap (λ (x : Bool). is_some (if x then Some row.1 else None) && below level (Some row)) h.0
