-- Entries by rising numbers. (own)
use Rattle.std.specs.Prelude.{ℕ, zero, suc, if◌then◌else◌, List, [], ◌∷◌, nat_lt}

-- How many of some in their order have a number below one.
abbrev pub early_len : {V : Type 0} → ℕ → List (ℕ × V) → ℕ
early_len number [] = zero
early_len number (e ∷ es) = if nat_lt e.0 number then suc (early_len number es) else zero
