-- White space and comments, from any byte on.
use Rattle.std.proofs.Common.{◌≡◌, ℕ, zero, suc, ◌+◌, List, [], ◌∷◌, Option, Some, length, drop, refl, ap, sym, ◌∙◌, arith}
use Rattle.vh_lex.specs.Directives.{blank_at, gap_then, gap_after, gap_len}

-- Passing over bytes is going on behind them
pub gap-passed : (skip : ℕ) (bytes : List ℕ) → gap_after skip bytes + length (drop skip bytes) ≡ length bytes + gap_len (drop skip bytes)
gap-passed zero [] = refl
gap-passed zero (byte ∷ bytes) = omega arith
gap-passed (suc skip) [] = refl
gap-passed (suc skip) (byte ∷ bytes) = let h = gap-passed skip bytes in omega arith

pub gap-more : (byte : ℕ) (bytes rest : List ℕ) (skip all len : ℕ) → rest ≡ byte ∷ bytes → blank_at rest ≡ Some skip → all + length rest ≡ len + gap_len rest
    → all + length (drop skip bytes) ≡ len + gap_len (drop skip bytes)
gap-more byte bytes rest skip all len same e h =
    let g = rw same at h in
    let f : gap_len (byte ∷ bytes) ≡ 1 + gap_after skip bytes = ap (λ (o : Option ℕ). gap_then o (λ n. gap_after n bytes)) (ap blank_at (sym same) ∙ e) in
    let p = gap-passed skip bytes in
    omega arith
