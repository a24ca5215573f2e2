-- Cutting a macro's text into parts, from any byte on.
use Rattle.std.proofs.Common.{◌≡◌, ℕ, zero, suc, ◌-◌, List, [], ◌∷◌, ◌++◌, drop, refl, ap, sym, ◌∙◌, append_assoc}
use Rattle.vh_lex.specs.declared.piece.Part.{Part}
use Rattle.vh_lex.specs.declared.piece.Piece.{Piece}
use Rattle.vh_lex.specs.declared.piece.Piece.TheVariants.{Blank, Kept}
use Rattle.vh_lex.specs.Beginning.{beginning}
use Rattle.vh_lex.specs.MacroTexts.{piece_then, parts_after, parts_of}

-- Skipping bytes is cutting what follows them
pub skipped : (skip : ℕ) (bytes : List ℕ) → parts_after skip bytes ≡ parts_of (drop skip bytes)
skipped zero [] = refl
skipped (suc skip) [] = refl
skipped zero (byte ∷ bytes) = refl
skipped (suc skip) (byte ∷ bytes) = skipped skip bytes

-- By what the bytes begin with
first-piece : (byte : ℕ) (bytes : List ℕ) (piece : Piece) → piece ≡ beginning (byte ∷ bytes) → parts_of (byte ∷ bytes) ≡ piece_then piece (λ skip. parts_after skip bytes)
first-piece byte bytes piece e = ap (λ (p : Piece). piece_then p (λ skip. parts_after skip bytes)) (sym e)

pub blank-more : (all found : List Part) (byte : ℕ) (bytes rest : List ℕ) (len : ℕ) → rest ≡ byte ∷ bytes → Blank len ≡ beginning rest → all ≡ found ++ parts_of rest
    → all ≡ found ++ parts_of (drop (len - 1) bytes)
blank-more all found byte bytes rest len same e h =
    h ∙ ap (λ (r : List ℕ). found ++ parts_of r) same
    ∙ ap (λ (ps : List Part). found ++ ps) (first-piece byte bytes (Blank len) (e ∙ ap beginning same) ∙ skipped (len - 1) bytes)

pub part-more : (all found : List Part) (part : Part) (byte : ℕ) (bytes rest : List ℕ) (len : ℕ) → rest ≡ byte ∷ bytes → Kept part len ≡ beginning rest → all ≡ found ++ parts_of rest
    → all ≡ (found ++ part ∷ []) ++ parts_of (drop (len - 1) bytes)
part-more all found part byte bytes rest len same e h =
    h ∙ ap (λ (r : List ℕ). found ++ parts_of r) same
    ∙ ap (λ (ps : List Part). found ++ ps) (first-piece byte bytes (Kept part len) (e ∙ ap beginning same) ∙ ap (λ (ps : List Part). part ∷ ps) (skipped (len - 1) bytes))
    ∙ sym (append_assoc found (part ∷ []) (parts_of (drop (len - 1) bytes)))
