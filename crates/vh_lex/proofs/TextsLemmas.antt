-- Decoding a string from any byte on.
use Rattle.std.proofs.Common.{◌≡◌, ℕ, zero, suc, ◌+◌, ◌≤◌, List, [], ◌∷◌, ◌++◌, Option, Some, None, false, length, drop, nat_eq, refl, ap, sym, ◌∙◌, append_assoc, arith}
use Rattle.std.specs.Option.{option_map}
use Rattle.vh_lex.specs.Bytes.{one_more}
use Rattle.vh_lex.specs.Texts.{Decoded, preceded, decoded, decoded_after}

-- Decoded bytes before those that follow, spelled by so many bytes
abbrev pub onto : ℕ → List ℕ → Decoded → Decoded
onto n beginning d = record { bytes = beginning ++ d.bytes; wrong = option_map (λ k. n + k) d.wrong }

-- Passing over bytes is decoding what follows them
pub passed : (skip : ℕ) (bytes : List ℕ) → skip ≤ length bytes → decoded_after skip bytes ≡ onto skip [] (decoded (drop skip bytes))
passed zero bytes h = ap (λ (o : Option ℕ). record { bytes = (decoded bytes).bytes; wrong = o }) (same (decoded bytes).wrong)
  where
    same : (o : Option ℕ) → o ≡ option_map (λ k. 0 + k) o
    same None = refl
    same (Some k) = ap Some (omega arith)
passed (suc skip) [] h = absurd (omega arith)
passed (suc skip) (byte ∷ bytes) h =
    ap (λ (d : Decoded). record d { wrong = one_more d.wrong }) (passed skip bytes (omega arith))
    ∙ ap (λ (o : Option ℕ). record { bytes = (decoded (drop skip bytes)).bytes; wrong = o }) (more skip (decoded (drop skip bytes)).wrong)
  where
    more : (n : ℕ) (o : Option ℕ) → one_more (option_map (λ k. n + k) o) ≡ option_map (λ k. suc n + k) o
    more n None = refl
    more n (Some k) = ap Some (omega arith)

same-decoded : (a b : List ℕ) (o p : Option ℕ) → a ≡ b → o ≡ p → let d : Decoded = record { bytes = a; wrong = o } in let e : Decoded = record { bytes = b; wrong = p } in d ≡ e
same-decoded a b o p f g = cc

onto-preceded : (n : ℕ) (beginning : List ℕ) (byte : ℕ) (d : Decoded) → onto n beginning (preceded byte d) ≡ onto (n + 1) (beginning ++ byte ∷ []) d
onto-preceded n beginning byte d = same-decoded _ _ _ _ (sym (append_assoc beginning (byte ∷ []) d.bytes)) (more d.wrong)
  where
    more : (o : Option ℕ) → option_map (λ k. n + k) (one_more o) ≡ option_map (λ k. n + 1 + k) o
    more None = refl
    more (Some k) = ap Some (omega arith)

-- A byte that is no backslash
pub plain-byte : (n m : ℕ) (beginning : List ℕ) (byte : ℕ) (bytes : List ℕ) (all : Decoded) → nat_eq byte 92 ≡ false → m ≡ n + 1
    → all ≡ onto n beginning (decoded (byte ∷ bytes)) → all ≡ onto m (beginning ++ byte ∷ []) (decoded bytes)
plain-byte n m beginning byte bytes all e same h = rw same (rw e at h ∙ onto-preceded n beginning byte (decoded bytes))
