-- Reading the texts of macros that are open.
use Rattle.std.proofs.Common.{◌≡◌, ℕ, suc, ◌-◌, ◌<◌, ◌≤◌, List, [], ◌∷◌, ◌++◌, Ok, Err, length, map, reverse, refl, ap, sym, ◌∙◌, arith}
use Rattle.std.specs.Borrow.{Bor}
use Rattle.std.proofs.lemmas.List.{map-append, reverse-append, length-reverse, length-map}
use Rattle.vh_base.specs.declared.faults.DesignFault.TheVariants.{L3}
use Rattle.vh_lex.specs.declared.fault.Halt.{Halt}
use Rattle.vh_lex.specs.declared.fault.Halt.TheVariants as halt
use Rattle.vh_lex.specs.declared.piece.Part.{Part}
use Rattle.vh_lex.specs.declared.piece.Part.TheVariants as part
use Rattle.vh_lex.specs.Gathered.{Gathered}
use Rattle.vh_lex.specs.Spelling.{Around, Making, and_then, with_use, parts_made, expanded, most_levels}
use Rattle.vh_lex.specs.Uses.{frames_seen, used_in, finish, Pauses}
use Rattle.vh_lex.specs.Outcomes.{Makes}

-- A text at the end is the innermost
pub frames-push : (fs : List (Bor (List Part))) (f : Bor (List Part)) → frames_seen (fs ++ f ∷ []) ≡ f.now ∷ frames_seen fs
frames-push fs f = ap reverse (map-append (λ frame. frame.now) fs (f ∷ [])) ∙ reverse-append (map (λ frame. frame.now) fs) (f.now ∷ [])

-- A macro is used at a level that is left
pub used-deep : (around : Around) (depth : ℕ) (text : List Part) (m : Gathered) → 64 ≤ depth → used_in around depth text m ≡ Err L3
unfolding expanded
used-deep around depth text m h = let e : most_levels - depth ≡ 0 = omega arith in rw e refl

pub used-level : (around : Around) (depth : ℕ) (text : List Part) (m : Gathered) → depth < 64
    → used_in around depth text m ≡ and_then (with_use m) (parts_made (used_in around (suc depth)) around text)
unfolding expanded
used-level around depth text m h = let e : most_levels - depth ≡ suc (most_levels - suc depth) = omega arith in rw e refl

pub frames-length : (fs : List (Bor (List Part))) → length (frames_seen fs) ≡ length fs
frames-length fs = length-reverse (map (λ frame. frame.now) fs) ∙ length-map fs (λ frame. frame.now)

-- A use above the last level
pub deep-stops : (o : Making) (around : Around) (depth : ℕ) (text : List Part) (m : Gathered) (rest : Gathered → Making) → 64 ≤ depth → o ≡ and_then (used_in around depth text m) rest → o ≡ Err L3
deep-stops o around depth text m rest h e = e ∙ ap (λ (u : Making). and_then u rest) (used-deep around depth text m h)

-- A use that is one too many
pub count-stops : (o : Making) (around : Around) (depth : ℕ) (text : List Part) (m n k : Gathered) (rest : Gathered → Making) (e : Halt) → depth < 64 → o ≡ and_then (used_in around depth text m) rest
    → Makes (with_use m) (Err e) n → Makes o (Err e) k
count-stops o around depth text m n k rest (halt.Fault fault) low e h =
    e ∙ ap (λ (u : Making). and_then u rest) (used-level around depth text m low ∙ ap (λ (u : Making). and_then u (parts_made (used_in around (suc depth)) around text)) h)
count-stops o around depth text m n k rest halt.NoMemory low e h = tt

-- A use whose text is read now
pub use-begins : (o : Making) (around : Around) (fs new : List (Bor (List Part))) (f : Bor (List Part)) (m n : Gathered) → length fs < 64
    → o ≡ and_then (used_in around (length fs) f.now m) (finish around (frames_seen fs)) → with_use m ≡ Ok n → new ≡ fs ++ f ∷ [] → o ≡ finish around (frames_seen new) n
use-begins o around fs new f m n low e h same =
    e ∙ ap (λ (u : Making). and_then u (finish around (frames_seen fs))) (used-level around (length fs) f.now m low ∙ ap (λ (u : Making). and_then u (parts_made (used_in around (suc (length fs))) around f.now)) h)
    ∙ ap (λ (d : ℕ). and_then (parts_made (used_in around (suc d)) around f.now n) (finish around (frames_seen fs))) (sym (frames-length fs))
    ∙ ap (λ (frames : List (List Part)). finish around frames n) (sym (ap frames_seen same ∙ frames-push fs f))

-- A text that is not read to its end
pub text-stops : (o : Making) (around : Around) (old new : List (List Part)) (m n k : Gathered) (e : Halt) → o ≡ finish around old m → Pauses around old m (Err e) new n → Makes o (Err e) k
text-stops o around old new m n k (halt.Fault fault) e h = e ∙ h
text-stops o around old new m n k halt.NoMemory e h = tt
