-- What was written after two writes, and what is held then.
use Rattle.std.proofs.Common.{◌≡◌, [], ℕ, ◌+◌, ◌-◌, length, arith, length-drop, List, ◌++◌, Option, Some, None, take, drop, refl, ap, sym, ◌∙◌, append_assoc, append-nil}
use Rattle.std.proofs.lemmas.List.{take_all}
use Rattle.std.proofs.Math.Seq.{take-add, take-append-add}
use Rattle.vh_base.specs.Outside.{appended, AppendsFront}
use Rattle.vh_base_outside.specs.Kept.{Kept}

-- Two writes are one of both pieces.
pub appended_twice : (o : Option (List ℕ)) (a b : List ℕ) → appended (appended o a) b ≡ appended o (a ++ b)
appended_twice None a b = refl
appended_twice (Some old) a b = ap Some (append_assoc old a b)

-- A front, and then a front of the rest, are a longer front.
pub appended_front : (new mid old : Option (List ℕ)) (n k : ℕ) (piece : List ℕ)
    → new ≡ appended mid (take k (drop n piece)) → mid ≡ appended old (take n piece) → new ≡ appended old (take (n + k) piece)
appended_front new mid old n k piece last first =
    last ∙ ap (λ (w : Option (List ℕ)). appended w (take k (drop n piece))) first
    ∙ appended_twice old (take n piece) (take k (drop n piece)) ∙ ap (λ (w : List ℕ). appended old w) (sym (take-add n k piece))

-- The rest of a piece from a place on, as it is sliced.
pub sliced_rest : (n : ℕ) (piece : List ℕ) → take (length piece - n) (drop n piece) ≡ drop n piece
sliced_rest n piece = take_all (length piece - n) (drop n piece) (rw (length-drop n piece) (omega arith))

-- Nothing more is written.
pub appended_nothing : (o : Option (List ℕ)) → appended o [] ≡ o
appended_nothing None = refl
appended_nothing (Some old) = ap Some (append-nil old)

-- Nothing was written, and all is held.
pub kept_all : (o : Option (List ℕ)) (bytes : List ℕ) → Kept o o bytes bytes
kept_all None bytes = ([], refl, refl)
kept_all (Some old) bytes = ([], ap Some (sym (append-nil old)), refl)

-- A front of what is held is written once more.
pub front_of_kept : (old mid new : Option (List ℕ)) (held bytes : List ℕ)
    → Kept old mid held bytes → AppendsFront mid new held → AppendsFront old new bytes
front_of_kept old mid new held bytes (front, first, whole) (part, last) = (
  length front + part,
  last ∙ ap (λ (w : Option (List ℕ)). appended w (take part held)) first ∙ appended_twice old front (take part held)
      ∙ ap (λ (w : List ℕ). appended old w) (sym (take-append-add front held part) ∙ ap (λ (w : List ℕ). take (length front + part) w) whole),
)

-- All that is held is written once more.
pub all_of_kept : (old mid new : Option (List ℕ)) (held bytes rest : List ℕ)
    → Kept old mid held bytes → new ≡ appended mid held → rest ≡ [] → Kept old new rest bytes
all_of_kept old mid new held bytes rest (front, first, whole) last none = (
  bytes,
  last ∙ ap (λ (w : Option (List ℕ)). appended w held) first ∙ appended_twice old front held
      ∙ ap (λ (w : List ℕ). appended old w) whole,
  ap (λ (w : List ℕ). bytes ++ w) none ∙ append-nil bytes,
)

-- All that was held is written, and then a piece, or a front of it.
pub kept_whole : (old mid new : Option (List ℕ)) (bytes piece rest : List ℕ)
    → mid ≡ appended old bytes → new ≡ appended mid piece → rest ≡ [] → Kept old new rest (bytes ++ piece)
kept_whole old mid new bytes piece rest first last none =
    all_of_kept old mid new piece (bytes ++ piece) rest (bytes, first, refl) last none

pub front_whole : (old mid new : Option (List ℕ)) (bytes piece : List ℕ)
    → mid ≡ appended old bytes → AppendsFront mid new piece → AppendsFront old new (bytes ++ piece)
front_whole old mid new bytes piece first front =
    front_of_kept old mid new piece (bytes ++ piece) (bytes, first, refl) front
