-- Lemmas on `specs/Formats.antt`: what a format shows, byte by byte.
use Rattle.std.proofs.Common.{◌≡◌, ◌∙◌, ◌<◌, ◌≤◌, ◌+◌, ◌++◌, ℕ, List, [], length, get_or, drop, None, Some, sym, ap, append_assoc}
use Rattle.std.proofs.lemmas.List.{append-nil, at_drop_more, drop_all}
use Rattle.vh_display.specs.declared.conversion.Conversion.{Conversion}
use Rattle.vh_display.specs.declared.format.Mode.{Mode}
use Rattle.vh_display.specs.declared.format.Next.{Next}
use Rattle.vh_display.specs.declared.format.Next.TheVariants as next
use Rattle.vh_display.specs.Formats.{Front, step_of, with_text, behind, front}

abbrev from_parts : List ℕ → Front → Front
from_parts t f = record f { text = t }

-- A text before a text before what is left.
twice : (out t : List ℕ) (f : Front) → with_text (out ++ t) f ≡ with_text out (with_text t f)
twice out t f = ap (λ (x : List ℕ). from_parts x f) (append_assoc out t f.text)

-- The byte at a place, and what is behind it.
at_byte : (name bs : List ℕ) (m : Mode) (i d : ℕ) (out new : List ℕ) (n : Next) → i < length bs
    → new ≡ out ++ (step_of name m (get_or bs i d)).text → n ≡ (step_of name m (get_or bs i d)).next
    → with_text new (behind (λ k. front name k (drop (i + 1) bs)) (drop (i + 1) bs) n)
    ≡ with_text out (front name m (drop i bs))
unfolding front
at_byte name bs m i d out new n inside text on =
    let s = step_of name m (get_or bs i d) in
    let rest : Next → Front = behind (λ k. front name k (drop (i + 1) bs)) (drop (i + 1) bs) in
    ap (λ (x : List ℕ). with_text x (rest n)) text
    ∙ ap (λ (k : Next). with_text (out ++ s.text) (rest k)) on
    ∙ twice out s.text (rest s.next)
    ∙ sym (at_drop_more (λ (ys : List ℕ). with_text out (front name m ys)) bs i d inside)

pub front_on : (name bs : List ℕ) (m k : Mode) (i d : ℕ) (out new : List ℕ) (n : Next) → i < length bs
    → new ≡ out ++ (step_of name m (get_or bs i d)).text → n ≡ (step_of name m (get_or bs i d)).next → n ≡ next.On k
    → with_text new (front name k (drop (i + 1) bs)) ≡ with_text out (front name m (drop i bs))
front_on name bs m k i d out new n inside text on is =
    ap (λ (x : Next). with_text new (behind (λ q. front name q (drop (i + 1) bs)) (drop (i + 1) bs) x)) (sym is)
    ∙ at_byte name bs m i d out new n inside text on

pub front_wants : (name bs : List ℕ) (m : Mode) (c : Conversion) (i d : ℕ) (out new : List ℕ) (n : Next) → i < length bs
    → new ≡ out ++ (step_of name m (get_or bs i d)).text → n ≡ (step_of name m (get_or bs i d)).next → n ≡ next.Wants c
    → record { text = new; wants = Some (c, drop (i + 1) bs) } ≡ with_text out (front name m (drop i bs))
front_wants name bs m c i d out new n inside text on is =
    ap (λ (x : List ℕ). from_parts x (record { text = []; wants = Some (c, drop (i + 1) bs) })) (sym (append-nil new))
    ∙ ap (λ (x : Next). with_text new (behind (λ q. front name q (drop (i + 1) bs)) (drop (i + 1) bs) x)) (sym is)
    ∙ at_byte name bs m i d out new n inside text on

pub front_end : (name bs : List ℕ) (m : Mode) (i : ℕ) (out : List ℕ) → length bs ≤ i
    → record { text = out; wants = None } ≡ with_text out (front name m (drop i bs))
unfolding front
front_end name bs m i out past =
    ap (λ (x : List ℕ). from_parts x (record { text = []; wants = None })) (sym (append-nil out))
    ∙ sym (ap (λ (ys : List ℕ). with_text out (front name m ys)) (drop_all i bs past))
