-- Lemmas on `specs/Cycles.antt`: a way leads from a node to itself, ways are joined, and what holds along each edge holds along a way.
use Rattle.std.proofs.Common.{◌≡◌, ◌⊎◌, ◌∙◌, ℕ, Bool, true, false, ◌||◌, ◌&&◌, nat_eq, List, [], ◌∷◌, refl, sym, ap, inl, inr, ⊎_elim}
use Rattle.std.proofs.lemmas.Bool.Decides.{Decides-eqb}
use Rattle.vh_elab_cycles.specs.Cycles.{Edge, leads}

pub same-itself : (a : ℕ) → nat_eq a a ≡ true
same-itself a = (Decides-eqb a a).1 refl

pub same-nodes : (a b : ℕ) → nat_eq a b ≡ true → a ≡ b
same-nodes a b h = (Decides-eqb a b).0 h

pub or_left : (a b : Bool) → a ≡ true → (a || b) ≡ true
or_left true b h = refl
or_left false b h = absurd (cc)

pub or_right : (a b : Bool) → b ≡ true → (a || b) ≡ true
or_right true b h = refl
or_right false b h = h

pub or_cases : (a b : Bool) → (a || b) ≡ true → (a ≡ true) ⊎ (b ≡ true)
or_cases true b h = inl refl
or_cases false b h = inr h

pub and_both : (a b : Bool) → a ≡ true → b ≡ true → (a && b) ≡ true
and_both true b h i = i
and_both false b h i = absurd (cc)

pub and_parts : (a b : Bool) → (a && b) ≡ true → (a ≡ true) × (b ≡ true)
and_parts true b h = (refl, h)
and_parts false b h = absurd (cc)

-- Two tests that hold together.
pub same_tests : (a b : Bool) → (a ≡ true → b ≡ true) → (b ≡ true → a ≡ true) → a ≡ b
same_tests true true h i = refl
same_tests true false h i = sym (h refl)
same_tests false true h i = i refl
same_tests false false h i = refl

pub leads-itself : (es : List Edge) (a : ℕ) → leads nat_eq es a a ≡ true
unfolding leads
leads-itself [] a = same-itself a
leads-itself (e ∷ es) a = or_left (leads nat_eq es a a) _ (leads-itself es a)

pub leads-more : (e : Edge) (es : List Edge) (a b : ℕ) → leads nat_eq es a b ≡ true → leads nat_eq (e ∷ es) a b ≡ true
unfolding leads
leads-more e es a b h = or_left (leads nat_eq es a b) _ h

pub leads-over : (e : Edge) (es : List Edge) (a b : ℕ) → leads nat_eq es a e.0 ≡ true → leads nat_eq es e.1 b ≡ true
    → leads nat_eq (e ∷ es) a b ≡ true
unfolding leads
leads-over e es a b h i = or_right (leads nat_eq es a b) _ (and_both (leads nat_eq es a e.0) (leads nat_eq es e.1 b) h i)

-- Over the others, or also over the first.
pub leads-cases : (e : Edge) (es : List Edge) (a b : ℕ) → leads nat_eq (e ∷ es) a b ≡ true
    → (leads nat_eq es a b ≡ true) ⊎ ((leads nat_eq es a e.0 ≡ true) × (leads nat_eq es e.1 b ≡ true))
unfolding leads
leads-cases e es a b h =
    ⊎_elim (λ w. inl w) (λ w. inr (and_parts (leads nat_eq es a e.0) (leads nat_eq es e.1 b) w))
    (or_cases (leads nat_eq es a b) (leads nat_eq es a e.0 && leads nat_eq es e.1 b) h)

pub leads-none : (a b : ℕ) → leads nat_eq [] a b ≡ true → a ≡ b
unfolding leads
leads-none a b h = same-nodes a b h

pub leads-joined : (es : List Edge) (a b c : ℕ) → leads nat_eq es a b ≡ true → leads nat_eq es b c ≡ true → leads nat_eq es a c ≡ true
leads-joined [] a b c h i = ap (λ x. leads nat_eq [] x c) (leads-none a b h) ∙ i
leads-joined (e ∷ es) a b c h i =
    joined (λ x y z v w. leads-joined es x y z v w) (leads-cases e es a b h) (leads-cases e es b c i)
  where
    joined : ((x y z : ℕ) → leads nat_eq es x y ≡ true → leads nat_eq es y z ≡ true → leads nat_eq es x z ≡ true)
        → (leads nat_eq es a b ≡ true) ⊎ ((leads nat_eq es a e.0 ≡ true) × (leads nat_eq es e.1 b ≡ true))
        → (leads nat_eq es b c ≡ true) ⊎ ((leads nat_eq es b e.0 ≡ true) × (leads nat_eq es e.1 c ≡ true))
        → leads nat_eq (e ∷ es) a c ≡ true
    joined more (inl v) (inl w) = leads-more e es a c (more a b c v w)
    joined more (inl v) (inr w) = leads-over e es a c (more a b e.0 v w.0) w.1
    joined more (inr v) (inl w) = leads-over e es a c v.0 (more e.1 b c v.1 w)
    joined more (inr v) (inr w) = leads-over e es a c v.0 w.1

-- What holds of an edge's end where it holds of its beginning.
abbrev pub Kept : (ℕ → Bool) → List Edge → Type 0
Kept P [] = Unit {0}
Kept P (e ∷ es) = (P e.0 ≡ true → P e.1 ≡ true) × Kept P es

pub leads-kept : (P : ℕ → Bool) (es : List Edge) → Kept P es → (a b : ℕ) → leads nat_eq es a b ≡ true → P a ≡ true → P b ≡ true
leads-kept P [] k a b h p = ap P (sym (leads-none a b h)) ∙ p
leads-kept P (e ∷ es) k a b h p =
    ⊎_elim (λ w. leads-kept P es k.1 a b w p)
    (λ w. leads-kept P es k.1 e.1 b w.1 (k.0 (leads-kept P es k.1 a e.0 w.0 p)))
    (leads-cases e es a b h)
