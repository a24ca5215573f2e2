-- Lemmas on `specs/Numbers.antt`: a table, and one procedure more.
use Rattle.std.proofs.Common.{◌≡◌, ◌∙◌, ℕ, suc, ◌+◌, ◌++◌, Bool, true, false, cond, not, List, [], ◌∷◌, length, Vec, Option, None, Some, option_map, is_some, position, ltb, true≢false, refl, sym, ap, arith}
use Rattle.std.specs.Prelude.{bytes_eq}
use Rattle.std.specs.Cmp.Lexicographic.{nat_list_eq_equiv}
use Rattle.std.specs.List.{position_or_len}
use Rattle.std.specs.Map.{lookup}
use Rattle.std.proofs.lemmas.Bool.Decides.{nat_tests}
use Rattle.std.proofs.lemmas.Slice.Eq.{bytes_eq-Decides}
use Rattle.vh_app.specs.declared.form.Procedure.{Procedure}
use Rattle.vh_app.specs.Numbers.{number_listed, Adds}

-- What is found, or else the last one where that passes.
abbrev or_last : Option ℕ → Bool → ℕ → Option ℕ
or_last (Some k) b n = Some k
or_last None b n = cond b (Some n) None

position-next : {X : Type 0} (p : X → Bool) (x : X) (xs : List X)
    → position p (x ∷ xs) ≡ cond (p x) (Some 0) (option_map suc (position p xs))
position-next p x xs = by (p x)
  where
    by : (b : Bool)
        → cond (ltb (cond (not b) (1 + position_or_len p xs) 0) (suc (length xs))) (Some (cond (not b) (1 + position_or_len p xs) 0)) None
        ≡ cond b (Some 0) (option_map suc (cond (ltb (position_or_len p xs) (length xs)) (Some (position_or_len p xs)) None))
    by true = grind (arith, nat_tests)
    by false = grind (arith, nat_tests)

position-last : {X : Type 0} (p : X → Bool) (xs : List X) (y : X)
    → position p (xs ++ y ∷ []) ≡ or_last (position p xs) (p y) (length xs)
position-last p [] y = position-next p y []
position-last p (x ∷ xs) y =
    position-next p x (xs ++ y ∷ [])
    ∙ ap (λ (o : Option ℕ). cond (p x) (Some 0) (option_map suc o)) (position-last p xs y)
    ∙ by (p x) (position p xs) (p y)
    ∙ sym (ap (λ (o : Option ℕ). or_last o (p y) (suc (length xs))) (position-next p x xs))
  where
    by : (b : Bool) (o : Option ℕ) (c : Bool)
        → cond b (Some 0) (option_map suc (or_last o c (length xs)))
        ≡ or_last (cond b (Some 0) (option_map suc o)) c (suc (length xs))
    by true o c = refl
    by false (Some k) c = refl
    by false None true = refl
    by false None false = refl

lookup-last : {K : Type 0} (test : K → Bool) (rows : List (K × ℕ)) (k : K) (n : ℕ)
    → lookup test (rows ++ (k, n) ∷ []) ≡ or_last (lookup test rows) (test k) n
lookup-last test [] k n = refl
lookup-last test (r ∷ rs) k n = by (test r.0) (lookup-last test rs k n)
  where
    by : (b : Bool) → lookup test (rs ++ (k, n) ∷ []) ≡ or_last (lookup test rs) (test k) n
        → cond b (Some r.1) (lookup test (rs ++ (k, n) ∷ [])) ≡ or_last (cond b (Some r.1) (lookup test rs)) (test k) n
    by true rest = refl
    by false rest = rest

-- One of a name that isn't there yet goes last.
pub adds-new : {A : Type 0} (n : ℕ) (p : Procedure) (old new : List (Vec ℕ A × ℕ)) (k : Vec ℕ A) → k.items ≡ p.name
    → new ≡ old ++ (k, n) ∷ [] → Adds n p old new
adds-new {A = A} n p old new k key rows procedures count is name =
    ap (λ (rs : List (Vec ℕ A × ℕ)). number_listed rs name) rows
    ∙ lookup-last (λ x. bytes_eq name x.items) old k n
    ∙ ap (λ (o : Option ℕ). or_last o (bytes_eq name k.items) n) (is name)
    ∙ ap (λ (b : Bool). or_last found b n) (ap (bytes_eq name) key ∙ nat_list_eq_equiv.symm name p.name)
    ∙ ap (λ (m : ℕ). or_last found (bytes_eq p.name name) m) (sym count)
    ∙ sym (position-last (λ (q : Procedure). bytes_eq q.name name) procedures p)
  where
    found : Option ℕ
    found = position (λ (q : Procedure). bytes_eq q.name name) procedures

-- With one whose name is there the table stays as it is.
pub adds-again : {A : Type 0} (n : ℕ) (p : Procedure) (rows : List (Vec ℕ A × ℕ)) → is_some (number_listed rows p.name) ≡ true
    → Adds n p rows rows
adds-again n p rows there procedures count is name =
    is name
    ∙ by (bytes_eq p.name name) refl (position (λ (q : Procedure). bytes_eq q.name name) procedures) (sym (is name))
    ∙ sym (position-last (λ (q : Procedure). bytes_eq q.name name) procedures p)
  where
    by : (b : Bool) → bytes_eq p.name name ≡ b → (o : Option ℕ) → o ≡ number_listed rows name → o ≡ or_last o b (length procedures)
    by b same (Some k) e = refl
    by false same None e = refl
    by true same None e = absurd (true≢false
        (sym there ∙ ap (λ (t : List ℕ). is_some (number_listed rows t)) ((bytes_eq-Decides p.name name).0 same) ∙ ap is_some (sym e)))

-- What isn't listed has no number.
pub not-listed : (o : Option ℕ) → is_some o ≡ false → o ≡ None
not-listed None none = refl
not-listed (Some n) none = absurd (true≢false none)
