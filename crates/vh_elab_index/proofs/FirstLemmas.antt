-- Lemmas on `specs/First.antt`: a look-up among rows as they are seen, and one name more.
use Rattle.std.proofs.Common.{◌≡◌, ◌∙◌, ◌++◌, ◌+◌, ℕ, suc, Bool, true, false, cond, List, [], ◌∷◌, length, Vec, Option, Some, None, refl, ap, sym, arith}
use Rattle.std.specs.Prelude.{bytes_eq}
use Rattle.std.proofs.lemmas.Slice.Eq.{bytes_eq-Decides}
use Rattle.std.specs.Borrow.{Bor}
use Rattle.std.specs.Option.{is_some, option_copied}
use Rattle.std.specs.Map.{lookup}
use Rattle.indexmap.specs.IndexMap.{insert_entry}
use Rattle.vh_elab_index.specs.First.{position_from, position_in, IsIndexOf}
use Rattle.vh_elab_index.specs.Views.{rows_seen}

pub rows-lookup : {A : Type 0} (name : List ℕ) (rows : List (Vec ℕ A × ℕ))
    → lookup (λ k. bytes_eq name k.items) rows ≡ lookup (bytes_eq name) (rows_seen rows)
rows-lookup name [] = refl
rows-lookup {A} name (e ∷ es) = ap (cond (bytes_eq name e.0.items) (Some e.1)) (rows-lookup name es)

-- The position of a name behind which another one stands.
abbrev or_last : Option ℕ → Bool → ℕ → Option ℕ
or_last (Some k) b n = Some k
or_last None b n = cond b (Some n) None

position-more : (n m : ℕ) (names : List (List ℕ)) (x name : List ℕ) → m ≡ n + length names
    → position_from n (names ++ x ∷ []) name ≡ or_last (position_from n names name) (bytes_eq name x) m
position-more n m [] x name is =
    let same : n ≡ m = grind (arith, is) in ap (λ k. cond (bytes_eq name x) (Some k) None) same
position-more n m (y ∷ ys) x name is =
    let next : m ≡ suc n + length ys = grind (arith, is) in
    at_first (bytes_eq name y) (position-more (suc n) m ys x name next)
  where
    at_first : (b : Bool)
        → position_from (suc n) (ys ++ x ∷ []) name ≡ or_last (position_from (suc n) ys name) (bytes_eq name x) m
        → cond b (Some n) (position_from (suc n) (ys ++ x ∷ []) name)
        ≡ or_last (cond b (Some n) (position_from (suc n) ys name)) (bytes_eq name x) m
    at_first true rest = refl
    at_first false rest = rest

position-last : (names : List (List ℕ)) (x name : List ℕ)
    → position_in (names ++ x ∷ []) name ≡ or_last (position_in names name) (bytes_eq name x) (length names)
position-last names x name =
    let same : length names ≡ 0 + length names = grind (arith) in position-more 0 (length names) names x name same

-- Rows have the position of each name: with the position of a name that is there already another one changes nothing, and else its row goes last.
abbrev in_rows : Bool → ℕ → Option ℕ → Option ℕ
in_rows b n (Some k) = Some k
in_rows b n None = cond b (Some n) None

pub rows-more : {A : Type 0} (eq : Vec ℕ A → Vec ℕ A → Bool) → ((x y : Vec ℕ A) → eq x y ≡ bytes_eq x.items y.items)
    → (rows : List (Vec ℕ A × ℕ)) (k : Vec ℕ A) (n : ℕ)
    → lookup (bytes_eq k.items) (rows_seen rows) ≡ None
    → rows_seen (insert_entry eq rows k n) ≡ rows_seen rows ++ (k.items, n) ∷ []
rows-more eq same [] k n h = refl
rows-more {A} eq same (e ∷ es) k n h =
    at_first (eq k e.0) (bytes_eq k.items e.0.items) (same k e.0) h (rows-more eq same es k n)
  where
    at_first : (b d : Bool) → b ≡ d → cond d (Some e.1) (lookup (bytes_eq k.items) (rows_seen es)) ≡ None
        → (lookup (bytes_eq k.items) (rows_seen es) ≡ None → rows_seen (insert_entry eq es k n) ≡ rows_seen es ++ (k.items, n) ∷ [])
        → rows_seen (cond b ((e.0, n) ∷ es) (e ∷ insert_entry eq es k n)) ≡ (e.0.items, e.1) ∷ (rows_seen es ++ (k.items, n) ∷ [])
    at_first true true is none rest = absurd (cc)
    at_first false false is none rest = ap (λ rows. (e.0.items, e.1) ∷ rows) (rest none)
    at_first true false is none rest = absurd (cc)
    at_first false true is none rest = absurd (cc)

lookup-last : (rows : List (List ℕ × ℕ)) (x name : List ℕ) (n : ℕ)
    → lookup (bytes_eq name) (rows ++ (x, n) ∷ []) ≡ in_rows (bytes_eq name x) n (lookup (bytes_eq name) rows)
lookup-last [] x name n = refl
lookup-last (e ∷ es) x name n = at_first (bytes_eq name e.0) (lookup-last es x name n)
  where
    at_first : (b : Bool)
        → lookup (bytes_eq name) (es ++ (x, n) ∷ []) ≡ in_rows (bytes_eq name x) n (lookup (bytes_eq name) es)
        → cond b (Some e.1) (lookup (bytes_eq name) (es ++ (x, n) ∷ []))
        ≡ in_rows (bytes_eq name x) n (cond b (Some e.1) (lookup (bytes_eq name) es))
    at_first true rest = refl
    at_first false rest = rest

or-same : (o : Option ℕ) (b : Bool) (n : ℕ) → in_rows b n o ≡ or_last o b n
or-same (Some k) b n = refl
or-same None b n = refl

-- A name that isn't there yet.
pub index-new : (names : List (List ℕ)) (rows : List (List ℕ × ℕ)) (x : List ℕ)
    → IsIndexOf names rows → IsIndexOf (names ++ x ∷ []) (rows ++ (x, length names) ∷ [])
index-new names rows x is name =
    lookup-last rows x name (length names)
    ∙ ap (in_rows (bytes_eq name x) (length names)) (is name)
    ∙ or-same (position_in names name) (bytes_eq name x) (length names)
    ∙ sym (position-last names x name)

none_some : {k : ℕ} (o : Option ℕ) → o ≡ None → o ≡ Some k → ⊥
none_some None h i = absurd (cc)
none_some (Some n) h i = absurd (cc)

-- One that is.
pub index-old : (names : List (List ℕ)) (rows : List (List ℕ × ℕ)) (x : List ℕ) (k : ℕ)
    → position_in names x ≡ Some k → IsIndexOf names rows → IsIndexOf (names ++ x ∷ []) rows
index-old names rows x k there is name =
    is name ∙ at_same (bytes_eq name x) refl (position_in names name) refl ∙ sym (position-last names x name)
  where
    at_same : (b : Bool) → bytes_eq name x ≡ b → (o : Option ℕ) → position_in names name ≡ o
        → position_in names name ≡ or_last (position_in names name) (bytes_eq name x) (length names)
    at_same b eq (Some p) found = found ∙ sym (ap (λ q. or_last q (bytes_eq name x) (length names)) found)
    at_same false eq None found =
        found ∙ sym (ap (λ q. or_last q (bytes_eq name x) (length names)) found ∙ ap (λ c. or_last None c (length names)) eq)
    at_same true eq None found = absurd (none_some (position_in names x)
        (sym (ap (position_in names) ((bytes_eq-Decides name x).0 eq)) ∙ found) there)

-- A table with a row for a name that wasn't there.
pub rows-new : {A : Type 0} (eq : Vec ℕ A → Vec ℕ A → Bool) → ((x y : Vec ℕ A) → eq x y ≡ bytes_eq x.items y.items)
    → (names new_names : List (List ℕ)) (rows new_rows : List (Vec ℕ A × ℕ)) (k : Vec ℕ A) (x : List ℕ) (n : ℕ)
    → IsIndexOf names (rows_seen rows) → k.items ≡ x → n ≡ length names → position_in names x ≡ None
    → new_rows ≡ insert_entry eq rows k n → new_names ≡ names ++ x ∷ []
    → IsIndexOf new_names (rows_seen new_rows)
rows-new eq same names new_names rows new_rows k x n is key count none by_rows by_names name =
    ap (λ r. lookup (bytes_eq name) (rows_seen r)) by_rows
    ∙ ap (lookup (bytes_eq name)) (rows-more eq same rows k n (is k.items ∙ ap (position_in names) key ∙ none))
    ∙ ap (λ y. lookup (bytes_eq name) (rows_seen rows ++ (y, n) ∷ [])) key
    ∙ ap (λ m. lookup (bytes_eq name) (rows_seen rows ++ (x, m) ∷ [])) count
    ∙ index-new names (rows_seen rows) x is name
    ∙ sym (ap (λ ns. position_in ns name) by_names)

-- What a look-up by reference answers.
pub copied-none : (o : Option (Bor ℕ)) → is_some o ≡ false → option_copied o ≡ None
copied-none None h = refl
copied-none (Some b) h = absurd (cc)

pub copied-some : (o : Option (Bor ℕ)) → is_some o ≡ true → (k : ℕ) × (option_copied o ≡ Some k)
copied-some None h = absurd (cc)
copied-some (Some b) h = (b.now, refl)

-- And the same table where it was.
pub rows-old : {A : Type 0} (names new_names : List (List ℕ)) (rows new_rows : List (Vec ℕ A × ℕ)) (x : List ℕ) (k : ℕ)
    → IsIndexOf names (rows_seen rows) → position_in names x ≡ Some k → new_rows ≡ rows → new_names ≡ names ++ x ∷ []
    → IsIndexOf new_names (rows_seen new_rows)
rows-old names new_names rows new_rows x k is there by_rows by_names name =
    ap (λ r. lookup (bytes_eq name) (rows_seen r)) by_rows
    ∙ index-old names (rows_seen rows) x k there is name
    ∙ sym (ap (λ ns. position_in ns name) by_names)
