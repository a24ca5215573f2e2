-- A list of entries by rising number, after one more, after one less, and after one has another thing.
use Rattle.std.proofs.Common.{◌≡◌, ℕ, suc, ◌+◌, ◌<◌, ◌≤◌, List, [], ◌∷◌, length, Bool, true, false, cond, nat_eq, nat_lt, Option, Some, None, Less, Equal, Greater, refl, sym, ap, ◌∙◌, arith}
use Rattle.std.proofs.lemmas.Bool.{eqb-true, eqb-false, eq-eqb, ne_eqb, ltb-true, ltb-false}
use Rattle.std.specs.BTreeMap.{is_at, insert_entry}
use Rattle.std.specs.Map.{lookup, remove_entry, set_value}
use Rattle.std.specs.Ordering.{nat_cmp, match_ordering, is_eq}
use Rattle.vh_handles.specs.declared.handles.Thing.{Thing}
use Rattle.vh_handles.specs.Laws.{NumbersRise}

at_by : (b d : Bool) → (b ≡ true → d ≡ false) → is_eq (cond b Less (cond d Equal Greater)) ≡ d
at_by true true h = sym (h refl)
at_by true false h = refl
at_by false true h = refl
at_by false false h = refl

-- A look-up's test is that the numbers are one.
pub at_eq : (c k : ℕ) → is_at (nat_cmp c) k ≡ nat_eq c k
at_eq c k = at_by (nat_lt c k) (nat_eq c k) (λ h. ne_eqb c k (λ e. omega (arith, ltb-true c k h)))

pub at_apart : (c k : ℕ) → (c ≡ k → ⊥) → is_at (nat_cmp c) k ≡ false
at_apart c k apart = at_eq c k ∙ ne_eqb c k apart

pub at_same : (c k : ℕ) → c ≡ k → is_at (nat_cmp c) k ≡ true
at_same c k same = at_eq c k ∙ eq-eqb c k same

both : (h k : ℕ) → h ≡ k → nat_eq h k ≡ false → ⊥
both h k same apart = eqb-false h k apart same

-- The entries, after one more,
abbrev pub one_more_by : Bool → Bool → ℕ → Thing → ℕ × Thing → List (ℕ × Thing) → List (ℕ × Thing)
one_more_by b d h t e es =
    match_ordering (cond b Less (cond d Equal Greater)) ((h, t) ∷ e ∷ es) ((e.0, t) ∷ es) (e ∷ insert_entry nat_cmp es h t)

above : (h n : ℕ) → n ≤ h → (h ≡ n → ⊥) → n + 1 ≤ h
above h n more apart = omega arith

climb_more_by : (b d : Bool) (least h : ℕ) (t : Thing) (e : ℕ × Thing) (es : List (ℕ × Thing)) → nat_lt h e.0 ≡ b → nat_eq h e.0 ≡ d
    → least ≤ h → NumbersRise least (e ∷ es) → (e.0 + 1 ≤ h → NumbersRise (e.0 + 1) (insert_entry nat_cmp es h t))
    → NumbersRise least (one_more_by b d h t e es)
climb_more_by true d least h t e es below is from climb rest =
    let less : h < e.0 = ltb-true h e.0 below in (from, (omega arith, climb.1))
climb_more_by false true least h t e es below is from climb rest = climb
climb_more_by false false least h t e es below is from climb rest =
    let more : e.0 ≤ h = ltb-false h e.0 below in
    let apart = eqb-false h e.0 is in
    (climb.0, rest (above h e.0 more apart))

pub climb_more : (least h : ℕ) (t : Thing) (es : List (ℕ × Thing)) → least ≤ h → NumbersRise least es → NumbersRise least (insert_entry nat_cmp es h t)
climb_more least h t [] from climb = (from, tt)
climb_more least h t (e ∷ es) from climb =
    climb_more_by (nat_lt h e.0) (nat_eq h e.0) least h t e es refl refl from climb (λ over. climb_more (e.0 + 1) h t es over climb.1)

other_more_by : (b d : Bool) (q h : ℕ) (t : Thing) (e : ℕ × Thing) (es : List (ℕ × Thing)) → nat_eq h e.0 ≡ d → nat_eq q h ≡ false
    → lookup (is_at (nat_cmp q)) (insert_entry nat_cmp es h t) ≡ lookup (is_at (nat_cmp q)) es
    → lookup (is_at (nat_cmp q)) (one_more_by b d h t e es) ≡ lookup (is_at (nat_cmp q)) (e ∷ es)
other_more_by true d q h t e es is apart rest = rw (at_eq q h, apart) refl
other_more_by false true q h t e es is apart rest =
    let same : h ≡ e.0 = eqb-true h e.0 is in
    let none : is_at (nat_cmp q) e.0 ≡ false = at_apart q e.0 (λ other. eqb-false q h apart (other ∙ sym same)) in
    rw none refl
other_more_by false false q h t e es is apart rest =
    ap (λ (o : Option Thing). cond (is_at (nat_cmp q) e.0) (Some e.1) o) rest

pub other_more : (q h : ℕ) (t : Thing) (es : List (ℕ × Thing)) → nat_eq q h ≡ false
    → lookup (is_at (nat_cmp q)) (insert_entry nat_cmp es h t) ≡ lookup (is_at (nat_cmp q)) es
other_more q h t [] apart = rw (at_eq q h, apart) refl
other_more q h t (e ∷ es) apart =
    other_more_by (nat_lt h e.0) (nat_eq h e.0) q h t e es refl apart (other_more q h t es apart)

-- And after one is gone.
climb_from : (least lower : ℕ) (es : List (ℕ × Thing)) → lower ≤ least → NumbersRise least es → NumbersRise lower es
climb_from least lower [] below climb = tt
climb_from least lower (e ∷ es) below climb = (let h = climb.0 in omega arith, climb.1)

climb_less_by : (b : Bool) (least : ℕ) (e : ℕ × Thing) (es rest : List (ℕ × Thing)) → NumbersRise least (e ∷ es) → NumbersRise (e.0 + 1) rest
    → NumbersRise least (cond b es (e ∷ rest))
climb_less_by true least e es rest climb kept = climb_from (e.0 + 1) least es (let h = climb.0 in omega arith) climb.1
climb_less_by false least e es rest climb kept = (climb.0, kept)

pub climb_less : (least h : ℕ) (es : List (ℕ × Thing)) → NumbersRise least es → NumbersRise least (remove_entry (is_at (nat_cmp h)) es)
climb_less least h [] climb = tt
climb_less least h (e ∷ es) climb =
    climb_less_by (is_at (nat_cmp h) e.0) least e es (remove_entry (is_at (nat_cmp h)) es) climb (climb_less (e.0 + 1) h es climb.1)

none_below : (h least : ℕ) (es : List (ℕ × Thing)) → h < least → NumbersRise least es → lookup (is_at (nat_cmp h)) es ≡ None
none_below h least [] below climb = refl
none_below h least (e ∷ es) below climb =
    let apart : (h ≡ e.0 → ⊥) = (λ same. (let k = climb.0 in omega arith)) in
    rw (at_apart h e.0 apart) (none_below h (e.0 + 1) es (let k = climb.0 in omega arith) climb.1)

same_less_by : (b : Bool) (h least : ℕ) (e : ℕ × Thing) (es rest : List (ℕ × Thing)) → is_at (nat_cmp h) e.0 ≡ b → NumbersRise least (e ∷ es)
    → lookup (is_at (nat_cmp h)) rest ≡ None → lookup (is_at (nat_cmp h)) (cond b es (e ∷ rest)) ≡ None
same_less_by true h least e es rest is climb gone =
    let same : h ≡ e.0 = eqb-true h e.0 (sym (at_eq h e.0) ∙ is) in none_below h (e.0 + 1) es (omega arith) climb.1
same_less_by false h least e es rest is climb gone = rw is gone

pub same_less : (h least : ℕ) (es : List (ℕ × Thing)) → NumbersRise least es → lookup (is_at (nat_cmp h)) (remove_entry (is_at (nat_cmp h)) es) ≡ None
same_less h least [] climb = refl
same_less h least (e ∷ es) climb =
    same_less_by (is_at (nat_cmp h) e.0) h least e es (remove_entry (is_at (nat_cmp h)) es) refl climb (same_less h (e.0 + 1) es climb.1)

other_less_by : (b : Bool) (q h : ℕ) (e : ℕ × Thing) (es rest : List (ℕ × Thing)) → is_at (nat_cmp h) e.0 ≡ b → nat_eq q h ≡ false
    → lookup (is_at (nat_cmp q)) rest ≡ lookup (is_at (nat_cmp q)) es
    → lookup (is_at (nat_cmp q)) (cond b es (e ∷ rest)) ≡ lookup (is_at (nat_cmp q)) (e ∷ es)
other_less_by true q h e es rest is apart kept =
    let same : h ≡ e.0 = eqb-true h e.0 (sym (at_eq h e.0) ∙ is) in
    let none : is_at (nat_cmp q) e.0 ≡ false = at_apart q e.0 (λ other. eqb-false q h apart (other ∙ sym same)) in
    rw none refl
other_less_by false q h e es rest is apart kept =
    ap (λ (o : Option Thing). cond (is_at (nat_cmp q) e.0) (Some e.1) o) kept

pub other_less : (q h : ℕ) (es : List (ℕ × Thing)) → nat_eq q h ≡ false
    → lookup (is_at (nat_cmp q)) (remove_entry (is_at (nat_cmp h)) es) ≡ lookup (is_at (nat_cmp q)) es
other_less q h [] apart = refl
other_less q h (e ∷ es) apart =
    other_less_by (is_at (nat_cmp h) e.0) q h e es (remove_entry (is_at (nat_cmp h)) es) refl apart (other_less q h es apart)

-- A number that is given names its thing.
same_more_by : (b d : Bool) (h : ℕ) (t : Thing) (e : ℕ × Thing) (es : List (ℕ × Thing)) → nat_eq h e.0 ≡ d
    → lookup (is_at (nat_cmp h)) (insert_entry nat_cmp es h t) ≡ Some t
    → lookup (is_at (nat_cmp h)) (one_more_by b d h t e es) ≡ Some t
same_more_by true d h t e es is rest = rw (at_same h h refl) refl
same_more_by false true h t e es is rest = rw (at_same h e.0 (eqb-true h e.0 is)) refl
same_more_by false false h t e es is rest = rw (at_apart h e.0 (λ same. both h e.0 same is)) rest

pub same_more : (h : ℕ) (t : Thing) (es : List (ℕ × Thing)) → lookup (is_at (nat_cmp h)) (insert_entry nat_cmp es h t) ≡ Some t
same_more h t [] = rw (at_same h h refl) refl
same_more h t (e ∷ es) = same_more_by (nat_lt h e.0) (nat_eq h e.0) h t e es refl (same_more h t es)

-- One more entry at most,
few_more_by : (b d : Bool) (h : ℕ) (t : Thing) (e : ℕ × Thing) (es : List (ℕ × Thing)) → length (insert_entry nat_cmp es h t) ≤ length es + 1
    → length (one_more_by b d h t e es) ≤ suc (length es) + 1
few_more_by true d h t e es rest = omega arith
few_more_by false true h t e es rest = omega arith
few_more_by false false h t e es rest = omega (arith, rest)

pub few_more : (h : ℕ) (t : Thing) (es : List (ℕ × Thing)) → length (insert_entry nat_cmp es h t) ≤ length es + 1
few_more h t [] = omega arith
few_more h t (e ∷ es) = few_more_by (nat_lt h e.0) (nat_eq h e.0) h t e es (few_more h t es)

-- Or one less,
few_less_by : (b : Bool) (e : ℕ × Thing) (es rest : List (ℕ × Thing)) → length rest ≤ length es → length (cond b es (e ∷ rest)) ≤ suc (length es)
few_less_by true e es rest few = omega arith
few_less_by false e es rest few = omega (arith, few)

pub few_less : (h : ℕ) (es : List (ℕ × Thing)) → length (remove_entry (is_at (nat_cmp h)) es) ≤ length es
few_less h [] = omega arith
few_less h (e ∷ es) = few_less_by (is_at (nat_cmp h) e.0) e es (remove_entry (is_at (nat_cmp h)) es) (few_less h es)

-- Or as many.
climb_set_by : (b : Bool) (least : ℕ) (t : Thing) (e : ℕ × Thing) (es rest : List (ℕ × Thing)) → NumbersRise least (e ∷ es)
    → NumbersRise (e.0 + 1) rest → NumbersRise least (cond b ((e.0, t) ∷ es) (e ∷ rest))
climb_set_by true least t e es rest climb kept = climb
climb_set_by false least t e es rest climb kept = (climb.0, kept)

pub climb_set : (least h : ℕ) (t : Thing) (es : List (ℕ × Thing)) → NumbersRise least es → NumbersRise least (set_value (is_at (nat_cmp h)) es t)
climb_set least h t [] climb = tt
climb_set least h t (e ∷ es) climb =
    climb_set_by (is_at (nat_cmp h) e.0) least t e es (set_value (is_at (nat_cmp h)) es t) climb (climb_set (e.0 + 1) h t es climb.1)

few_set_by : (b : Bool) (t : Thing) (e : ℕ × Thing) (es rest : List (ℕ × Thing)) → length rest ≤ length es
    → length (cond b ((e.0, t) ∷ es) (e ∷ rest)) ≤ suc (length es)
few_set_by true t e es rest few = omega arith
few_set_by false t e es rest few = omega (arith, few)

pub few_set : (h : ℕ) (t : Thing) (es : List (ℕ × Thing)) → length (set_value (is_at (nat_cmp h)) es t) ≤ length es
few_set h t [] = omega arith
few_set h t (e ∷ es) = few_set_by (is_at (nat_cmp h) e.0) t e es (set_value (is_at (nat_cmp h)) es t) (few_set h t es)

other_set_by : (b : Bool) (q h : ℕ) (t : Thing) (e : ℕ × Thing) (es rest : List (ℕ × Thing)) → is_at (nat_cmp h) e.0 ≡ b → nat_eq q h ≡ false
    → lookup (is_at (nat_cmp q)) rest ≡ lookup (is_at (nat_cmp q)) es
    → lookup (is_at (nat_cmp q)) (cond b ((e.0, t) ∷ es) (e ∷ rest)) ≡ lookup (is_at (nat_cmp q)) (e ∷ es)
other_set_by true q h t e es rest is apart kept =
    let same : h ≡ e.0 = eqb-true h e.0 (sym (at_eq h e.0) ∙ is) in
    let none : is_at (nat_cmp q) e.0 ≡ false = at_apart q e.0 (λ other. eqb-false q h apart (other ∙ sym same)) in
    rw none refl
other_set_by false q h t e es rest is apart kept =
    ap (λ (o : Option Thing). cond (is_at (nat_cmp q) e.0) (Some e.1) o) kept

pub other_set : (q h : ℕ) (t : Thing) (es : List (ℕ × Thing)) → nat_eq q h ≡ false
    → lookup (is_at (nat_cmp q)) (set_value (is_at (nat_cmp h)) es t) ≡ lookup (is_at (nat_cmp q)) es
other_set q h t [] apart = refl
other_set q h t (e ∷ es) apart =
    other_set_by (is_at (nat_cmp h) e.0) q h t e es (set_value (is_at (nat_cmp h)) es t) refl apart (other_set q h t es apart)

same_set_by : (b : Bool) (h : ℕ) (t x : Thing) (e : ℕ × Thing) (es rest : List (ℕ × Thing)) → is_at (nat_cmp h) e.0 ≡ b
    → cond b (Some e.1) (lookup (is_at (nat_cmp h)) es) ≡ Some x
    → (lookup (is_at (nat_cmp h)) es ≡ Some x → lookup (is_at (nat_cmp h)) rest ≡ Some t)
    → lookup (is_at (nat_cmp h)) (cond b ((e.0, t) ∷ es) (e ∷ rest)) ≡ Some t
same_set_by true h t x e es rest is some kept = rw is refl
same_set_by false h t x e es rest is some kept = rw is (kept some)

pub same_set : (h : ℕ) (t x : Thing) (es : List (ℕ × Thing)) → lookup (is_at (nat_cmp h)) es ≡ Some x
    → lookup (is_at (nat_cmp h)) (set_value (is_at (nat_cmp h)) es t) ≡ Some t
same_set h t x [] some = absurd (let e = some in cc)
same_set h t x (e ∷ es) some =
    same_set_by (is_at (nat_cmp h) e.0) h t x e es (set_value (is_at (nat_cmp h)) es t) refl some (same_set h t x es)
