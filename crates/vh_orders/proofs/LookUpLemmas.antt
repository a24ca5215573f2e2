-- Lemmas on `specs/LookUp.antt`: the object of a name is the lesser of two that an index has.
use Rattle.std.proofs.Common.{◌≡◌, ◌≢◌, ◌∙◌, ◌<◌, ◌≤◌, ◌+◌, ◌-◌, ◌++◌, ◌%◌, ◌/◌, ◌||◌, ◌==◌, ◌⊎◌, inl, inr, not, ℕ, zero, suc, Bool, true, false, cond, List, [], ◌∷◌, length, take, get_or, All, Vec, Option, Some, None, ⊎_elim, length-append, refl, sym, ap, subst, arith}
use Rattle.std.specs.Prelude.{bytes_eq, position, slice_get, is_some, min, nat_lt}
use Rattle.std.specs.Fmt.{decimal, digits, digits_onto, digit_glyph}
use Rattle.std.specs.List.{find, position_or_len, range_with_len}
use Rattle.std.specs.Map.{lookup}
use Rattle.std.specs.Borrow.{Bor}
use Rattle.std.specs.Option.{option_and_then, option_copied}
use Rattle.std.proofs.lemmas.Bool.{cases_lt, and_parts, or_cases, or_right}
use Rattle.std.proofs.lemmas.Bool.Decides.{nat_tests}
use Rattle.std.proofs.lemmas.List.{append_cancel_right, append_assoc, get_or_at, get_or-append_right, take_at}
use Rattle.std.proofs.lemmas.List.Elements.{All-get_or}
use Rattle.std.proofs.lemmas.List.Sums.{position_or_len_is}
use Rattle.std.proofs.lemmas.Option.{slice_get-get_or, slice_get_within, get_or_from_slice_get, same_Some, none-some, cond_some, option_and_then_some}
use Rattle.std.proofs.lemmas.Slice.Eq.{bytes_eq-Decides}
use Rattle.vh_orders.specs.declared.names.Named.{Named}
use Rattle.vh_orders.specs.declared.look_up.Index.{Index}
use Rattle.vh_orders.specs.Addresses.{IsMemoryOf}
use Rattle.vh_orders.specs.LookUp.{is_findable, position_in, candidate, lesser, IsIndexOf, Adds, IsMemoryCandidate}
use Rattle.vh_orders.specs.Names.{at_address, has_path, has_name, word_named, word_of, is_meant}

-- No digit is a bracket.
abbrev pub IsLow : List ℕ → Type 0
IsLow [] = Unit {0}
IsLow (c ∷ cs) = (c < 91) × IsLow cs

low-glyph : (d : ℕ) → d < 10 → digit_glyph false d < 91
low-glyph d small = grind (arith, nat_tests, small)

low-onto : (k n : ℕ) (acc : List ℕ) → IsLow acc → IsLow (digits_onto k 10 false n acc)
low-onto zero n acc low = low
low-onto (suc k) n acc low =
    let one : IsLow (digit_glyph false (n % 10) ∷ acc) = (low-glyph (n % 10) (omega arith), low) in
    by (n / 10 == 0) one (low-onto k (n / 10) (digit_glyph false (n % 10) ∷ acc) one)
  where
    by : (b : Bool) → IsLow (digit_glyph false (n % 10) ∷ acc) → IsLow (digits_onto k 10 false (n / 10) (digit_glyph false (n % 10) ∷ acc))
        → IsLow (cond b (digit_glyph false (n % 10) ∷ acc) (digits_onto k 10 false (n / 10) (digit_glyph false (n % 10) ∷ acc)))
    by true one more = one
    by false one more = more

low-decimal : (n : ℕ) → IsLow (decimal n)
unfolding digits
low-decimal n = low-onto 64 n [] tt

low-at : (cs : List ℕ) (k : ℕ) → IsLow cs → get_or cs k 0 < 91
low-at [] k low = omega arith
low-at (c ∷ cs) zero low = low.0
low-at (c ∷ cs) (suc k) low = low-at cs k low.1

-- What stands before the bracket at the end of a word's name,
word-inner : (text inner name : List ℕ) (a : ℕ) → text ≡ inner ++ 93 ∷ [] → text ≡ at_address name a → inner ≡ name ++ 91 ∷ decimal a
word-inner text inner name a is same =
    append_cancel_right inner (name ++ 91 ∷ decimal a) (93 ∷ [])
    (sym is ∙ same ∙ sym (append_assoc name (91 ∷ decimal a) (93 ∷ [])))

-- In which no bracket stands behind that of the address,
bracket-last : (inner name digits : List ℕ) (k : ℕ) → IsLow digits → inner ≡ name ++ 91 ∷ digits → length name < k → get_or inner k 0 < 91
bracket-last inner name digits k low is past =
    subst (λ (m : ℕ). m < 91)
    (sym (ap (λ (l : List ℕ). get_or l k 0) is ∙ get_or-append_right name (91 ∷ digits) (length name) k 0 refl (omega arith)))
    (behind (k - length name) (omega arith))
  where
    behind : (m : ℕ) → 0 < m → get_or (91 ∷ digits) m 0 < 91
    behind zero some = absurd (omega arith)
    behind (suc m) some = low-at digits m low

word-bracket : (inner name : List ℕ) (a : ℕ) → inner ≡ name ++ 91 ∷ decimal a → get_or inner (length name) 0 ≡ 91
word-bracket inner name a parts =
    ap (λ (l : List ℕ). get_or l (length name) 0) parts ∙ get_or_at name 91 (decimal a) 0 (length name) refl

word-long : (inner name : List ℕ) (a : ℕ) → inner ≡ name ++ 91 ∷ decimal a → length name < length inner
word-long inner name a parts = omega (arith, ap length parts, length-append name (91 ∷ decimal a))

-- So that the name of the memory stands before the last one.
pub memory-found : (text inner : List ℕ) (at : ℕ) → text ≡ inner ++ 93 ∷ [] → at < length inner → get_or inner at 0 ≡ 91
    → ((k : ℕ) → at + 1 ≤ k → k < length inner → get_or inner k 0 ≢ 91) → IsMemoryOf text (Some (take at inner))
memory-found text inner at is inside here none name a same =
    let parts = word-inner text inner name a is same in
    let place : at ≡ length name = ⊎_elim
    (λ low. absurd (none (length name) (omega (arith, low)) (word-long inner name a parts) (word-bracket inner name a parts)))
    (λ high. ⊎_elim
    (λ past. absurd (omega (arith, here, bracket-last inner name (decimal a) at (low-decimal a) parts past)))
    (λ le. omega (arith, high, le))
    (cases_lt (length name) at))
    (cases_lt at (length name)) in
    ap (λ (l : List ℕ). Some l) (ap (take at) parts ∙ take_at name (91 ∷ decimal a) at (sym place))

-- A text without these brackets is no word's name.
pub no-memory : (text inner : List ℕ) → text ≡ inner ++ 93 ∷ [] → All (λ (b : ℕ). b ≢ 91) inner → IsMemoryOf text None
no-memory text inner is none name a same =
    let parts = word-inner text inner name a is same in
    absurd (All-get_or (λ (b : ℕ). b ≢ 91) inner (length name) 0 (word-long inner name a parts) none (word-bracket inner name a parts))

pub no-end : (text : List ℕ) → ((front : List ℕ) → text ≢ front ++ (93 ∷ [])) → IsMemoryOf text None
no-end text bad name a same = absurd (bad (name ++ 91 ∷ decimal a) (same ∙ sym (append_assoc name (91 ∷ decimal a) (93 ∷ []))))

-- Who has a word of a name has that name before the address,
find-some : (p : ℕ → Bool) (xs : List ℕ) → is_some (find p xs) ≡ true → (x : ℕ) × (p x ≡ true)
find-some p [] some = absurd (cc)
find-some p (x ∷ xs) some = by (p x) refl some (find-some p xs)
  where
    by : (b : Bool) → p x ≡ b → is_some (cond b (Some x) (find p xs)) ≡ true
        → (is_some (find p xs) ≡ true → (y : ℕ) × (p y ≡ true)) → (y : ℕ) × (p y ≡ true)
    by true is e rest = (x, is)
    by false is e rest = rest e

word-text : (text : List ℕ) (n : Named) → is_some (word_of text n) ≡ true → (a : ℕ) × (text ≡ at_address n.name a)
word-text text n some =
    let found = find-some (λ a. bytes_eq text (at_address n.name a)) (range_with_len n.lowest n.words) some in
    (found.0, (bytes_eq-Decides text (at_address n.name found.0)).0 found.1)

-- And has words.
words-some : (text name : List ℕ) (first count : ℕ) → is_some (word_named text name first count) ≡ true → not (count == 0) ≡ true
words-some text name first zero some = absurd (cc)
words-some text name first (suc count) some = grind (arith, nat_tests)

meant-findable : (text : List ℕ) (n : Named) → is_meant text n ≡ true → is_findable n ≡ true
meant-findable text n meant =
    ⊎_elim
    (λ own. ap (λ (b : Bool). b || not (n.words == 0)) (and_parts (has_path n.kind) (bytes_eq text n.name) own).0)
    (λ word. or_right (has_path n.kind) (not (n.words == 0)) (words-some text n.name n.lowest n.words word))
    (or_cases (has_name text n) (is_some (word_of text n)) meant)

-- So what a text means has its name, or that of its memory.
meant-named : (text : List ℕ) (memory : Option (List ℕ)) (n : Named) → IsMemoryOf text memory → is_meant text n ≡ true
    → (text ≡ n.name) ⊎ (memory ≡ Some n.name)
meant-named text memory n is meant =
    ⊎_elim
    (λ own. inl ((bytes_eq-Decides text n.name).0 (and_parts (has_path n.kind) (bytes_eq text n.name) own).1))
    (λ word. let found = word-text text n word in inr (is n.name found.0 found.1))
    (or_cases (has_name text n) (is_some (word_of text n)) meant)

-- A candidate is meant,
candidate-meant : (name text : List ℕ) (i : Index) (names : List Named) (at : ℕ) → candidate name text i names ≡ Some at
    → (n : Named) × (slice_get names at ≡ Some n) × (is_meant text n ≡ true)
candidate-meant name text i names at e =
    option_and_then_some _ (position_in i name) at e
    (λ p is next. option_and_then_some _ (slice_get names p) at next
    (λ n there meant.
    let both = cond_some (is_meant text n) p at meant in (n, ap (slice_get names) (sym both.1) ∙ there, both.0)))

-- And what is meant is the candidate of its name.
meant-candidate : (text : List ℕ) (i : Index) (names : List Named) (j : ℕ) (n : Named) → IsIndexOf names i → i.is_whole ≡ true
    → slice_get names j ≡ Some n → is_meant text n ≡ true → candidate n.name text i names ≡ Some j
meant-candidate text i names j n index whole there meant =
    ap (option_and_then (λ (at : ℕ). option_and_then (λ (m : Named). cond (is_meant text m) (Some at) None) (slice_get names at)))
    (index whole j n there (meant-findable text n meant))
    ∙ ap (option_and_then (λ (m : Named). cond (is_meant text m) (Some j) None)) there
    ∙ ap (λ (b : Bool). cond b (Some j) None) meant

-- The lesser of two positions is one of them, and no greater than either.
lesser-one : (a b : Option ℕ) (at : ℕ) → lesser a b ≡ Some at → (a ≡ Some at) ⊎ (b ≡ Some at)
lesser-one (Some x) (Some y) at e =
    let is : min x y ≡ at = same_Some (min x y) at e in
    ⊎_elim
    (λ low. let one : x ≡ at = grind (arith, is, low) in inl (ap (λ (z : ℕ). Some z) one))
    (λ high. let one : y ≡ at = grind (arith, is, high) in inr (ap (λ (z : ℕ). Some z) one))
    (cases_lt x y)
lesser-one (Some x) None at e = inl e
lesser-one None b at e = inr e

lesser-left : (a b : Option ℕ) (j : ℕ) → a ≡ Some j → (at : ℕ) × (lesser a b ≡ Some at) × (at ≤ j)
lesser-left (Some x) (Some y) j e = (min x y, refl, grind (arith, same_Some x j e))
lesser-left (Some x) None j e = (x, refl, omega (arith, same_Some x j e))
lesser-left None b j e = absurd (none-some j e)

lesser-right : (a b : Option ℕ) (j : ℕ) → b ≡ Some j → (at : ℕ) × (lesser a b ≡ Some at) × (at ≤ j)
lesser-right (Some x) (Some y) j e = (min x y, refl, grind (arith, same_Some y j e))
lesser-right (Some x) None j e = absurd (none-some j e)
lesser-right None b j e = (j, e, omega arith)

-- A place that passes a test, before which no other one stands, is its position.
not-true : (b : Bool) → (b ≡ true → ⊥) → b ≡ false
not-true true never = absurd (never refl)
not-true false never = refl

position-is : {A : Type 0} (p : A → Bool) (xs : List A) (r : Option ℕ)
    → ((at : ℕ) → r ≡ Some at → (x : A) × (slice_get xs at ≡ Some x) × (p x ≡ true))
    → ((j : ℕ) (x : A) → slice_get xs j ≡ Some x → p x ≡ true → (at : ℕ) × (r ≡ Some at) × (at ≤ j))
    → r ≡ position p xs
position-is p [] None holds least = refl
position-is p [] (Some i) holds least = let there = holds i refl in absurd (none-some there.0 there.1)
position-is p (x ∷ xs) None holds least =
    let all = x ∷ xs in
    let end : position_or_len p all ≡ length all = position_or_len_is p all (length all) x (omega arith)
    (λ k inside. not-true (p (get_or all k x)) (λ yes.
    let found = least k (get_or all k x) (slice_get-get_or all k x inside) yes in none-some found.0 found.1))
    (λ inside. absurd (omega (arith, inside))) in
    let past : nat_lt (length all) (length all) ≡ false = grind (arith, nat_tests) in
    sym (ap (λ (m : ℕ). cond (nat_lt m (length all)) (Some m) None) end ∙ ap (λ (b : Bool). cond b (Some (length all)) None) past)
position-is p (x ∷ xs) (Some i) holds least =
    let all = x ∷ xs in
    let there = holds i refl in
    let inside = slice_get_within all i there.0 there.1 in
    let at : position_or_len p all ≡ i = position_or_len_is p all i x (omega (arith, inside))
    (λ k low. not-true (p (get_or all k x)) (λ yes.
    let found = least k (get_or all k x) (slice_get-get_or all k x (omega (arith, low, inside))) yes in
    omega (arith, low, same_Some i found.0 found.1, found.2)))
    (λ _. ap p (get_or_from_slice_get all i there.0 x there.1) ∙ there.2) in
    let within : nat_lt i (length all) ≡ true = grind (arith, nat_tests, inside) in
    sym (ap (λ (m : ℕ). cond (nat_lt m (length all)) (Some m) None) at ∙ ap (λ (b : Bool). cond b (Some i) None) within)

-- The object that a text means is the lesser of the two candidates.
pub place-named : (text : List ℕ) (i : Index) (names : List Named) (object memory : Option ℕ) → IsIndexOf names i
    → i.is_whole ≡ true → object ≡ candidate text text i names → IsMemoryCandidate text i names memory
    → lesser object memory ≡ position (is_meant text) names
place-named text i names object memory index whole own other =
    position-is (is_meant text) names (lesser object memory)
    (λ at e. ⊎_elim
    (λ one. candidate-meant text text i names at (sym own ∙ one))
    (λ two. option_and_then_some (λ (name : List ℕ). candidate name text i names) other.0 at (sym other.2 ∙ two)
    (λ name _ found. candidate-meant name text i names at found))
    (lesser-one object memory at e))
    (λ j n there meant.
    let found = meant-candidate text i names j n index whole there meant in
    ⊎_elim
    (λ same. lesser-left object memory j (own ∙ ap (λ (t : List ℕ). candidate t text i names) same ∙ found))
    (λ same. lesser-right object memory j
    (other.2 ∙ ap (option_and_then (λ (name : List ℕ). candidate name text i names)) same ∙ found))
    (meant-named text other.0 n other.1 meant))

-- One object more behind some.
more-at : {A : Type 0} (xs : List A) (n m : A) (j : ℕ) → slice_get (xs ++ n ∷ []) j ≡ Some m
    → (slice_get xs j ≡ Some m) ⊎ ((j ≡ length xs) × (n ≡ m))
more-at [] n m zero e = inr (refl, same_Some n m e)
more-at [] n m (suc j) e = inl e
more-at (x ∷ xs) n m zero e = inl e
more-at (x ∷ xs) n m (suc j) e =
    ⊎_elim (λ before. inl before) (λ last. inr (ap suc last.0, last.1)) (more-at xs n m j e)

lookup-front : {K : Type 0} (test : K → Bool) (rows more : List (K × ℕ)) (v : ℕ) → lookup test rows ≡ Some v
    → lookup test (rows ++ more) ≡ Some v
lookup-front test [] more v e = absurd (none-some v e)
lookup-front test (r ∷ rs) more v e = by (test r.0) e (lookup-front test rs more v)
  where
    by : (b : Bool) → cond b (Some r.1) (lookup test rs) ≡ Some v → (lookup test rs ≡ Some v → lookup test (rs ++ more) ≡ Some v)
        → cond b (Some r.1) (lookup test (rs ++ more)) ≡ Some v
    by true is rest = is
    by false is rest = rest is

lookup-back : {K : Type 0} (test : K → Bool) (rows : List (K × ℕ)) (k : K) (v : ℕ) → lookup test rows ≡ None
    → test k ≡ true → lookup test (rows ++ (k, v) ∷ []) ≡ Some v
lookup-back test [] k v none passes = ap (λ (b : Bool). cond b (Some v) None) passes
lookup-back test (r ∷ rs) k v none passes = by (test r.0) none (λ is. lookup-back test rs k v is passes)
  where
    by : (b : Bool) → cond b (Some r.1) (lookup test rs) ≡ None → (lookup test rs ≡ None → lookup test (rs ++ (k, v) ∷ []) ≡ Some v)
        → cond b (Some r.1) (lookup test (rs ++ (k, v) ∷ [])) ≡ Some v
    by true is rest = absurd (none-some r.1 (sym is))
    by false is rest = rest is

pub copied-none : (o : Option (Bor ℕ)) → is_some o ≡ false → option_copied o ≡ None
copied-none None none = refl
copied-none (Some b) none = absurd (cc)

pub adds-none : (at : ℕ) (n : Named) (i : Index) → is_findable n ≡ false → Adds at n i i
adds-none at n i hidden names count index whole j m there findable =
    ⊎_elim
    (λ before. index whole j m before findable)
    (λ last. absurd (let shown : is_findable n ≡ true = ap is_findable last.1 ∙ findable in cc))
    (more-at names n m j there)

pub adds-apart : (at : ℕ) (n : Named) (old new : Index) → new.is_whole ≡ false → Adds at n old new
adds-apart at n old new broken names count index whole j m there findable = absurd (cc)

pub adds-new : (at : ℕ) (n : Named) (old new : Index) (k : Vec ℕ _) → k.items ≡ n.name → position_in old n.name ≡ None
    → new.positions.entries ≡ old.positions.entries ++ (k, at) ∷ [] → old.is_whole ≡ true → Adds at n old new
adds-new at n old new k key none rows was names count index whole j m there findable =
    ap (lookup (λ x. bytes_eq m.name x.items)) rows
    ∙ ⊎_elim
    (λ before. lookup-front (λ x. bytes_eq m.name x.items) old.positions.entries ((k, at) ∷ []) j (index was j m before findable))
    (λ last.
    let same : m.name ≡ n.name = ap (λ (o : Named). o.name) (sym last.1) in
    let place : j ≡ at = last.0 ∙ count in
    lookup-back (λ x. bytes_eq m.name x.items) old.positions.entries k at (ap (position_in old) same ∙ none)
    ((bytes_eq-Decides m.name k.items).1 (same ∙ sym key))
    ∙ ap (λ (v : ℕ). Some v) (sym place))
    (more-at names n m j there)
