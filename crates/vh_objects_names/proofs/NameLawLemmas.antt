-- Lemmas on `specs/NameLaw.antt`: what the definition finds is what a name means.
use Rattle.std.proofs.Common.{◌≡◌, ◌≢◌, ◌∙◌, ◌<◌, ◌≤◌, ◌+◌, ◌-◌, ◌^◌, ◌++◌, ◌==◌, ◌&&◌, ℕ, zero, suc, Bool, true, false, cond, nat_le, nat_lt, min, List, [], ◌∷◌, length, Option, Some, None, IfSome, bytes_eq, is_some, slice_get, refl, sym, ap, subst, arith}
use Rattle.std.specs.List.{find, range_with_len}
use Rattle.std.specs.Option.{option_map, option_and_then}
use Rattle.std.proofs.lemmas.Bool.{eqb-true, eqb-false, leb-true, ltb-true, le-leb, lt-ltb}
use Rattle.std.proofs.lemmas.Bool.Decides.{nat_tests}
use Rattle.std.proofs.lemmas.Option.{slice_get_within}
use Rattle.std.proofs.lemmas.Slice.Eq.{bytes_eq-Decides}
use Rattle.vh_base.specs.declared.orders.Object.{Object}
use Rattle.vh_design_names.specs.Names.{dotted, scope_at}
use Rattle.vh_design_nodes.specs.declared.object.ObjectInfo.{ObjectInfo}
use Rattle.vh_design_nodes.specs.Fits.{is_address, lowest_of}
use Rattle.vh_design_nodes.specs.Kinds.{is_memory}
use Rattle.vh_design.specs.Laws.{ScopesComeBefore}
use Rattle.vh_design.specs.Shape.{Shape}
use Rattle.vh_design.specs.Validity.{IsValid}
use Rattle.vh_objects.specs.Kinds.{has_path}
use Rattle.vh_objects.specs.Properties.{at_address}
use Rattle.vh_objects.specs.Relations.{same_scope, count_from}
use Rattle.vh_objects_names.specs.NameLaw.{Leads, IsPathOf, Means, IsLeast, IsNamed}
use Rattle.vh_objects_names.specs.Paths.{in_parent, objects_below, objects_to, path_below, word_named, word_in, meant_word, meant_by, meant_at, meant, least_below}
use Rattle.vh_objects_names.proofs.AddressesLemmas.{word-found}
use Rattle.vh_objects_names.proofs.LeastLemmas.{least-none}
use Rattle.vh_objects_names.proofs.PathsLemmas.{objects_step}

-- The scope of an object has a lesser number.
abbrev pub IsOrdered : List ObjectInfo → Type 0
IsOrdered os = (o p : ℕ) → scope_at os o ≡ Some p → p < o

scope-same : (s p : Option ℕ) → same_scope s p ≡ true → s ≡ p
scope-same None None is = refl
scope-same None (Some p) is = absurd (cc)
scope-same (Some s) None is = absurd (cc)
scope-same (Some s) (Some p) is = ap Some (eqb-true s p is)

same-self : (s : Option ℕ) → same_scope s s ≡ true
same-self None = refl
same-self (Some s) = grind (arith, nat_tests)

-- The way that is found leads to the scope.
abbrev Way : List ObjectInfo → Option ℕ → ℕ → List ℕ → Type 0
Way os scope o xs = (ps : List ℕ) × (xs ≡ o ∷ ps) × Leads os scope o ps

parent-sound : (os : List ObjectInfo) (scope : Option ℕ) (o p : ℕ) (xs : List ℕ) (x : Option (List ℕ)) → scope_at os o ≡ Some p
    → ((ys : List ℕ) → x ≡ Some ys → Way os scope p ys) → option_map (λ (ps : List ℕ). o ∷ ps) x ≡ Some xs → Way os scope o xs
parent-sound os scope o p xs None at ih is = absurd (cc)
parent-sound os scope o p xs (Some ys) at ih is =
    let way = ih ys refl in
    let joined : xs ≡ o ∷ ys = cc in
    (p ∷ way.0, joined ∙ ap (λ (l : List ℕ). o ∷ l) way.1, (at, way.2))

in-scope-sound : (os : List ObjectInfo) (scope : Option ℕ) (o : ℕ) (rest : ℕ → Option (List ℕ)) (xs : List ℕ)
    → ((p : ℕ) (ys : List ℕ) → rest p ≡ Some ys → Way os scope p ys)
    → (parent : Option ℕ) → scope_at os o ≡ parent → (b : Bool) → same_scope scope parent ≡ b
    → cond b (Some (o ∷ [])) (in_parent rest o parent) ≡ Some xs → Way os scope o xs
in-scope-sound os scope o rest xs ih parent at true same is =
    let lone : xs ≡ o ∷ [] = cc in ([], lone, at ∙ sym (scope-same scope parent same))
in-scope-sound os scope o rest xs ih None at false same is = absurd (cc)
in-scope-sound os scope o rest xs ih (Some p) at false same is = parent-sound os scope o p xs (rest p) at (ih p) is

pub below-sound : (k : ℕ) (os : List ObjectInfo) (scope : Option ℕ) (o : ℕ) (xs : List ℕ) → objects_below k os scope o ≡ Some xs
    → Way os scope o xs
unfolding objects_below
below-sound zero os scope o xs is = absurd (cc)
below-sound (suc k) os scope o xs is = by_number (o == k) is (below-sound k os scope)
  where
    by_number : (b : Bool)
        → elim b [
          | true ↦ cond (same_scope scope (scope_at os o)) (Some (o ∷ [])) (in_parent (objects_below k os scope) o (scope_at os o))
          | false ↦ objects_below k os scope o
        ]
        ≡ Some xs → ((p : ℕ) (ys : List ℕ) → objects_below k os scope p ≡ Some ys → Way os scope p ys) → Way os scope o xs
    by_number true is ih = in-scope-sound os scope o (objects_below k os scope) xs ih (scope_at os o) refl (same_scope scope (scope_at os o)) refl is
    by_number false is ih = ih o xs is

-- A scope has a lesser number than what lies below it.
above-less : (os : List ObjectInfo) (s o : ℕ) (ps : List ℕ) → IsOrdered os → Leads os (Some s) o ps → s < o
above-less os s o [] ordered leads = ordered o s leads
above-less os s o (p ∷ ps) ordered leads =
    let near = ordered o p leads.0 in let far = above-less os s p ps ordered leads.1 in omega (arith, near, far)

not-scope : (os : List ObjectInfo) (scope : Option ℕ) (p : ℕ) (ps : List ℕ) → IsOrdered os → Leads os scope p ps
    → same_scope scope (Some p) ≡ false
not-scope os None p ps ordered leads = refl
not-scope os (Some s) p ps ordered leads = let less = above-less os s p ps ordered leads in grind (arith, nat_tests, less)

-- And each way that leads there is found.
pub below-complete : (os : List ObjectInfo) (scope : Option ℕ) (o : ℕ) (ps : List ℕ) (k : ℕ) → IsOrdered os → Leads os scope o ps → o < k
    → objects_below k os scope o ≡ Some (o ∷ ps)
below-complete os scope o [] k ordered leads inside =
    objects_step k os scope o inside
    ∙ ap (λ (x : Option ℕ). cond (same_scope scope x) (Some (o ∷ [])) (in_parent (objects_below o os scope) o x)) leads
    ∙ ap (λ (b : Bool). cond b (Some (o ∷ [])) (in_parent (objects_below o os scope) o scope)) (same-self scope)
below-complete os scope o (p ∷ ps) k ordered leads inside =
    objects_step k os scope o inside
    ∙ ap (λ (x : Option ℕ). cond (same_scope scope x) (Some (o ∷ [])) (in_parent (objects_below o os scope) o x)) leads.0
    ∙ ap (λ (b : Bool). cond b (Some (o ∷ [])) (in_parent (objects_below o os scope) o (Some p))) (not-scope os scope p ps ordered leads.1)
    ∙ ap (option_map (λ (l : List ℕ). o ∷ l)) (below-complete os scope p ps o ordered leads.1 (ordered o p leads.0))

-- The word that is found has the name.
abbrev HasWord : List ℕ → List ℕ → ℕ → ℕ → ℕ → Type 0
HasWord text name first count a = (first ≤ a) × (a < first + count) × (text ≡ at_address name a)

first-sound : (text name : List ℕ) (first count a : ℕ) (b : Bool) → bytes_eq text (at_address name first) ≡ b
    → (word_named text name (first + 1) count ≡ Some a → HasWord text name (first + 1) count a)
    → cond b (Some first) (word_named text name (first + 1) count) ≡ Some a → HasWord text name first (suc count) a
first-sound text name first count a true e next is =
    let here : first ≡ a = cc in
    (omega (arith, here), omega (arith, here), (bytes_eq-Decides text (at_address name first)).0 e ∙ ap (at_address name) here)
first-sound text name first count a false e next is =
    let rest = next is in (omega (arith, rest.0), omega (arith, rest.1), rest.2)

pub word-sound : (text name : List ℕ) (first count a : ℕ) → word_named text name first count ≡ Some a → HasWord text name first count a
word-sound text name first zero a is = absurd (cc)
word-sound text name first (suc count) a is =
    first-sound text name first count a (bytes_eq text (at_address name first)) refl (word-sound text name (first + 1) count a) is

address-is : (i : ObjectInfo) (a : ℕ) → lowest_of i.detail ≤ a → a < lowest_of i.detail + count_from (lowest_of i.detail) i.words
    → (is_address i a ≡ true) × (a < 2 ^ 32)
address-is i a low high = (and-true (nat_le (lowest_of i.detail) a) (nat_lt (a - lowest_of i.detail) i.words) (le-leb (lowest_of i.detail) a low) (lt-ltb (a - lowest_of i.detail) i.words inside), small)
  where
    and-true : (x y : Bool) → x ≡ true → y ≡ true → (x && y) ≡ true
    and-true x y p q = ap (λ (z : Bool). z && y) p ∙ q

    words : a < lowest_of i.detail + i.words
    words = grind (arith, nat_tests, high)

    inside : a - lowest_of i.detail < i.words
    inside = omega (arith, words, low)

    small : a < 2 ^ 32
    small = grind (arith, nat_tests, high, low)

address-has : (i : ObjectInfo) (a : ℕ) → is_address i a ≡ true → a < 2 ^ 32
    → (lowest_of i.detail ≤ a) × (a < lowest_of i.detail + count_from (lowest_of i.detail) i.words)
address-has i a is small =
    let low : lowest_of i.detail ≤ a = leb-true (lowest_of i.detail) a (first (nat_le (lowest_of i.detail) a) (nat_lt (a - lowest_of i.detail) i.words) is) in
    let near : a - lowest_of i.detail < i.words = ltb-true (a - lowest_of i.detail) i.words (second (nat_le (lowest_of i.detail) a) (nat_lt (a - lowest_of i.detail) i.words) is) in
    (low, counted (lowest_of i.detail) i.words low near)
  where
    first : (x y : Bool) → (x && y) ≡ true → x ≡ true
    first true y h = refl
    first false y h = absurd (cc)

    second : (x y : Bool) → (x && y) ≡ true → y ≡ true
    second true y h = h
    second false y h = absurd (cc)

    counted : (lowest words : ℕ) → lowest ≤ a → a - lowest < words → a < lowest + count_from lowest words
    counted lowest words low near = grind (arith, nat_tests, low, near, small)

-- What is found is meant.
abbrev Sound : List ObjectInfo → Option ℕ → List ℕ → ℕ → Object → Type 0
Sound os scope text id o = Means os scope text o × (o.id ≡ id)

word-means : (os : List ObjectInfo) (scope : Option ℕ) (text : List ℕ) (id : ℕ) (i : ObjectInfo) (ps : List ℕ) (o : Object)
    → slice_get os id ≡ Some i → has_path i.kind ≡ true → Leads os scope id ps → is_memory i.kind ≡ true → (r : Option ℕ)
    → word_named text (dotted os (id ∷ ps)) (lowest_of i.detail) (count_from (lowest_of i.detail) i.words) ≡ r
    → option_map (word_in id) r ≡ Some o → Sound os scope text id o
word-means os scope text id i ps o at has leads memory None named is = absurd (cc)
word-means os scope text id i ps o at has leads memory (Some a) named is =
    let same : word_in id a ≡ o = cc in
    let found = word-sound text (dotted os (id ∷ ps)) (lowest_of i.detail) (count_from (lowest_of i.detail) i.words) a named in
    let address = address-is i a found.0 found.1 in
    subst (λ (x : Object). Sound os scope text id x) same (
      record {
        info = i;
        between = ps;
        there = at;
        found = has;
        below = leads;
        called = (memory, address.0, address.1, found.2);
      },
      refl,
    )

memory-means : (os : List ObjectInfo) (scope : Option ℕ) (text : List ℕ) (id : ℕ) (i : ObjectInfo) (ps : List ℕ) (o : Object)
    → slice_get os id ≡ Some i → has_path i.kind ≡ true → Leads os scope id ps → (b : Bool) → is_memory i.kind ≡ b
    → cond b (option_map (word_in id) (word_named text (dotted os (id ∷ ps)) (lowest_of i.detail) (count_from (lowest_of i.detail) i.words))) None ≡ Some o
    → Sound os scope text id o
memory-means os scope text id i ps o at has leads true memory is = word-means os scope text id i ps o at has leads memory _ refl is
memory-means os scope text id i ps o at has leads false memory is = absurd (cc)

by-means : (os : List ObjectInfo) (scope : Option ℕ) (text : List ℕ) (id : ℕ) (i : ObjectInfo) (ps : List ℕ) (o : Object)
    → slice_get os id ≡ Some i → has_path i.kind ≡ true → Leads os scope id ps → (b : Bool) → bytes_eq text (dotted os (id ∷ ps)) ≡ b
    → cond b (Some (record { id = id; word = None })) (meant_word text (dotted os (id ∷ ps)) id i) ≡ Some o → Sound os scope text id o
by-means os scope text id i ps o at has leads true e is =
    let whole : Object = record { id = id; word = None } in
    let same : whole ≡ o = cc in
    subst (λ (x : Object). Sound os scope text id x) same (
      record {
        info = i;
        between = ps;
        there = at;
        found = has;
        below = leads;
        called = (bytes_eq-Decides text (dotted os (id ∷ ps))).0 e;
      },
      refl,
    )
by-means os scope text id i ps o at has leads false e is = memory-means os scope text id i ps o at has leads (is_memory i.kind) refl is

path-means : (os : List ObjectInfo) (scope : Option ℕ) (text : List ℕ) (id : ℕ) (i : ObjectInfo) (o : Object)
    → slice_get os id ≡ Some i → has_path i.kind ≡ true → (x : Option (List ℕ)) → objects_to os scope id ≡ x
    → option_and_then (meant_by text id i) (option_map (dotted os) x) ≡ Some o → Sound os scope text id o
path-means os scope text id i o at has None to is = absurd (cc)
path-means os scope text id i o at has (Some xs) to is =
    let way = below-sound (length os) os scope id xs to in
    let here = subst (λ (l : List ℕ). meant_by text id i (dotted os l) ≡ Some o) way.1 is in
    by-means os scope text id i way.0 o at has way.2 (bytes_eq text (dotted os (id ∷ way.0))) refl here

kind-means : (os : List ObjectInfo) (scope : Option ℕ) (text : List ℕ) (id : ℕ) (i : ObjectInfo) (o : Object)
    → slice_get os id ≡ Some i → (b : Bool) → has_path i.kind ≡ b
    → cond b (option_and_then (meant_by text id i) (path_below os scope id)) None ≡ Some o → Sound os scope text id o
kind-means os scope text id i o at true has is = path-means os scope text id i o at has (objects_to os scope id) refl is
kind-means os scope text id i o at false has is = absurd (cc)

there-means : (os : List ObjectInfo) (scope : Option ℕ) (text : List ℕ) (id : ℕ) (o : Object) (x : Option ObjectInfo)
    → slice_get os id ≡ x → option_and_then (meant_at os scope text id) x ≡ Some o → Sound os scope text id o
there-means os scope text id o None at is = absurd (cc)
there-means os scope text id o (Some i) at is = kind-means os scope text id i o at (has_path i.kind) refl is

pub meant-sound : (os : List ObjectInfo) (scope : Option ℕ) (text : List ℕ) (id : ℕ) (o : Object) → meant os scope text id ≡ Some o
    → Sound os scope text id o
meant-sound os scope text id o is = there-means os scope text id o (slice_get os id) refl is

-- And something is found where it is meant.
some-word : (text path : List ℕ) (id : ℕ) (i : ObjectInfo) (a : ℕ) → is_memory i.kind ≡ true → is_address i a ≡ true → a < 2 ^ 32
    → text ≡ at_address path a → meant_word text path id i ≡ Some (word_in id a)
some-word text path id i a memory address small is =
    let near = address-has i a address small in
    ap (λ (b : Bool). cond b (option_map (word_in id) (word_named text path (lowest_of i.detail) (count_from (lowest_of i.detail) i.words))) None) memory
    ∙ ap (option_map (word_in id)) (word-found text path a (lowest_of i.detail) (count_from (lowest_of i.detail) i.words) is
    (fits (lowest_of i.detail) i.words near.0) near.0 near.1)
  where
    fits : (lowest words : ℕ) → lowest ≤ a → lowest + count_from lowest words ≤ 2 ^ 64
    fits lowest words low = grind (arith, nat_tests, low, small)

abbrev IsFound : Option Object → Type 0
IsFound x = (o : Object) × (x ≡ Some o)

found-by : (text path : List ℕ) (id : ℕ) (i : ObjectInfo) (w : Option ℕ) → IsPathOf text i path w → IsFound (meant_by text id i path)
found-by text path id i None is =
    let yes = (bytes_eq-Decides text path).1 is in
    (record { id = id; word = None }, ap (λ (b : Bool). cond b (Some (record { id = id; word = None })) (meant_word text path id i)) yes)
found-by text path id i (Some a) is = either (bytes_eq text path) refl
  where
    either : (b : Bool) → bytes_eq text path ≡ b → IsFound (meant_by text id i path)
    either true e = (record { id = id; word = None }, ap (λ (b : Bool). cond b (Some (record { id = id; word = None })) (meant_word text path id i)) e)
    either false e = (
      word_in id a,
      ap (λ (b : Bool). cond b (Some (record { id = id; word = None })) (meant_word text path id i)) e
          ∙ some-word text path id i a is.0 is.1 is.2 is.3,
    )

pub meant-complete : (os : List ObjectInfo) (scope : Option ℕ) (text : List ℕ) (q : Object) → IsOrdered os → Means os scope text q
    → IsFound (meant os scope text q.id)
meant-complete os scope text q ordered m =
    let i = m.info in
    let path = dotted os (q.id ∷ m.between) in
    let found = found-by text path q.id i q.word m.called in
    let to : objects_to os scope q.id ≡ Some (q.id ∷ m.between) =
    below-complete os scope q.id m.between (length os) ordered m.below (slice_get_within os q.id i m.there) in (
      found.0,
      ap (option_and_then (meant_at os scope text q.id)) m.there
          ∙ ap (λ (b : Bool). cond b (option_and_then (meant_by text q.id i) (path_below os scope q.id)) None) m.found
          ∙ ap (λ (x : Option (List ℕ)). option_and_then (meant_by text q.id i) (option_map (dotted os) x)) to ∙ found.1,
    )

-- The first that is meant is the object of the name; where none is, nothing has it.
pub named-none : (os : List ObjectInfo) (scope : Option ℕ) (text : List ℕ) → IsOrdered os
    → least_below (meant os scope text) (length os) ≡ None → IsNamed os scope text None
named-none os scope text ordered none = λ q m.
    let found = meant-complete os scope text q ordered m in
    let inside = slice_get_within os q.id m.info m.there in
    let lost = least-none (meant os scope text) (length os) q.id none inside in absurd (cc)

pub named-some : (os : List ObjectInfo) (scope : Option ℕ) (text : List ℕ) (k : ℕ) (o : Object) → IsOrdered os
    → least_below (meant os scope text) k ≡ None → meant os scope text k ≡ Some o → IsNamed os scope text (Some o)
named-some os scope text k o ordered none is =
    let sound = meant-sound os scope text k o is in
    record {
      meant = sound.0;
      least = λ q m. later q m (nat_lt q.id k) refl;
    }
  where
    later : (q : Object) → Means os scope text q → (b : Bool) → nat_lt q.id k ≡ b → o.id ≤ q.id
    later q m true less =
        let found = meant-complete os scope text q ordered m in
        let lost = least-none (meant os scope text) k q.id none (ltb-true q.id k less) in absurd (cc)
    later q m false less = let same = (meant-sound os scope text k o is).1 in grind (arith, nat_tests, less, same)

-- The same of what a look at one object more answers.
pub named-found : (os : List ObjectInfo) (scope : Option ℕ) (text : List ℕ) (k : ℕ) (x : Option Object) → IsOrdered os
    → least_below (meant os scope text) k ≡ None → x ≡ meant os scope text k → is_some x ≡ true → IsNamed os scope text x
named-found os scope text k None ordered none is some = absurd (cc)
named-found os scope text k (Some o) ordered none is some = named-some os scope text k o ordered none (sym is)

scope-before : (os : List ObjectInfo) (o p : ℕ) (x : Option ObjectInfo) → slice_get os o ≡ x
    → ((i : ObjectInfo) → slice_get os o ≡ Some i → IfSome i.parent (λ q. q < o)) → option_and_then (λ (j : ObjectInfo). j.parent) x ≡ Some p → p < o
scope-before os o p None at before is = absurd (cc)
scope-before os o p (Some i) at before is = subst (λ (y : Option ℕ). IfSome y (λ q. q < o)) is (before i at)

pub ordered-of : (d : Shape) → IsValid d → ScopesComeBefore → IsOrdered d.objects
ordered-of d valid before = λ o p is. scope-before d.objects o p (slice_get d.objects o) refl (λ i at. before d o i valid at) is
