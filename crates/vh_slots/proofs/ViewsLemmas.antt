-- What slots and a slab hold, before and after each call.
use Rattle.std.proofs.Common.{◌≡◌, ℕ, zero, suc, ◌+◌, ◌<◌, ◌≤◌, ◌^◌, List, [], ◌∷◌, ◌++◌, length, set, map, refl, ap, arith, ◌∙◌, sym, subst, Bool, true, false, cond, ltb, leb, Option, Some, None, inl, inr}
use Rattle.std.specs.Prelude.{IsSome, is_some, count_by, not, ◌&&◌}
use Rattle.std.specs.List.{list_any, slice_get}
use Rattle.std.proofs.lemmas.Bool.{eq-eqb, ne_eqb, lt-ltb, ltb-true, le-leb, leb-true}
use Rattle.std.proofs.lemmas.Bool.Decides.{eqb_tells, leb_tells}
use Rattle.std.proofs.lemmas.List.{get_or-set_same, get_or-set_other, set-get_or, length-set, length-append}
use Rattle.slab.specs.Slab.{Slab, get, slab_len, Updates}
use Rattle.vh_slots.specs.declared.slots.TheConstants.{GENERATIONS}
use Rattle.vh_slots.specs.declared.slots.Key.{Key}
use Rattle.vh_slots.specs.declared.slots.Slot.{Slot}
use Rattle.vh_slots.specs.Table.{Cell, value_at, held_count, is_full, is_free, with_cell, Gives, GivesBy}
use Rattle.vh_slots.specs.Views.{nothing, slot_at, position_in, has, IsApart, Chains, is_over, value_in, cell_of, table_in, IsSound}
use Rattle.vh_slots.proofs.ListsLemmas.{map-same, map-write, map-append, bit, count-write, count-append, count-same, has-head, has-tail, has-rest, any-none, any-mapped, get-mapped, at-before, at-end, at-past, length-mapped}

-- A key that is found, by its slot
pub position-found : (g : ℕ) (slots : List Slot) (i k : ℕ) → position_in g (slice_get slots i) ≡ Some k
    → (i < length slots) × ((slot_at slots i).generation ≡ g) × ((slot_at slots i).at ≡ Some k)
position-found g [] i k h = cc
position-found g (s ∷ slots) zero k h =
    elim (eqb_tells s.generation g) [
      | inl e ↦ (omega arith, e.1, sym (ap (λ (b : Bool). cond b s.at None) e.0) ∙ h)
      | inr n ↦ let no : position_in g (Some s) ≡ None = rw n.0 refl in cc
    ]
position-found g (s ∷ slots) (suc i) k h = let rest = position-found g slots i k h in (omega (arith, rest.0), rest.1, rest.2)

-- The free slots, where another is written
pub chain-kept : (slots : List Slot) (i : ℕ) (s : Slot) (head : Option ℕ) (xs : List ℕ) → has i xs ≡ false → Chains slots head xs
    → Chains (set slots i s) head xs
chain-kept slots i s head [] h c = c
chain-kept slots i s head (x ∷ xs) h c =
    elim (eqb_tells i x) [
      | inl e ↦ let there : has i (x ∷ xs) ≡ true = rw e.0 refl in cc
      | inr n ↦
          let ne : x ≡ i → ⊥ = λ e. n.1 (sym e) in
          let rest : has i xs ≡ false = sym (has-rest i x xs n.1) ∙ h in (
            c.0,
            chain-kept slots i s (slot_at (set slots i s) x).next xs rest
                (subst (λ (o : Option ℕ). Chains slots o xs) (sym (ap (λ (z : Slot). z.next) (get_or-set_other slots i x s nothing ne))) c.1),
          )
    ]

some_same : (a b : ℕ) → Some a ≡ Some b → a ≡ b
some_same a b h = cc

module _ {T : Type 0} where
  -- What a key finds
  pub held-is : (g : ℕ) (values : Slab T) (slots : List Slot) (i : ℕ)
      → value_at g (slice_get (map (cell_of values) slots) i) ≡ value_in values (position_in g (slice_get slots i))
  held-is g values [] i = refl
  held-is g values (s ∷ slots) zero =
      elim (eqb_tells s.generation g) [ inl e ↦ rw e.0 refl | inr n ↦ rw n.0 refl ]
  held-is g values (s ∷ slots) (suc i) = held-is g values slots i

  -- A value elsewhere stays
  pub value-kept : (old new : Slab T) (k : ℕ) (v : Option T) (o : Option ℕ) → Updates old new k v → ((j : ℕ) → o ≡ Some j → j ≡ k → ⊥)
      → value_in new o ≡ value_in old o
  value-kept old new k v None u h = refl
  value-kept old new k v (Some j) u h = u.others j (h j refl)

  pub cells-write : (old new : Slab T) (slots : List Slot) (i k : ℕ) (v : Option T) (s : Slot) (c : Cell T) → Updates old new k v → cell_of new s ≡ c
      → ((j : ℕ) → (slot_at slots j).at ≡ Some k → j ≡ i) → map (cell_of new) (set slots i s) ≡ set (map (cell_of old) slots) i c
  cells-write old new slots i k v s c u e only =
      map-write (cell_of new) (cell_of old) slots nothing i s c e
      (λ j below ne. ap (λ (o : Option T). record { generation = (slot_at slots j).generation; value = o })
      (value-kept old new k v (slot_at slots j).at u (λ l at same. ne (only j (at ∙ ap (λ n. Some n) same)))))

  -- The values that are held are those of the slab
  some-of : (values : Slab T) (o : Option ℕ) → ((k : ℕ) → o ≡ Some k → IsSome (get values k)) → is_some (value_in values o) ≡ is_some o
  some-of values None h = refl
  some-of values (Some k) h = h k refl

  pub count-is : (slots : List Slot) (values : Slab T) (head : Option ℕ) (retired first limit : ℕ) → IsSound slots values head retired first
      → held_count (table_in slots values limit first) ≡ slab_len values
  count-is slots values head retired first limit h =
      count-same (λ s. is_some s.at) (λ c. is_some c.value) (cell_of values) slots nothing
      (λ j below. some-of values (slot_at slots j).at (λ k e. h.held j k e)) ∙ sym h.count

-- A slot that is written, and the others
slot-same : (slots : List Slot) (i : ℕ) (s : Slot) → i < length slots → slot_at (set slots i s) i ≡ s
slot-same slots i s h = get_or-set_same slots i s nothing h

slot-other : (slots : List Slot) (i j : ℕ) (s : Slot) → (j ≡ i → ⊥) → slot_at (set slots i s) j ≡ slot_at slots j
slot-other slots i j s ne = get_or-set_other slots i j s nothing ne

-- Of each slot, where one is written
by_slot : (P : ℕ → Slot → Type 0) (slots : List Slot) (i : ℕ) (s : Slot) → i < length slots → P i s
    → ((j : ℕ) → (j ≡ i → ⊥) → P j (slot_at slots j)) → (j : ℕ) → P j (slot_at (set slots i s) j)
by_slot P slots i s below p q j =
    elim (eqb_tells j i) [
      | inl e ↦
          let same : j ≡ i = e.1 in
          let is : slot_at (set slots i s) j ≡ s = ap (λ n. slot_at (set slots i s) n) same ∙ slot-same slots i s below in
          subst (λ (z : Slot). P j z) (sym is) (subst (λ n. P n s) (sym same) p)
      | inr n ↦ subst (λ (z : Slot). P j z) (sym (slot-other slots i j s n.1)) (q j n.1)
    ]

none_some : (k : ℕ) → None ≡ Some k → ⊥
none_some k h = cc

decide : (b : Bool) → (b ≡ true → ⊥) → b ≡ false
decide true h = absurd (h refl)
decide false h = refl

module _ {T : Type 0} where
  -- A value elsewhere is still there
  value-others : (old new : Slab T) (k : ℕ) {v : Option T} → Updates old new k v → (l : ℕ) → (l ≡ k → ⊥) → IsSome (get old l) → IsSome (get new l)
  value-others old new k u l ne h = ap (λ (o : Option T). is_some o) (u.others l ne) ∙ h

  -- No two slots have one value, where one slot has none any more
  alone-taken : (slots : List Slot) (values : Slab T) (head : Option ℕ) (retired first : ℕ) → IsSound slots values head retired first
      → (i : ℕ) (s : Slot) → i < length slots → s.at ≡ None
      → (j l k : ℕ) → (slot_at (set slots i s) j).at ≡ Some k → (slot_at (set slots i s) l).at ≡ Some k → j ≡ l
  alone-taken slots values head retired first h i s below none j l k =
      by_slot (λ a x. x.at ≡ Some k → (slot_at (set slots i s) l).at ≡ Some k → a ≡ l) slots i s below
      (λ e f. absurd (none_some k (sym none ∙ e)))
      (λ a na e. by_slot (λ b y. y.at ≡ Some k → a ≡ b) slots i s below (λ f. absurd (none_some k (sym none ∙ f))) (λ b nb f. h.alone a b k e f) l) j

  -- A slot with a value is not free
  not_free : (slots : List Slot) (values : Slab T) (head : Option ℕ) (retired first : ℕ) (h : IsSound slots values head retired first)
      → (i k : ℕ) → (slot_at slots i).at ≡ Some k → has i h.free ≡ false
  not_free slots values head retired first h i k at =
      decide (has i h.free) (λ e. none_some k (sym (h.is_free i e).1 ∙ at))

  -- A value taken from a slot that has a generation left
  pub sound-take : (slots : List Slot) (old new : Slab T) (head : Option ℕ) (retired first i k g : ℕ) → IsSound slots old head retired first
      → i < length slots → (slot_at slots i).generation ≡ g → (slot_at slots i).at ≡ Some k → g + 1 < GENERATIONS
      → Updates old new k None → slab_len new + 1 ≡ slab_len old
      → IsSound (set slots i (record { generation = g + 1; at = None; next = head })) new (Some i) retired first
  sound-take slots old new head retired first i k g h below gen at left u len =
      let s : Slot = record { generation = g + 1; at = None; next = head } in
      let unfree = not_free slots old head retired first h i k at in
      let same : length (set slots i s) ≡ length slots = length-set slots i s in
      let here : slot_at (set slots i s) i ≡ s = slot-same slots i s below in
      let kept = value-others old new k u in
      let held = count-write (λ z. is_some z.at) slots i s nothing below in
      let held-was : bit (is_some (slot_at slots i).at) ≡ 1 = ap (λ (o : Option ℕ). bit (is_some o)) at in
      let over = count-write is_over slots i s nothing below in
      let over-was : bit (is_over (slot_at slots i)) ≡ 0 = ap bit (ne_eqb (slot_at slots i).generation GENERATIONS (λ e. omega (arith, e, gen))) in
      let over-is : bit (is_over s) ≡ 0 = ap bit (ne_eqb (g + 1) GENERATIONS (λ e. omega (arith, e))) in
      record {
        few = omega (arith, same, h.few);
        begins = h.begins;
        free = i ∷ h.free;
        chain = (refl, subst (λ (z : Slot). Chains (set slots i s) z.next h.free) (sym here) (chain-kept slots i s head h.free unfree h.chain));
        apart = (unfree, h.apart);
        is_free = by_slot (λ j z. has j (i ∷ h.free) ≡ true → (j < length (set slots i s)) × (z.at ≡ None) × (z.generation < GENERATIONS)) slots i s below
            (λ e. (omega (arith, same), refl, left))
            (λ j ne e. let was = h.is_free j (sym (has-rest j i h.free ne) ∙ e) in (omega (arith, same, was.0), was.1, was.2));
        all_free = by_slot (λ j z. j < length (set slots i s) → z.at ≡ None → z.generation < GENERATIONS → has j (i ∷ h.free) ≡ true) slots i s below
            (λ a b c. has-head i h.free)
            (λ j ne a b c. has-tail j i h.free (h.all_free j (omega (arith, same)) b c));
        held = by_slot (λ j z. (l : ℕ) → z.at ≡ Some l → IsSome (get new l)) slots i s below
            (λ l e. absurd (none_some l e))
            (λ j ne l e. kept l (λ q. ne (h.alone j i k (e ∙ ap (λ n. Some n) q) at)) (h.held j l e));
        alone = alone-taken slots old head retired first h i s below refl;
        keyed = by_slot (λ j z. (l : ℕ) → z.at ≡ Some l → z.generation < GENERATIONS) slots i s below
            (λ l e. absurd (none_some l e)) (λ j ne l e. h.keyed j l e);
        count = omega (arith, held, held-was, h.count, len);
        over = omega (arith, over, over-was, over-is, h.over);
      }

  -- A value taken from a slot at its last generation
  pub sound-retire : (slots : List Slot) (old new : Slab T) (head : Option ℕ) (retired first i k g : ℕ) → IsSound slots old head retired first
      → i < length slots → (slot_at slots i).generation ≡ g → (slot_at slots i).at ≡ Some k → g + 1 ≡ GENERATIONS
      → Updates old new k None → slab_len new + 1 ≡ slab_len old
      → IsSound (set slots i (record { generation = g + 1; at = None; next = None })) new head (retired + 1) first
  sound-retire slots old new head retired first i k g h below gen at last u len =
      let s : Slot = record { generation = g + 1; at = None; next = None } in
      let unfree = not_free slots old head retired first h i k at in
      let same : length (set slots i s) ≡ length slots = length-set slots i s in
      let kept = value-others old new k u in
      let held = count-write (λ z. is_some z.at) slots i s nothing below in
      let held-was : bit (is_some (slot_at slots i).at) ≡ 1 = ap (λ (o : Option ℕ). bit (is_some o)) at in
      let over = count-write is_over slots i s nothing below in
      let over-was : bit (is_over (slot_at slots i)) ≡ 0 = ap bit (ne_eqb (slot_at slots i).generation GENERATIONS (λ e. omega (arith, e, gen, last))) in
      let over-is : bit (is_over s) ≡ 1 = ap bit (eq-eqb (g + 1) GENERATIONS last) in
      record {
        few = omega (arith, same, h.few);
        begins = h.begins;
        free = h.free;
        chain = chain-kept slots i s head h.free unfree h.chain;
        apart = h.apart;
        is_free = by_slot (λ j z. has j h.free ≡ true → (j < length (set slots i s)) × (z.at ≡ None) × (z.generation < GENERATIONS)) slots i s below
            (λ e. cc)
            (λ j ne e. let was = h.is_free j e in (omega (arith, same, was.0), was.1, was.2));
        all_free = by_slot (λ j z. j < length (set slots i s) → z.at ≡ None → z.generation < GENERATIONS → has j h.free ≡ true) slots i s below
            (λ a b c. absurd (omega (arith, last)))
            (λ j ne a b c. h.all_free j (omega (arith, same)) b c);
        held = by_slot (λ j z. (l : ℕ) → z.at ≡ Some l → IsSome (get new l)) slots i s below
            (λ l e. absurd (none_some l e))
            (λ j ne l e. kept l (λ q. ne (h.alone j i k (e ∙ ap (λ n. Some n) q) at)) (h.held j l e));
        alone = alone-taken slots old head retired first h i s below refl;
        keyed = by_slot (λ j z. (l : ℕ) → z.at ≡ Some l → z.generation < GENERATIONS) slots i s below
            (λ l e. absurd (none_some l e)) (λ j ne l e. h.keyed j l e);
        count = omega (arith, held, held-was, h.count, len);
        over = omega (arith, over, over-was, over-is, h.over);
      }

-- The first of the free slots
first-free : (slots : List Slot) (x : ℕ) (xs : List ℕ) → Chains slots (Some x) xs
    → (rest : List ℕ) × (xs ≡ x ∷ rest) × Chains slots (slot_at slots x).next rest
first-free slots x [] c = absurd (none_some x (sym c))
first-free slots x (y ∷ ys) c =
    let same : y ≡ x = sym (some_same x y c.0) in
    (ys, ap (λ n. n ∷ ys) same, subst (λ n. Chains slots (slot_at slots n).next ys) same c.1)

none-free : (slots : List Slot) (xs : List ℕ) → Chains slots None xs → xs ≡ []
none-free slots [] c = refl
none-free slots (x ∷ xs) c = absurd (none_some x c.0)

-- Of each slot, where one stands behind all
by_end : (P : ℕ → Slot → Type 0) (slots : List Slot) (s : Slot) → P (length slots) s → ((j : ℕ) → j < length slots → P j (slot_at slots j))
    → ((j : ℕ) → length slots < j → P j nothing) → (j : ℕ) → P j (slot_at (slots ++ s ∷ []) j)
by_end P slots s p q r j =
    let more : length (slots ++ s ∷ []) ≡ length slots + 1 = length-append slots (s ∷ []) in
    elim (eqb_tells j (length slots)) [
      | inl e ↦
          let same : j ≡ length slots = e.1 in
          let is : slot_at (slots ++ s ∷ []) j ≡ s = ap (λ n. slot_at (slots ++ s ∷ []) n) same ∙ at-end slots s nothing in
          subst (λ (z : Slot). P j z) (sym is) (subst (λ n. P n s) (sym same) p)
      | inr n ↦
          elim (leb_tells (length slots) j) [
            | inl past ↦
                let ne : j ≡ length slots → ⊥ = n.1 in
                let far : length slots < j = omega (arith, past.1) in
                subst (λ (z : Slot). P j z) (sym (at-past (slots ++ s ∷ []) j nothing (omega (arith, more)))) (r j far)
            | inr before ↦ subst (λ (z : Slot). P j z) (sym (at-before slots s j nothing before.1)) (q j before.1)
          ]
    ]

module _ {T : Type 0} where
  -- A position without a value is no slot's
  no-slot : (slots : List Slot) (values : Slab T) (head : Option ℕ) (retired first : ℕ) → IsSound slots values head retired first
      → (k : ℕ) → get values k ≡ None → (j : ℕ) → (slot_at slots j).at ≡ Some k → ⊥
  no-slot slots values head retired first h k none j at =
      let some = h.held j k at in let no : is_some (get values k) ≡ false = ap (λ (o : Option T). is_some o) none in cc

  given-value : (old new : Slab T) (k : ℕ) (v : T) → Updates old new k (Some v) → (l : ℕ) → Some k ≡ Some l → IsSome (get new l)
  given-value old new k v u l e = ap (λ n. is_some (get new n)) (sym (some_same k l e)) ∙ ap (λ (o : Option T). is_some o) u.changed

  -- A value given to the first free slot
  pub sound-reuse : (slots : List Slot) (old new : Slab T) (x retired first k : ℕ) (v : T) → IsSound slots old (Some x) retired first
      → get old k ≡ None → Updates old new k (Some v) → slab_len new ≡ slab_len old + 1
      → IsSound (set slots x (record { generation = (slot_at slots x).generation; at = Some k; next = None })) new (slot_at slots x).next retired first
  sound-reuse slots old new x retired first k v h none u len =
      let s : Slot = record { generation = (slot_at slots x).generation; at = Some k; next = None } in
      let f = first-free slots x h.free h.chain in
      let apart : IsApart (x ∷ f.0) = subst (λ (xs : List ℕ). IsApart xs) f.1 h.apart in
      let was = h.is_free x (ap (has x) f.1 ∙ has-head x f.0) in
      let below : x < length slots = was.0 in
      let same : length (set slots x s) ≡ length slots = length-set slots x s in
      let nowhere = no-slot slots old (Some x) retired first h k none in
      let kept = value-others old new k u in
      let away : (j l : ℕ) → (slot_at slots j).at ≡ Some l → l ≡ k → ⊥ = λ j l e q. nowhere j (e ∙ ap (λ n. Some n) q) in
      let count = count-write (λ z. is_some z.at) slots x s nothing below in
      let count-was : bit (is_some (slot_at slots x).at) ≡ 0 = ap (λ (o : Option ℕ). bit (is_some o)) was.1 in
      let over = count-write is_over slots x s nothing below in
      record {
        few = omega (arith, same, h.few);
        begins = h.begins;
        free = f.0;
        chain = chain-kept slots x s (slot_at slots x).next f.0 apart.0 f.2;
        apart = apart.1;
        is_free = by_slot (λ j z. has j f.0 ≡ true → (j < length (set slots x s)) × (z.at ≡ None) × (z.generation < GENERATIONS)) slots x s below
            (λ e. let no = apart.0 in cc)
            (λ j ne e. let is = h.is_free j (ap (has j) f.1 ∙ has-tail j x f.0 e) in (omega (arith, same, is.0), is.1, is.2));
        all_free = by_slot (λ j z. j < length (set slots x s) → z.at ≡ None → z.generation < GENERATIONS → has j f.0 ≡ true) slots x s below
            (λ a b c. absurd (none_some k (sym b)))
            (λ j ne a b c. sym (has-rest j x f.0 ne) ∙ ap (has j) (sym f.1) ∙ h.all_free j (omega (arith, same)) b c);
        held = by_slot (λ j z. (l : ℕ) → z.at ≡ Some l → IsSome (get new l)) slots x s below
            (λ l e. given-value old new k v u l e) (λ j ne l e. kept l (away j l e) (h.held j l e));
        alone = λ a b l.
            by_slot (λ j z. z.at ≡ Some l → (slot_at (set slots x s) b).at ≡ Some l → j ≡ b) slots x s below
            (λ e. by_slot (λ j z. z.at ≡ Some l → x ≡ j) slots x s below (λ g. refl) (λ j ne g. absurd (away j l g (sym (some_same k l e)))) b)
            (λ j ne e. by_slot (λ m z. z.at ≡ Some l → j ≡ m) slots x s below (λ g. absurd (away j l e (sym (some_same k l g)))) (λ m nm g. h.alone j m l e g) b) a;
        keyed = by_slot (λ j z. (l : ℕ) → z.at ≡ Some l → z.generation < GENERATIONS) slots x s below (λ l e. was.2) (λ j ne l e. h.keyed j l e);
        count = omega (arith, count, count-was, h.count, len);
        over = omega (arith, over, h.over);
      }

  -- A value given to a new slot
  pub sound-open : (slots : List Slot) (old new : Slab T) (retired first k : ℕ) (v : T) → IsSound slots old None retired first
      → length slots + 1 < 2 ^ 32 → get old k ≡ None → Updates old new k (Some v) → slab_len new ≡ slab_len old + 1
      → IsSound (slots ++ record { generation = first; at = Some k; next = None } ∷ []) new None retired first
  sound-open slots old new retired first k v h room none u len =
      let s : Slot = record { generation = first; at = Some k; next = None } in
      let more : length (slots ++ s ∷ []) ≡ length slots + 1 = length-append slots (s ∷ []) in
      let empty = none-free slots h.free h.chain in
      let nowhere = no-slot slots old None retired first h k none in
      let kept = value-others old new k u in
      let away : (j l : ℕ) → (slot_at slots j).at ≡ Some l → l ≡ k → ⊥ = λ j l e q. nowhere j (e ∙ ap (λ n. Some n) q) in
      let count = count-append (λ z. is_some z.at) slots s in
      let over = count-append is_over slots s in
      let over-is : bit (is_over s) ≡ 0 = ap bit (ne_eqb first GENERATIONS (λ e. omega (arith, e, h.begins))) in
      record {
        few = omega (arith, more);
        begins = h.begins;
        free = [];
        chain = refl;
        apart = tt;
        is_free = λ j e. cc;
        all_free = by_end (λ j z. j < length (slots ++ s ∷ []) → z.at ≡ None → z.generation < GENERATIONS → has j [] ≡ true) slots s
            (λ a b c. absurd (none_some k (sym b)))
            (λ j below a b c. ap (has j) (sym empty) ∙ h.all_free j below b c)
            (λ j far a b c. absurd (omega (arith, more)));
        held = by_end (λ j z. (l : ℕ) → z.at ≡ Some l → IsSome (get new l)) slots s
            (λ l e. given-value old new k v u l e) (λ j below l e. kept l (away j l e) (h.held j l e)) (λ j far l e. absurd (none_some l e));
        alone = λ a b l.
            by_end (λ j z. z.at ≡ Some l → (slot_at (slots ++ s ∷ []) b).at ≡ Some l → j ≡ b) slots s
            (λ e. by_end (λ j z. z.at ≡ Some l → length slots ≡ j) slots s (λ g. refl) (λ j below g. absurd (away j l g (sym (some_same k l e)))) (λ j far g. absurd (none_some l g)) b)
            (λ j below e. by_end (λ m z. z.at ≡ Some l → j ≡ m) slots s (λ g. absurd (away j l e (sym (some_same k l g)))) (λ m inside g. h.alone j m l e g) (λ m far g. absurd (none_some l g)) b)
            (λ j far e. absurd (none_some l e)) a;
        keyed = by_end (λ j z. (l : ℕ) → z.at ≡ Some l → z.generation < GENERATIONS) slots s (λ l e. h.begins) (λ j below l e. h.keyed j l e) (λ j far l e. absurd (none_some l e));
        count = omega (arith, count, h.count, len);
        over = omega (arith, over, over-is, h.over);
      }

  -- A cell that is free
  free-cell : (values : Slab T) (s : Slot) → s.at ≡ None → s.generation < GENERATIONS → is_free (cell_of values s) ≡ true
  free-cell values s none left =
      ap (λ (o : Option ℕ). not (is_some (value_in values o)) && ltb s.generation GENERATIONS) none ∙ lt-ltb s.generation GENERATIONS left

  unfree : (values : Slab T) (o : Option ℕ) (g : ℕ) → (o ≡ None → g < GENERATIONS → ⊥) → ((k : ℕ) → o ≡ Some k → IsSome (get values k))
      → (not (is_some (value_in values o)) && ltb g GENERATIONS) ≡ false
  unfree values None g h k = decide (ltb g GENERATIONS) (λ e. h refl (ltb-true g GENERATIONS e))
  unfree values (Some n) g h k = let some = k n refl in rw some refl

  -- What contracts see of a value given to the first free slot
  pub gives-reuse : (slots : List Slot) (old new : Slab T) (x retired first limit k : ℕ) (v : T) → IsSound slots old (Some x) retired first
      → get old k ≡ None → Updates old new k (Some v)
      → Gives (record { slot = x; generation = (slot_at slots x).generation }) v (table_in slots old limit first)
      (table_in (set slots x (record { generation = (slot_at slots x).generation; at = Some k; next = None })) new limit first)
  gives-reuse slots old new x retired first limit k v h none u =
      let s : Slot = record { generation = (slot_at slots x).generation; at = Some k; next = None } in
      let key : Key = record { slot = x; generation = (slot_at slots x).generation } in
      let f = first-free slots x h.free h.chain in
      let was = h.is_free x (ap (has x) f.1 ∙ has-head x f.0) in
      let some : list_any is_free (map (cell_of old) slots) ≡ true = any-mapped is_free (cell_of old) slots x nothing was.0 (free-cell old (slot_at slots x) was.1 was.2) in
      let given : cell_of new s ≡ record { generation = (slot_at slots x).generation; value = Some v } =
      ap (λ (o : Option T). record { generation = (slot_at slots x).generation; value = o }) u.changed in
      let nowhere = no-slot slots old (Some x) retired first h k none in
      let after = cells-write old new slots x k (Some v) s (record { generation = (slot_at slots x).generation; value = Some v }) u given (λ j at. absurd (nowhere j at)) in
      subst (λ b. GivesBy b key v (table_in slots old limit first) (table_in (set slots x s) new limit first)) (sym some)
      (record {
        free = get-mapped (cell_of old) slots x nothing was.0
            ∙ ap (λ (o : Option ℕ). Some (record { generation = (slot_at slots x).generation; value = value_in old o })) was.1;
        usable = was.2;
        after = ap (λ (cs : List (Cell T)). record { cells = cs; limit = limit; first = first }) after;
      })

  -- What they see of a value given to a new slot
  pub gives-open : (slots : List Slot) (old new : Slab T) (retired first limit k : ℕ) (v : T) → IsSound slots old None retired first
      → get old k ≡ None → Updates old new k (Some v)
      → Gives (record { slot = length slots; generation = first }) v (table_in slots old limit first)
      (table_in (slots ++ record { generation = first; at = Some k; next = None } ∷ []) new limit first)
  gives-open slots old new retired first limit k v h none u =
      let s : Slot = record { generation = first; at = Some k; next = None } in
      let key : Key = record { slot = length slots; generation = first } in
      let empty = none-free slots h.free h.chain in
      let nowhere = no-slot slots old None retired first h k none in
      let no_free : list_any is_free (map (cell_of old) slots) ≡ false =
      any-none is_free (cell_of old) slots nothing
      (λ j below. unfree old (slot_at slots j).at (slot_at slots j).generation
      (λ a b. let there = ap (has j) (sym empty) ∙ h.all_free j below a b in cc) (λ l e. h.held j l e)) in
      let same : map (cell_of new) slots ≡ map (cell_of old) slots =
      map-same (cell_of new) (cell_of old) slots nothing
      (λ j below. ap (λ (o : Option T). record { generation = (slot_at slots j).generation; value = o })
      (value-kept old new k (Some v) (slot_at slots j).at u (λ l e q. nowhere j (e ∙ ap (λ n. Some n) q)))) in
      let c : Option T → Cell T = λ o. record { generation = first; value = o } in
      let after : map (cell_of new) (slots ++ s ∷ []) ≡ map (cell_of old) slots ++ c (Some v) ∷ [] =
      map-append (cell_of new) slots (s ∷ []) ∙ ap (λ (cs : List (Cell T)). cs ++ cell_of new s ∷ []) same
      ∙ ap (λ (o : Option T). map (cell_of old) slots ++ c o ∷ []) u.changed in
      subst (λ b. GivesBy b key v (table_in slots old limit first) (table_in (slots ++ s ∷ []) new limit first)) (sym no_free)
      (record {
        slot = sym (length-mapped (cell_of old) slots);
        generation = refl;
        after = ap (λ (cs : List (Cell T)). record { cells = cs; limit = limit; first = first }) after;
      })

  -- Whether as many values are held as may be
  pub full-true : (slots : List Slot) (values : Slab T) (head : Option ℕ) (retired first limit n : ℕ) → IsSound slots values head retired first
      → n ≡ slab_len values → limit ≤ n → is_full (table_in slots values limit first) ≡ true
  full-true slots values head retired first limit n h e le =
      ap (leb limit) (count-is slots values head retired first limit h ∙ sym e) ∙ le-leb limit n le

  pub full-false : (slots : List Slot) (values : Slab T) (head : Option ℕ) (retired first limit n : ℕ) → IsSound slots values head retired first
      → n ≡ slab_len values → n < limit → is_full (table_in slots values limit first) ≡ false
  full-false slots values head retired first limit n h e lt =
      ap (leb limit) (count-is slots values head retired first limit h ∙ sym e) ∙ decide (leb limit n) (λ b. let le = leb-true limit n b in omega (arith, le))

  -- The first free slot
  pub head-free : (slots : List Slot) (values : Slab T) (x retired first : ℕ) → IsSound slots values (Some x) retired first
      → (x < length slots) × ((slot_at slots x).at ≡ None) × ((slot_at slots x).generation < GENERATIONS)
  head-free slots values x retired first h =
      let f = first-free slots x h.free h.chain in h.is_free x (ap (has x) f.1 ∙ has-head x f.0)

  -- No slot yet
  pub sound-new : (slots : List Slot) (values : Slab T) (first : ℕ) → slots ≡ [] → values.slots ≡ [] → first < GENERATIONS → IsSound slots values None 0 first
  sound-new slots values first none empty begins =
      subst (λ (ss : List Slot). IsSound ss values None 0 first) (sym none) (record {
        few = omega arith;
        begins = begins;
        free = [];
        chain = refl;
        apart = tt;
        is_free = λ i e. cc;
        all_free = λ i below a b. absurd (omega arith);
        held = λ i k e. absurd (none_some k e);
        alone = λ i j k e f. absurd (none_some k e);
        keyed = λ i k e. absurd (none_some k e);
        count = ap (λ (xs : List (Option T)). count_by is_some xs) empty;
        over = refl;
      })

  -- What contracts see of a value taken
  pub taken-is : (slots : List Slot) (old new : Slab T) (head next : Option ℕ) (retired first limit i k g : ℕ) → IsSound slots old head retired first
      → (slot_at slots i).at ≡ Some k → Updates old new k None
      → table_in (set slots i (record { generation = g + 1; at = None; next = next })) new limit first
      ≡ with_cell i (record { generation = g + 1; value = None }) (table_in slots old limit first)
  taken-is slots old new head next retired first limit i k g h at u =
      ap (λ (cs : List (Cell T)). record { cells = cs; limit = limit; first = first })
      (cells-write old new slots i k None (record { generation = g + 1; at = None; next = next }) (record { generation = g + 1; value = None }) u refl
      (λ j e. h.alone j i k e at))

  -- What they see of a value that replaces another
  pub replaced-is : (slots : List Slot) (old mid new : Slab T) (head : Option ℕ) (retired first limit i k l g : ℕ) (v : T) → IsSound slots old head retired first
      → (slot_at slots i).generation ≡ g → (slot_at slots i).at ≡ Some k → Updates old mid k None → Updates mid new l (Some v) → l ≡ k
      → table_in slots new limit first ≡ with_cell i (record { generation = g; value = Some v }) (table_in slots old limit first)
  replaced-is slots old mid new head retired first limit i k l g v h gen at out back same =
      let u : Updates old new k (Some v) = record {
        changed = ap (λ n. get new n) (sym same) ∙ back.changed;
        others = λ j ne. back.others j (λ e. ne (e ∙ same)) ∙ out.others j ne;
      } in
      let cell : cell_of new (slot_at slots i) ≡ record { generation = g; value = Some v } =
      ap (λ (o : Option ℕ). record { generation = (slot_at slots i).generation; value = value_in new o }) at
      ∙ ap (λ (o : Option T). record { generation = (slot_at slots i).generation; value = o }) u.changed
      ∙ ap (λ n. record { generation = n; value = Some v }) gen in
      ap (λ (ss : List Slot). table_in ss new limit first) (sym (set-get_or slots i nothing))
      ∙ ap (λ (cs : List (Cell T)). record { cells = cs; limit = limit; first = first })
      (cells-write old new slots i k (Some v) (slot_at slots i) (record { generation = g; value = Some v }) u cell (λ j e. h.alone j i k e at))
