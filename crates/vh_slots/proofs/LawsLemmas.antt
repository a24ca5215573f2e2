-- That a key is given once, and how many slots there are.
use Rattle.std.proofs.Common.{◌≡◌, ℕ, zero, suc, ◌+◌, ◌-◌, ◌*◌, ◌^◌, ◌<◌, ◌≤◌, List, [], ◌∷◌, ◌++◌, length, set, refl, ap, arith, ◌∙◌, sym, subst, Bool, true, false, cond, ltb, leb, Option, Some, None, inl, inr}
use Rattle.std.specs.Prelude.{IsSome, is_some, count_by, not, ◌&&◌, ◌||◌}
use Rattle.std.specs.List.{list_any, slice_get, sum_by}
use Rattle.std.proofs.lemmas.Bool.{eq-eqb, ne_eqb, lt-ltb}
use Rattle.std.proofs.lemmas.Bool.Decides.{eqb_tells, leb_tells}
use Rattle.std.proofs.lemmas.List.{length-set, length-append}
use Rattle.std.proofs.lemmas.List.Sums.{sum_by-cons, sum_by_push}
use Rattle.vh_slots.specs.declared.slots.TheConstants.{GENERATIONS}
use Rattle.vh_slots.specs.declared.slots.Key.{Key}
use Rattle.vh_slots.specs.Table.{Cell, Table, value_at, held, held_count, is_full, is_retired, is_free, with_cell, after_take, GivesBy}
use Rattle.vh_slots.specs.Laws.{Call, Give, Take, Replace, Makes, IsRun, end_of, GivesOther, NeverGiven, HoldAtMost, keys_of, given_count, IsOver, IsBounded, empty}
use Rattle.vh_slots.proofs.ListsLemmas.{bit, count-cons}

or_false : (a b : Bool) → (a || b) ≡ false → (a ≡ false) × (b ≡ false)
or_false true b h = cc
or_false false b h = (refl, h)

by_bool : (P : Type 0) (b : Bool) → (b ≡ true → P) → (b ≡ false → P) → P
by_bool P true p q = p refl
by_bool P false p q = q refl

some_is : {X : Type 0} (x y : X) → Some x ≡ Some y → x ≡ y
some_is x y h = cc

-- An element that is written
read-written : {X : Type 0} (xs : List X) (i : ℕ) (x y : X) → slice_get xs i ≡ Some x → slice_get (set xs i y) i ≡ Some y
read-written [] i x y h = cc
read-written (z ∷ xs) zero x y h = refl
read-written (z ∷ xs) (suc i) x y h = read-written xs i x y h

read-other : {X : Type 0} (xs : List X) (i j : ℕ) (y : X) → (j ≡ i → ⊥) → slice_get (set xs i y) j ≡ slice_get xs j
read-other [] i j y h = refl
read-other (z ∷ xs) zero zero y h = absurd (h refl)
read-other (z ∷ xs) zero (suc j) y h = refl
read-other (z ∷ xs) (suc i) zero y h = refl
read-other (z ∷ xs) (suc i) (suc j) y h = read-other xs i j y (λ e. h (omega (arith, e)))

read-before : {X : Type 0} (xs ys : List X) (i : ℕ) (x : X) → slice_get xs i ≡ Some x → slice_get (xs ++ ys) i ≡ Some x
read-before [] ys i x h = cc
read-before (z ∷ xs) ys zero x h = h
read-before (z ∷ xs) ys (suc i) x h = read-before xs ys i x h

read-inside : {X : Type 0} (xs : List X) (i : ℕ) (x : X) → slice_get xs i ≡ Some x → i < length xs
read-inside [] i x h = cc
read-inside (z ∷ xs) zero x h = omega arith
read-inside (z ∷ xs) (suc i) x h = let rest = read-inside xs i x h in omega (arith, rest)

-- What a sum gains and loses
sum-written : {X : Type 0} (f : X → ℕ) (xs : List X) (i : ℕ) (x y : X) → slice_get xs i ≡ Some x → sum_by f (set xs i y) + f x ≡ sum_by f xs + f y
sum-written f [] i x y h = cc
sum-written f (z ∷ xs) zero x y h =
    let same = ap f (some_is z x h) in
    let old = sum_by-cons f z xs in
    let new = sum_by-cons f y xs in
    omega (arith, same, old, new)
sum-written f (z ∷ xs) (suc i) x y h =
    let old = sum_by-cons f z xs in
    let new = sum_by-cons f z (set xs i y) in
    omega (arith, old, new, sum-written f xs i x y h)

below-limit : (limit n : ℕ) → leb limit n ≡ false → n < limit
below-limit limit n h =
    elim (leb_tells limit n) [ inl e ↦ let yes : leb limit n ≡ true = e.0 in cc | inr e ↦ e.1 ]

module _ {T : Type 0} where
  -- The cell of a key that has a value
  pub record Found (t : Table T) (key : Key) : Type 0 where
    pub cell : Cell T
    pub at : slice_get t.cells key.slot ≡ Some cell
    pub generation : cell.generation ≡ key.generation
    pub some : is_some cell.value ≡ true

  found-in : (t : Table T) (key : Key) (o : Option (Cell T)) → slice_get t.cells key.slot ≡ o → IsSome (value_at key.generation o) → Found t key
  found-in t key None at h = cc
  found-in t key (Some c) at h =
      elim (eqb_tells c.generation key.generation) [
        | inl e ↦ record {
          cell = c;
          at = at;
          generation = e.1;
          some = sym (ap (λ (b : Bool). is_some (cond b c.value None)) e.0) ∙ h;
        }
        | inr n ↦ let no : is_some (value_at key.generation (Some c)) ≡ false = rw n.0 refl in cc
      ]

  found : (t : Table T) (key : Key) → IsSome (held key t) → Found t key
  found t key h = found-in t key (slice_get t.cells key.slot) refl h

  -- The slot of a key has gone on
  record IsSpent (key : Key) (t : Table T) : Type 0 where
    cell : Cell T
    at : slice_get t.cells key.slot ≡ Some cell
    on : key.generation < cell.generation

  -- A write to a slot that does not fall back
  spent-write : (key : Key) (t : Table T) (i : ℕ) (was c : Cell T) → IsSpent key t → slice_get t.cells i ≡ Some was → was.generation ≤ c.generation
      → IsSpent key (with_cell i c t)
  spent-write key t i was c s at le =
      elim (eqb_tells key.slot i) [
        | inl e ↦
            let same : key.slot ≡ i = e.1 in
            let cell = some_is s.cell was (sym s.at ∙ ap (slice_get t.cells) same ∙ at) in
            let gen = ap (λ (x : Cell T). x.generation) cell in
            record {
              cell = c;
              at = ap (slice_get (set t.cells i c)) same ∙ read-written t.cells i was c at;
              on = omega (arith, s.on, gen, le);
            }
        | inr n ↦ record { cell = s.cell; at = read-other t.cells i key.slot c n.1 ∙ s.at; on = s.on }
      ]

  spent-given : (key k : Key) (v : T) (b : Bool) (old new : Table T) → IsSpent key old → GivesBy b k v old new → (k ≡ key → ⊥) × IsSpent key new
  spent-given key k v true old new s g =
      let c : Cell T = record { generation = k.generation; value = Some v } in (
        λ e.
            let slot = ap (λ (x : Key). x.slot) e in
            let gen = ap (λ (x : Key). x.generation) e in
            let cell = some_is s.cell _ (sym s.at ∙ ap (slice_get old.cells) (sym slot) ∙ g.free) in
            let same = ap (λ (x : Cell T). x.generation) cell in
            omega (arith, s.on, same, gen),
        subst (λ (t : Table T). IsSpent key t) (sym g.after) (spent-write key old k.slot _ c s g.free (omega arith)),
      )
  spent-given key k v false old new s g = (
    λ e.
        let slot = ap (λ (x : Key). x.slot) e in
        let inside = read-inside old.cells key.slot s.cell s.at in
        omega (arith, slot, inside, g.slot),
    subst (λ (t : Table T). IsSpent key t) (sym g.after) (record { cell = s.cell; at = read-before old.cells _ key.slot s.cell s.at; on = s.on }),
  )

  spent-step : (key : Key) (call : Call T) (old new : Table T) → IsSpent key old → Makes call old new → GivesOther key call × IsSpent key new
  spent-step key (Give k v) old new s m = spent-given key k v (list_any is_free old.cells) old new s m.1
  spent-step key (Take k) old new s m =
      let f = found old k m.0 in
      (tt, subst (λ (t : Table T). IsSpent key t) (sym m.1) (spent-write key old k.slot f.cell (record { generation = k.generation + 1; value = None }) s f.at (omega (arith, f.generation))))
  spent-step key (Replace k v) old new s m =
      let f = found old k m.0 in
      (tt, subst (λ (t : Table T). IsSpent key t) (sym m.1) (spent-write key old k.slot f.cell (record { generation = k.generation; value = Some v }) s f.at (omega (arith, f.generation))))

  spent-run : (key : Key) (t : Table T) (ms : List (Call T × Table T)) → IsSpent key t → IsRun t ms → NeverGiven key ms × IsSpent key (end_of t ms)
  spent-run key t [] s r = (tt, s)
  spent-run key t (m ∷ ms) s r =
      let step = spent-step key m.0 t m.1 s r.0 in
      let rest = spent-run key m.1 ms step.1 r.1 in
      ((step.0, rest.0), rest.1)

  spent-none : (key : Key) (t : Table T) → IsSpent key t → held key t ≡ None
  spent-none key t s =
      ap (value_at key.generation) s.at
      ∙ ap (λ (b : Bool). cond b s.cell.value None) (ne_eqb s.cell.generation key.generation (λ e. omega (arith, e, s.on)))

  -- A key that was taken
  pub over : (t : Table T) (key : Key) (ms : List (Call T × Table T)) → IsSome (held key t) → IsRun (after_take key t) ms
      → IsOver key ms (end_of (after_take key t) ms)
  over t key ms some run =
      let f = found t key some in
      let c : Cell T = record { generation = key.generation + 1; value = None } in
      let s : IsSpent key (after_take key t) = record { cell = c; at = read-written t.cells key.slot f.cell c f.at; on = omega arith } in
      let all = spent-run key (after_take key t) ms s run in
      record { never = all.0; nothing = spent-none key (end_of (after_take key t) ms) all.1 }

  -- How many keys a slot gave
  abbrev uses : ℕ → Cell T → ℕ
  uses first c = (c.generation - first) + bit (is_some c.value)

  -- A slot is between its first and its last generation, and before the last one where it has a value
  record IsFit (first : ℕ) (c : Cell T) : Type 0 where
    from : first ≤ c.generation
    to : c.generation ≤ GENERATIONS
    used : is_some c.value ≡ true → c.generation < GENERATIONS

  abbrev AllFit : ℕ → List (Cell T) → Type 0
  AllFit first [] = Unit {0}
  AllFit first (c ∷ cs) = IsFit first c × AllFit first cs

  fit-at : (first : ℕ) (cs : List (Cell T)) (i : ℕ) (c : Cell T) → AllFit first cs → slice_get cs i ≡ Some c → IsFit first c
  fit-at first [] i c a h = cc
  fit-at first (d ∷ cs) zero c a h = subst (λ (x : Cell T). IsFit first x) (some_is d c h) a.0
  fit-at first (d ∷ cs) (suc i) c a h = fit-at first cs i c a.1 h

  fit-write : (first : ℕ) (cs : List (Cell T)) (i : ℕ) (c : Cell T) → AllFit first cs → IsFit first c → AllFit first (set cs i c)
  fit-write first [] i c a f = tt
  fit-write first (d ∷ cs) zero c a f = (f, a.1)
  fit-write first (d ∷ cs) (suc i) c a f = (a.0, fit-write first cs i c a.1 f)

  fit-append : (first : ℕ) (cs : List (Cell T)) (c : Cell T) → AllFit first cs → IsFit first c → AllFit first (cs ++ c ∷ [])
  fit-append first [] c a f = (f, tt)
  fit-append first (d ∷ cs) c a f = (a.0, fit-append first cs c a.1 f)

  abbrev has_value : Cell T → Bool
  has_value c = is_some c.value

  -- A slot that is not free has a value or is retired, and not both
  one-of : (first : ℕ) (c : Cell T) → IsFit first c → is_free c ≡ false → bit (has_value c) + bit (is_retired c) ≡ 1
  one-of first c f h =
      by_bool (bit (has_value c) + bit (is_retired c) ≡ 1) (has_value c)
      (λ e. let a = ap bit e in let b = ap bit (ne_eqb c.generation GENERATIONS (λ q. omega (arith, q, f.used e))) in omega (arith, a, b))
      (λ e.
      let a = ap bit e in
      let left : ltb c.generation GENERATIONS ≡ false = sym (ap (λ (b : Bool). not b && ltb c.generation GENERATIONS) e) ∙ h in
      let last : c.generation ≡ GENERATIONS =
      elim (eqb_tells c.generation GENERATIONS) [
        | inl q ↦ q.1
        | inr q ↦
            let ne : c.generation ≡ GENERATIONS → ⊥ = q.1 in
            let yes : ltb c.generation GENERATIONS ≡ true = lt-ltb c.generation GENERATIONS (omega (arith, f.to)) in
            cc
      ] in
      let b = ap bit (eq-eqb c.generation GENERATIONS last) in
      omega (arith, a, b))

  none-free : (first : ℕ) (cs : List (Cell T)) → AllFit first cs → list_any is_free cs ≡ false → length cs ≡ count_by has_value cs + count_by is_retired cs
  none-free first [] a h = refl
  none-free first (c ∷ cs) a h =
      let parts = or_false (is_free c) (list_any is_free cs) h in
      let one = one-of first c a.0 parts.0 in
      let x = count-cons has_value c cs in
      let y = count-cons is_retired c cs in
      omega (arith, one, x, y, none-free first cs a.1 parts.1)

  -- Each retired slot gave a key of each generation
  retired-uses : (first : ℕ) (c : Cell T) → bit (is_retired c) * (GENERATIONS - first) ≤ uses first c
  retired-uses first c =
      elim (eqb_tells c.generation GENERATIONS) [
        | inl e ↦ let a = ap bit e.0 in let same : c.generation ≡ GENERATIONS = e.1 in rw e.0 (omega (arith, same))
        | inr n ↦ rw n.0 (omega arith)
      ]

  all-uses : (first : ℕ) (cs : List (Cell T)) → count_by is_retired cs * (GENERATIONS - first) ≤ sum_by (uses first) cs
  all-uses first [] = omega arith
  all-uses first (c ∷ cs) =
      let k : ℕ = GENERATIONS - first in
      let x = ap (λ n. n * k) (count-cons is_retired c cs) in
      let y = sum_by-cons (uses first) c cs in
      omega (arith, x, y, retired-uses first c, all-uses first cs)

  record IsKept (first most given : ℕ) (t : Table T) : Type 0 where
    begins : t.first ≡ first
    within : first < GENERATIONS
    fit : AllFit first t.cells
    slots : length t.cells ≤ most + count_by is_retired t.cells
    keys : sum_by (uses first) t.cells ≡ given

  -- A write to a slot that does not bring it back
  kept-write : (first most given more i : ℕ) (t : Table T) (was c : Cell T) → IsKept first most given t → slice_get t.cells i ≡ Some was → IsFit first c
      → bit (is_retired was) ≤ bit (is_retired c) → uses first c ≡ uses first was + more → IsKept first most (given + more) (with_cell i c t)
  kept-write first most given more i t was c k at fit le gain =
      let len = length-set t.cells i c in
      let r = sum-written (λ x. bit (is_retired x)) t.cells i was c at in
      let u = sum-written (uses first) t.cells i was c at in
      record {
        begins = k.begins;
        within = k.within;
        fit = fit-write first t.cells i c k.fit fit;
        slots = omega (arith, len, r, le, k.slots);
        keys = omega (arith, u, gain, k.keys);
      }

  kept-given : (first most given : ℕ) (k : Key) (v : T) (b : Bool) (old new : Table T) → list_any is_free old.cells ≡ b → IsKept first most given old
      → held_count new ≤ most → GivesBy b k v old new → IsKept first most (given + 1) new
  kept-given first most given k v true old new is kept few g =
      let c : Cell T = record { generation = k.generation; value = Some v } in
      let was = fit-at first old.cells k.slot _ kept.fit g.free in
      let fit : IsFit first c = record { from = was.from; to = was.to; used = λ e. g.usable } in
      subst (λ (t : Table T). IsKept first most (given + 1) t) (sym g.after)
      (kept-write first most given 1 k.slot old _ c kept g.free fit (omega arith) (omega arith))
  kept-given first most given k v false old new is kept few g =
      let c : Cell T = record { generation = old.first; value = Some v } in
      let cs : List (Cell T) = old.cells ++ c ∷ [] in
      let begins = kept.begins in
      let within = kept.within in
      let fit : IsFit first c = record { from = omega (arith, begins); to = omega (arith, begins, within); used = λ e. omega (arith, begins, within) } in
      let count = none-free first old.cells kept.fit is in
      let len = length-append old.cells (c ∷ []) in
      let r = sum_by_push (λ x. bit (is_retired x)) old.cells c in
      let h = sum_by_push (λ x. bit (is_some x.value)) old.cells c in
      let u = sum_by_push (uses first) old.cells c in
      let few' : count_by has_value cs ≤ most = subst (λ (t : Table T). held_count t ≤ most) g.after few in
      subst (λ (t : Table T). IsKept first most (given + 1) t) (sym g.after) (record {
        begins = begins;
        within = within;
        fit = fit-append first old.cells c kept.fit fit;
        slots = omega (arith, count, len, r, h, few');
        keys = omega (arith, u, begins, kept.keys);
      })

  kept-step : (first most given : ℕ) (call : Call T) (old new : Table T) → IsKept first most given old → held_count new ≤ most → Makes call old new
      → IsKept first most (given + keys_of call) new
  kept-step first most given (Give k v) old new kept few m = kept-given first most given k v (list_any is_free old.cells) old new refl kept few m.1
  kept-step first most given (Take k) old new kept few m =
      let f = found old k m.0 in
      let was = fit-at first old.cells k.slot f.cell kept.fit f.at in
      let below = was.used f.some in
      let c : Cell T = record { generation = k.generation + 1; value = None } in
      let gen = f.generation in
      let from = was.from in
      let fit : IsFit first c = record { from = omega (arith, from, gen); to = omega (arith, below, gen); used = λ e. cc } in
      let some = ap bit f.some in
      let not_retired = ap bit (ne_eqb f.cell.generation GENERATIONS (λ e. omega (arith, e, below))) in
      subst (λ (t : Table T). IsKept first most (given + 0) t) (sym m.1)
      (kept-write first most given 0 k.slot old f.cell c kept f.at fit (omega (arith, not_retired)) (omega (arith, some, gen, from)))
  kept-step first most given (Replace k v) old new kept few m =
      let f = found old k m.0 in
      let was = fit-at first old.cells k.slot f.cell kept.fit f.at in
      let below = was.used f.some in
      let c : Cell T = record { generation = k.generation; value = Some v } in
      let gen = f.generation in
      let from = was.from in
      let fit : IsFit first c = record { from = omega (arith, from, gen); to = omega (arith, below, gen); used = λ e. omega (arith, below, gen) } in
      let some = ap bit f.some in
      let not_retired = ap bit (ne_eqb f.cell.generation GENERATIONS (λ e. omega (arith, e, below))) in
      subst (λ (t : Table T). IsKept first most (given + 0) t) (sym m.1)
      (kept-write first most given 0 k.slot old f.cell c kept f.at fit (omega (arith, not_retired)) (omega (arith, some, gen)))

  kept-run : (first most given : ℕ) (t : Table T) (ms : List (Call T × Table T)) → IsKept first most given t → IsRun t ms → HoldAtMost most ms
      → IsKept first most (given + given_count ms) (end_of t ms)
  kept-run first most given t [] k r h = let e : given ≡ given + 0 = omega arith in subst (λ n. IsKept first most n t) e k
  kept-run first most given t (m ∷ ms) k r h =
      let step = kept-step first most given m.0 t m.1 k h.0 r.0 in
      let rest = kept-run first most (given + keys_of m.0) m.1 ms step r.1 h.1 in
      let e : given + keys_of m.0 + given_count ms ≡ given + (keys_of m.0 + given_count ms) = omega arith in
      subst (λ n. IsKept first most n (end_of m.1 ms)) e rest

  -- How many slots there are after a run
  pub bounded : (limit first most : ℕ) (ms : List (Call T × Table T)) → first < GENERATIONS → IsRun (empty limit first) ms → HoldAtMost most ms
      → IsBounded first most (given_count ms) (end_of (empty limit first) ms)
  bounded limit first most ms begins run holds =
      let start : IsKept first most 0 (empty limit first) = record { begins = refl; within = begins; fit = tt; slots = omega arith; keys = refl } in
      let end = kept-run first most 0 (empty limit first) ms start run holds in
      let keys = end.keys in
      let all = all-uses first (end_of (empty limit first) ms).cells in
      record { slots = end.slots; keys = omega (arith, keys, all) }

  -- No more values are held than may be
  record IsWithin (limit : ℕ) (t : Table T) : Type 0 where
    same : t.limit ≡ limit
    most : held_count t ≤ limit

  within-given : (limit : ℕ) (k : Key) (v : T) (b : Bool) (old new : Table T) → IsWithin limit old → is_full old ≡ false → GivesBy b k v old new → IsWithin limit new
  within-given limit k v true old new w room g =
      let c : Cell T = record { generation = k.generation; value = Some v } in
      let gain = sum-written (λ x. bit (is_some x.value)) old.cells k.slot _ c g.free in
      let less = below-limit old.limit (held_count old) room in
      subst (λ (t : Table T). IsWithin limit t) (sym g.after) (record { same = w.same; most = omega (arith, gain, less, w.same) })
  within-given limit k v false old new w room g =
      let gain = sum_by_push (λ (x : Cell T). bit (is_some x.value)) old.cells (record { generation = old.first; value = Some v }) in
      let less = below-limit old.limit (held_count old) room in
      subst (λ (t : Table T). IsWithin limit t) (sym g.after) (record { same = w.same; most = omega (arith, gain, less, w.same) })

  within-write : (limit i : ℕ) (t : Table T) (was c : Cell T) → IsWithin limit t → slice_get t.cells i ≡ Some was → is_some was.value ≡ true → IsWithin limit (with_cell i c t)
  within-write limit i t was c w at some =
      let gain = sum-written (λ x. bit (is_some x.value)) t.cells i was c at in
      let one = ap bit some in
      let most : bit (is_some c.value) ≤ 1 = by_bool (bit (is_some c.value) ≤ 1) (is_some c.value) (λ e. let b = ap bit e in omega (arith, b)) (λ e. let b = ap bit e in omega (arith, b)) in
      record { same = w.same; most = omega (arith, gain, one, most, w.most) }

  within-step : (limit : ℕ) (call : Call T) (old new : Table T) → IsWithin limit old → Makes call old new → IsWithin limit new
  within-step limit (Give k v) old new w m = within-given limit k v (list_any is_free old.cells) old new w m.0 m.1
  within-step limit (Take k) old new w m =
      let f = found old k m.0 in
      subst (λ (t : Table T). IsWithin limit t) (sym m.1) (within-write limit k.slot old f.cell (record { generation = k.generation + 1; value = None }) w f.at f.some)
  within-step limit (Replace k v) old new w m =
      let f = found old k m.0 in
      subst (λ (t : Table T). IsWithin limit t) (sym m.1) (within-write limit k.slot old f.cell (record { generation = k.generation; value = Some v }) w f.at f.some)

  within-run : (limit : ℕ) (t : Table T) (ms : List (Call T × Table T)) → IsWithin limit t → IsRun t ms → HoldAtMost limit ms
  within-run limit t [] w r = tt
  within-run limit t (m ∷ ms) w r = let step = within-step limit m.0 t m.1 w r.0 in (step.most, within-run limit m.1 ms step r.1)

  -- Slots never run out, where they begin with generation 0
  pub room : (limit : ℕ) (ms : List (Call T × Table T)) → limit < 2 ^ 31 → IsRun (empty limit 0) ms → given_count ms < 2 ^ 63
      → length (end_of (empty limit 0) ms).cells < 2 ^ 32 - 1
  room limit ms small run given =
      let b = bounded limit 0 limit ms (omega arith) run (within-run limit (empty limit 0) ms (record { same = refl; most = omega arith }) run) in
      omega (arith, b.slots, b.keys)
