use Rattle.std.proofs.Common.{◌≡◌, ℕ, ◌+◌, ◌-◌, ◌<◌, ◌^◌, List, [], ◌∷◌, ◌++◌, length, get_or, set, refl, ap, arith, ◌∙◌, sym, subst, true, false, rules, Option, Some, None}
use Rattle.slab.specs.Slab.{Slab, get, slab_len, Updates}
use Rattle.vh_slots.specs.declared.slots.TheConstants.{GENERATIONS}
use Rattle.vh_slots.specs.declared.slots.Slot.{Slot}
use Rattle.vh_slots.specs.Table.{Table, is_full, Gives}
use Rattle.vh_slots.specs.Views.{slot_at, table_in, IsSound, nothing}
use Rattle.vh_slots.proofs.ListsLemmas.{default-other, length-mapped}
use Rattle.vh_slots.proofs.ViewsLemmas.{full-true, full-false, head-free, sound-open, sound-reuse, gives-open, gives-reuse}
use Rattle.vh_slots.proofs.slots.Slots.give.Goals as goal

-- A slot more, as the code makes it
opened : {T : Type 0} (slots new_slots : List Slot) (old new : Slab T) (head : Option ℕ) (retired first k g : ℕ) (v : T)
    → IsSound slots old head retired first → head ≡ None → length slots + 1 < 2 ^ 32 → get old k ≡ None → Updates old new k (Some v)
    → slab_len new ≡ slab_len old + 1 → g ≡ first → new_slots ≡ slots ++ record { generation = g; at = Some k; next = None } ∷ []
    → IsSound new_slots new head retired first
opened slots new_slots old new head retired first k g v h none room vacant u len begins more =
    let sound = subst (λ (o : Option ℕ). IsSound slots old o retired first) none h in
    let is : new_slots ≡ slots ++ record { generation = first; at = Some k; next = None } ∷ [] =
    more ∙ ap (λ n. slots ++ record { generation = n; at = Some k; next = None } ∷ []) begins in
    subst (λ (o : Option ℕ). IsSound new_slots new o retired first) (sym none)
    (subst (λ (ss : List Slot). IsSound ss new None retired first) (sym is) (sound-open slots old new retired first k v sound room vacant u len))

opened-gives : {T : Type 0} (slots new_slots : List Slot) (old new : Slab T) (head : Option ℕ) (retired first limit k g n : ℕ) (v : T) (t : Table T)
    → IsSound slots old head retired first → head ≡ None → get old k ≡ None → Updates old new k (Some v) → g ≡ first → n ≡ length slots
    → new_slots ≡ slots ++ record { generation = g; at = Some k; next = None } ∷ [] → table_in slots old limit first ≡ t
    → Gives (record { slot = n; generation = first }) v t (table_in new_slots new limit first)
opened-gives slots new_slots old new head retired first limit k g n v t h none vacant u begins number more seen =
    let sound = subst (λ (o : Option ℕ). IsSound slots old o retired first) none h in
    let is : new_slots ≡ slots ++ record { generation = first; at = Some k; next = None } ∷ [] =
    more ∙ ap (λ m. slots ++ record { generation = m; at = Some k; next = None } ∷ []) begins in
    let all = gives-open slots old new retired first limit k v sound vacant u in
    subst (λ (s : Table _). Gives (record { slot = n; generation = first }) v s (table_in new_slots new limit first)) seen
    (subst (λ (ss : List Slot). Gives (record { slot = n; generation = first }) v (table_in slots old limit first) (table_in ss new limit first)) (sym is)
    (subst (λ m. Gives (record { slot = m; generation = first }) v (table_in slots old limit first)
    (table_in (slots ++ record { generation = first; at = Some k; next = None } ∷ []) new limit first)) (sym number) all))

few : {T : Type 0} (slots : List Slot) (values : Slab T) (limit first : ℕ) (t : Table T) → table_in slots values limit first ≡ t
    → length t.cells < 2 ^ 32 - 1 → length slots + 1 < 2 ^ 32
few slots values limit first t seen h =
    let cells : length t.cells ≡ length slots = ap (λ (s : Table _). length s.cells) (sym seen) ∙ length-mapped _ slots in omega (arith, cells)

-- A free slot used, as the code reads it
reused : {T : Type 0} (slots : List Slot) (old new : Slab T) (head : Option ℕ) (x retired first k : ℕ) (found : Slot) (v : T)
    → IsSound slots old head retired first → head ≡ Some x → found ≡ slot_at slots x → get old k ≡ None → Updates old new k (Some v)
    → slab_len new ≡ slab_len old + 1
    → IsSound (set slots x (record { generation = found.generation; at = Some k; next = None })) new found.next retired first
reused slots old new head x retired first k found v h first_is is vacant u len =
    let sound = subst (λ (o : Option ℕ). IsSound slots old o retired first) first_is h in
    subst (λ (s : Slot). IsSound (set slots x (record { generation = s.generation; at = Some k; next = None })) new s.next retired first) (sym is)
    (sound-reuse slots old new x retired first k v sound vacant u len)

reused-gives : {T : Type 0} (slots : List Slot) (old new : Slab T) (head : Option ℕ) (x retired first limit k : ℕ) (found : Slot) (v : T) (t : Table T)
    → IsSound slots old head retired first → head ≡ Some x → found ≡ slot_at slots x → get old k ≡ None → Updates old new k (Some v)
    → table_in slots old limit first ≡ t
    → Gives (record { slot = x; generation = found.generation }) v t
    (table_in (set slots x (record { generation = found.generation; at = Some k; next = None })) new limit first)
reused-gives slots old new head x retired first limit k found v t h first_is is vacant u seen =
    let sound = subst (λ (o : Option ℕ). IsSound slots old o retired first) first_is h in
    subst (λ (s : Table _). Gives (record { slot = x; generation = found.generation }) v s
    (table_in (set slots x (record { generation = found.generation; at = Some k; next = None })) new limit first)) seen
    (subst (λ (s : Slot). Gives (record { slot = x; generation = s.generation }) v (table_in slots old limit first)
    (table_in (set slots x (record { generation = s.generation; at = Some k; next = None })) new limit first)) (sym is)
    (gives-reuse slots old new x retired first limit k v sound vacant u))

in-slots : {T : Type 0} (slots : List Slot) (values : Slab T) (head : Option ℕ) (x retired first n : ℕ) → IsSound slots values head retired first
    → head ≡ Some x → n ≡ length slots → x < n
in-slots slots values head x retired first n h is len =
    let f = head-free slots values x retired first (subst (λ (o : Option ℕ). IsSound slots values o retired first) is h) in omega (arith, f.0, len)

in-range : {T : Type 0} (slots : List Slot) (values : Slab T) (head : Option ℕ) (x retired first : ℕ) (found : Slot) → IsSound slots values head retired first
    → head ≡ Some x → found ≡ slot_at slots x → found.generation < GENERATIONS
in-range slots values head x retired first found h is same =
    let f = head-free slots values x retired first (subst (λ (o : Option ℕ). IsSound slots values o retired first) is h) in
    let g = ap (λ (s : Slot). s.generation) same in
    omega (arith, f.2, g)

found-is : {T : Type 0} (slots : List Slot) (values : Slab T) (head : Option ℕ) (x retired first : ℕ) (found : Slot) → IsSound slots values head retired first
    → head ≡ Some x → found ≡ get_or slots x found → found ≡ slot_at slots x
found-is slots values head x retired first found h is e =
    let f = head-free slots values x retired first (subst (λ (o : Option ℕ). IsSound slots values o retired first) is h) in
    e ∙ default-other slots x found nothing f.0

pub returns-then-len-self-clause-err : goal.returns-then-len-self-clause-err
returns-then-len-self-clause-err g c =
    (subst (λ (t : Table _). is_full t ≡ true) c.self.view_is (full-true _ _ _ _ _ _ _ c.self.invariant c.len.ensures c.if-len-self.true), refl)

pub returns-then-is_err-clause-err : goal.returns-then-is_err-clause-err
returns-then-is_err-clause-err g c =
    (subst (λ (t : Table _). is_full t ≡ false) c.self.view_is (full-false _ _ _ _ _ _ _ c.self.invariant c.len.ensures c.if-len-self.false), refl)

pub returns-in-Err-clause-err : goal.returns-in-Err-clause-err
returns-in-Err-clause-err g c =
    (subst (λ (t : Table _). is_full t ≡ false) c.self.view_is (full-false _ _ _ _ _ _ _ c.self.invariant c.len.ensures c.if-len-self.false), c.in-Err.ensures.value_returned)

pub returns-in-Err-insert-clause-err : goal.returns-in-Err-insert-clause-err
returns-in-Err-insert-clause-err g c =
    (subst (λ (t : Table _). is_full t ≡ false) c.self.view_is (full-false _ _ _ _ _ _ _ c.self.invariant c.len.ensures c.if-len-self.false), c.in-Err-insert.ensures.value_returned)

pub returns-in_default-clause-room : goal.returns-in_default-clause-room
returns-in_default-clause-room g c =
    subst (λ (t : Table _). is_full t ≡ false) c.self.view_is (full-false _ _ _ _ _ _ _ c.self.invariant c.len.ensures c.if-len-self.false)

pub returns-clause-room : goal.returns-clause-room
returns-clause-room g c =
    subst (λ (t : Table _). is_full t ≡ false) c.self.view_is (full-false _ _ _ _ _ _ _ c.self.invariant c.len.ensures c.if-len-self.false)

pub invariant_of-self-in_default : goal.invariant_of-self-in_default
invariant_of-self-in_default g c =
    opened _ _ _ _ _ _ _ _ _ _ c.self.invariant c.in_default.is (few c.self.inside.slots.items c.self.inside.values c.self.inside.limit c.self.inside.first _ c.self.view_is c.requires)
    c.in-Ok.ensures.was_vacant c.in-Ok.ensures.updates c.in-Ok.ensures.len c.from.ensures
    (c.push_reserved.ensures.items ∙ ap (λ (ss : List Slot). ss ++ record { generation = c.from.result; at = Some c.in-Ok.at; next = None } ∷ []) c.reserve.ensures.items)

pub returns-in_default-clause-given : goal.returns-in_default-clause-given
returns-in_default-clause-given g c =
    opened-gives _ _ _ _ _ _ _ _ _ _ _ _ _ c.self.invariant c.in_default.is c.in-Ok.ensures.was_vacant c.in-Ok.ensures.updates c.from.ensures
    (c.len-slot.ensures ∙ c.reserve.new.self.ok.0 ∙ ap (λ (ss : List Slot). length ss) c.reserve.ensures.items)
    (c.push_reserved.ensures.items ∙ ap (λ (ss : List Slot). ss ++ record { generation = c.from.result; at = Some c.in-Ok.at; next = None } ∷ []) c.reserve.ensures.items) c.self.view_is

pub index-found-requires : goal.index-found-requires
index-found-requires g c = in-slots _ _ _ _ _ _ _ c.self.invariant c.in-Some.is c.self.inside.slots.ok.0

pub index_mut-requires : goal.index_mut-requires
index_mut-requires g c = in-slots _ _ _ _ _ _ _ c.self.invariant c.in-Some.is c.self.inside.slots.ok.0

pub overflow_cast-result : goal.overflow_cast-result
overflow_cast-result g c =
    let below = in-range _ _ _ _ _ _ _ c.self.invariant c.in-Some.is (found-is _ _ _ _ _ _ _ c.self.invariant c.in-Some.is c.index-found.ensures) in
    search (rules, below)

pub invariant_of-self-2 : goal.invariant_of-self-2
invariant_of-self-2 g c =
    reused _ _ _ _ _ _ _ _ _ _ c.self.invariant c.in-Some.is (found-is _ _ _ _ _ _ _ c.self.invariant c.in-Some.is c.index-found.ensures)
    c.in-Ok-insert.ensures.was_vacant c.in-Ok-insert.ensures.updates c.in-Ok-insert.ensures.len

pub returns-clause-given : goal.returns-clause-given
returns-clause-given g c =
    reused-gives _ _ _ _ _ _ _ _ _ _ _ _ c.self.invariant c.in-Some.is (found-is _ _ _ _ _ _ _ c.self.invariant c.in-Some.is c.index-found.ensures)
    c.in-Ok-insert.ensures.was_vacant c.in-Ok-insert.ensures.updates c.self.view_is
