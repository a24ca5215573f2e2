use Rattle.std.proofs.Common.{◌≡◌, ℕ, ◌+◌, ◌<◌, ◌^◌, List, length, set, ap, arith, ◌∙◌, sym, rules, Option, Some, None}
use Rattle.slab.specs.Slab.{Slab, get, slab_len, Updates}
use Rattle.vh_slots.specs.declared.slots.TheConstants.{GENERATIONS}
use Rattle.vh_slots.specs.declared.slots.Key.{Key}
use Rattle.vh_slots.specs.declared.slots.Slot.{Slot}
use Rattle.vh_slots.specs.Table.{Table, held, with_cell, after_take}
use Rattle.vh_slots.specs.Views.{position_of, value_in, table_in, IsSound}
use Rattle.std.proofs.lemmas.List.Sums.{count_by-le-length}
use Rattle.vh_slots.specs.Views.{is_over}
use Rattle.vh_slots.proofs.ViewsLemmas.{position-found, held-is, sound-take, sound-retire, taken-is}
use Rattle.vh_slots.proofs.slots.Slots.take.Goals as goal

-- The value that was under a key
was-held : {T : Type 0} (slots : List Slot) (values : Slab T) (limit first k : ℕ) (key : Key) (v : T) (t : Table T) → table_in slots values limit first ≡ t
    → Some k ≡ position_of slots key → get values k ≡ Some v → Some v ≡ held key t
was-held slots values limit first k key v t seen at value =
    sym (ap (held key) (sym seen) ∙ held-is key.generation values slots key.slot ∙ ap (value_in values) (sym at) ∙ value)

-- What is left under it
was-taken : {T : Type 0} (slots : List Slot) (old new : Slab T) (head next : Option ℕ) (retired first limit k g : ℕ) (key : Key) (t : Table T)
    → table_in slots old limit first ≡ t → IsSound slots old head retired first → Some k ≡ position_of slots key → Updates old new k None → g ≡ key.generation
    → table_in (set slots key.slot (record { generation = g + 1; at = None; next = next })) new limit first ≡ after_take key t
was-taken slots old new head next retired first limit k g key t seen h at u gen =
    let p = position-found key.generation slots key.slot k (sym at) in
    taken-is slots old new head next retired first limit key.slot k g h p.2 u
    ∙ ap (λ n. with_cell key.slot (record { generation = n + 1; value = None }) (table_in slots old limit first)) gen
    ∙ ap (λ (s : Table _). after_take key s) seen

retires : {T : Type 0} (slots : List Slot) (old new : Slab T) (head : Option ℕ) (retired first k g : ℕ) (key : Key)
    → IsSound slots old head retired first → Some k ≡ position_of slots key → Updates old new k None → slab_len new + 1 ≡ slab_len old → g ≡ key.generation
    → g + 1 ≡ GENERATIONS → IsSound (set slots key.slot (record { generation = g + 1; at = None; next = None })) new head (retired + 1) first
retires slots old new head retired first k g key h at u len gen last =
    let p = position-found key.generation slots key.slot k (sym at) in
    sound-retire slots old new head retired first key.slot k g h p.0 (p.1 ∙ sym gen) p.2 last u len

takes : {T : Type 0} (slots : List Slot) (old new : Slab T) (head : Option ℕ) (retired first k g : ℕ) (key : Key)
    → IsSound slots old head retired first → Some k ≡ position_of slots key → Updates old new k None → slab_len new + 1 ≡ slab_len old → g ≡ key.generation
    → (g + 1 ≡ GENERATIONS → ⊥)
    → IsSound (set slots key.slot (record { generation = g + 1; at = None; next = head })) new (Some key.slot) retired first
takes slots old new head retired first k g key h at u len gen more =
    let p = position-found key.generation slots key.slot k (sym at) in
    let below = h.keyed key.slot k p.2 in
    sound-take slots old new head retired first key.slot k g h p.0 (p.1 ∙ sym gen) p.2 (omega (arith, below, p.1, gen, more)) u len

in-slots : (slots : List Slot) (n k : ℕ) (key : Key) → Some k ≡ position_of slots key → n ≡ length slots → key.slot < n
in-slots slots n k key at len = let p = position-found key.generation slots key.slot k (sym at) in omega (arith, p.0, len)

pub overflow_add-self : goal.overflow_add-self
overflow_add-self g c =
    let sound = retires _ _ _ _ _ _ _ _ c.args.key c.self.invariant c.in_ok-at.ensures c.remove-value.ensures.updates c.remove-value.ensures.len c.from-generation.ensures c.if-generation-eq-GENERATIONS.true in
    let most = count_by-le-length is_over (set c.self.inside.slots.items c.args.key.slot (record { generation = c.from-generation.result + 1; at = None; next = None })) in
    let below : c.self.inside.retired + 1 < 2 ^ 32 = omega (arith, sound.over, most, sound.few) in
    search (rules, below)

pub invariant_of-self : goal.invariant_of-self
invariant_of-self g c =
    retires _ _ _ _ _ _ _ _ c.args.key c.self.invariant c.in_ok-at.ensures c.remove-value.ensures.updates c.remove-value.ensures.len c.from-generation.ensures c.if-generation-eq-GENERATIONS.true

pub returns-then-generation-eq-GENERATIONS-clause-value : goal.returns-then-generation-eq-GENERATIONS-clause-value
returns-then-generation-eq-GENERATIONS-clause-value g c = was-held c.self.inside.slots.items c.self.inside.values c.self.inside.limit c.self.inside.first _ c.args.key _ _ c.self.view_is c.in_ok-at.ensures c.remove-value.ensures.value

pub returns-then-generation-eq-GENERATIONS-clause-taken : goal.returns-then-generation-eq-GENERATIONS-clause-taken
returns-then-generation-eq-GENERATIONS-clause-taken g c =
    was-taken _ _ _ _ _ _ _ _ _ _ c.args.key _ c.self.view_is c.self.invariant c.in_ok-at.ensures c.remove-value.ensures.updates c.from-generation.ensures

pub index_mut-requires-2 : goal.index_mut-requires-2
index_mut-requires-2 g c = in-slots _ _ _ c.args.key c.in_ok-at.ensures c.self.inside.slots.ok.0

pub invariant_of-self-2 : goal.invariant_of-self-2
invariant_of-self-2 g c =
    takes _ _ _ _ _ _ _ _ c.args.key c.self.invariant c.in_ok-at.ensures c.remove-value.ensures.updates c.remove-value.ensures.len c.from-generation.ensures c.if-generation-eq-GENERATIONS.false

pub returns-clause-value : goal.returns-clause-value
returns-clause-value g c = was-held c.self.inside.slots.items c.self.inside.values c.self.inside.limit c.self.inside.first _ c.args.key _ _ c.self.view_is c.in_ok-at.ensures c.remove-value.ensures.value

pub returns-clause-taken : goal.returns-clause-taken
returns-clause-taken g c =
    was-taken _ _ _ _ _ _ _ _ _ _ c.args.key _ c.self.view_is c.self.invariant c.in_ok-at.ensures c.remove-value.ensures.updates c.from-generation.ensures
