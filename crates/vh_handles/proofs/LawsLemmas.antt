-- What opening, freeing and advancing mean for a number.
use Rattle.std.proofs.Common.{◌≡◌, ℕ, ◌+◌, ◌≤◌, List, length, Bool, true, false, ◌||◌, nat_eq, nat_le, Option, Some, None, is_some, refl, sym, ap, subst, ◌∙◌, arith}
use Rattle.std.proofs.lemmas.Bool.{eqb-true, eq-eqb, leb-false, or_parts}
use Rattle.std.specs.Option.{option_and_then}
use Rattle.std.specs.Prelude.{unwrap_or}
use Rattle.vh_handles.specs.declared.handles.Thing.{Thing}
use Rattle.std.specs.BTreeMap.{is_at, insert_entry}
use Rattle.std.specs.Map.{remove_entry, set_value}
use Rattle.std.specs.Ordering.{nat_cmp}
use Rattle.vh_handles.proofs.NumberedLemmas.{given-more}
use Rattle.vh_handles.specs.Handles.{Handles, handles_of, thing_at, no_handle_more, opened, freed, past_next, naming}
use Rattle.vh_handles.specs.Laws.{IsSound, KeepsOthers, IsAdvanced, OpensSound, OpensOne, FreesOne, AdvancesOne}
use Rattle.vh_handles.proofs.EntriesLemmas.{climb_more, climb_less, climb_set, other_more, other_less, other_set, same_more, same_less, same_set, few_more, few_less, few_set}

or_right : (a b : Bool) → b ≡ true → (a || b) ≡ true
or_right true b is = refl
or_right false b is = is

absent : (o : Option Thing) → o ≡ None → is_some o ≡ true → ⊥
absent o none some = absurd (let a = ap (λ (x : Option Thing). is_some x) none in let b = some in cc)

-- No handle was given.
pub opens-sound : OpensSound
opens-sound = record { rise = tt; given = λ h some. absurd (let s = some in cc); few = omega arith }

room : (live count : ℕ) → (nat_le 65536 live || nat_le 9223372036854775808 count) ≡ false → live + 1 ≤ 65536
room live count none =
    let some = leb-false 65536 live (or_parts (nat_le 65536 live) (nat_le 9223372036854775808 count) none).0 in omega arith

opened-given-by : (b : Bool) (s : Handles) (h q : ℕ) (x : Thing) → IsSound s → nat_eq q h ≡ b
    → is_some (thing_at q (opened h x s)) ≡ true → (nat_eq q h || s.is_given q) ≡ true
opened-given-by true s h q x sound is some = rw is refl
opened-given-by false s h q x sound is some =
    or_right (nat_eq q h) (s.is_given q)
    (sound.given q (ap (λ (o : Option Thing). is_some o) (sym (other_more q h x s.live is)) ∙ some))

pub opens-one : OpensOne
opens-one s h x sound free = record {
  names = same_more h x s.live;
  is_given = rw (eq-eqb h h refl) refl;
  keeps = record {
    others = λ q apart. other_more q h x s.live apart;
    given = λ q given. or_right (nat_eq q h) (s.is_given q) given;
  };
  sound = record {
    rise = climb_more 0 h x s.live (omega arith) sound.rise;
    given = λ q some. opened-given-by (nat_eq q h) s h q x sound refl some;
    few = (let r = room (length s.live) s.count free in let f = few_more h x s.live in omega arith);
  };
}

freed-given-by : (b : Bool) (s : Handles) (h q : ℕ) → IsSound s → nat_eq q h ≡ b
    → is_some (thing_at q (freed h s)) ≡ true → s.is_given q ≡ true
freed-given-by true s h q sound is some =
    let same : q ≡ h = eqb-true q h is in
    absurd (absent (thing_at q (freed h s)) (subst (λ (n : ℕ). thing_at q (freed n s) ≡ None) same (same_less q 0 s.live sound.rise)) some)
freed-given-by false s h q sound is some =
    sound.given q (ap (λ (o : Option Thing). is_some o) (sym (other_less q h s.live is)) ∙ some)

pub frees-one : FreesOne
frees-one s h sound = record {
  nothing = same_less h 0 s.live sound.rise;
  keeps = record { others = λ q apart. other_less q h s.live apart; given = λ q given. given };
  sound = record {
    rise = climb_less 0 h s.live sound.rise;
    given = λ q some. freed-given-by (nat_eq q h) s h q sound refl some;
    few = (let a = sound.few in let f = few_less h s.live in omega arith);
  };
}

-- A live number that names another thing is live still.
named-given-by : (b : Bool) (s : Handles) (h q : ℕ) (x y : Thing) → IsSound s → thing_at h s ≡ Some y → nat_eq q h ≡ b
    → is_some (thing_at q (naming (Some x) h s)) ≡ true → s.is_given q ≡ true
named-given-by true s h q x y sound was is some =
    let same : q ≡ h = eqb-true q h is in
    sound.given q (subst (λ (n : ℕ). is_some (thing_at n s) ≡ true) (sym same) (ap (λ (o : Option Thing). is_some o) was))
named-given-by false s h q x y sound was is some =
    sound.given q (ap (λ (o : Option Thing). is_some o) (sym (other_set q h x s.live is)) ∙ some)

names-by : (o : Option Thing) (s : Handles) (h : ℕ) (x : Thing) → IsSound s → thing_at h s ≡ Some x → past_next x ≡ o
    → (thing_at h (naming o h s) ≡ Some (unwrap_or o x)) × KeepsOthers h s (naming o h s) × IsSound (naming o h s)
names-by None s h x sound was is = (was, record { others = λ q apart. refl; given = λ q given. given }, sound)
names-by (Some y) s h x sound was is = (
  same_set h y x s.live was,
  record { others = λ q apart. other_set q h y s.live apart; given = λ q given. given },
  record {
    rise = climb_set 0 h y s.live sound.rise;
    given = λ q some. named-given-by (nat_eq q h) s h q y x sound was refl some;
    few = (let a = sound.few in let f = few_set h y s.live in omega arith);
  },
)

advances-by : (o : Option Thing) (s : Handles) (h : ℕ) → IsSound s → thing_at h s ≡ o
    → IsAdvanced h s (naming (option_and_then past_next o) h s)
advances-by None s h sound was = record {
  names = rw was refl;
  keeps = record { others = λ q apart. refl; given = λ q given. given };
  sound = sound;
}
advances-by (Some x) s h sound was =
    let all = names-by (past_next x) s h x sound was refl in
    record { names = all.0 ∙ sym (rw was refl); keeps = all.1; sound = all.2 }

pub advances-one : AdvancesOne
advances-one s h sound = advances-by (thing_at h s) s h sound refl

-- Of handles as they are kept.
pub kept-opened : (live : List (ℕ × Thing)) (next : ℕ) (x : Thing) → IsSound (handles_of (record { live = live; next = next }))
    → no_handle_more (handles_of (record { live = live; next = next })) ≡ false
    → IsSound (handles_of (record { live = insert_entry nat_cmp live next x; next = next + 1 }))
kept-opened live next x sound free =
    subst (λ (f : ℕ → Bool). IsSound (record { live = insert_entry nat_cmp live next x; is_given = f; count = next + 1 }))
    (sym (given-more next)) ((opens-one (handles_of (record { live = live; next = next })) next x sound free).sound)

pub kept-freed : (live : List (ℕ × Thing)) (next h : ℕ) → IsSound (handles_of (record { live = live; next = next }))
    → IsSound (handles_of (record { live = remove_entry (is_at (nat_cmp h)) live; next = next }))
kept-freed live next h sound = (frees-one (handles_of (record { live = live; next = next })) h sound).sound

pub kept-named : (live : List (ℕ × Thing)) (next h : ℕ) (x y : Thing) → IsSound (handles_of (record { live = live; next = next }))
    → thing_at h (handles_of (record { live = live; next = next })) ≡ Some x
    → IsSound (handles_of (record { live = set_value (is_at (nat_cmp h)) live y; next = next }))
kept-named live next h x y sound was = record {
  rise = climb_set 0 h y live sound.rise;
  given = λ q some. named-given-by (nat_eq q h) (handles_of (record { live = live; next = next })) h q y x sound was refl some;
  few = (let a = sound.few in let f = few_set h y live in omega arith);
}
