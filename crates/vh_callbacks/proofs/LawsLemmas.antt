-- The laws of the callbacks.
use Rattle.std.proofs.Common.{◌≡◌, ◌<◌, ◌≤◌, ◌+◌, ◌-◌, ◌++◌, ℕ, List, [], ◌∷◌, length, Bool, true, false, cond, not, refl, sym, ap, ◌∙◌, arith, length-append, Option, Some, None, unwrap_or}
use Rattle.std.specs.Prelude.{nat_le, nat_lt, nat_eq, is_some, ◌&&◌}
use Rattle.std.specs.Option.{option_map, option_or}
use Rattle.std.specs.BTreeMap.{insert_entry}
use Rattle.std.specs.Ordering.{nat_cmp}
use Rattle.std.proofs.lemmas.Bool.{or_parts, leb-false, ne_eqb, eq-eqb, eqb-true, eqb-false}
use Rattle.vh_callbacks.specs.declared.live.Live.{Live}
use Rattle.vh_callbacks.specs.declared.registration.Registration.{Registration}
use Rattle.vh_callbacks.specs.Callbacks.{Callbacks, IsSound, live_at, without, changed, changed_in, is_running, is_last, one_more, one_less, with_data, held_after, held_less, known_at, body_after}
use Rattle.vh_callbacks.specs.Laws.{OpensSound, RegistersSound, RemovesSound, StartsSound, EndsSound, ChangesSound, NextIsNew, TellsRegistered, KeepsOthersRegistered, TellsNoneRemoved, KeepsOthersRemoved, HoldsRunning, CountsStarted, CountsEnded, KeepsOthersKnown, GivesLastBack, ForgetsLast, MatchingIsSet, MatchesIsSome}
use Rattle.vh_callbacks.proofs.CallbacksLemmas.{known_below, known_from, member, some, rise_more, rise_without, rise_changed, rise_insert, rise_to, live_above, live_more_new, live_more_other, live_without, live_without_same, live_without_other, live_insert, live_changed, live_changed_same, live_changed_other, length_without, length_changed}

not_zero : (b : Bool) (n : ℕ) → nat_eq n 0 ≡ b → not b ≡ true → n ≡ 0 → ⊥
not_zero true n is runs none = cc
not_zero false n is runs none = eqb-false n 0 is none

module _ {B : Type 0} where
  abbrev pub new_one : Registration → B → Live B
  new_one r b = record { registration = r; body = b; activations = 0 }

  -- ---- sound

  -- A new number is of none that is held.
  apart_new : (b : Bool) (c : ℕ) (s : Callbacks B) (l : Live B) → nat_eq c s.next ≡ b → IsSound s
      → is_some (live_at c (s.live ++ (s.next, l) ∷ [])) ≡ true → live_at c s.held ≡ None
  apart_new true c s l is sound there =
      let same : c ≡ s.next = eqb-true c s.next is in live_above c 1 s.held s.next (omega arith) sound.held
  apart_new false c s l is sound there =
      sound.apart c (ap is_some (sym (live_more_other c s.live s.next l is)) ∙ there)

  pub sound_registered : RegistersSound B
  sound_registered s r b sound room =
      let few : length s.live < 65536 = leb-false 65536 (length s.live) (or_parts (nat_le 65536 (length s.live)) (nat_lt 9223372036854775808 s.next) room).0 in
      record {
        rise = rise_more 1 s.live s.next (new_one r b) sound.rise;
        few = rw (length-append s.live ((s.next, new_one r b) ∷ [])) (omega arith);
        held = rise_to 1 s.held s.next (s.next + 1) (omega arith) sound.held;
        apart = λ c there. apart_new (nat_eq c s.next) c s (new_one r b) refl sound there;
        runs = sound.runs;
      }

  -- What is left of the live ones was there, and isn't the one that is gone.
  left_by : (b : Bool) (c d : ℕ) (o : Option (Live B)) → nat_eq c d ≡ b → is_some (cond b None o) ≡ true → (nat_eq c d ≡ false) × (is_some o ≡ true)
  left_by true c d o is there = cc
  left_by false c d o is there = (is, there)

  left : (c d : ℕ) (s : Callbacks B) → IsSound s → is_some (live_at d (without c s.live)) ≡ true → (nat_eq c d ≡ false) × (is_some (live_at d s.live) ≡ true)
  left c d s sound there =
      left_by (nat_eq c d) c d (live_at d s.live) refl (ap is_some (sym (live_without c d 1 s.live s.next sound.rise)) ∙ there)

  few_left : (c : ℕ) (s : Callbacks B) → IsSound s → length (without c s.live) ≤ 65536
  few_left c s sound =
      let shorter = length_without c s.live in
      let few = sound.few in
      omega arith

  gone_sound : (s : Callbacks B) (c : ℕ) → IsSound s → IsSound (record s { live = without c s.live })
  gone_sound s c sound = record {
    rise = rise_without c 1 s.live s.next sound.rise;
    few = few_left c s sound;
    held = sound.held;
    apart = λ d there. sound.apart d (left c d s sound there).1;
    runs = sound.runs;
  }

  pub runs_by : (b : Bool) (l k : Live B) (o : Option (Live B)) → is_running l ≡ true → (o ≡ Some k → is_running k ≡ true) → cond b (Some l) o ≡ Some k → is_running k ≡ true
  runs_by true l k o runs rest found = let same : l ≡ k = cc in ap is_running (sym same) ∙ runs
  runs_by false l k o runs rest found = rest found

  held_sound : (s : Callbacks B) (c : ℕ) (l : Live B) → IsSound s → live_at c s.live ≡ Some l → is_running l ≡ true
      → IsSound (record s { live = without c s.live; held = insert_entry nat_cmp s.held c l })
  held_sound s c l sound found runs =
      let there : is_some (live_at c s.live) ≡ true = ap is_some found in
      record {
        rise = rise_without c 1 s.live s.next sound.rise;
        few = few_left c s sound;
        held = rise_insert c 1 l s.held s.next (known_from c 1 s.live s.next sound.rise there) (known_below c 1 s.live s.next sound.rise there) sound.held;
        apart = λ d alive.
            let k = left c d s sound alive in
            live_insert c d l s.held ∙ ap (λ (b : Bool). cond b (Some l) (live_at d s.held)) k.0 ∙ sound.apart d k.1;
        runs = λ d k at. runs_by (nat_eq c d) l k (live_at d s.held) runs (sound.runs d k) (sym (live_insert c d l s.held) ∙ at);
      }

  removed_by : (b : Bool) (s : Callbacks B) (c : ℕ) (l : Live B) → is_running l ≡ b → IsSound s → live_at c s.live ≡ Some l
      → IsSound (record s { live = without c s.live; held = cond b (insert_entry nat_cmp s.held c l) s.held })
  removed_by true s c l is sound found = held_sound s c l sound found is
  removed_by false s c l is sound found = gone_sound s c sound

  removed_of : (o : Option (Live B)) (s : Callbacks B) (c : ℕ) → IsSound s → live_at c s.live ≡ o
      → IsSound (record s { live = without c s.live; held = held_after o c s.held })
  removed_of None s c sound found = gone_sound s c sound
  removed_of (Some l) s c sound found = removed_by (is_running l) s c l refl sound found

  pub sound_removed : RemovesSound B
  sound_removed s c sound = removed_of (live_at c s.live) s c sound refl

  pub some_changed : (f : Live B → Live B) (b : Bool) (o : Option (Live B)) → is_some (cond b (option_map f o) o) ≡ is_some o
  some_changed f true None = refl
  some_changed f true (Some l) = refl
  some_changed f false o = refl

  live_still : (f : Live B → Live B) (c d : ℕ) (es : List (ℕ × Live B)) → is_some (live_at d (changed f c es)) ≡ is_some (live_at d es)
  live_still f c d es = ap is_some (live_changed f c d es) ∙ some_changed f (nat_eq c d) (live_at d es)

  none_still : (f : Live B → Live B) (b : Bool) (o : Option (Live B)) → o ≡ None → cond b (option_map f o) o ≡ None
  none_still f true o none = ap (option_map f) none
  none_still f false o none = none

  changed_live : (f : Live B → Live B) (s : Callbacks B) (c : ℕ) → IsSound s → IsSound (record s { live = changed f c s.live })
  changed_live f s c sound = record {
    rise = rise_changed f c 1 s.live s.next sound.rise;
    few = (let same = length_changed f c s.live in let few = sound.few in omega arith);
    held = sound.held;
    apart = λ d there. sound.apart d (sym (live_still f c d s.live) ∙ there);
    runs = sound.runs;
  }

  pub runs_changed_by : (f : Live B → Live B) (b : Bool) (o : Option (Live B)) (k : Live B)
      → (b ≡ true → (l : Live B) → o ≡ Some l → is_running (f l) ≡ true) → ((l : Live B) → o ≡ Some l → is_running l ≡ true)
      → cond b (option_map f o) o ≡ Some k → is_running k ≡ true
  runs_changed_by f true None k runs before found = cc
  runs_changed_by f true (Some l) k runs before found = let same : f l ≡ k = cc in ap is_running (sym same) ∙ runs refl l refl
  runs_changed_by f false o k runs before found = before k found

  changed_held : (f : Live B → Live B) (s : Callbacks B) (c : ℕ) → ((l : Live B) → live_at c s.held ≡ Some l → is_running (f l) ≡ true) → IsSound s
      → IsSound (record s { held = changed f c s.held })
  changed_held f s c runs sound = record {
    rise = sound.rise;
    few = sound.few;
    held = rise_changed f c 1 s.held s.next sound.held;
    apart = λ d there. live_changed f c d s.held ∙ none_still f (nat_eq c d) (live_at d s.held) (sound.apart d there);
    runs = λ d k at.
        runs_changed_by f (nat_eq c d) (live_at d s.held) k
        (λ is l found. runs l (ap (λ (n : ℕ). live_at n s.held) (eqb-true c d is) ∙ found))
        (sound.runs d)
        (sym (live_changed f c d s.held) ∙ at);
  }

  pub without_found : (b : Bool) (o : Option (Live B)) (k : Live B) → cond b None o ≡ Some k → o ≡ Some k
  without_found true o k found = cc
  without_found false o k found = found

  none_without : (b : Bool) (o : Option (Live B)) → o ≡ None → cond b None o ≡ None
  none_without true o none = refl
  none_without false o none = none

  without_held : (s : Callbacks B) (c : ℕ) → IsSound s → IsSound (record s { held = without c s.held })
  without_held s c sound = record {
    rise = sound.rise;
    few = sound.few;
    held = rise_without c 1 s.held s.next sound.held;
    apart = λ d there. live_without c d 1 s.held s.next sound.held ∙ none_without (nat_eq c d) (live_at d s.held) (sound.apart d there);
    runs = λ d k at. sound.runs d k (without_found (nat_eq c d) (live_at d s.held) k (sym (live_without c d 1 s.held s.next sound.held) ∙ at));
  }

  pub running_more : (l : Live B) → is_running (one_more l) ≡ true
  running_more l = ap not (ne_eqb (l.activations + 1) 0 (λ none. omega arith))

  pub sound_started : StartsSound B
  sound_started s c sound =
      changed_held one_more (record s { live = changed one_more c s.live }) c (λ l found. running_more l) (changed_live one_more s c sound)

  pub sound_changed : ChangesSound B
  sound_changed s c n sound =
      changed_held (with_data n) (record s { live = changed (with_data n) c s.live }) c (sound.runs c) (changed_live (with_data n) s c sound)

  pub running_less : (l : Live B) → is_running l ≡ true → is_last l ≡ false → is_running (one_less l) ≡ true
  running_less l runs more =
      ap not (ne_eqb (l.activations - 1) 0 (λ none. not_zero (nat_eq l.activations 0) l.activations refl runs (let two = eqb-false l.activations 1 more in omega arith)))

  ended_by : (b : Bool) (s : Callbacks B) (c : ℕ) (l : Live B) → is_last l ≡ b → IsSound s → live_at c s.held ≡ Some l
      → IsSound (record s { held = cond b (without c s.held) (changed one_less c s.held) })
  ended_by true s c l is sound found = without_held s c sound
  ended_by false s c l is sound found =
      changed_held one_less s c
      (λ k at. let same : l ≡ k = cc in ap (λ (m : Live B). is_running (one_less m)) (sym same) ∙ running_less l (sound.runs c l found) is)
      sound

  ended_of : (o : Option (Live B)) (s : Callbacks B) (c : ℕ) → IsSound s → live_at c s.held ≡ o
      → IsSound (record s { held = held_less o c s.held })
  ended_of None s c sound found = sound
  ended_of (Some l) s c sound found = ended_by (is_last l) s c l refl sound found

  pub sound_ended : EndsSound B
  sound_ended s c sound = ended_of (live_at c s.held) (record s { live = changed one_less c s.live }) c (changed_live one_less s c sound) refl

  -- ---- what is told

  pub next_is_new : NextIsNew B
  next_is_new s c sound above = ap is_some (live_above c 1 s.live s.next above sound.rise)

  pub tells_registered : TellsRegistered B
  tells_registered s r b sound =
      let is : live_at s.next (s.live ++ (s.next, new_one r b) ∷ []) ≡ Some (new_one r b) =
      live_more_new 1 s.live s.next (new_one r b) sound.rise in
      (ap (λ (o : Option (Live B)). option_map (λ (k : Live B). k.registration) o) is, ap (λ (o : Option (Live B)). option_map (λ (k : Live B). k.body) o) is)

  pub keeps_registered : KeepsOthersRegistered B
  keeps_registered s r b c apart =
      let is : live_at c (s.live ++ (s.next, new_one r b) ∷ []) ≡ live_at c s.live =
      live_more_other c s.live s.next (new_one r b) apart in
      (ap (λ (o : Option (Live B)). option_map (λ (k : Live B). k.registration) o) is, ap (λ (o : Option (Live B)). option_map (λ (k : Live B). k.body) o) is)

  pub tells_removed : TellsNoneRemoved B
  tells_removed s c sound =
      let is : live_at c (without c s.live) ≡ None = live_without_same c 1 s.live s.next sound.rise in
      (ap (λ (o : Option (Live B)). option_map (λ (k : Live B). k.registration) o) is, ap (λ (o : Option (Live B)). option_map (λ (k : Live B). k.body) o) is)

  pub keeps_removed : KeepsOthersRemoved B
  keeps_removed s c d apart =
      let is : live_at d (without c s.live) ≡ live_at d s.live = live_without_other c d s.live apart in
      (ap (λ (o : Option (Live B)). option_map (λ (k : Live B). k.registration) o) is, ap (λ (o : Option (Live B)). option_map (λ (k : Live B). k.body) o) is)

  holds_by : (b : Bool) (s : Callbacks B) (c : ℕ) (l : Live B) → live_at c s.held ≡ None
      → live_at c (cond b (insert_entry nat_cmp s.held c l) s.held) ≡ cond b (Some l) None
  holds_by true s c l none = live_insert c c l s.held ∙ ap (λ (b : Bool). cond b (Some l) (live_at c s.held)) (eq-eqb c c refl)
  holds_by false s c l none = none

  pub holds_running : HoldsRunning B
  holds_running s c l sound found =
      ap (λ (o : Option (Live B)). live_at c (held_after o c s.held)) found
      ∙ holds_by (is_running l) s c l (sound.apart c (ap is_some found))

  -- ---- activations

  abbrev pub count : Option (Live B) → ℕ
  count o = unwrap_or (option_map (λ (l : Live B). l.activations) o) 0

  both_changed : (f : Live B → Live B) (o p : Option (Live B)) → option_or (option_map f o) (option_map f p) ≡ option_map f (option_or o p)
  both_changed f None p = refl
  both_changed f (Some l) p = refl

  pub known_changed : (f : Live B → Live B) (c : ℕ) (s : Callbacks B) → known_at c (changed_in f c s) ≡ option_map f (known_at c s)
  known_changed f c s =
      rw (live_changed_same f c s.live, live_changed_same f c s.held) (both_changed f (live_at c s.live) (live_at c s.held))

  count_more : (o : Option (Live B)) → is_some o ≡ true → count (option_map one_more o) ≡ count o + 1
  count_more None there = cc
  count_more (Some l) there = refl

  pub counts_started : CountsStarted B
  counts_started s c there = ap count (known_changed one_more c s) ∙ count_more (known_at c s) there

  ends_last : (b : Bool) (s : Callbacks B) (c : ℕ) (l : Live B) → is_last l ≡ b → IsSound s → live_at c s.held ≡ Some l
      → count (live_at c (cond b (without c s.held) (changed one_less c s.held))) ≡ l.activations - 1
  ends_last true s c l is sound found =
      let one : l.activations ≡ 1 = eqb-true l.activations 1 is in
      ap count (live_without_same c 1 s.held s.next sound.held) ∙ (let none : 0 ≡ l.activations - 1 = omega arith in none)
  ends_last false s c l is sound found = ap count (live_changed_same one_less c s.held ∙ ap (option_map one_less) found)

  counts_by : (o p : Option (Live B)) (s : Callbacks B) (c : ℕ) → IsSound s → live_at c s.live ≡ o → live_at c s.held ≡ p
      → count (option_or (option_map one_less o) (live_at c (held_less p c s.held))) ≡ count (option_or o p) - 1
  counts_by None None s c sound live held = ap count held
  counts_by None (Some l) s c sound live held = ends_last (is_last l) s c l refl sound held
  counts_by (Some k) p s c sound live held = refl

  pub counts_ended : CountsEnded B
  counts_ended s c sound =
      rw (live_changed_same one_less c s.live) (counts_by (live_at c s.live) (live_at c s.held) s c sound refl refl)

  -- no other is changed
  kept_by : (b : Bool) (c d : ℕ) (l : Live B) (es : List (ℕ × Live B)) → nat_eq c d ≡ false
      → live_at d (cond b (insert_entry nat_cmp es c l) es) ≡ live_at d es
  kept_by true c d l es apart = live_insert c d l es ∙ ap (λ (b : Bool). cond b (Some l) (live_at d es)) apart
  kept_by false c d l es apart = refl

  kept_after : (o : Option (Live B)) (c d : ℕ) (es : List (ℕ × Live B)) → nat_eq c d ≡ false → live_at d (held_after o c es) ≡ live_at d es
  kept_after None c d es apart = refl
  kept_after (Some l) c d es apart = kept_by (is_running l) c d l es apart

  less_by : (b : Bool) (c d : ℕ) (es : List (ℕ × Live B)) → nat_eq c d ≡ false
      → live_at d (cond b (without c es) (changed one_less c es)) ≡ live_at d es
  less_by true c d es apart = live_without_other c d es apart
  less_by false c d es apart = live_changed_other one_less c d es apart

  kept_less : (o : Option (Live B)) (c d : ℕ) (es : List (ℕ × Live B)) → nat_eq c d ≡ false → live_at d (held_less o c es) ≡ live_at d es
  kept_less None c d es apart = refl
  kept_less (Some l) c d es apart = less_by (is_last l) c d es apart

  pub keeps_known : KeepsOthersKnown B
  keeps_known s c d apart = (
    rw (live_without_other c d s.live apart, kept_after (live_at c s.live) c d s.held apart) refl,
    rw (live_changed_other one_more c d s.live apart, live_changed_other one_more c d s.held apart) refl,
    rw (live_changed_other one_less c d s.live apart, kept_less (live_at c s.held) c d s.held apart) refl,
  )

  -- ---- the body that comes back

  last_by : (b : Bool) (l : Live B) → is_some (cond b (Some l.body) None) ≡ b
  last_by true l = refl
  last_by false l = refl

  gives_by : (o p : Option (Live B)) → (is_some o ≡ true → p ≡ None)
      → is_some (body_after p) ≡ (is_some (option_map (λ (l : Live B). l.registration) p) && nat_eq (count (option_or o p)) 1)
  gives_by None None apart = refl
  gives_by None (Some l) apart = last_by (is_last l) l
  gives_by (Some k) p apart = let none : p ≡ None = apart refl in rw none refl

  pub gives_last_back : GivesLastBack B
  gives_last_back s c sound = gives_by (live_at c s.live) (live_at c s.held) (sound.apart c)

  forgets_last_by : (b : Bool) (s : Callbacks B) (c : ℕ) (l : Live B) → IsSound s → is_some (cond b (Some l.body) None) ≡ true
      → live_at c (cond b (without c s.held) (changed one_less c s.held)) ≡ None
  forgets_last_by true s c l sound back = live_without_same c 1 s.held s.next sound.held
  forgets_last_by false s c l sound back = cc

  forgets_by : (o p : Option (Live B)) (s : Callbacks B) (c : ℕ) → IsSound s → (is_some o ≡ true → p ≡ None) → is_some (body_after p) ≡ true
      → option_or (option_map one_less o) (live_at c (held_less p c s.held)) ≡ None
  forgets_by o None s c sound apart back = cc
  forgets_by None (Some l) s c sound apart back = forgets_last_by (is_last l) s c l sound back
  forgets_by (Some k) (Some l) s c sound apart back = let none : Some l ≡ None = apart refl in cc

  pub forgets_last : ForgetsLast B
  forgets_last s c sound back =
      rw (live_changed_same one_less c s.live) (forgets_by (live_at c s.live) (live_at c s.held) s c sound (sound.apart c) back)

  -- ---- what matches

  pub matching_is_set : MatchingIsSet B
  matching_is_set s reason object c sound = member reason object c 1 s.live s.next sound.rise

  pub matches_is_some : MatchesIsSome B
  matches_is_some s reason object = some reason object s.live

pub sound_opening : (B : Type 0) → OpensSound B
sound_opening B = record {
  rise = omega arith;
  few = omega arith;
  held = omega arith;
  apart = λ c there. refl;
  runs = λ c l found. cc;
}
