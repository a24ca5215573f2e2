-- What the callbacks keep in a step: they stay, or one is registered, or one is removed.
use Rattle.std.proofs.Common.{◌≡◌, ℕ, ◌+◌, ◌<◌, ◌≤◌, [], ◌∷◌, Bool, true, false, cond, ◌||◌, nat_eq, nat_le, Option, Some, None, is_some, refl, sym, ap, subst, ◌∙◌, arith}
use Rattle.std.proofs.lemmas.Bool.{eqb-true, eq-eqb, ne_eqb, leb-true, leb-false}
use Rattle.std.specs.Option.{option_map}
use Rattle.vh_base.specs.declared.orders.Answer.{Answer}
use Rattle.vh_base.specs.declared.orders.Object.{Object}
use Rattle.vh_base.specs.declared.orders.Order.{Order}
use Rattle.vh_base.specs.declared.words.Reason.{Reason}
use Rattle.vh_callbacks.specs.declared.registration.Registration.{Registration}
use Rattle.vh_callbacks.specs.declared.live.Live.{Live}
use Rattle.vh_callbacks.specs.Callbacks.{Callbacks, live_at, is_live, info_of, is_full, matching, registered, removed, IsSound}
use Rattle.vh_callbacks.specs.Registration.{is_some_for}
use Rattle.vh_callbacks.proofs.LawsLemmas.{sound_registered, sound_removed, next_is_new, keeps_registered, tells_removed, keeps_removed, matching_is_set}
use Rattle.vh_orders.specs.declared.who.Body.{Body}
use Rattle.vh_kernel.specs.declared.label.Label.{Label}
use Rattle.vh_callbacks.specs.Marks.{is_among}
use Rattle.vh_kernel.specs.Occurrences.{Occurrence, set_of, set_by}
use Rattle.vh_kernel.specs.State.{State}
use Rattle.vh_kernel_laws.proofs.Works.{View, Changes, changes_none, opens_one, registers_one, removes_one, frees_one, Works, works_none, empties, orders_one, tells_one, fires_one, closes_one}
use Rattle.vh_kernel_laws.proofs.Splits.{not_both}

-- A callback is live where it has a registration.
some_told : (o : Option (Live Body)) → is_some (option_map (λ (k : Live Body). k.registration) o) ≡ is_some o
some_told None = refl
some_told (Some k) = refl

live_info : (c : ℕ) (s : Callbacks Body) → is_some (info_of c s) ≡ is_live c s
live_info c s = some_told (live_at c s.live)

pub live_by_info : (c : ℕ) (s t : Callbacks Body) → info_of c t ≡ info_of c s → is_live c t ≡ is_live c s
live_by_info c s t same = sym (live_info c t) ∙ ap (λ (o : Option Registration). is_some o) same ∙ live_info c s

some_for : (reason : Reason) (object : Option Object) (o : Option Registration) → is_some_for reason object o ≡ true → is_some o ≡ true
some_for reason object None is = absurd (cc)
some_for reason object (Some r) is = refl

pub matching_live : (s : Callbacks Body) (reason : Reason) (object : Option Object) (c : ℕ) → IsSound s
    → is_among c (matching reason object s) ≡ true → is_live c s ≡ true
matching_live s reason object c sound among =
    sym (live_info c s) ∙ some_for reason object (info_of c s) (sym (matching_is_set s reason object c sound) ∙ among)

-- A live number is below the next.
live_low_by : (b : Bool) (c : ℕ) (s : Callbacks Body) → nat_le s.next c ≡ b → IsSound s → is_live c s ≡ true → c < s.next
live_low_by true c s is sound alive = absurd (not_both (is_live c s) alive (next_is_new s c sound (leb-true s.next c is)))
live_low_by false c s is sound alive = leb-false s.next c is

pub live_low : (c : ℕ) (s : Callbacks Body) → IsSound s → is_live c s ≡ true → c < s.next
live_low c s sound alive = live_low_by (nat_le s.next c) c s refl sound alive

-- What a registration and a removal leave of a number.
pub live_registered : (c : ℕ) (r : Registration) (b : Body) (s : Callbacks Body) → c < s.next → is_live c (registered r b s) ≡ is_live c s
live_registered c r b s below =
    let apart : nat_eq c s.next ≡ false = ne_eqb c s.next (λ same. omega arith) in
    live_by_info c s (registered r b s) (keeps_registered s r b c apart).0

pub live_removed : (c d : ℕ) (s : Callbacks Body) → nat_eq d c ≡ false → is_live d (removed c s) ≡ is_live d s
live_removed c d s apart =
    let turned : nat_eq c d ≡ false = ne_eqb c d (λ same. not_both (nat_eq d c) (eq-eqb d c (sym same)) apart) in
    live_by_info d s (removed c s) (keeps_removed s c d turned).0

pub gone_removed : (c : ℕ) (s : Callbacks Body) → IsSound s → is_live c (removed c s) ≡ false
gone_removed c s sound = sym (live_info c (removed c s)) ∙ ap (λ (o : Option Registration). is_some o) (tells_removed s c sound).0

-- What the set of an occurrence holds is live.
same-number : (b : Bool) (c d : ℕ) → nat_eq d c ≡ b → (b || false) ≡ true → d ≡ c
same-number true c d is among = eqb-true d c is
same-number false c d is among = absurd (cc)

alone : (b : Bool) (c d : ℕ) (s : Callbacks Body) → is_live c s ≡ b → is_among d (cond b (c ∷ []) []) ≡ true → is_live d s ≡ true
alone true c d s alive there = ap (λ (n : ℕ). is_live n s) (same-number (nat_eq d c) c d refl there) ∙ alive
alone false c d s alive there = absurd (cc)

set-live-by : (only : Option ℕ) (o : Occurrence) (s : Callbacks Body) (d : ℕ) → IsSound s → is_among d (set_by only o s) ≡ true
    → is_live d s ≡ true
set-live-by None o s d sound among = matching_live s o.reason o.object d sound among
set-live-by (Some c) o s d sound among = alone (is_live c s) c d s refl among

pub set-live : (o : Occurrence) (s : Callbacks Body) (d : ℕ) → IsSound s → is_among d (set_of o s) ≡ true → is_live d s ≡ true
set-live o s d sound among = set-live-by o.only o s d sound among

-- The callbacks stay, or one is registered, or one is removed.
pub data ChangesByOne (a b : Callbacks Body) : Type 0 where
  stays : b ≡ a → ChangesByOne a b
  adds : (r : Registration) (body : Body) → is_full a ≡ false → b ≡ registered r body a → ChangesByOne a b
  drops : (c : ℕ) → b ≡ removed c a → ChangesByOne a b

changes-turn : (s : State) (o : Order) (a : Answer) (w : View) → Changes s o a w → ChangesByOne s.world.callbacks w.callbacks
changes-turn s o a w (changes_none plain is) = stays (ap (λ (x : View). x.callbacks) is)
changes-turn s o a w (opens_one h x gives fresh finds is) = stays (ap (λ (x : View). x.callbacks) is)
changes-turn s o a w (registers_one h r b gives fresh room asks is) = adds r b room (ap (λ (x : View). x.callbacks) is)
changes-turn s o a w (removes_one c h by one names is) = drops c (ap (λ (x : View). x.callbacks) is)
changes-turn s o a w (frees_one h by one live is) = stays (ap (λ (x : View). x.callbacks) is)

pub works-turn : (s : State) (l : Label) (w : View) → Works s l w → ChangesByOne s.world.callbacks w.callbacks
works-turn s l w (works_none quiet is) = stays (ap (λ (x : View). x.callbacks) is)
works-turn s l w (empties quiet is at_finish) = stays (ap (λ (x : View). x.callbacks) is)
works-turn s l w (orders_one who o a is changes) = changes-turn s o a w changes
works-turn s l w (tells_one n what is number after) = stays (ap (λ (x : View). x.callbacks) after)
works-turn s l w (fires_one n c f rest is on number among after) = stays (ap (λ (x : View). x.callbacks) after)
works-turn s l w (closes_one n f rest is on number none after) = stays (ap (λ (x : View). x.callbacks) after)

-- Of each way: soundness stays,
pub turns_sound : (a b : Callbacks Body) → ChangesByOne a b → IsSound a → IsSound b
turns_sound a b (stays is) sound = subst (λ (x : Callbacks Body). IsSound x) (sym is) sound
turns_sound a b (adds r body room is) sound =
    subst (λ (x : Callbacks Body). IsSound x) (sym is) (sound_registered a r body sound room)
turns_sound a b (drops c is) sound =
    subst (λ (x : Callbacks Body). IsSound x) (sym is) (sound_removed a c sound)

-- The next number doesn't fall,
pub turns_next : (a b : Callbacks Body) → ChangesByOne a b → a.next ≤ b.next
turns_next a b (stays is) = let e : b.next ≡ a.next = ap (λ (x : Callbacks Body). x.next) is in omega arith
turns_next a b (adds r body room is) = let e : b.next ≡ a.next + 1 = ap (λ (x : Callbacks Body). x.next) is in omega arith
turns_next a b (drops c is) = let e : b.next ≡ a.next = ap (λ (x : Callbacks Body). x.next) is in omega arith

-- And what was live and isn't any more isn't live again.
pub gone_by : (b : Bool) (c d : ℕ) (s : Callbacks Body) → nat_eq c d ≡ b → IsSound s → is_live c s ≡ false → is_live c (removed d s) ≡ false
gone_by true c d s is sound gone =
    let same : d ≡ c = sym (eqb-true c d is) in
    subst (λ (n : ℕ). is_live c (removed n s) ≡ false) (sym same) (gone_removed c s sound)
gone_by false c d s is sound gone = live_removed d c s is ∙ gone

pub stays_gone : (c : ℕ) (a b : Callbacks Body) → ChangesByOne a b → IsSound a → c < a.next → is_live c a ≡ false → is_live c b ≡ false
stays_gone c a b (stays is) sound below gone = ap (λ (x : Callbacks Body). is_live c x) is ∙ gone
stays_gone c a b (adds r body room is) sound below gone =
    ap (λ (x : Callbacks Body). is_live c x) is ∙ live_registered c r body a below ∙ gone
stays_gone c a b (drops d is) sound below gone =
    ap (λ (x : Callbacks Body). is_live c x) is ∙ gone_by (nat_eq c d) c d a refl sound gone
