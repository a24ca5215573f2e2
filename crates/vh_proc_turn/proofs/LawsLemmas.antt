-- A driver comes to its new value.
use Rattle.std.proofs.Common.{◌≡◌, ◌∙◌, inl, inr, ℕ, ◌+◌, ◌==◌, List, [], ◌∷◌, filter, find, Bool, true, false, not, cond, nat_eq, nat_lt, Option, Some, None, Result, Ok, Less, Equal, Greater, refl, sym, ap, subst, arith}
use Rattle.std.proofs.lemmas.Bool.{eqb-true, eq-eqb, ne_eqb, ltb-true}
use Rattle.std.proofs.lemmas.List.Folds.{find-append}
use Rattle.std.specs.BTreeMap.{is_at}
use Rattle.std.specs.Map.{lookup}
use Rattle.std.specs.Option.{option_map, option_and_then, option_or}
use Rattle.std.specs.Ordering.{nat_cmp, match_ordering, is_eq}
use Rattle.vh_base.specs.Checks.{unless, with_ok}
use Rattle.vh_base.specs.declared.faults.Fault.TheVariants as fault
use Rattle.vh_logic.specs.Vector.{Vector}
use Rattle.vh_store.specs.Contents.{Contents, driven, same_value}
use Rattle.vh_store.proofs.ContentsLemmas.{value_is}
use Rattle.vh_queue.specs.declared.entry.Entry.{Entry}
use Rattle.vh_queue.specs.declared.region.Region.{Region}
use Rattle.vh_queue.specs.declared.work.Work.{Work}
use Rattle.vh_queue.specs.declared.work.Work.TheVariants as work
use Rattle.vh_queue.specs.Events.{Events, Rises, is_full, added, work_of}
use Rattle.vh_queue.proofs.EventsLemmas.{rises-filter, rises-empty}
use Rattle.vh_proc_turn.specs.Drives.{Driving, driving, update_at, update_value, value_at, scheduled_value, has_value, without_entry, without_update, region_at, noted, with_update, rescheduled}
use Rattle.vh_proc_turn.specs.Laws.{ComesTo, ComesToItsValue}

-- What was noted is found.
at-by : (b d : Bool) → (b ≡ true → d ≡ false) → is_eq (cond b Less (cond d Equal Greater)) ≡ d
at-by true true h = sym (h refl)
at-by true false h = refl
at-by false true h = refl
at-by false false h = refl

at-eq : (c k : ℕ) → is_at (nat_cmp c) k ≡ nat_eq c k
at-eq c k = at-by (nat_lt c k) (nat_eq c k) (λ h. ne_eqb c k (λ e. omega (arith, ltb-true c k h)))

at-same : (c k : ℕ) → c ≡ k → is_at (nat_cmp c) k ≡ true
at-same c k same = at-eq c k ∙ eq-eqb c k same

found-by : (b d : Bool) (x n : ℕ) (e : ℕ × ℕ) (es rest : List (ℕ × ℕ)) → nat_eq x e.0 ≡ d → lookup (is_at (nat_cmp x)) rest ≡ Some n
    → lookup (is_at (nat_cmp x)) (match_ordering (cond b Less (cond d Equal Greater)) ((x, n) ∷ e ∷ es) ((e.0, n) ∷ es) (e ∷ rest)) ≡ Some n
found-by true d x n e es rest is found = rw (at-same x x refl) refl
found-by false true x n e es rest is found = rw (at-same x e.0 (eqb-true x e.0 is)) refl
found-by false false x n e es rest is found = rw (at-eq x e.0, is) found

pub found-noted : (x n : ℕ) (us : List (ℕ × ℕ)) → update_at x (noted x n us) ≡ Some n
found-noted x n [] = rw (at-same x x refl) refl
found-noted x n (e ∷ es) = found-by (nat_lt x e.0) (nat_eq x e.0) x n e es (noted x n es) refl (found-noted x n es)

-- No entry has the next serial; what is added then has it.
none-yet-by : (b : Bool) (e : Entry) (o : Option Entry) → b ≡ false → o ≡ None → cond b (Some e) o ≡ None
none-yet-by true e o apart rest = absurd (cc)
none-yet-by false e o apart rest = rest

none-yet : (low next : ℕ) (es : List Entry) → Rises low next es → find (λ (e : Entry). e.serial == next) es ≡ None
none-yet low next [] rises = refl
none-yet low next (e ∷ es) rises =
    let below = rises-empty (e.serial + 1) next es rises.1 in
    none-yet-by (e.serial == next) e (find (λ (f : Entry). f.serial == next) es)
    (ne_eqb e.serial next (λ same. omega (arith, below, same))) (none-yet (e.serial + 1) next es rises.1)

pub added-work : (time : Option ℕ) (r : Region) (w : Work) (q : Events) → Rises 1 q.next q.entries
    → work_of q.next (added time r w q) ≡ Some w
added-work time r w q rises =
    ap (λ (o : Option Entry). option_map (λ (e : Entry). e.work) o)
    (find-append (λ (e : Entry). e.serial == q.next) q.entries (record { serial = q.next; time = time; region = r; work = w } ∷ [])
    ∙ ap (λ (o : Option Entry). option_or o (find (λ (e : Entry). e.serial == q.next) (record { serial = q.next; time = time; region = r; work = w } ∷ [])))
    (none-yet 1 q.next q.entries rises)
    ∙ ap (λ (b : Bool). cond b (Some (record { serial = q.next; time = time; region = r; work = w })) None) (eq-eqb q.next q.next refl))

-- An entry that was taken out isn't found.
gone-by : (b : Bool) (p : Entry → Bool) (e : Entry) (es : List Entry) → p e ≡ b → find p (filter (λ f. not (p f)) es) ≡ None
    → find p (cond (not b) (e ∷ filter (λ f. not (p f)) es) (filter (λ f. not (p f)) es)) ≡ None
gone-by true p e es is rest = rest
gone-by false p e es is rest = rw is rest

gone : (p : Entry → Bool) (es : List Entry) → find p (filter (λ f. not (p f)) es) ≡ None
gone p [] = refl
gone p (e ∷ es) = gone-by (p e) p e es refl (gone p es)

none-left : (o : Option ℕ) (q : Events) → option_and_then (value_at (without_entry o q)) o ≡ None
none-left None q = refl
none-left (Some serial) q =
    ap (λ (o : Option Entry). option_and_then update_value (option_map (λ (e : Entry). e.work) o)) (gone (λ (e : Entry). e.serial == serial) q.entries)

still-rises : (o : Option ℕ) (q : Events) → Rises 1 q.next q.entries → Rises 1 (without_entry o q).next (without_entry o q).entries
still-rises None q rises = rises
still-rises (Some serial) q rises = rises-filter (λ e. not (nat_eq e.serial serial)) 1 q.next q.entries rises

-- The update that is added has the value.
scheduled-now : (x : ℕ) (v : Vector) (time : Option ℕ) (r : Region) (b : Driving) → Rises 1 b.queue.next b.queue.entries
    → scheduled_value x (driving (noted x b.queue.next b.updates) (added time r (work.Drive x v) b.queue)) ≡ Some v
scheduled-now x v time r b rises =
    ap (λ (o : Option ℕ). option_and_then (value_at (added time r (work.Drive x v) b.queue)) o) (found-noted x b.queue.next b.updates)
    ∙ ap (λ (o : Option Work). option_and_then update_value o) (added-work time r (work.Drive x v) b.queue rises)

ok-is : {X E : Type 0} (x y : X) → ◌≡◌ {A = Result X E} (Ok x) (Ok y) → x ≡ y
ok-is x y is = cc

from-entry : (full : Bool) (s : Contents) (x : ℕ) (v : Vector) (time : Option ℕ) (r : Region) (b c : Driving) → Rises 1 b.queue.next b.queue.entries
    → with_ok (unless full (Some fault.F3) (Ok (added time r (work.Drive x v) b.queue))) (λ q. Ok (driving (noted x b.queue.next b.updates) q)) ≡ Ok c
    → ComesTo x v s c
from-entry true s x v time r b c rises is = absurd (cc)
from-entry false s x v time r b c rises is =
    inl (subst (λ (e : Driving). scheduled_value x e ≡ Some v) (ok-is _ c is) (scheduled-now x v time r b rises))

from-update : (time : Option ℕ) (s : Contents) (x : ℕ) (v : Vector) (b c : Driving) → Rises 1 b.queue.next b.queue.entries
    → with_update s time x v b ≡ Ok c → ComesTo x v s c
from-update None s x v b c rises is = absurd (cc)
from-update (Some t) s x v b c rises is = from-entry (is_full b.queue) s x v (Some t) (region_at s.time t) b c rises is

from-driver : (same : Bool) (s : Contents) (time : Option ℕ) (x : ℕ) (v : Vector) (b c : Driving) → Rises 1 b.queue.next b.queue.entries
    → same_value (driven s x) v ≡ same
    → cond same (Ok (without_update x b)) (with_update s time x v (without_update x b)) ≡ Ok c → ComesTo x v s c
from-driver true s time x v b c rises has is =
    inr (subst (λ (e : Driving). scheduled_value x e ≡ None) (ok-is (without_update x b) c is) (none-left (update_at x b.updates) b.queue), value_is (driven s x) v has)
from-driver false s time x v b c rises has is =
    from-update time s x v (without_update x b) c (still-rises (update_at x b.updates) b.queue rises) is

has-it : (o : Option Vector) (v : Vector) → has_value v o ≡ true → o ≡ Some v
has-it None v has = absurd (cc)
has-it (Some u) v has = ap Some (value_is u v has)

from-scheduled : (has : Bool) (s : Contents) (time : Option ℕ) (x : ℕ) (v : Vector) (b c : Driving) → Rises 1 b.queue.next b.queue.entries
    → has_value v (scheduled_value x b) ≡ has
    → cond has (Ok b) (rescheduled s time x v (without_update x b)) ≡ Ok c → ComesTo x v s c
from-scheduled true s time x v b c rises it is =
    inl (subst (λ (e : Driving). scheduled_value x e ≡ Some v) (ok-is b c is) (has-it (scheduled_value x b) v it))
from-scheduled false s time x v b c rises it is = from-driver (same_value (driven s x) v) s time x v b c rises refl is

pub comes-to-its-value : ComesToItsValue
comes-to-its-value s time x v b c rises is = from-scheduled (has_value v (scheduled_value x b)) s time x v b c rises refl is
