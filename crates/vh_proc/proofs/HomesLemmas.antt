-- Where a thread isn't in the code that has a block, it isn't inside it.
use Rattle.std.proofs.Common.{◌≡◌, ◌∙◌, ◌<◌, ◌+◌, ℕ, zero, suc, Bool, true, false, cond, ◌||◌, nat_eq, nat_lt, List, [], ◌∷◌, length, Option, Some, None, IfSome, is_some, slice_get, refl, sym, ap, subst, arith}
use Rattle.std.specs.Prelude.{unwrap_or}
use Rattle.std.proofs.lemmas.Bool.{eqb-true, ltb-true, ltb-false}
use Rattle.std.specs.BTreeSet.{BTreeSet}
use Rattle.std.specs.List.{AllByRecursion}
use Rattle.std.specs.Option.{option_map, option_and_then}
use Rattle.vh_design_code.specs.declared.code.Block.{Block}
use Rattle.vh_design_code.specs.declared.code.Code.{Code}
use Rattle.vh_design.specs.Shape.{Shape}
use Rattle.vh_design.specs.Validity.{body_at}
use Rattle.vh_design_nodes.specs.declared.object.ObjectInfo.{ObjectInfo}
use Rattle.vh_design_nodes.specs.Fits.{body_of, body_number, has_body}
use Rattle.vh_proc_thread.specs.declared.call.Call.{Call}
use Rattle.vh_proc_thread.specs.Blocks.{block_or, block_below, block_of}
use Rattle.vh_proc_thread.specs.Control.{Control, Runs, HasBody, code_of, blocks_of, block_around, is_routine, is_within, outermost, or_these, is_inside}
use Rattle.vh_proc.specs.declared.layout.Owner.{Owner}
use Rattle.vh_proc.specs.declared.layout.Owner.TheVariants as owner
use Rattle.vh_proc.specs.declared.layout.Home.{Home}
use Rattle.vh_proc.specs.declared.layout.Home.TheVariants as home
use Rattle.vh_proc.specs.Families.{is_caller}
use Rattle.vh_proc.specs.Homes.{IsOwner, noted_of, is_same, says, Says, Grow, SaysAll, AreHomes}

-- No block of these is one of the object.
abbrev HasNone : ℕ → List Block → Type 0
HasNone target bs = (i : ℕ) (b : Block) → slice_get bs i ≡ Some b → b.object ≡ target → ⊥

not-same : (target : ℕ) (b : Bool) (x : Block) (o : Option Block) → nat_eq x.object target ≡ b → (x.object ≡ target → ⊥) → o ≡ None → cond b (Some x) o ≡ None
not-same target true x o is differ none = absurd (differ (eqb-true x.object target is))
not-same target false x o is differ none = none

here : (target : ℕ) (bs : List Block) (outward : Option ℕ → Option Block) (k : ℕ) (o : Option Block) → HasNone target bs → slice_get bs k ≡ o
    → ((inner : Option ℕ) → outward inner ≡ None) → option_and_then (block_or outward target) o ≡ None
here target bs outward k None none at out = refl
here target bs outward k (Some b) none at out = not-same target (nat_eq b.object target) b (outward b.around) refl (none k b at) (out b.around)

below-by : (n : ℕ) (bs : List Block) (target k : ℕ) (b : Bool) → HasNone target bs → ((m : ℕ) → block_below n bs target m ≡ None)
    → ◌≡◌ {A = Option Block}
    (elim b [
      | true ↦ option_and_then (block_or (option_and_then (block_below n bs target)) target) (slice_get bs k)
      | false ↦ block_below n bs target k
    ]) None
below-by n bs target k true none rest = here target bs (option_and_then (block_below n bs target)) k (slice_get bs k) none refl out
  where
    out : (inner : Option ℕ) → option_and_then (block_below n bs target) inner ≡ None
    out None = refl
    out (Some m) = rest m
below-by n bs target k false none rest = rest k

none-below : (n : ℕ) (bs : List Block) (target k : ℕ) → HasNone target bs → block_below n bs target k ≡ None
unfolding block_below
none-below zero bs target k none = refl
none-below (suc n) bs target k none = below-by n bs target k (nat_eq k n) none (λ m. none-below n bs target m none)

none-of : (bs : List Block) (target : ℕ) (inner : Option ℕ) → HasNone target bs → block_of bs target inner ≡ None
none-of bs target None none = refl
none-of bs target (Some k) none = none-below (suc k) bs target k none

-- The code that a call runs.
abbrev pub owner_of : ℕ → Option ℕ → Owner
owner_of root None = owner.Process root
owner_of root (Some r) = owner.Routine r

abbrev pub IsAway : Owner → ℕ → Call → Type 0
IsAway o root c = o ≡ owner_of root c.routine → ⊥

module _ (d : Shape) (target root : ℕ) (o : Owner) (owned : IsOwner d target o) where
  none-in : (routine : Option ℕ) (code : Option Code) → code_of d root routine ≡ code → (o ≡ owner_of root routine → ⊥)
      → HasNone target (unwrap_or (option_map (λ c. c.blocks) code) [])
  none-in routine None is away i b at same = absurd (cc)
  none-in None (Some c) is away i b at same = away (owned.codes root c i b is at same)
  none-in (Some r) (Some c) is away i b at same = away (owned.bodies r c i b is at same)

  differ-call : (routine : Option ℕ) → IfSome routine (λ r. has_body d.objects r ≡ true) → (o ≡ owner_of root routine → ⊥) → is_routine target routine ≡ false
  differ-call None body away = refl
  differ-call (Some r) body away = by (nat_eq r target) refl
    where
      by : (b : Bool) → nat_eq r target ≡ b → nat_eq r target ≡ false
      by true is =
          let has : has_body d.objects target ≡ true = subst (λ x. has_body d.objects x ≡ true) (eqb-true r target is) body in
          absurd (away (owned.routine has ∙ ap owner.Routine (sym (eqb-true r target is))))
      by false is = is

  not-within : (c : Call) → HasBody d c → IsAway o root c → is_within d root target c ≡ false
  not-within c body away =
      ap (λ (b : Bool). b || is_some (block_around d root target c)) (differ-call c.routine body away)
      ∙ ap (λ (x : Option Block). is_some x) (none-of (blocks_of d root c) target c.block (none-in c.routine (code_of d root c.routine) refl away))

  none-outermost : (cs : List Call) → AllByRecursion (HasBody d) cs → AllByRecursion (IsAway o root) cs → outermost (is_within d root target) cs ≡ []
  none-outermost [] bodies away = refl
  none-outermost (c ∷ cs) bodies away =
      ap (λ (ds : List Call). or_these ds (cond (is_within d root target c) (c ∷ cs) [])) (none-outermost cs bodies.1 away.1)
      ∙ ap (λ (b : Bool). cond b (c ∷ cs) []) (not-within c bodies.0 away.0)

pub not-inside : (d : Shape) (target : ℕ) (o : Owner) (t : Control) → IsOwner d target o → Runs d t → AllByRecursion (IsAway o t.root) t.calls → is_inside d target t ≡ false
not-inside d target o t owned runs away =
    ap (λ (cs : List Call). nat_lt 0 (length cs)) (none-outermost d target t.root o owned t.calls runs.calls away)

-- A thread of another process is in no code of this one; and where no call of a task or function is noted, in no body of that.
pub process-away : (k root : ℕ) → (root ≡ k → ⊥) → (cs : List Call) → AllByRecursion (IsAway (owner.Process k) root) cs
process-away k root away [] = tt
process-away k root away (c ∷ cs) = (by c.routine, process-away k root away cs)
  where
    by : (routine : Option ℕ) → owner.Process k ≡ owner_of root routine → ⊥
    by None is = away (let same : root ≡ k = cc in same)
    by (Some r) is = absurd (cc)

pub routine-away : (callers : List (ℕ × BTreeSet ℕ)) (r root : ℕ) → is_caller callers r root ≡ false → (cs : List Call)
    → AllByRecursion (λ c. IfSome c.routine (λ s. is_caller callers s root ≡ true)) cs → AllByRecursion (IsAway (owner.Routine r) root) cs
routine-away callers r root never [] notes = tt
routine-away callers r root never (c ∷ cs) notes = (by c.routine notes.0, routine-away callers r root never cs notes.1)
  where
    by : (routine : Option ℕ) → IfSome routine (λ s. is_caller callers s root ≡ true) → owner.Routine r ≡ owner_of root routine → ⊥
    by None noted is = absurd (cc)
    by (Some s) noted is =
        let same : s ≡ r = cc in
        let called : is_caller callers r root ≡ true = subst (λ x. is_caller callers x root ≡ true) same noted in
        absurd (cc)

-- What is noted of the blocks of an object.
same-owner : (o p : Owner) → is_same o p ≡ true → o ≡ p
same-owner (owner.Process n) (owner.Process k) is = ap owner.Process (eqb-true n k is)
same-owner (owner.Process n) (owner.Routine r) is = absurd (cc)
same-owner (owner.Routine s) (owner.Process k) is = absurd (cc)
same-owner (owner.Routine s) (owner.Routine r) is = ap owner.Routine (eqb-true s r is)

pub is-owner : (d : Shape) (hs : List (ℕ × Home)) (target : ℕ) (o : Owner) → AreHomes d hs → noted_of target hs ≡ Some (home.Only o) → IsOwner d target o
is-owner d hs target o are is = record {
  codes = λ n c i b at block same. same-owner o (owner.Process n)
      (subst (λ (x : Option Home). says x (owner.Process n) ≡ true) is
      (subst (λ k. says (noted_of k hs) (owner.Process n) ≡ true) same (are.codes n c at i b block)));
  bodies = λ r c i b at block same. same-owner o (owner.Routine r)
      (subst (λ (x : Option Home). says x (owner.Routine r) ≡ true) is
      (subst (λ k. says (noted_of k hs) (owner.Routine r) ≡ true) same (are.bodies r c at i b block)));
  routine = λ has. same-owner o (owner.Routine target)
      (subst (λ (x : Option Home). says x (owner.Routine target) ≡ true) is (are.routines target has));
}

-- A position where an element is.
pub position-below : {X : Type 0} (xs : List X) (k : ℕ) (x : X) → slice_get xs k ≡ Some x → k < length xs
position-below [] k x at = absurd (cc)
position-below (y ∷ ys) zero x at = omega arith
position-below (y ∷ ys) (suc k) x at = let low = position-below ys k x at in omega (arith, low)

-- One more of these.
last-or : (k n : ℕ) (P : ℕ → Type 0) → n < k + 1 → (n < k → P n) → P k → P n
last-or k n P low before last = by (nat_lt n k) refl
  where
    by : (b : Bool) → nat_lt n k ≡ b → P n
    by true is = before (ltb-true n k is)
    by false is = let high = ltb-false n k is in let same : k ≡ n = omega (arith, low, high) in subst P same last

pub next-noted : (hs gs : List (ℕ × Home)) (p : Owner) (bs : List Block) (k : ℕ) (x : Block) → slice_get bs k ≡ Some x
    → ((i : ℕ) (b : Block) → i < k → slice_get bs i ≡ Some b → Says hs p b.object) → Grow hs gs → Says gs p x.object
    → (i : ℕ) (b : Block) → i < k + 1 → slice_get bs i ≡ Some b → Says gs p b.object
next-noted hs gs p bs k x is before grow last i b low at =
    last-or k i (λ n. slice_get bs n ≡ Some b → Says gs p b.object) low (λ less h. grow p b.object (before i b less h))
    (λ h. let same : x ≡ b = one (sym is ∙ h) in subst (λ (y : Block). Says gs p y.object) same last) at
  where
    one : {y z : Block} → ◌≡◌ {A = Option Block} (Some y) (Some z) → y ≡ z
    one h = cc

pub next-own : (d : Shape) (hs gs : List (ℕ × Home)) (k : ℕ) → ((r : ℕ) → r < k → has_body d.objects r ≡ true → Says hs (owner.Routine r) r) → Grow hs gs
    → (has_body d.objects k ≡ true → Says gs (owner.Routine k) k) → (r : ℕ) → r < k + 1 → has_body d.objects r ≡ true → Says gs (owner.Routine r) r
next-own d hs gs k before grow last r low has =
    last-or k r (λ m. has_body d.objects m ≡ true → Says gs (owner.Routine m) m) low (λ less h. grow (owner.Routine r) r (before r less h)) last has

pub next-body : (d : Shape) (hs gs : List (ℕ × Home)) (k : ℕ) → ((r : ℕ) (c : Code) → r < k → body_at d r ≡ Some c → SaysAll hs (owner.Routine r) c.blocks) → Grow hs gs
    → ((c : Code) → body_at d k ≡ Some c → SaysAll gs (owner.Routine k) c.blocks) → (r : ℕ) (c : Code) → r < k + 1 → body_at d r ≡ Some c → SaysAll gs (owner.Routine r) c.blocks
next-body d hs gs k before grow last r c low at =
    last-or k r (λ m. body_at d m ≡ Some c → SaysAll gs (owner.Routine m) c.blocks) low (λ less h i b block. grow (owner.Routine r) b.object (before r c less h i b block)) (λ h. last c h) at

-- A task or function is an object.
pub body-below : (d : Shape) (r : ℕ) → has_body d.objects r ≡ true → r < length d.objects
body-below d r has = by (slice_get d.objects r) refl
  where
    by : (o : Option ObjectInfo) → slice_get d.objects r ≡ o → r < length d.objects
    by None at = let never : has_body d.objects r ≡ false = ap (λ (o : Option ObjectInfo). is_some (option_and_then (λ i. body_of i.detail) o)) at in absurd (cc)
    by (Some x) at = position-below d.objects r x at

pub code-below : (d : Shape) (r : ℕ) (c : Code) → body_at d r ≡ Some c → r < length d.objects
code-below d r c at = body-below d r (by (body_number d.objects r) refl)
  where
    by : (o : Option ℕ) → body_number d.objects r ≡ o → is_some (body_number d.objects r) ≡ true
    by None none = let never : body_at d r ≡ None = ap (λ (o : Option ℕ). option_and_then (λ n. slice_get d.bodies n) o) none in absurd (cc)
    by (Some n) is = ap is_some is
