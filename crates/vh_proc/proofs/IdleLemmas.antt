-- Callers of whom nobody is in a call any more are forgotten.
use Rattle.std.proofs.Common.{◌≡◌, ◌∙◌, ℕ, Bool, true, false, cond, ◌||◌, nat_eq, nat_lt, List, [], ◌∷◌, length, Option, Some, None, IfSome, refl, sym, ap, subst, arith}
use Rattle.std.proofs.lemmas.Bool.{eqb-true, eq-eqb, ltb-false}
use Rattle.std.proofs.lemmas.Map.Keys.{sorted_head, sorted_tail}
use Rattle.std.specs.BTreeMap.{is_at}
use Rattle.std.specs.BTreeSet.{BTreeSet, contains}
use Rattle.std.specs.List.{AllByRecursion}
use Rattle.std.specs.List.Sorted.{IsStrictlySortedBy}
use Rattle.std.specs.Map.{lookup, keys_of}
use Rattle.std.specs.Option.{is_some}
use Rattle.std.specs.Ordering.{nat_cmp}
use Rattle.vh_design.specs.Shape.{Shape}
use Rattle.vh_proc_thread.specs.declared.call.Call.{Call}
use Rattle.vh_proc_thread.specs.Control.{Control, is_routine, is_call_of, is_within, block_around, outermost, or_these, is_inside}
use Rattle.vh_proc_turn.specs.declared.process.Process.{Process}
use Rattle.vh_proc.specs.declared.families.Families.{Families}
use Rattle.vh_proc.specs.Families.{is_of, is_caller, IsParent, AreKept, is_in_call, Forgets}
use Rattle.vh_proc.proofs.CallsLemmas.{AllCalls}
use Rattle.vh_proc.proofs.FamiliesLemmas.{EachKept}
use Rattle.vh_proc.proofs.SetsLemmas.{at-eq}
use Rattle.vh_proc.proofs.WalkLemmas.{none-above}

-- What isn't in a set that grew wasn't in it.
pub still-out : (old new : BTreeSet ℕ) (q : ℕ) → (contains nat_cmp old q ≡ true → contains nat_cmp new q ≡ true) → contains nat_cmp new q ≡ false → contains nat_cmp old q ≡ false
still-out old new q kept out = by (contains nat_cmp old q) refl
  where
    by : (b : Bool) → contains nat_cmp old q ≡ b → contains nat_cmp old q ≡ false
    by true is = let here : contains nat_cmp new q ≡ true = kept is in absurd (cc)
    by false is = is

-- A thread that isn't inside a task or function has no call of it.
none-left : (xs ys : List Call) → or_these xs ys ≡ [] → xs ≡ []
none-left [] ys is = refl
none-left (x ∷ xs) ys is = absurd (cc)

none-right : (xs ys : List Call) → or_these xs ys ≡ [] → ys ≡ []
none-right [] ys is = is
none-right (x ∷ xs) ys is = absurd (cc)

none-if : (b : Bool) (c : Call) (cs : List Call) → cond b (c ∷ cs) [] ≡ [] → b ≡ false
none-if true c cs is = absurd (cc)
none-if false c cs is = refl

left-false : (a b : Bool) → (a || b) ≡ false → a ≡ false
left-false true b is = absurd (cc)
left-false false b is = refl

no-length : (xs : List Call) → nat_lt 0 (length xs) ≡ false → xs ≡ []
no-length [] is = refl
no-length (x ∷ xs) is = let high = ltb-false 0 (length (x ∷ xs)) is in absurd (omega (arith, high))

module _ (d : Shape) (root r : ℕ) where
  other : (routine : Option ℕ) → is_routine r routine ≡ false → IfSome routine (λ s. nat_eq s r ≡ false)
  other None is = tt
  other (Some s) is = is

  no-calls : (cs : List Call) → outermost (is_within d root r) cs ≡ [] → AllCalls (λ s. nat_eq s r ≡ false) cs
  no-calls [] is = tt
  no-calls (c ∷ cs) is =
      let not_here : is_within d root r c ≡ false =
      none-if (is_within d root r c) c cs (none-right (outermost (is_within d root r) cs) (cond (is_within d root r c) (c ∷ cs) []) is) in (
        other c.routine (left-false (is_call_of r c) (is_some (block_around d root r c)) not_here),
        no-calls cs (none-left (outermost (is_within d root r) cs) (cond (is_within d root r c) (c ∷ cs) []) is),
      )

not-called : (d : Shape) (r : ℕ) (t : Control) → is_inside d r t ≡ false → AllCalls (λ s. nat_eq s r ≡ false) t.calls
not-called d r t out = no-calls d t.root r t.calls (no-length (outermost (is_within d t.root r) t.calls) out)

-- What a look for each number of a family says, it says of each process of it.
module _ (d : Shape) (r : ℕ) (Q : ℕ → Type 0) where
  abbrev pub EachOut : List (ℕ × Process) → Type 0
  EachOut es = AllByRecursion (λ e. Q e.0 → is_inside d r e.1.thread ≡ false) es

  at-same : (k : ℕ) → is_at (nat_cmp k) k ≡ true
  at-same k = at-eq k k ∙ eq-eqb k k refl

  each-out : (es : List (ℕ × Process)) → IsStrictlySortedBy nat_cmp (keys_of es)
      → ((p : ℕ) → Q p → is_in_call d r (lookup (is_at (nat_cmp p)) es) ≡ false) → EachOut es
  each-out [] rise out = tt
  each-out (e ∷ es) rise out = (
    λ in_it. ap (λ (b : Bool). is_in_call d r (cond b (Some e.1) (lookup (is_at (nat_cmp e.0)) es))) (sym (at-same e.0)) ∙ out e.0 in_it,
    each-out es (sorted_tail nat_cmp e.0 (keys_of es) rise) (λ p in_it. later p in_it (is_at (nat_cmp p) e.0) refl),
  )
    where
      later : (p : ℕ) → Q p → (b : Bool) → is_at (nat_cmp p) e.0 ≡ b → is_in_call d r (lookup (is_at (nat_cmp p)) es) ≡ false
      later p in_it true at =
          let same : e.0 ≡ p = sym (eqb-true p e.0 (sym (at-eq p e.0) ∙ at)) in
          let none : lookup (is_at (nat_cmp p)) es ≡ None =
          subst (λ x. lookup (is_at (nat_cmp x)) es ≡ None) same (none-above e.0 es (sorted_head nat_cmp e.0 (keys_of es) rise)) in
          ap (is_in_call d r) none
      later p in_it false at =
          ap (λ (b : Bool). is_in_call d r (cond b (Some e.1) (lookup (is_at (nat_cmp p)) es))) (sym at) ∙ out p in_it

-- Each call is noted still.
module _ (d : Shape) (r : ℕ) (all : List (ℕ × Process)) (old new : Families) (forgets : Forgets d r all old new) where
  noted-by : (root s : ℕ) (b c : Bool) → nat_eq r s ≡ b → is_caller new.callers.entries r root ≡ c
      → (is_caller old.callers.entries r root ≡ true → is_caller new.callers.entries r root ≡ false → nat_eq s r ≡ false)
      → is_caller old.callers.entries s root ≡ true → is_caller new.callers.entries s root ≡ true
  noted-by root s false c differ is out noted = forgets.others s root differ ∙ noted
  noted-by root s true true same is out noted = subst (λ x. is_caller new.callers.entries x root ≡ true) (eqb-true r s same) is
  noted-by root s true false same is out noted =
      let not_it : nat_eq s r ≡ false = out (subst (λ x. is_caller old.callers.entries x root ≡ true) (sym (eqb-true r s same)) noted) is in
      let it : nat_eq s r ≡ true = eq-eqb s r (sym (eqb-true r s same)) in
      absurd (cc)

  notes-still : (root : ℕ) (cs : List Call)
      → (is_caller old.callers.entries r root ≡ true → is_caller new.callers.entries r root ≡ false → AllCalls (λ s. nat_eq s r ≡ false) cs)
      → AllCalls (λ s. is_caller old.callers.entries s root ≡ true) cs → AllCalls (λ s. is_caller new.callers.entries s root ≡ true) cs
  notes-still root [] out notes = tt
  notes-still root (c ∷ cs) out notes = (by c.routine (λ was is. (out was is).0) notes.0, notes-still root cs (λ was is. (out was is).1) notes.1)
    where
      by : (routine : Option ℕ)
          → (is_caller old.callers.entries r root ≡ true → is_caller new.callers.entries r root ≡ false → IfSome routine (λ s. nat_eq s r ≡ false))
          → IfSome routine (λ s. is_caller old.callers.entries s root ≡ true) → IfSome routine (λ s. is_caller new.callers.entries s root ≡ true)
      by None out noted = tt
      by (Some s) out noted = noted-by root s (nat_eq r s) (is_caller new.callers.entries r root) refl refl out noted

  -- A number is in the family of a caller that is forgotten.
  abbrev IsForgotten : ℕ → Type 0
  IsForgotten p = (k : ℕ) × (is_caller old.callers.entries r k ≡ true) × (is_caller new.callers.entries r k ≡ false) × (is_of old.sets.items k p ≡ true)

  same-sets : (n q : ℕ) → is_of new.sets.items n q ≡ is_of old.sets.items n q
  same-sets n q = ap (λ (fs : List (BTreeSet ℕ)). is_of fs n q) forgets.members

  parent-still : (next k : ℕ) (o : Option ℕ) → IfSome o (IsParent old next k) → IfSome o (IsParent new next k)
  parent-still next k None begun = tt
  parent-still next k (Some q) begun = record { below = begun.below; alone = λ n at. begun.alone n (sym (forgets.roots q) ∙ at) }

  each-still : (next : ℕ) (es : List (ℕ × Process)) → EachOut d r IsForgotten es → EachKept old next es → EachKept new next es
  each-still next [] out each = tt
  each-still next (e ∷ es) out each = (
    record {
      own = same-sets e.1.thread.root e.0 ∙ each.0.own;
      below = each.0.below;
      begun = parent-still next e.1.thread.root e.1.parent each.0.begun;
      calls = notes-still e.1.thread.root e.1.thread.calls
          (λ was is. not-called d r e.1.thread (out.0 (e.1.thread.root, was, is, each.0.own))) each.0.calls;
    },
    each-still next es out.1 each.1,
  )

  pub kept-still : (next : ℕ) → IsStrictlySortedBy nat_cmp (keys_of all) → AreKept old next all → AreKept new next all
  kept-still next rise kept = record {
    each = each-still next all (each-out d r IsForgotten all rise (λ p it. forgets.idle it.0 it.1 it.2 p it.3)) kept.each;
    exact = λ k q is_in. forgets.roots q ∙ kept.exact k q (sym (same-sets k q) ∙ is_in);
    fresh = λ q above. forgets.roots q ∙ kept.fresh q above;
  }
