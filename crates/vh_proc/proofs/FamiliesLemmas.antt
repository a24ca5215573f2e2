-- Each process is in its family, after every change of one.
use Rattle.std.proofs.Common.{◌≡◌, ◌∙◌, ◌<◌, ◌≤◌, ◌+◌, ℕ, Bool, true, false, cond, ◌&&◌, ◌||◌, nat_eq, List, [], ◌∷◌, Option, Some, None, IfSome, slice_get, Less, Equal, Greater, refl, sym, ap, subst, arith}
use Rattle.std.proofs.lemmas.Bool.{eqb-true, eq-eqb, ne_eqb}
use Rattle.std.specs.BTreeMap.{is_at, insert_entry}
use Rattle.std.specs.BTreeSet.{BTreeSet, contains}
use Rattle.std.specs.declared.cmp.Ordering.{Ordering}
use Rattle.std.specs.List.{AllByRecursion}
use Rattle.std.specs.Map.{lookup, set_value, remove_entry}
use Rattle.std.specs.Prelude.{unwrap_or}
use Rattle.std.specs.Option.{option_map}
use Rattle.std.specs.Ordering.{nat_cmp, match_ordering, is_eq}
use Rattle.vh_design.specs.Shape.{Shape}
use Rattle.vh_proc_thread.specs.declared.call.Call.{Call}
use Rattle.vh_proc_thread.specs.Control.{Control, Runs, process_of, branch_of}
use Rattle.vh_proc_turn.specs.declared.process.Process.{Process}
use Rattle.vh_proc.specs.declared.families.Families.{Families}
use Rattle.vh_proc.specs.declared.layout.Owner.TheVariants as owner
use Rattle.vh_proc.specs.Families.{is_of, root_of, is_caller, NotesCalls, Joins, Leaves, Calls, IsParent, IsKept, IsExact, AreKept, IsPassed, HasAll, ComeFrom}
use Rattle.vh_proc.specs.Homes.{IsOwner}
use Rattle.vh_proc.specs.Processes.{Processes, process_at, without_process, changed, changed_in}
use Rattle.vh_proc.proofs.KinLemmas.{kin}
use Rattle.vh_proc.proofs.SetsLemmas.{at-eq}
use Rattle.vh_proc.proofs.HomesLemmas.{not-inside, process-away, routine-away}
use Rattle.vh_proc.proofs.CallsLemmas.{AllCalls, calls-begun, calls-branch}

abbrev pub EachKept : Families → ℕ → List (ℕ × Process) → Type 0
EachKept fs next es = AllByRecursion (λ e. IsKept fs next e.0 e.1) es

-- What is noted of a thread's calls, where another's are no others.
abbrev pub Keeps : Process → Process → Type 1
Keeps t u = (P : ℕ → Type 0) → AllCalls P t.thread.calls → AllCalls P u.thread.calls

notes-on : (cs : List (ℕ × BTreeSet ℕ)) (t u : Process) → u.thread.root ≡ t.thread.root → Keeps t u → NotesCalls cs t.thread → NotesCalls cs u.thread
notes-on cs t u root keeps notes =
    subst (λ k. AllCalls (λ r. is_caller cs r k ≡ true) u.thread.calls) (sym root) (keeps (λ r. is_caller cs r t.thread.root ≡ true) notes)

-- A process that is changed stays where it was.
stays : (fs : Families) (next p : ℕ) (t u : Process) → u.thread.root ≡ t.thread.root → u.parent ≡ t.parent
    → (NotesCalls fs.callers.entries t.thread → NotesCalls fs.callers.entries u.thread) → IsKept fs next p t → IsKept fs next p u
stays fs next p t u root parent calls kept = record {
  own = subst (λ k. is_of fs.sets.items k p ≡ true) (sym root) kept.own;
  below = kept.below;
  begun = subst (λ k. IfSome u.parent (IsParent fs next k)) (sym root) (subst (λ o. IfSome o (IsParent fs next t.thread.root)) (sym parent) kept.begun);
  calls = calls kept.calls;
}

set-by : (fs : Families) (next : ℕ) (b : Bool) (e : ℕ × Process) (t u : Process) (es us : List (ℕ × Process)) → u.thread.root ≡ t.thread.root → u.parent ≡ t.parent
    → (NotesCalls fs.callers.entries t.thread → NotesCalls fs.callers.entries u.thread)
    → (b ≡ true → e.1 ≡ t) → IsKept fs next e.0 e.1 → EachKept fs next es → (b ≡ false → EachKept fs next us)
    → EachKept fs next (cond b ((e.0, u) ∷ es) (e ∷ us))
set-by fs next true e t u es us root parent calls is own old rest =
    (stays fs next e.0 t u root parent calls (subst (λ (x : Process). IsKept fs next e.0 x) (is refl) own), old)
set-by fs next false e t u es us root parent calls is own old rest = (own, rest refl)

found-first : (b : Bool) (t u : Process) (o : Option Process) → cond b (Some t) o ≡ Some u → b ≡ true → t ≡ u
found-first true t u o at is = cc
found-first false t u o at is = absurd (cc)

found-later : (b : Bool) (t u : Process) (o : Option Process) → cond b (Some t) o ≡ Some u → b ≡ false → o ≡ Some u
found-later true t u o at is = absurd (cc)
found-later false t u o at is = at

each-set : (fs : Families) (next : ℕ) (test : ℕ → Bool) (es : List (ℕ × Process)) (t u : Process) → u.thread.root ≡ t.thread.root → u.parent ≡ t.parent
    → (NotesCalls fs.callers.entries t.thread → NotesCalls fs.callers.entries u.thread) → lookup test es ≡ Some t → EachKept fs next es → EachKept fs next (set_value test es u)
each-set fs next test [] t u root parent calls at each = tt
each-set fs next test (e ∷ es) t u root parent calls at each =
    set-by fs next (test e.0) e t u es (set_value test es u) root parent calls (found-first (test e.0) e.1 t (lookup test es) at) each.0 each.1
    (λ differ. each-set fs next test es t u root parent calls (found-later (test e.0) e.1 t (lookup test es) at differ) each.1)

pub kept-set : (fs : Families) (next : ℕ) (test : ℕ → Bool) (es : List (ℕ × Process)) (t u : Process) → u.thread.root ≡ t.thread.root → u.parent ≡ t.parent
    → (NotesCalls fs.callers.entries t.thread → NotesCalls fs.callers.entries u.thread) → lookup test es ≡ Some t → AreKept fs next es → AreKept fs next (set_value test es u)
kept-set fs next test es t u root parent calls at kept = record { each = each-set fs next test es t u root parent calls at kept.each; exact = kept.exact; fresh = kept.fresh }

-- One goes out.
removed-by : (fs : Families) (next : ℕ) (b : Bool) (e : ℕ × Process) (es us : List (ℕ × Process)) → IsKept fs next e.0 e.1 → EachKept fs next es → EachKept fs next us
    → EachKept fs next (cond b es (e ∷ us))
removed-by fs next true e es us own old rest = old
removed-by fs next false e es us own old rest = (own, rest)

each-removed : (fs : Families) (next : ℕ) (test : ℕ → Bool) (es : List (ℕ × Process)) → EachKept fs next es → EachKept fs next (remove_entry test es)
each-removed fs next test [] each = tt
each-removed fs next test (e ∷ es) each = removed-by fs next (test e.0) e es (remove_entry test es) each.0 each.1 (each-removed fs next test es each.1)

parent-left : (old new : Families) (next p k : ℕ) (o : Option ℕ) → Leaves old new p → IfSome o (IsParent old next k) → IfSome o (IsParent new next k)
parent-left old new next p k None left begun = tt
parent-left old new next p k (Some q) left begun = record { below = begun.below; alone = λ n. by (nat_eq p q) refl n }
  where
    by : (b : Bool) → nat_eq p q ≡ b → (n : ℕ) → root_of q new ≡ Some n → n ≡ k
    by true is n at = let none : root_of q new ≡ None = left.roots q ∙ ap (λ (b : Bool). cond b None (root_of q old)) is in absurd (cc)
    by false is n at = begun.alone n (sym (left.roots q ∙ ap (λ (b : Bool). cond b None (root_of q old)) is) ∙ at)

one-left : (old new : Families) (next p q : ℕ) (t : Process) → Leaves old new p → nat_eq p q ≡ false → IsKept old next q t → IsKept new next q t
one-left old new next p q t left is kept = record {
  own = left.others t.thread.root q is ∙ kept.own;
  below = kept.below;
  begun = parent-left old new next p t.thread.root t.parent left kept.begun;
  calls = subst (λ cs. NotesCalls cs t.thread) (sym left.callers) kept.calls;
}

none-first : (b : Bool) (t : Process) (o : Option Process) → cond b (Some t) o ≡ None → b ≡ false
none-first true t o at = absurd (cc)
none-first false t o at = refl

none-later : (b : Bool) (t : Process) (o : Option Process) → cond b (Some t) o ≡ None → o ≡ None
none-later true t o at = absurd (cc)
none-later false t o at = at

each-left : (old new : Families) (next p : ℕ) (es : List (ℕ × Process)) → Leaves old new p → lookup (is_at (nat_cmp p)) es ≡ None → EachKept old next es → EachKept new next es
each-left old new next p [] left none each = tt
each-left old new next p (e ∷ es) left none each =
    let differ = none-first (is_at (nat_cmp p) e.0) e.1 (lookup (is_at (nat_cmp p)) es) none in (
      one-left old new next p e.0 e.1 left (sym (at-eq p e.0) ∙ differ) each.0,
      each-left old new next p es left (none-later (is_at (nat_cmp p) e.0) e.1 (lookup (is_at (nat_cmp p)) es) none) each.1,
    )

exact-left : (old new : Families) (p : ℕ) → Leaves old new p → ((k q : ℕ) → is_of old.sets.items k q ≡ true → root_of q old ≡ Some k)
    → (k q : ℕ) → is_of new.sets.items k q ≡ true → root_of q new ≡ Some k
exact-left old new p left exact k q is_in = by (nat_eq p q) refl
  where
    was : root_of q old ≡ Some k
    was = exact k q (left.members k q is_in)

    by : (b : Bool) → nat_eq p q ≡ b → root_of q new ≡ Some k
    by true is =
        let same : p ≡ q = eqb-true p q is in
        let out : is_of new.sets.items k p ≡ false = left.gone k (subst (λ x. root_of x old ≡ Some k) (sym same) was) in
        let still : is_of new.sets.items k p ≡ true = subst (λ x. is_of new.sets.items k x ≡ true) (sym same) is_in in
        absurd (cc)
    by false is = left.roots q ∙ ap (λ (b : Bool). cond b None (root_of q old)) is ∙ was

fresh-left : (old new : Families) (next p : ℕ) → Leaves old new p → ((q : ℕ) → next ≤ q → root_of q old ≡ None) → (q : ℕ) → next ≤ q → root_of q new ≡ None
fresh-left old new next p left fresh q above = left.roots q ∙ by (nat_eq p q)
  where
    by : (b : Bool) → cond b None (root_of q old) ≡ None
    by true = refl
    by false = fresh q above

pub kept-left : (old new : Families) (next p : ℕ) (es us : List (ℕ × Process)) → Leaves old new p → us ≡ remove_entry (is_at (nat_cmp p)) es
    → lookup (is_at (nat_cmp p)) us ≡ None → AreKept old next es → AreKept new next us
kept-left old new next p es us left is none kept = record {
  each = each-left old new next p us left none (subst (EachKept old next) (sym is) (each-removed old next (is_at (nat_cmp p)) es kept.each));
  exact = exact-left old new p left kept.exact;
  fresh = fresh-left old new next p left kept.fresh;
}

-- One comes in, of the next number.
other : (p q next : ℕ) → p ≡ next → q < next → nat_eq p q ≡ false
other p q next same below = ne_eqb p q (λ e. omega (arith, same, below, e))

parent-joined : (old new : Families) (next root p k : ℕ) (o : Option ℕ) → Joins old new root p → p ≡ next → IfSome o (IsParent old next k) → IfSome o (IsParent new (next + 1) k)
parent-joined old new next root p k None joins same begun = tt
parent-joined old new next root p k (Some q) joins same begun = record {
  below = let low = begun.below in omega (arith, low);
  alone = λ n at. begun.alone n (sym (joins.roots q ∙ ap (λ (b : Bool). cond b (Some root) (root_of q old)) (other p q next same begun.below)) ∙ at);
}

or-left : (a b : Bool) → a ≡ true → (a || b) ≡ true
or-left true b is = refl
or-left false b is = absurd (cc)

one-joined : (old new : Families) (next root p q : ℕ) (t : Process) → Joins old new root p → p ≡ next → IsKept old next q t → IsKept new (next + 1) q t
one-joined old new next root p q t joins same kept = record {
  own = joins.members t.thread.root q ∙ or-left (is_of old.sets.items t.thread.root q) (nat_eq t.thread.root root && nat_eq p q) kept.own;
  below = let low = kept.below in omega (arith, low);
  begun = parent-joined old new next root p t.thread.root t.parent joins same kept.begun;
  calls = subst (λ cs. NotesCalls cs t.thread) (sym joins.callers) kept.calls;
}

each-joined : (old new : Families) (next root p : ℕ) (es : List (ℕ × Process)) → Joins old new root p → p ≡ next → EachKept old next es → EachKept new (next + 1) es
each-joined old new next root p [] joins same each = tt
each-joined old new next root p (e ∷ es) joins same each =
    (one-joined old new next root p e.0 e.1 joins same each.0, each-joined old new next root p es joins same each.1)

inserted-by : (fs : Families) (next : ℕ) (o : Ordering) (e : ℕ × Process) (k : ℕ) (t : Process) (es us : List (ℕ × Process)) → (o ≡ Equal → k ≡ e.0) → IsKept fs next e.0 e.1
    → IsKept fs next k t → EachKept fs next es → EachKept fs next us
    → EachKept fs next (match_ordering o ((k, t) ∷ e ∷ es) ((e.0, t) ∷ es) (e ∷ us))
inserted-by fs next Less e k t es us is own new old rest = (new, (own, old))
inserted-by fs next Equal e k t es us is own new old rest = (subst (λ x. IsKept fs next x t) (is refl) new, old)
inserted-by fs next Greater e k t es us is own new old rest = (own, rest)

equal-is : (a b : ℕ) → nat_cmp a b ≡ Equal → a ≡ b
equal-is a b is = eqb-true a b (sym (at-eq a b) ∙ ap is_eq is)

each-inserted : (fs : Families) (next : ℕ) (es : List (ℕ × Process)) (k : ℕ) (t : Process) → EachKept fs next es → IsKept fs next k t
    → EachKept fs next (insert_entry nat_cmp es k t)
each-inserted fs next [] k t each new = (new, tt)
each-inserted fs next (e ∷ es) k t each new =
    inserted-by fs next (nat_cmp k e.0) e k t es (insert_entry nat_cmp es k t) (equal-is k e.0) each.0 new each.1 (each-inserted fs next es k t each.1 new)

and-left : (a b : Bool) → (a && b) ≡ true → a ≡ true
and-left true b is = refl
and-left false b is = absurd (cc)

or-false : (a b : Bool) → b ≡ false → (a || b) ≡ true → a ≡ true
or-false true b differ is = refl
or-false false b differ is = absurd (cc)

or-right : (a b : Bool) → a ≡ false → (a || b) ≡ true → b ≡ true
or-right true b differ is = absurd (cc)
or-right false b differ is = is

not-true : (a : Bool) → (a ≡ true → ⊥) → a ≡ false
not-true true h = absurd (h refl)
not-true false h = refl

and-false : (a b : Bool) → b ≡ false → (a && b) ≡ false
and-false true b is = is
and-false false b is = refl

exact-joined : (old new : Families) (next root p : ℕ) → Joins old new root p → p ≡ next → ((k q : ℕ) → is_of old.sets.items k q ≡ true → root_of q old ≡ Some k)
    → ((q : ℕ) → next ≤ q → root_of q old ≡ None) → (k q : ℕ) → is_of new.sets.items k q ≡ true → root_of q new ≡ Some k
exact-joined old new next root p joins same exact fresh k q is_in = joins.roots q ∙ by (nat_eq p q) refl
  where
    has : (is_of old.sets.items k q || (nat_eq k root && nat_eq p q)) ≡ true
    has = sym (joins.members k q) ∙ is_in

    by : (b : Bool) → nat_eq p q ≡ b → cond b (Some root) (root_of q old) ≡ Some k
    by true is =
        let at : p ≡ q = eqb-true p q is in
        let none : root_of q old ≡ None = fresh q (omega (arith, same, at)) in
        let out : is_of old.sets.items k q ≡ false = not-true (is_of old.sets.items k q) (λ h. let some = exact k q h in absurd (cc)) in
        let right : (nat_eq k root && nat_eq p q) ≡ true = or-right (is_of old.sets.items k q) _ out has in
        ap Some (sym (eqb-true k root (and-left (nat_eq k root) (nat_eq p q) right)))
    by false is = exact k q (or-false (is_of old.sets.items k q) (nat_eq k root && nat_eq p q) (and-false (nat_eq k root) (nat_eq p q) is) has)

fresh-joined : (old new : Families) (next root p : ℕ) → Joins old new root p → p ≡ next → ((q : ℕ) → next ≤ q → root_of q old ≡ None)
    → (q : ℕ) → next + 1 ≤ q → root_of q new ≡ None
fresh-joined old new next root p joins same fresh q above =
    joins.roots q ∙ ap (λ (b : Bool). cond b (Some root) (root_of q old)) (ne_eqb p q (λ e. omega (arith, same, above, e))) ∙ fresh q (omega (arith, above))

own-joined : (old new : Families) (root p : ℕ) → Joins old new root p → is_of new.sets.items root p ≡ true
own-joined old new root p joins =
    joins.members root p ∙ ap (λ (b : Bool). is_of old.sets.items root p || (b && nat_eq p p)) (eq-eqb root root refl)
    ∙ ap (λ (b : Bool). is_of old.sets.items root p || b) (eq-eqb p p refl) ∙ either (is_of old.sets.items root p)
  where
    either : (a : Bool) → (a || true) ≡ true
    either true = refl
    either false = refl

pub kept-joined : (old new : Families) (next p : ℕ) (es : List (ℕ × Process)) (t : Process) → Joins old new t.thread.root p → p ≡ next
    → IfSome t.parent (IsParent old next t.thread.root) → NotesCalls old.callers.entries t.thread → AreKept old next es
    → AreKept new (next + 1) (insert_entry nat_cmp es p t)
kept-joined old new next p es t joins same begun notes kept = record {
  each = each-inserted new (next + 1) es p t (each-joined old new next t.thread.root p es joins same kept.each) (record {
    own = own-joined old new t.thread.root p joins;
    below = omega (arith, same);
    begun = parent-joined old new next t.thread.root p t.thread.root t.parent joins same begun;
    calls = subst (λ cs. NotesCalls cs t.thread) (sym joins.callers) notes;
  });
  exact = exact-joined old new next t.thread.root p joins same kept.exact kept.fresh;
  fresh = fresh-joined old new next t.thread.root p joins same kept.fresh;
}

pub kept-more : (old new : Families) (next p root : ℕ) (es us : List (ℕ × Process)) (t : Process) → Joins old new root p → root ≡ t.thread.root → p ≡ next
    → us ≡ insert_entry nat_cmp es p t → IfSome t.parent (IsParent old next t.thread.root) → NotesCalls old.callers.entries t.thread → AreKept old next es
    → AreKept new (next + 1) us
kept-more old new next p root es us t joins from same is begun notes kept =
    subst (AreKept new (next + 1)) (sym is) (kept-joined old new next p es t (subst (λ k. Joins old new k p) from joins) same begun notes kept)

-- A branch is in no other call than its parent, and a process at its beginning in none.
pub branch-notes : (cs : List (ℕ × BTreeSet ℕ)) (position : ℕ) (t u : Control) → u ≡ branch_of position t → NotesCalls cs t → NotesCalls cs u
branch-notes cs position t u is notes = subst (NotesCalls cs) (sym is) (calls-branch (λ r. is_caller cs r t.root ≡ true) position t notes)

pub process-notes : (cs : List (ℕ × BTreeSet ℕ)) (d : Shape) (k : ℕ) (u : Control) → u ≡ process_of d k → NotesCalls cs u
process-notes cs d k u is = subst (NotesCalls cs) (sym is) (calls-begun (λ r. is_caller cs r k ≡ true) d k)

-- What is kept of a process that is found.
kept-by : (fs : Families) (next p : ℕ) (b : Bool) (e : ℕ × Process) (t : Process) (o : Option Process) → (b ≡ true → p ≡ e.0) → cond b (Some e.1) o ≡ Some t
    → IsKept fs next e.0 e.1 → (o ≡ Some t → IsKept fs next p t) → IsKept fs next p t
kept-by fs next p true e t o at is own rest =
    let same : e.1 ≡ t = cc in
    subst (λ (u : Process). IsKept fs next p u) same (subst (λ x. IsKept fs next x e.1) (sym (at refl)) own)
kept-by fs next p false e t o at is own rest = rest is

pub kept-found : (fs : Families) (next p : ℕ) (es : List (ℕ × Process)) (t : Process) → EachKept fs next es → lookup (is_at (nat_cmp p)) es ≡ Some t
    → IsKept fs next p t
kept-found fs next p [] t each is = absurd (cc)
kept-found fs next p (e ∷ es) t each is =
    kept-by fs next p (is_at (nat_cmp p) e.0) e t (lookup (is_at (nat_cmp p)) es) (λ at. eqb-true p e.0 (sym (at-eq p e.0) ∙ at)) is each.0 (kept-found fs next p es t each.1)

-- The branch of a process that is kept.
pub begun-by : (fs : Families) (next p : ℕ) (t : Process) → IsExact fs → IsKept fs next p t → IsParent fs next t.thread.root p
begun-by fs next p t exact kept = record {
  below = kept.below;
  alone = λ n at. let is : root_of p fs ≡ Some t.thread.root = exact t.thread.root p kept.own in cc;
}

-- The family of the process in whose code alone a block is has all that are inside, and all that one of it has begun.
module _ (d : Shape) (target : ℕ) (fs : Families) (next k : ℕ) (f : BTreeSet ℕ) (at : slice_get fs.sets.items k ≡ Some f) (owned : IsOwner d target (owner.Process k))
    (exact : IsExact fs) where
  in-family : (p : ℕ) → is_of fs.sets.items k p ≡ contains nat_cmp f p
  in-family p = ap (λ (o : Option (BTreeSet ℕ)). unwrap_or (option_map (λ g. contains nat_cmp g p) o) false) at

  apart-by : (p root : ℕ) (o : Option ℕ) → is_of fs.sets.items root p ≡ true → IfSome o (IsParent fs next root)
      → IfSome o (λ q. contains nat_cmp f q ≡ true → contains nat_cmp f p ≡ true)
  apart-by p root None own begun = tt
  apart-by p root (Some q) own begun = λ is.
      let same : k ≡ root = begun.alone k (exact k q (in-family q ∙ is)) in
      sym (in-family p) ∙ subst (λ n. is_of fs.sets.items n p ≡ true) (sym same) own

  passed : (p : ℕ) (t : Process) → Runs d t.thread → IsKept fs next p t → IsPassed d target f p t
  passed p t runs kept = record {
    outside = λ out. not-inside d target (owner.Process k) t.thread owned runs (process-away k t.thread.root (λ same.
        let own : is_of fs.sets.items k p ≡ true = subst (λ n. is_of fs.sets.items n p ≡ true) same kept.own in
        let is : contains nat_cmp f p ≡ true = sym (in-family p) ∙ own in
        absurd (cc)) t.thread.calls);
    apart = apart-by p t.thread.root t.parent kept.own kept.begun;
  }

  has-all : (es : List (ℕ × Process)) → AllByRecursion (λ e. Runs d e.1.thread) es → EachKept fs next es → HasAll d target f es
  has-all [] runs each = tt
  has-all (e ∷ es) runs each = (passed e.0 e.1 runs.0 each.0, has-all es runs.1 each.1)

pub family-has-all : (d : Shape) (target : ℕ) (fs : Families) (next k : ℕ) (f : BTreeSet ℕ) (es : List (ℕ × Process)) → slice_get fs.sets.items k ≡ Some f
    → IsOwner d target (owner.Process k)
    → AllByRecursion (λ e. Runs d e.1.thread) es → AreKept fs next es → HasAll d target f es
family-has-all d target fs next k f es at owned runs kept = has-all d target fs next k f at owned kept.exact es runs kept.each

-- All that come from the callers of the task or function in whose body alone a block is.
module _ (d : Shape) (target : ℕ) (fs : Families) (next r : ℕ) (f : BTreeSet ℕ) (owned : IsOwner d target (owner.Routine r)) (exact : IsExact fs) (come : ComeFrom fs r f) where
  never-called : (p : ℕ) (t : Process) → IsKept fs next p t → contains nat_cmp f p ≡ false → is_caller fs.callers.entries r t.thread.root ≡ false
  never-called p t kept out = not-true (is_caller fs.callers.entries r t.thread.root) (λ has.
      let is : contains nat_cmp f p ≡ true = come.has t.thread.root p has kept.own in
      absurd (cc))

  called-root : (q root : ℕ) (o : Option ℕ) → root_of q fs ≡ o → ((n : ℕ) → root_of q fs ≡ Some n → n ≡ root)
      → unwrap_or (option_map (λ k. is_caller fs.callers.entries r k) o) false ≡ true → is_caller fs.callers.entries r root ≡ true
  called-root q root None at alone is = absurd (cc)
  called-root q root (Some n) at alone is = subst (λ k. is_caller fs.callers.entries r k ≡ true) (alone n at) is

  apart-called : (p root : ℕ) (o : Option ℕ) → is_of fs.sets.items root p ≡ true → IfSome o (IsParent fs next root)
      → IfSome o (λ q. contains nat_cmp f q ≡ true → contains nat_cmp f p ≡ true)
  apart-called p root None own begun = tt
  apart-called p root (Some q) own begun = λ is.
      come.has root p (called-root q root (root_of q fs) refl begun.alone (come.only q is)) own

  passed-called : (p : ℕ) (t : Process) → Runs d t.thread → IsKept fs next p t → IsPassed d target f p t
  passed-called p t runs kept = record {
    outside = λ out. not-inside d target (owner.Routine r) t.thread owned runs
        (routine-away fs.callers.entries r t.thread.root (never-called p t kept out) t.thread.calls kept.calls);
    apart = apart-called p t.thread.root t.parent kept.own kept.begun;
  }

  all-called : (es : List (ℕ × Process)) → AllByRecursion (λ e. Runs d e.1.thread) es → EachKept fs next es → HasAll d target f es
  all-called [] runs each = tt
  all-called (e ∷ es) runs each = (passed-called e.0 e.1 runs.0 each.0, all-called es runs.1 each.1)

pub callers-have-all : (d : Shape) (target : ℕ) (fs : Families) (next r : ℕ) (f : BTreeSet ℕ) (es : List (ℕ × Process)) → IsOwner d target (owner.Routine r)
    → ComeFrom fs r f → AllByRecursion (λ e. Runs d e.1.thread) es → AreKept fs next es → HasAll d target f es
callers-have-all d target fs next r f es owned come runs kept = all-called d target fs next r f owned kept.exact come es runs kept.each

-- A call is noted, and all that was kept is.
parent-called : (old new : Families) (next p k : ℕ) (called o : Option ℕ) → Calls old new p called → IfSome o (IsParent old next k) → IfSome o (IsParent new next k)
parent-called old new next p k called None calls begun = tt
parent-called old new next p k called (Some q) calls begun = record { below = begun.below; alone = λ n at. begun.alone n (sym (calls.roots q) ∙ at) }

notes-more : (old new : Families) (p root : ℕ) (called : Option ℕ) (cs : List Call) → Calls old new p called
    → AllCalls (λ r. is_caller old.callers.entries r root ≡ true) cs → AllCalls (λ r. is_caller new.callers.entries r root ≡ true) cs
notes-more old new p root called [] calls notes = tt
notes-more old new p root called (c ∷ cs) calls notes = (by c.routine notes.0, notes-more old new p root called cs calls notes.1)
  where
    by : (o : Option ℕ) → IfSome o (λ r. is_caller old.callers.entries r root ≡ true) → IfSome o (λ r. is_caller new.callers.entries r root ≡ true)
    by None is = tt
    by (Some r) is = calls.kept r root is

same-sets : (old new : Families) (p : ℕ) (called : Option ℕ) → Calls old new p called → (n q : ℕ) → is_of new.sets.items n q ≡ is_of old.sets.items n q
same-sets old new p called calls n q = ap (λ (fs : List (BTreeSet ℕ)). is_of fs n q) calls.members

each-called : (old new : Families) (next p : ℕ) (called : Option ℕ) (es : List (ℕ × Process)) → Calls old new p called → EachKept old next es → EachKept new next es
each-called old new next p called [] calls each = tt
each-called old new next p called (e ∷ es) calls each = (
  record {
    own = same-sets old new p called calls e.1.thread.root e.0 ∙ each.0.own;
    below = each.0.below;
    begun = parent-called old new next p e.1.thread.root called e.1.parent calls each.0.begun;
    calls = notes-more old new p e.1.thread.root called e.1.thread.calls calls each.0.calls;
  },
  each-called old new next p called es calls each.1,
)

pub kept-called : (old new : Families) (next p : ℕ) (called : Option ℕ) (es : List (ℕ × Process)) → Calls old new p called → AreKept old next es → AreKept new next es
kept-called old new next p called es calls kept = record {
  each = each-called old new next p called es calls kept.each;
  exact = λ k q is_in. calls.roots q ∙ kept.exact k q (sym (same-sets old new p called calls k q) ∙ is_in);
  fresh = λ q above. calls.roots q ∙ kept.fresh q above;
}

-- What a process calls is noted of the one that it comes from.
pub noted-own : (old new : Families) (next p : ℕ) (called : Option ℕ) (t : Process) → Calls old new p called → IsExact old → IsKept old next p t
    → IfSome called (λ r. is_caller new.callers.entries r t.thread.root ≡ true)
noted-own old new next p called t calls exact kept = by called calls.noted
  where
    by : (o : Option ℕ) → IfSome o (λ r. (k : ℕ) → root_of p old ≡ Some k → is_caller new.callers.entries r k ≡ true)
        → IfSome o (λ r. is_caller new.callers.entries r t.thread.root ≡ true)
    by None noted = tt
    by (Some r) noted = noted t.thread.root (exact t.thread.root p kept.own)

-- What is kept through a change of one process that leaves what has begun it and where it comes from.
pub kept-turned : (fs : Families) (next : ℕ) (test : ℕ → Bool) (es us : List (ℕ × Process)) (t u : Process) → kin u ≡ kin t
    → (NotesCalls fs.callers.entries t.thread → NotesCalls fs.callers.entries u.thread) → us ≡ set_value test es u
    → lookup test es ≡ Some t → AreKept fs next es → AreKept fs next us
kept-turned fs next test es us t u same calls is at kept =
    subst (AreKept fs next) (sym is) (kept-set fs next test es t u (ap (λ (k : Option ℕ × ℕ). k.1) same) (ap (λ (k : Option ℕ × ℕ). k.0) same) calls at kept)

changed-by : (fs : Families) (o : Option Process) (p : ℕ) (f : Process → Process) (ps : Processes) → process_at p ps ≡ o → ((t : Process) → kin (f t) ≡ kin t)
    → ((t : Process) → Keeps t (f t)) → AreKept fs ps.next ps.all → AreKept fs (changed_in o p f ps).next (changed_in o p f ps).all
changed-by fs None p f ps is same keeps kept = kept
changed-by fs (Some t) p f ps is same keeps kept =
    kept-turned fs ps.next (is_at (nat_cmp p)) ps.all _ t (f t) (same t) (notes-on fs.callers.entries t (f t) (ap (λ (k : Option ℕ × ℕ). k.1) (same t)) (keeps t)) refl is kept

pub kept-through : (fs gs : Families) (b c : Bool) (vs ps qs : Processes) (p : ℕ) (f : Process → Process) → gs ≡ fs → c ≡ b → vs ≡ ps → qs ≡ changed p f ps
    → ((t : Process) → kin (f t) ≡ kin t) → ((t : Process) → Keeps t (f t)) → (b ≡ true → AreKept fs vs.next vs.all) → c ≡ true → AreKept gs qs.next qs.all
kept-through fs gs b c vs ps qs p f families flag view is same keeps kept now =
    subst (λ (x : Families). AreKept x qs.next qs.all) (sym families)
    (subst (λ (xs : Processes). AreKept fs xs.next xs.all) (sym is)
    (changed-by fs (process_at p ps) p f ps refl same keeps (subst (λ (xs : Processes). AreKept fs xs.next xs.all) view (kept (sym flag ∙ now)))))

-- Without a process that isn't there nothing is gone.
same-by : (b : Bool) (e : ℕ × Process) (es us : List (ℕ × Process)) → b ≡ false → us ≡ es → cond b es (e ∷ us) ≡ e ∷ es
same-by true e es us is rest = absurd (cc)
same-by false e es us is rest = ap (λ (vs : List (ℕ × Process)). e ∷ vs) rest

none-removed : (test : ℕ → Bool) (es : List (ℕ × Process)) → lookup test es ≡ None → remove_entry test es ≡ es
none-removed test [] none = refl
none-removed test (e ∷ es) none =
    same-by (test e.0) e es (remove_entry test es) (none-first (test e.0) e.1 (lookup test es) none)
    (none-removed test es (none-later (test e.0) e.1 (lookup test es) none))

pub none-gone : (p : ℕ) (ps : Processes) → process_at p ps ≡ None → without_process p ps ≡ ps
none-gone p ps none = ap (λ (es : List (ℕ × Process)). record ps { all = es }) (none-removed (is_at (nat_cmp p)) ps.all none)
