-- One walk finds whom a disable stops.
use Rattle.std.proofs.Common.{◌≡◌, ◌∙◌, ℕ, zero, suc, ◌+◌, ◌<◌, ◌≤◌, ◌⊎◌, ⊎_elim, inl, inr, List, [], ◌∷◌, ◌++◌, Bool, true, false, ◌||◌, ◌==◌, cond, Option, Some, None, refl, ap, sym, subst, arith}
use Rattle.std.proofs.lemmas.Bool.{eqb-true, eqb-false, cases_lt}
use Rattle.vh_callbacks.specs.Callbacks.{Rise, live_at}
use Rattle.vh_callbacks.proofs.CallbacksLemmas.{at_apart, at_same, live_below}
use Rattle.vh_design.specs.Shape.{Shape}
use Rattle.vh_proc_thread.specs.Control.{is_inside}
use Rattle.vh_proc_turn.specs.declared.process.Process.{Process}
use Rattle.vh_proc.specs.Disabled.{Stopped, is_among, is_begun_by, begun_by, with_stopped, stopped_of}
use Rattle.vh_proc.specs.Processes.{Processes, process_at}
use Rattle.vh_proc_laws.specs.Disable.{AreNumbered, IsStopped, Ends, Leaves}
use Rattle.vh_proc_laws.specs.Laws.{FindsAll}

-- Among some and one more.
pub among-push : (xs : List ℕ) (x p : ℕ) → is_among (xs ++ x ∷ []) p ≡ (is_among xs p || (x == p))
among-push [] x p = by (x == p)
  where
    by : (b : Bool) → (b || false) ≡ b
    by true = refl
    by false = refl
among-push (y ∷ xs) x p = by (y == p) (among-push xs x p)
  where
    by : (b : Bool) → is_among (xs ++ x ∷ []) p ≡ (is_among xs p || (x == p)) → (b || is_among (xs ++ x ∷ []) p) ≡ ((b || is_among xs p) || (x == p))
    by true rest = refl
    by false rest = rest

pub or-cases : (a b : Bool) → (a || b) ≡ true → (a ≡ true) ⊎ (b ≡ true)
or-cases true b h = inl refl
or-cases false b h = inr h

pub or-left : (a b : Bool) → a ≡ true → (a || b) ≡ true
or-left true b h = refl
or-left false b h = cc

pub or-right : (a b : Bool) → b ≡ true → (a || b) ≡ true
or-right true b h = refl
or-right false b h = h

module _ (d : Shape) (target : ℕ) (ps : Processes) (numbered : AreNumbered ps) where
  abbrev Out : ℕ → Type 0
  Out p = Ends d target ps p

  abbrev Goes : ℕ → Type 0
  Goes p = Leaves d target ps p

  -- Who is stopped is there.
  is-there : (n p : ℕ) → IsStopped d target ps n p → (t : Process) × (process_at p ps ≡ Some t)
  is-there zero p h = (h.0, h.1)
  is-there (suc n) p h = (h.0, h.2)

  -- What was found among the processes below a number.
  record Found (b : ℕ) (found : Stopped) : Type 0 where
    ends : (p : ℕ) → is_among found.ends p ≡ true → Out p
    leaves : (p : ℕ) → is_among found.leaves p ≡ true → Goes p
    all_ends : (p : ℕ) → p < b → Out p → is_among found.ends p ≡ true
    all_leaves : (p : ℕ) → p < b → Goes p → is_among found.leaves p ≡ true

  -- What is stopped below it was found.
  either : (b n q : ℕ) (found : Stopped) → Found b found → q < b → IsStopped d target ps n q → (is_among found.ends q || is_among found.leaves q) ≡ true
  either b (suc n) q found f below h = or-left (is_among found.ends q) (is_among found.leaves q) (f.all_ends q below (n, h))
  either b zero q found f below h = by (is_among found.ends q) refl
    where
      by : (c : Bool) → is_among found.ends q ≡ c → (is_among found.ends q || is_among found.leaves q) ≡ true
      by true is = or-left (is_among found.ends q) (is_among found.leaves q) is
      by false is =
          or-right (is_among found.ends q) (is_among found.leaves q)
          (f.all_leaves q below (h, λ out. let there = f.all_ends q below out in cc))

  -- A process that is stopped because of what has begun it.
  begun-ends : (b k q : ℕ) (t : Process) (found : Stopped) → Found b found → process_at k ps ≡ Some t → t.parent ≡ Some q
      → (is_among found.ends q || is_among found.leaves q) ≡ true → Out k
  begun-ends b k q t found f at parent h =
      ⊎_elim
      (λ (out : is_among found.ends q ≡ true). let o = f.ends q out in (suc o.0, (t, q, at, parent, o.1)))
      (λ (goes : is_among found.leaves q ≡ true). let g = f.leaves q goes in (zero, (t, q, at, parent, g.0)))
      (or-cases (is_among found.ends q) (is_among found.leaves q) h)

  -- No process stands below the first that is left.
  none-between : (b k q : ℕ) (t : Process) (es : List (ℕ × Process)) (next : ℕ) → Rise k es next
      → ((p : ℕ) → b ≤ p → process_at p ps ≡ live_at p es) → process_at q ps ≡ Some t → q < k → q < b
  none-between b k q t es next rise same at below =
      ⊎_elim
      (λ (yes : q < b). yes)
      (λ (no : b ≤ q). let none = sym (same q no ∙ live_below q k es next below rise) ∙ at in absurd (cc))
      (cases_lt q b)

  one-more : (b k : ℕ) (t : Process) (es : List (ℕ × Process)) (found : Stopped) → Found b found → b ≤ k → Rise (k + 1) es ps.next
      → ((p : ℕ) → b ≤ p → process_at p ps ≡ live_at p ((k, t) ∷ es)) → Found (k + 1) (with_stopped d target found k t)
  one-more b k t es found f above rise same = by (begun_by found t) refl (is_inside d target t.thread) refl
    where
      at : process_at k ps ≡ Some t
      at = same k above ∙ ap (λ (c : Bool). cond c (Some t) (live_at k es)) (at_same k k refl)

      -- of those up to it, each but itself stands below
      earlier : (n q : ℕ) → q < k + 1 → (q ≡ k → ⊥) → IsStopped d target ps n q → q < b
      earlier n q below apart h =
          let there = is-there n q h in
          none-between b k q there.0 ((k, t) ∷ es) ps.next (omega arith, rise) same there.1 (omega (arith, apart))

      out-earlier : (q : ℕ) → q < k + 1 → (q ≡ k → ⊥) → Out q → q < b
      out-earlier q below apart o = earlier (suc o.0) q below apart o.1

      goes-earlier : (q : ℕ) → q < k + 1 → (q ≡ k → ⊥) → Goes q → q < b
      goes-earlier q below apart g = earlier zero q below apart g.0

      -- it ends exactly where what has begun it was found
      begun : Out k → begun_by found t ≡ true
      begun o =
          let u : Process = o.1.0 in
          let same-one : Some t ≡ Some u = sym at ∙ o.1.2 in
          let parent : t.parent ≡ Some o.1.1 = ap (λ (x : Process). x.parent) (the-same t u same-one) ∙ o.1.3 in
          let before : o.1.1 < k = numbered.begun k o.1.1 t at parent in
          let there = is-there o.0 o.1.1 o.1.4 in
          let below : o.1.1 < b = none-between b k o.1.1 there.0 ((k, t) ∷ es) ps.next (omega arith, rise) same there.1 before in
          ap (λ (x : Option ℕ). is_begun_by found x) parent ∙ either b o.0 o.1.1 found f below o.1.4
        where
          the-same : (x y : Process) → Some x ≡ Some y → x ≡ y
          the-same x y h = cc

      out : (x : Option ℕ) → t.parent ≡ x → is_begun_by found x ≡ true → Out k
      out None is h = absurd (cc)
      out (Some q) is h = begun-ends b k q t found f at is h

      by : (c : Bool) → begun_by found t ≡ c → (e : Bool) → is_inside d target t.thread ≡ e → Found (k + 1) (with_stopped d target found k t)
      by true is e inside =
          subst (Found (k + 1)) (sym (rw is refl)) (record {
            ends = λ p h. ⊎_elim (λ (old : is_among found.ends p ≡ true). f.ends p old)
                (λ (new : (k == p) ≡ true). subst Out (eqb-true k p new) (out t.parent refl is))
                (or-cases (is_among found.ends p) (k == p) (sym (among-push found.ends k p) ∙ h));
            leaves = f.leaves;
            all_ends = λ p below o. among-push found.ends k p ∙ pick p below o (k == p) refl;
            all_leaves = λ p below g. f.all_leaves p (goes-earlier p below (λ same-one. g.1 (subst Out (sym same-one) (out t.parent refl is))) g) g;
          })
        where
          pick : (p : ℕ) → p < k + 1 → Out p → (c : Bool) → (k == p) ≡ c → (is_among found.ends p || (k == p)) ≡ true
          pick p below o true eq = or-right (is_among found.ends p) (k == p) eq
          pick p below o false eq =
              or-left (is_among found.ends p) (k == p)
              (f.all_ends p (out-earlier p below (λ same-one. eqb-false k p eq (sym same-one)) o) o)
      by false is true inside =
          subst (Found (k + 1)) (sym (rw (is, inside) refl)) (record {
            ends = f.ends;
            leaves = λ p h. ⊎_elim (λ (old : is_among found.leaves p ≡ true). f.leaves p old)
                (λ (new : (k == p) ≡ true). subst Goes (eqb-true k p new) ((t, at, inside), λ o. let no = begun o in cc))
                (or-cases (is_among found.leaves p) (k == p) (sym (among-push found.leaves k p) ∙ h));
            all_ends = λ p below o. f.all_ends p (out-earlier p below (λ same-one. let no = begun (subst Out same-one o) in cc) o) o;
            all_leaves = λ p below g. among-push found.leaves k p ∙ pick p below g (k == p) refl;
          })
        where
          pick : (p : ℕ) → p < k + 1 → Goes p → (c : Bool) → (k == p) ≡ c → (is_among found.leaves p || (k == p)) ≡ true
          pick p below g true eq = or-right (is_among found.leaves p) (k == p) eq
          pick p below g false eq =
              or-left (is_among found.leaves p) (k == p)
              (f.all_leaves p (goes-earlier p below (λ same-one. eqb-false k p eq (sym same-one)) g) g)
      by false is false inside =
          subst (Found (k + 1)) (sym (rw (is, inside) refl)) (record {
            ends = f.ends;
            leaves = f.leaves;
            all_ends = λ p below o. f.all_ends p (out-earlier p below (λ same-one. let no = begun (subst Out same-one o) in cc) o) o;
            all_leaves = λ p below g. f.all_leaves p (goes-earlier p below (λ same-one. not-inside p same-one g) g) g;
          })
        where
          not-inside : (p : ℕ) → p ≡ k → Goes p → ⊥
          not-inside p same-one g =
              let here : process_at k ps ≡ Some g.0.0 = ap (λ (q : ℕ). process_at q ps) (sym same-one) ∙ g.0.1 in
              let one : Some t ≡ Some g.0.0 = sym at ∙ here in
              let no : is_inside d target t.thread ≡ true = ap (λ (x : Process). is_inside d target x.thread) (the-same t g.0.0 one) ∙ g.0.2 in
              cc
            where
              the-same : (x y : Process) → Some x ≡ Some y → x ≡ y
              the-same x y h = cc

  -- What a walk from there on finds.
  record Finds (found : Stopped) (p : ℕ) : Type 0 where
    ends : is_among found.ends p ≡ true → Out p
    all_ends : Out p → is_among found.ends p ≡ true
    leaves : is_among found.leaves p ≡ true → Goes p
    all_leaves : Goes p → is_among found.leaves p ≡ true

  walk : (b : ℕ) (es : List (ℕ × Process)) (found : Stopped) → Found b found → Rise b es ps.next
      → ((p : ℕ) → b ≤ p → process_at p ps ≡ live_at p es) → (p : ℕ) → Finds (stopped_of d target found es) p
  unfolding stopped_of
  walk b [] found f rise same p = record {
    ends = f.ends p;
    all_ends = λ o. f.all_ends p (inside (suc o.0) o.1) o;
    leaves = f.leaves p;
    all_leaves = λ g. f.all_leaves p (inside zero g.0) g;
  }
    where
      inside : (n : ℕ) → IsStopped d target ps n p → p < b
      inside n h =
          let there = is-there n p h in
          ⊎_elim (λ (yes : p < b). yes) (λ (no : b ≤ p). let none = sym (same p no) ∙ there.1 in absurd (cc)) (cases_lt p b)
  walk b (e ∷ es) found f rise same p =
      walk (e.0 + 1) es (with_stopped d target found e.0 e.1) (one-more b e.0 e.1 es found f rise.0 rise.1 same) rise.1
      (λ q above. same q (omega (arith, rise.0)) ∙ ap (λ (c : Bool). cond c (Some e.1) (live_at q es)) (at_apart q e.0 (λ one. omega arith))) p

pub finds-all : FindsAll
finds-all d target ps p numbered =
    let nothing : Found d target ps numbered 0 (record { ends = []; leaves = [] }) = record {
      ends = λ q h. absurd (cc);
      leaves = λ q h. absurd (cc);
      all_ends = λ q below o. absurd (omega arith);
      all_leaves = λ q below g. absurd (omega arith);
    } in
    let all = walk d target ps numbered 0 ps.all (record { ends = []; leaves = [] }) nothing numbered.rise (λ q above. refl) p in
    record { ends = all.ends; all_ends = all.all_ends; leaves = all.leaves; all_leaves = all.all_leaves }
