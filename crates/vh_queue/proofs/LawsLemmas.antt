-- Lemmas on `specs/Laws.antt`: the laws of the queue.
use Rattle.std.proofs.Common.{◌≡◌, ◌∙◌, ℕ, zero, suc, ◌<◌, ◌≤◌, List, [], ◌∷◌, filter, Bool, true, false, not, ◌&&◌, ◌||◌, ◌==◌, cond, Some, None, find, slice_get, refl, sym, ap, ⊎_elim}
use Rattle.std.proofs.lemmas.Bool.{and_parts, cases_lt, lt-ltb, eqb-true, eqb-false, ne_eqb}
use Rattle.std.specs.List.{list_any}
use Rattle.vh_queue.specs.declared.entry.Entry.{Entry}
use Rattle.vh_queue.specs.declared.region.Region.TheVariants as region
use Rattle.vh_queue.specs.Entries.{is_due, is_update, is_active}
use Rattle.vh_queue.specs.Events.{is_behind, is_ready, is_eligible}
use Rattle.vh_queue.specs.Laws.{UpdatesInOrder, OneIsGone, OthersStand}

-- What is among those that pass a test passes it.
kept-passes : (p : Entry → Bool) (es : List Entry) (k : ℕ) (e : Entry) → slice_get (filter p es) k ≡ Some e → p e ≡ true
kept-passes p [] k e at = absurd (cc)
kept-passes p (x ∷ es) k e at = by_test (p x) refl k at (λ j. kept-passes p es j e)
  where
    by_test : (b : Bool) → p x ≡ b → (j : ℕ) → slice_get (cond b (x ∷ filter p es) (filter p es)) j ≡ Some e
        → ((i : ℕ) → slice_get (filter p es) i ≡ Some e → p e ≡ true) → p e ≡ true
    by_test true is zero at rest = let same : x ≡ e = cc in ap p (sym same) ∙ is
    by_test true is (suc i) at rest = rest i at
    by_test false is j at rest = rest j at

any-at : (p : Entry → Bool) (es : List Entry) (j : ℕ) (f : Entry) → slice_get es j ≡ Some f → p f ≡ true → list_any p es ≡ true
any-at p [] j f at passes = absurd (cc)
any-at p (x ∷ es) zero f at passes = let same : x ≡ f = cc in rw (same, passes) refl
any-at p (x ∷ es) (suc j) f at passes = rw (any-at p es j f at passes) (last (p x))
  where
    last : (b : Bool) → (b || true) ≡ true
    last true = refl
    last false = refl

pub updates-in-order : UpdatesInOrder
updates-in-order q k j e f none picked update at active also =
    ⊎_elim (λ (before : f.serial < e.serial). absurd (behind (any-at (is_behind e) q.entries j f at (rw (active, also, lt-ltb f.serial e.serial before) refl))))
    (λ (not_before : e.serial ≤ f.serial). not_before) (cases_lt f.serial e.serial)
  where
    ready : is_ready q.entries e ≡ true
    ready = sym (ap (λ (b : Bool). cond b (is_due region.Start q.time e) (is_ready q.entries e)) none) ∙ kept-passes (is_eligible q) q.entries k e picked

    behind : list_any (is_behind e) q.entries ≡ true → ⊥
    behind found =
        let parts = and_parts (is_active e) (not (is_update e.work && list_any (is_behind e) q.entries)) ready in
        absurd (let no_more : not (true && true) ≡ true = ap (λ (b : Bool). not (b && true)) (sym update) ∙ ap (λ (b : Bool). not (is_update e.work && b)) (sym found) ∙ parts.1 in cc)

pub one-is-gone : OneIsGone
one-is-gone q s = gone q.entries
  where
    gone : (es : List Entry) → find (λ e. e.serial == s) (filter (λ e. not (e.serial == s)) es) ≡ None
    gone [] = refl
    gone (e ∷ es) = by_test (e.serial == s) refl (gone es)
      where
        by_test : (b : Bool) → (e.serial == s) ≡ b → find (λ e. e.serial == s) (filter (λ e. not (e.serial == s)) es) ≡ None
            → find (λ e. e.serial == s) (cond (not b) (e ∷ filter (λ e. not (e.serial == s)) es) (filter (λ e. not (e.serial == s)) es)) ≡ None
        by_test true is rest = rest
        by_test false is rest = rw is rest

pub others-stand : OthersStand
others-stand q r s apart = stand q.entries
  where
    stand : (es : List Entry) → find (λ e. e.serial == r) (filter (λ e. not (e.serial == s)) es) ≡ find (λ e. e.serial == r) es
    stand [] = refl
    stand (e ∷ es) = by_test (e.serial == s) refl (stand es)
      where
        by_test : (b : Bool) → (e.serial == s) ≡ b
            → find (λ e. e.serial == r) (filter (λ e. not (e.serial == s)) es) ≡ find (λ e. e.serial == r) es
            → find (λ e. e.serial == r) (cond (not b) (e ∷ filter (λ e. not (e.serial == s)) es) (filter (λ e. not (e.serial == s)) es))
            ≡ cond (e.serial == r) (Some e) (find (λ e. e.serial == r) es)
        by_test true is rest =
            let one : e.serial ≡ s = eqb-true e.serial s is in
            rest ∙ sym (rw (ne_eqb e.serial r (λ same. eqb-false r s apart (sym same ∙ one))) refl)
        by_test false is rest = rw rest refl
