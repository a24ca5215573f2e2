-- Those that leave are found once each.
use Rattle.std.proofs.Common.{◌≡◌, ◌∙◌, ℕ, ◌+◌, ◌<◌, ◌≤◌, ⊎_elim, List, [], ◌∷◌, ◌++◌, Bool, true, false, ◌||◌, ◌==◌, refl, sym, arith}
use Rattle.std.proofs.lemmas.Bool.{eqb-true, eq-eqb}
use Rattle.vh_callbacks.specs.Callbacks.{Rise}
use Rattle.vh_design.specs.Shape.{Shape}
use Rattle.vh_proc_thread.specs.Control.{is_inside}
use Rattle.vh_proc_turn.specs.declared.process.Process.{Process}
use Rattle.vh_proc.specs.Disabled.{Stopped, is_among, begun_by, with_stopped, stopped, stopped_of}
use Rattle.vh_proc.specs.Processes.{Processes}
use Rattle.vh_proc_laws.specs.Disable.{AreNumbered}
use Rattle.vh_proc_laws.proofs.FoundLemmas.{among-push, or-cases}

-- Each of some numbers stands once.
abbrev pub Apart : List ℕ → Type 0
Apart [] = Unit {0}
Apart (x ∷ xs) = (is_among xs x ≡ false) × Apart xs

-- All of them lie below one.
abbrev Below : ℕ → List ℕ → Type 0
Below b xs = (p : ℕ) → is_among xs p ≡ true → p < b

none-of : (b p : ℕ) (xs : List ℕ) → Below b xs → b ≤ p → (c : Bool) → is_among xs p ≡ c → is_among xs p ≡ false
none-of b p xs low above true is = let less = low p is in absurd (omega (arith, less, above))
none-of b p xs low above false is = is

neither : (a b : Bool) → (a || b) ≡ false → (a ≡ false) × (b ≡ false)
neither true b h = absurd (cc)
neither false b h = (refl, h)

both : (a b : Bool) → a ≡ false → b ≡ false → (a || b) ≡ false
both true b h k = absurd (cc)
both false b h k = k

apart-push : (xs : List ℕ) (p : ℕ) → Apart xs → is_among xs p ≡ false → Apart (xs ++ p ∷ [])
apart-push [] p a none = (refl, tt)
apart-push (x ∷ xs) p a none =
    let n = neither (x == p) (is_among xs p) none in
    (among-push xs p x ∙ both (is_among xs x) (p == x) a.0 (turned (p == x) refl n.0), apart-push xs p a.1 n.1)
  where
    turned : (b : Bool) → (p == x) ≡ b → (x == p) ≡ false → (p == x) ≡ false
    turned true is apart = let one : p ≡ x = eqb-true p x is in absurd (let yes_ : (x == p) ≡ true = rw one (same x) in cc)
      where
        same : (n : ℕ) → (n == n) ≡ true
        same n = eq-eqb n n refl
    turned false is apart = is

below-push : (b p : ℕ) (xs : List ℕ) → Below b xs → b ≤ p → Below (p + 1) (xs ++ p ∷ [])
below-push b p xs low above q is =
    ⊎_elim (λ (old : is_among xs q ≡ true). let less = low q old in omega (arith, less, above))
    (λ (new : (p == q) ≡ true). let one = eqb-true p q new in omega (arith, one))
    (or-cases (is_among xs q) (p == q) (sym (among-push xs p q) ∙ is))

below-more : (b p : ℕ) (xs : List ℕ) → Below b xs → b ≤ p → Below (p + 1) xs
below-more b p xs low above q is = let less = low q is in omega (arith, less, above)

abbrev Once : ℕ → Stopped → Type 0
Once b found = Below b found.leaves × Apart found.leaves

once-more : (d : Shape) (target b p : ℕ) (t : Process) (found : Stopped) → b ≤ p → Once b found → Once (p + 1) (with_stopped d target found p t)
once-more d target b p t found above h = by (begun_by found t) refl (is_inside d target t.thread) refl
  where
    by : (x : Bool) → begun_by found t ≡ x → (y : Bool) → is_inside d target t.thread ≡ y → Once (p + 1) (with_stopped d target found p t)
    by true is y in_ = rw is (below-more b p found.leaves h.0 above, h.1)
    by false is true in_ =
        rw (is, in_)
        (below-push b p found.leaves h.0 above, apart-push found.leaves p h.1 (none-of b p found.leaves h.0 above (is_among found.leaves p) refl))
    by false is false in_ = rw (is, in_) (below-more b p found.leaves h.0 above, h.1)

once-all : (d : Shape) (target b next : ℕ) (es : List (ℕ × Process)) (found : Stopped) → Rise b es next → Once b found
    → Apart (stopped_of d target found es).leaves
unfolding stopped_of
once-all d target b next [] found rise h = h.1
once-all d target b next (e ∷ es) found rise h =
    once-all d target (e.0 + 1) next es (with_stopped d target found e.0 e.1) rise.1 (once-more d target b e.0 e.1 found rise.0 h)

pub leaves-apart : (d : Shape) (target : ℕ) (ps : Processes) → AreNumbered ps → Apart (stopped d target ps).leaves
leaves-apart d target ps numbered = once-all d target 0 ps.next ps.all (record { ends = []; leaves = [] }) numbered.rise (λ p is. absurd (cc), tt)
