-- Lemmas on `specs/Reads.antt`: the parts of an expression come before it, and it reads what they read.
use Rattle.std.proofs.Common.{◌≡◌, ◌<◌, ◌≤◌, ◌+◌, ℕ, zero, suc, Bool, true, false, ◌||◌, ◌==◌, nat_lt, List, [], ◌∷◌, length, take, Option, Some, None, slice_get, refl, sym, ap, arith, ◌∙◌}
use Rattle.std.proofs.lemmas.Bool.{eqb-true, eqb-false, ltb-true}
use Rattle.std.proofs.lemmas.List.{take_more, take_all}
use Rattle.std.proofs.lemmas.List.Folds.{list_any-append}
use Rattle.std.proofs.lemmas.Option.{get_or_from_slice_get, slice_get_within, slice_get-get_or}
use Rattle.std.specs.List.{list_all, list_any}
use Rattle.vh_design_nodes.specs.declared.expr.ExprKind.{ExprKind}
use Rattle.vh_design_nodes.specs.declared.expr.ExprNode.{ExprNode}
use Rattle.vh_design_nodes.specs.declared.object.ObjectInfo.{ObjectInfo}
use Rattle.vh_design_nodes.specs.Fits.{fits_kind}
use Rattle.vh_design_nodes.proofs.FitsLemmas.{and_left, and_right}
use Rattle.vh_design.specs.Laws.{parts_of}
use Rattle.vh_design.proofs.LawsLemmas.{parts_before}
use Rattle.vh_sense.specs.Reads.{object_in, is_the, node_reads, reads_below}

-- Each element passes a test that all pass.
pub all_at : {X : Type 0} (test : X → Bool) (xs : List X) (i : ℕ) (x : X) → list_all test xs ≡ true → slice_get xs i ≡ Some x → test x ≡ true
all_at test [] i x all at = cc
all_at {X} test (y ∷ ys) zero x all at =
    let same : y ≡ x = cc in ap test (sym same) ∙ and_left (test y) (list_all test ys) all
all_at test (y ∷ ys) (suc i) x all at = all_at test ys i x (and_right (test y) (list_all test ys) all) at

pub part_before : (os : List ObjectInfo) (precision e : ℕ) (k : ExprKind) (i part : ℕ) → fits_kind os precision e k ≡ true
    → slice_get (parts_of k) i ≡ Some part → part < e
part_before os precision e k i part fits at =
    ltb-true part e (all_at (λ p. nat_lt p e) (parts_of k) i part (parts_before os precision e k fits) at)

-- What the parts so far read, and one part more.
pub one_part_more : (test : ℕ → Bool) (own : Bool) (parts : List ℕ) (i part : ℕ) → slice_get parts i ≡ Some part
    → (own || list_any test (take (i + 1) parts)) ≡ ((own || list_any test (take i parts)) || test part)
one_part_more test own parts i part at =
    rw (
      take_more parts i part (slice_get_within parts i part at),
      get_or_from_slice_get parts i part part at,
      list_any-append test (take i parts) (part ∷ []),
    ) (grouped own (list_any test (take i parts)) (test part))
  where
    grouped : (a b c : Bool) → (a || (b || (c || false))) ≡ ((a || b) || c)
    grouped true b c = refl
    grouped false true c = refl
    grouped false false true = refl
    grouped false false false = refl

-- An expression reads what its row says of the expressions before it.
step_by : (b : Bool) (k : ℕ) (ns : List ExprNode) (o e : ℕ) → (e == k) ≡ b → e < suc k
    → (e < k → reads_below k ns o e ≡ node_reads (reads_below e ns o) o (slice_get ns e))
    → elim b [
      | true ↦ node_reads (reads_below k ns o) o (slice_get ns e)
      | false ↦ reads_below k ns o e
    ]
    ≡ node_reads (reads_below e ns o) o (slice_get ns e)
step_by true k ns o e is below rest =
    ap (λ (n : ℕ). node_reads (reads_below n ns o) o (slice_get ns e)) (sym (eqb-true e k is))
step_by false k ns o e is below rest = let apart = eqb-false e k is in rest (omega (arith, apart))

pub reads_step : (k : ℕ) (ns : List ExprNode) (o e : ℕ) → e < k
    → reads_below k ns o e ≡ node_reads (reads_below e ns o) o (slice_get ns e)
unfolding reads_below
reads_step zero ns o e below = absurd (omega arith)
reads_step (suc k) ns o e below = step_by (e == k) k ns o e refl below (reads_step k ns o e)

-- What an expression itself reads, before any part.
pub own_object : (o : ℕ) (is : Option ℕ) (object : ℕ) → is ≡ Some object → (object == o) ≡ (is_the o is || false)
own_object o is object some = rw some (or_nothing (object == o))
  where
    or_nothing : (a : Bool) → a ≡ (a || false)
    or_nothing true = refl
    or_nothing false = refl

pub no_object : (o : ℕ) (is : Option ℕ) → is ≡ None → false ≡ (is_the o is || false)
no_object o is none = rw none refl

-- Each part is there.
pub part_there : (parts : List ℕ) (i count : ℕ) → count ≡ length parts → i < count → slice_get parts i ≡ None → ⊥
part_there parts i count is within none =
    let inside : i < length parts = omega (arith, is, within) in
    let some = slice_get-get_or parts i 0 inside in cc

-- With all its parts.
pub all_parts : (k : ℕ) (ns : List ExprNode) (o e : ℕ) (n : ExprNode) (i : ℕ) → e < k → slice_get ns e ≡ Some n
    → length (parts_of n.kind) ≤ i
    → (is_the o (object_in n.kind) || list_any (reads_below e ns o) (take i (parts_of n.kind))) ≡ reads_below k ns o e
all_parts k ns o e n i below at all =
    rw (take_all i (parts_of n.kind) all)
    (ap (λ (found : Option ExprNode). node_reads (reads_below e ns o) o found) (sym at) ∙ sym (reads_step k ns o e below))
