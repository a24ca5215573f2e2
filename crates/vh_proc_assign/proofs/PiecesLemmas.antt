-- How many digits targets have side by side.
use Rattle.std.proofs.Common.{◌≡◌, ◌∙◌, ◌≤◌, ◌<◌, ◌+◌, ◌++◌, ℕ, suc, Bool, true, List, [], ◌∷◌, length, drop, get_or, min, nat_le, append_assoc, sym, ap, subst, arith}
use Rattle.std.proofs.Math.Seq.{drop-cons}
use Rattle.std.proofs.lemmas.Bool.{leb-true}
use Rattle.std.specs.List.{fold, list_all}
use Rattle.vh_logic.specs.declared.vector.TheConstants.{MAX_WIDTH}
use Rattle.vh_design_nodes.specs.declared.expr.Selected.{Selected}
use Rattle.vh_design_nodes.specs.declared.object.ObjectInfo.{ObjectInfo}
use Rattle.vh_design_nodes.specs.Fits.{is_width}
use Rattle.vh_design_nodes.specs.Widths.{selected_width}
use Rattle.vh_design_nodes.proofs.FitsLemmas.{and_left, and_right}
use Rattle.vh_design_code.specs.Targets.{fits_target, fits_targets}
use Rattle.vh_logic.specs.Parts.{part_of}
use Rattle.vh_logic.specs.Vector.{Vector}
use Rattle.vh_design.specs.Shape.{Shape}
use Rattle.vh_store.specs.Contents.{Contents}
use Rattle.vh_proc_assign.specs.declared.piece.Piece.{Piece}
use Rattle.vh_proc_assign.specs.Pieces.{digits_of, listed, piece_of, pieces_of}

abbrev summed : List ObjectInfo → ℕ → List Selected → ℕ
summed os a ts = fold (λ sum t. min (sum + selected_width os t) (MAX_WIDTH + 1)) a ts

-- A sum that isn't cut is their sum.
pub sum-of-digits : (os : List ObjectInfo) (a : ℕ) (ts : List Selected) → summed os a ts ≤ MAX_WIDTH → summed os a ts ≡ a + digits_of os ts
unfolding digits_of
sum-of-digits os a [] most = omega arith
sum-of-digits os a (t ∷ ts) most =
    let rest = sum-of-digits os (min (a + selected_width os t) (MAX_WIDTH + 1)) ts most in omega arith

-- The targets of a statement have a width that a vector may have.
pub record AreTargets (os : List ObjectInfo) (exprs : ℕ) (ts : List Selected) : Type 0 where
  pub each : list_all (fits_target os exprs) ts ≡ true
  pub least : 1 ≤ digits_of os ts
  pub most : digits_of os ts ≤ MAX_WIDTH

pub are-targets : (os : List ObjectInfo) (exprs : ℕ) (ts : List Selected) → fits_targets os exprs ts ≡ true → AreTargets os exprs ts
are-targets os exprs ts fits =
    let wide = and_right (list_all (fits_target os exprs) ts) (is_width (summed os 0 ts)) fits in
    let least = and_left (nat_le 1 (summed os 0 ts)) (nat_le (summed os 0 ts) MAX_WIDTH) wide in
    let most = and_right (nat_le 1 (summed os 0 ts)) (nat_le (summed os 0 ts) MAX_WIDTH) wide in
    let sum = sum-of-digits os 0 ts (leb-true (summed os 0 ts) MAX_WIDTH most) in
    record {
      each = and_left (list_all (fits_target os exprs) ts) (is_width (summed os 0 ts)) fits;
      least = omega (arith, sum, leb-true 1 (summed os 0 ts) least);
      most = omega (arith, sum, leb-true (summed os 0 ts) MAX_WIDTH most);
    }

-- The element at a position, and those behind it.
pub drop-at : {X : Type 0} (xs : List X) (k : ℕ) (x : X) → k < length xs → x ≡ get_or xs k x → drop k xs ≡ x ∷ drop (k + 1) xs
drop-at {X} xs k x inside is =
    drop-cons xs k x inside ∙ ap (λ (y : X). y ∷ drop (suc k) xs) (sym is) ∙ ap (λ (n : ℕ). x ∷ drop n xs) next
  where
    next : suc k ≡ k + 1
    next = omega arith

pub first-passes : {X : Type 0} (test : X → Bool) (x : X) (xs ys : List X) → ys ≡ x ∷ xs → list_all test ys ≡ true → test x ≡ true
first-passes {X} test x xs ys is all = and_left (test x) (list_all test xs) (subst (λ (zs : List X). list_all test zs ≡ true) is all)

pub rest-passes : {X : Type 0} (test : X → Bool) (x : X) (xs ys : List X) → ys ≡ x ∷ xs → list_all test ys ≡ true → list_all test xs ≡ true
rest-passes {X} test x xs ys is all = and_right (test x) (list_all test xs) (subst (λ (zs : List X). list_all test zs ≡ true) is all)

-- The next target takes its digits, and those behind it have the rest.
pub digits-left : (os : List ObjectInfo) (t : Selected) (ts us : List Selected) (left rest : ℕ) → us ≡ t ∷ ts → left ≡ digits_of os us
    → selected_width os t + rest ≡ left → rest ≡ digits_of os ts
unfolding digits_of
digits-left os t ts us left rest is all sum =
    let more : left ≡ selected_width os t + digits_of os ts = all ∙ ap (digits_of os) is in omega (arith, more, sum)

pub taken-so-far : (d : Shape) (s : Contents) (v : Vector) (t : Selected) (ts us : List Selected) (rest : ℕ) (out new all : List Piece)
    → us ≡ t ∷ ts → rest ≡ digits_of d.objects ts
    → new ≡ out ++ listed (piece_of d s t (part_of v rest (selected_width d.objects t)))
    → out ++ pieces_of d s us v ≡ all → new ++ pieces_of d s ts v ≡ all
unfolding pieces_of
taken-so-far d s v t ts us rest out new all is left taken before =
    ap (λ (ps : List Piece). ps ++ pieces_of d s ts v) taken
    ∙ append_assoc out (listed (piece_of d s t (part_of v rest (selected_width d.objects t)))) (pieces_of d s ts v)
    ∙ ap (λ (n : ℕ). out ++ (listed (piece_of d s t (part_of v n (selected_width d.objects t))) ++ pieces_of d s ts v)) left
    ∙ ap (λ (vs : List Selected). out ++ pieces_of d s vs v) (sym is) ∙ before
