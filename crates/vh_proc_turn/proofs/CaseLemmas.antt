-- The widths of a `case`, its subject and its values.
use Rattle.std.proofs.Common.{◌≡◌, ◌≤◌, ◌<◌, ◌&&◌, ◌==◌, ℕ, Bool, true, List, [], ◌∷◌, length, max, nat_lt, nat_le, refl, arith}
use Rattle.std.proofs.lemmas.Bool.{eqb-true, leb-true, le-leb, ltb-true}
use Rattle.std.specs.Cmp.Derive.{both_true}
use Rattle.std.specs.List.{list_all}
use Rattle.vh_logic.specs.declared.vector.TheConstants.{MAX_WIDTH}
use Rattle.vh_design_nodes.specs.declared.expr.ExprNode.{ExprNode}
use Rattle.vh_design_nodes.specs.Fits.{is_width, same_sign}
use Rattle.vh_design_nodes.specs.Widths.{width_of, signed_of, widest, all_signed}
use Rattle.vh_design_nodes.proofs.FitsLemmas.{and_left, and_right}
use Rattle.vh_design_code.specs.declared.operation.Arm.{Arm}
use Rattle.vh_design_code.specs.declared.operation.CaseTest.{CaseTest}
use Rattle.vh_design_code.specs.Operations.{matched, fits_arm, fits_case}

-- The first of some widths isn't above the widest, and no other is.
first-narrow : (ns : List ExprNode) (w m : ℕ) (es : List ℕ) → widest ns w es ≤ m → w ≤ m
first-narrow ns w m [] most = most
first-narrow ns w m (e ∷ es) most = let rest = first-narrow ns (max w (width_of ns e)) m es most in omega (arith, rest)

abbrev pub is_narrow : List ExprNode → ℕ → Arm → Bool
is_narrow ns m a = nat_le (width_of ns a.value) m

matched-narrow : (ns : List ExprNode) (w m : ℕ) (arms : List Arm) → widest ns w (matched arms) ≤ m → list_all (is_narrow ns m) arms ≡ true
matched-narrow ns w m [] most = refl
matched-narrow ns w m (a ∷ arms) most =
    let rest = first-narrow ns (max w (width_of ns a.value)) m (matched arms) most in
    both_true (le-leb (width_of ns a.value) m (omega (arith, rest))) (matched-narrow ns (max w (width_of ns a.value)) m arms most)

-- What a `case` that may stand there keeps.
pub record IsCase (ns : List ExprNode) (positions : ℕ) (c : CaseTest) : Type 0 where
  pub subject : c.subject < length ns
  pub wide : width_of ns c.subject ≤ c.width
  pub most : c.width ≤ MAX_WIDTH
  pub arms : list_all (fits_arm (length ns) positions) c.arms ≡ true
  pub narrow : list_all (is_narrow ns c.width) c.arms ≡ true

pub is-case : (ns : List ExprNode) (positions : ℕ) (c : CaseTest) → fits_case ns positions c ≡ true → IsCase ns positions c
is-case ns positions c fits =
    let subject_test : Bool = nat_lt c.subject (length ns) in
    let arms_test : Bool = list_all (fits_arm (length ns) positions) c.arms in
    let width_test : Bool = c.width == widest ns (width_of ns c.subject) (matched c.arms) in
    let sign_test : Bool = same_sign c.signed (signed_of ns c.subject && all_signed ns (matched c.arms)) in
    let ranged = and_left (subject_test && arms_test && width_test && is_width c.width) sign_test fits in
    let front = and_left (subject_test && arms_test && width_test) (is_width c.width) ranged in
    let both = and_left (subject_test && arms_test) width_test front in
    let is = eqb-true c.width (widest ns (width_of ns c.subject) (matched c.arms)) (and_right (subject_test && arms_test) width_test front) in
    let widest_is : widest ns (width_of ns c.subject) (matched c.arms) ≤ c.width = omega (arith, is) in
    record {
      subject = ltb-true c.subject (length ns) (and_left subject_test arms_test both);
      wide = first-narrow ns (width_of ns c.subject) c.width (matched c.arms) widest_is;
      most = leb-true c.width MAX_WIDTH (and_right (nat_le 1 c.width) (nat_le c.width MAX_WIDTH) (and_right (subject_test && arms_test && width_test) (is_width c.width) ranged));
      arms = and_right subject_test arms_test both;
      narrow = matched-narrow ns (width_of ns c.subject) c.width c.arms widest_is;
    }
