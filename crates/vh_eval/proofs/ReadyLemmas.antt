-- Lemmas on `specs/Ready.antt`, and on chains: the operand at a position, and what is left behind it.
use Rattle.std.proofs.Common.{◌≡◌, ◌∙◌, ◌<◌, ◌≤◌, ◌+◌, ℕ, zero, suc, List, [], ◌∷◌, length, get_or, drop, take, ◌-◌, min, Bool, true, false, ◌&&◌, nat_lt, Option, Some, slice_get, sym, ap, subst, arith}
use Rattle.std.specs.Option.{option_map}
use Rattle.std.proofs.lemmas.Bool.{ltb-true}
use Rattle.std.proofs.lemmas.List.{at_drop_more, length-drop, take_all}
use Rattle.std.proofs.lemmas.Option.{slice_get-map, slice_get-get_or, slice_get_within, get_or_from_slice_get}
use Rattle.vh_logic.specs.declared.digits.Digit.{Digit}
use Rattle.vh_logic.specs.declared.vector.TheConstants.{MAX_WIDTH}
use Rattle.vh_logic.specs.Vector.{Vector}
use Rattle.vh_logic.specs.Parts.{resized, concatenation}
use Rattle.vh_logic.specs.Reduce.{truth_of}
use Rattle.vh_design_nodes.specs.declared.expr.Arithmetic.{Arithmetic}
use Rattle.vh_design_nodes.specs.declared.expr.Comparison.{Comparison}
use Rattle.vh_design_nodes.specs.declared.expr.ExprNode.{ExprNode}
use Rattle.vh_design_nodes.specs.declared.expr.Link.{Link}
use Rattle.vh_design_nodes.specs.declared.expr.Logic.{Logic}
use Rattle.vh_design_nodes.specs.declared.expr.Shift.{Shift}
use Rattle.vh_design_nodes.specs.Fits.{all_before}
use Rattle.vh_design_nodes.specs.Widths.{width_of, operands, summed, widest}
use Rattle.vh_design_nodes.proofs.FitsLemmas.{and_left, and_right}
use Rattle.vh_design_nodes.proofs.WidthsLemmas.{widest-each}
use Rattle.vh_eval.specs.Operators.{of_digit, arithmetic_of, shift_of, comparison_of, logic_of}
use Rattle.vh_eval.specs.Ready.{AreBefore, AreReady}
use Rattle.vh_eval.specs.Value.{Valuation, alone, arithmetic_chain, shift_chain, comparison_chain, logic_chain, joined}

-- The part of the link at a position.
part_at : {Op : Type 0} (links : List (Link Op)) (k : ℕ) (d : Link Op) → k < length links
    → slice_get (operands links) k ≡ Some (get_or links k d).part
part_at {Op} links k d inside =
    slice_get-map (λ (l : Link Op). l.part) links k
    ∙ ap (λ (o : Option (Link Op)). option_map (λ (l : Link Op). l.part) o) (slice_get-get_or links k d inside)

-- It is before the expression, and not too wide.
pub before_at : {Op : Type 0} (e : ℕ) (links : List (Link Op)) (k : ℕ) (d : Link Op) → AreBefore e (operands links)
    → k < length links → (get_or links k d).part < e
before_at e links k d before inside = before k (get_or links k d).part (part_at links k d inside)

pub ready_before : {Op : Type 0} (ns : List ExprNode) (e w : ℕ) (links : List (Link Op)) (k : ℕ) (d : Link Op)
    → AreReady ns e w (operands links) → k < length links → (get_or links k d).part < e
ready_before ns e w links k d ready inside = (ready k (get_or links k d).part (part_at links k d inside)).0

pub ready_wide : {Op : Type 0} (ns : List ExprNode) (e w : ℕ) (links : List (Link Op)) (k : ℕ) (d : Link Op)
    → AreReady ns e w (operands links) → k < length links → width_of ns (get_or links k d).part ≤ w
ready_wide ns e w links k d ready inside = (ready k (get_or links k d).part (part_at links k d inside)).1

-- A number at a position.
pub number_before : (e : ℕ) (parts : List ℕ) (k d : ℕ) → AreBefore e parts → k < length parts → get_or parts k d < e
number_before e parts k d before inside = before k (get_or parts k d) (slice_get-get_or parts k d inside)

-- What is behind the first is before the expression too.
pub before_behind : {Op : Type 0} (e : ℕ) (links : List (Link Op)) → AreBefore e (operands links)
    → AreBefore e (operands (drop 1 links))
before_behind e [] before = before
before_behind e (l ∷ ls) before = λ k part at. before (suc k) part at

-- The sum of widths so far is not above the sum of all.
pub summed_first : (ns : List ExprNode) (w : ℕ) (parts : List ℕ) → min w (MAX_WIDTH + 1) ≤ summed ns w parts
summed_first ns w [] = omega arith
summed_first ns w (p ∷ ps) = let rest = summed_first ns (min (w + width_of ns p) (MAX_WIDTH + 1)) ps in omega arith

pub summed_next : (ns : List ExprNode) (w : ℕ) (parts : List ℕ) (k d : ℕ) → k < length parts
    → summed ns w (drop k parts) ≤ MAX_WIDTH → w + width_of ns (get_or parts k d) ≤ MAX_WIDTH
summed_next ns w parts k d inside fits =
    let all : summed ns (min (w + width_of ns (get_or parts k d)) (MAX_WIDTH + 1)) (drop (k + 1) parts) ≤ MAX_WIDTH =
    subst (λ (n : ℕ). n ≤ MAX_WIDTH) (at_drop_more (summed ns w) parts k d inside) fits in
    let first = summed_first ns (min (w + width_of ns (get_or parts k d)) (MAX_WIDTH + 1)) (drop (k + 1) parts) in
    omega arith

pub summed_behind : (ns : List ExprNode) (w : ℕ) (parts : List ℕ) (k d : ℕ) → k < length parts
    → summed ns w (drop k parts) ≤ MAX_WIDTH
    → summed ns (w + width_of ns (get_or parts k d)) (drop (k + 1) parts) ≤ MAX_WIDTH
summed_behind ns w parts k d inside fits =
    let next = summed_next ns w parts k d inside fits in
    let cut : min (w + width_of ns (get_or parts k d)) (MAX_WIDTH + 1) ≡ w + width_of ns (get_or parts k d) = omega arith in
    subst (λ (n : ℕ). summed ns n (drop (k + 1) parts) ≤ MAX_WIDTH) cut
    (subst (λ (n : ℕ). n ≤ MAX_WIDTH) (at_drop_more (summed ns w) parts k d inside) fits)

-- One turn of each chain.
pub arithmetic_turn : (part : Valuation) (w : ℕ) (g : Bool) (v next : Vector) (links : List (Link Arithmetic)) (k : ℕ) (d : Link Arithmetic)
    → k < length links → next ≡ arithmetic_of (get_or links k d).op v (part (get_or links k d).part w g)
    → arithmetic_chain part w g next (drop (k + 1) links) ≡ arithmetic_chain part w g v (drop k links)
arithmetic_turn part w g v next links k d inside is =
    ap (λ (x : Vector). arithmetic_chain part w g x (drop (k + 1) links)) is
    ∙ sym (at_drop_more (arithmetic_chain part w g v) links k d inside)

pub shift_turn : (part : Valuation) (ns : List ExprNode) (v next : Vector) (links : List (Link Shift)) (k : ℕ) (d : Link Shift)
    → k < length links → next ≡ shift_of (get_or links k d).op v (alone part ns (get_or links k d).part)
    → shift_chain part ns next (drop (k + 1) links) ≡ shift_chain part ns v (drop k links)
shift_turn part ns v next links k d inside is =
    ap (λ (x : Vector). shift_chain part ns x (drop (k + 1) links)) is
    ∙ sym (at_drop_more (shift_chain part ns v) links k d inside)

pub comparison_turn : (part : Valuation) (ns : List ExprNode) (v next : Digit) (links : List (Link Comparison)) (k : ℕ) (d : Link Comparison)
    → k < length links
    → next ≡ comparison_of (get_or links k d).op (resized (of_digit v) (width_of ns (get_or links k d).part) false)
    (part (get_or links k d).part (width_of ns (get_or links k d).part) false)
    → comparison_chain part ns next (drop (k + 1) links) ≡ comparison_chain part ns v (drop k links)
comparison_turn part ns v next links k d inside is =
    ap (λ (x : Digit). comparison_chain part ns x (drop (k + 1) links)) is
    ∙ sym (at_drop_more (comparison_chain part ns v) links k d inside)

pub logic_turn : (part : Valuation) (ns : List ExprNode) (v next : Digit) (links : List (Link Logic)) (k : ℕ) (d : Link Logic)
    → k < length links → next ≡ logic_of (get_or links k d).op v (truth_of (alone part ns (get_or links k d).part))
    → logic_chain part ns next (drop (k + 1) links) ≡ logic_chain part ns v (drop k links)
logic_turn part ns v next links k d inside is =
    ap (λ (x : Digit). logic_chain part ns x (drop (k + 1) links)) is
    ∙ sym (at_drop_more (logic_chain part ns v) links k d inside)

pub joined_turn : (part : Valuation) (ns : List ExprNode) (v next : Vector) (parts : List ℕ) (k d : ℕ)
    → k < length parts → next ≡ concatenation v (alone part ns (get_or parts k d))
    → joined part ns next (drop (k + 1) parts) ≡ joined part ns v (drop k parts)
joined_turn part ns v next parts k d inside is =
    ap (λ (x : Vector). joined part ns x (drop (k + 1) parts)) is
    ∙ sym (at_drop_more (joined part ns v) parts k d inside)

-- What the tests of a kind say of its operands.
pub all_are_before : (e : ℕ) (parts : List ℕ) → all_before e parts ≡ true → AreBefore e parts
all_are_before e [] h k part at = absurd (cc)
all_are_before e (p ∷ ps) h zero part at =
    let same : p ≡ part = cc in
    subst (λ (n : ℕ). n < e) same (ltb-true p e (and_left (nat_lt p e) (all_before e ps) h))
all_are_before e (p ∷ ps) h (suc k) part at = all_are_before e ps (and_right (nat_lt p e) (all_before e ps) h) k part at

pub first_before : (e first : ℕ) (b : Bool) → (nat_lt first e && b) ≡ true → first < e
first_before e first b h = ltb-true first e (and_left (nat_lt first e) b h)

pub rest_before : (e first : ℕ) (parts : List ℕ) → (nat_lt first e && all_before e parts) ≡ true → AreBefore e parts
rest_before e first parts h = all_are_before e parts (and_right (nat_lt first e) (all_before e parts) h)

pub are_ready : (ns : List ExprNode) (e first w : ℕ) (parts : List ℕ) → (nat_lt first e && all_before e parts) ≡ true
    → widest ns (width_of ns first) parts ≤ w → AreReady ns e w parts
are_ready ns e first w parts h wide k part at =
    let inside : k < length parts = slice_get_within parts k part at in
    let each = widest-each ns (width_of ns first) parts k part inside in
    let is : get_or parts k part ≡ part = get_or_from_slice_get parts k part part at in
    (rest_before e first parts h k part at, omega (arith, each, ap (width_of ns) is, wide))

-- All that is behind the first.
pub all_behind : {Op : Type 0} (links : List (Link Op)) → take (length links - 1) (drop 1 links) ≡ drop 1 links
all_behind links = let len = length-drop 1 links in take_all (length links - 1) (drop 1 links) (omega arith)
