use Rattle.std.proofs.Common.{◌≡◌, ◌∙◌, ◌<◌, ◌≤◌, ◌+◌, ℕ, Bool, true, false, List, Option, drop, sym, ap, subst, arith}
use Rattle.vh_logic.specs.declared.digits.Digit.{Digit}
use Rattle.vh_logic.specs.Vector.{Vector, width_of as digits_in}
use Rattle.vh_design_nodes.specs.declared.expr.Arithmetic.{Arithmetic}
use Rattle.vh_design_nodes.specs.declared.expr.Comparison.{Comparison}
use Rattle.vh_design_nodes.specs.declared.expr.ExprKind.{ExprKind}
use Rattle.vh_design_nodes.specs.declared.expr.Link.{Link}
use Rattle.vh_design_nodes.specs.declared.expr.ExprNode.{ExprNode}
use Rattle.vh_design_nodes.specs.declared.expr.Logic.{Logic}
use Rattle.vh_design_nodes.specs.declared.expr.Shift.{Shift}
use Rattle.vh_design_nodes.specs.declared.expr.Access.TheVariants as access
use Rattle.vh_design_nodes.specs.Fits.{fits_kind, fits_word, fits_select}
use Rattle.vh_design_nodes.proofs.FitsLemmas.{and_left, and_right}
use Rattle.vh_design_nodes.specs.Widths.{width_of, widest, summed, operands, kind_width, object_width}
use Rattle.vh_design_nodes.proofs.WidthsLemmas.{widest-first}
use Rattle.vh_logic.specs.declared.vector.TheConstants.{MAX_WIDTH}
use Rattle.vh_logic.specs.Parts.{resized, concatenation}
use Rattle.vh_logic.specs.Reduce.{truth_of}
use Rattle.vh_eval.specs.Operators.{of_digit, arithmetic_of, shift_of, comparison_of, logic_of}
use Rattle.vh_eval.specs.Value.{Valuation, value_below, node_value, alone}
use Rattle.vh_eval.specs.Ready.{AreBefore}
use Rattle.vh_eval.proofs.ReadyLemmas.{before_at, ready_before, ready_wide, number_before, before_behind, all_behind, first_before, rest_before, are_ready, summed_next, summed_behind, arithmetic_turn, shift_turn, comparison_turn, logic_turn, joined_turn}
use Rattle.vh_eval.proofs.SelectsLemmas.{select_least, select_most}
use Rattle.vh_eval.proofs.ValueLemmas.{value_step}
use Rattle.vh_eval.proofs.evaluation.+eval.Goals as goal

pub arithmetic_in-value_in-operand-requires : goal.arithmetic_in-value_in-operand-requires
arithmetic_in-value_in-operand-requires t c =
    let before : c.link-item.result.part < c.args.e =
    subst (λ (l : Link Arithmetic). l.part < c.args.e) (sym c.link-item.is)
    (ready_before c.args.d.now.exprs c.args.e _ c.args.rest.now c.loop-link.link-index c.link-item.result c.requires.parts (omega arith)) in
    let wide : width_of c.args.d.now.exprs c.link-item.result.part ≤ c.width-width.result =
    subst (λ (l : Link Arithmetic). width_of c.args.d.now.exprs l.part ≤ c.width-width.result) (sym c.link-item.is)
    (rw c.width-width.ensures.value
    (ready_wide c.args.d.now.exprs c.args.e _ c.args.rest.now c.loop-link.link-index c.link-item.result c.requires.parts (omega arith))) in
    (omega arith, (omega arith, (wide, c.width-width.ensures.most)))

pub compared_further-width-width-requires : goal.compared_further-width-width-requires
compared_further-width-width-requires t c =
    let before : c.link-item.result.part < c.args.e =
    subst (λ (l : Link Comparison). l.part < c.args.e) (sym c.link-item.is)
    (before_at c.args.e c.args.rest.now c.loop-link.link-index c.link-item.result c.requires.parts (omega arith)) in
    omega arith

pub compared_further-value_in-right-requires : goal.compared_further-value_in-right-requires
compared_further-value_in-right-requires t c =
    let before : c.link-item.result.part < c.args.e =
    subst (λ (l : Link Comparison). l.part < c.args.e) (sym c.link-item.is)
    (before_at c.args.e c.args.rest.now c.loop-link.link-index c.link-item.result c.requires.parts (omega arith)) in
    (omega arith, (omega arith, (omega (arith, c.width-width.ensures.value), c.width-width.ensures.most)))

pub logic_in-truth_in-requires : goal.logic_in-truth_in-requires
logic_in-truth_in-requires t c =
    let before : c.link-item.result.part < c.args.e =
    subst (λ (l : Link Logic). l.part < c.args.e) (sym c.link-item.is)
    (before_at c.args.e c.args.rest.now c.loop-link.link-index c.link-item.result c.requires.parts (omega arith)) in
    (omega arith, omega arith)

pub comparison_in-compared_in-digit-requires : goal.comparison_in-compared_in-digit-requires
comparison_in-compared_in-digit-requires t c =
    let before : c.index-rest-0.result.part < c.args.e =
    subst (λ (l : Link Comparison). l.part < c.args.e) (sym c.index-rest-0.is)
    (before_at c.args.e c.args.rest.now 0 c.index-rest-0.result c.requires.parts (omega arith)) in
    (omega arith, (c.requires.known, (c.requires.before, before)))

pub comparison_in-compared_further-requires : goal.comparison_in-compared_further-requires
comparison_in-compared_further-requires t c = (
  omega arith,
  (
    c.requires.known,
    subst (λ (links : List (Link Comparison)). AreBefore c.args.e (operands links)) (sym (all_behind c.args.rest.now))
        (before_behind c.args.e c.args.rest.now c.requires.parts),
  ),
)

pub joined_in-concat-v-requires : goal.joined_in-concat-v-requires
joined_in-concat-v-requires t c =
    let fits = summed_next c.args.d.now.exprs (digits_in c.loop-part.v) c.args.rest.now c.loop-part.part-index c.part-item.result (omega arith) c.loop-part.invariant.fits in
    let is = ap (width_of c.args.d.now.exprs) c.part-item.is in
    omega (arith, fits, is, c.alone_in.ensures.width)

pub composed_in-value_in-v-requires : goal.composed_in-value_in-v-requires
composed_in-value_in-v-requires t c =
    let fits = subst (λ (k : ExprKind). fits_kind c.args.d.now.objects c.args.d.now.precision c.args.e k ≡ true) c.in-Arithmetic.is c.requires.kind.fits in
    let wide : widest c.args.d.now.exprs (width_of c.args.d.now.exprs c.in-Arithmetic.first) (operands c.in-Arithmetic.rest) ≤ c.args.width =
    subst (λ (k : ExprKind). kind_width c.args.d.now.exprs c.args.d.now.objects k ≤ c.args.width) c.in-Arithmetic.is c.requires.kind.wide in
    let first = widest-first c.args.d.now.exprs (width_of c.args.d.now.exprs c.in-Arithmetic.first) (operands c.in-Arithmetic.rest) in
    let before = first_before c.args.e c.in-Arithmetic.first _ fits in
    (omega arith, (omega arith, (omega (arith, first, wide), c.requires.kind.small)))

pub composed_in-arithmetic_in-requires : goal.composed_in-arithmetic_in-requires
composed_in-arithmetic_in-requires t c =
    let fits = subst (λ (k : ExprKind). fits_kind c.args.d.now.objects c.args.d.now.precision c.args.e k ≡ true) c.in-Arithmetic.is c.requires.kind.fits in
    let wide : widest c.args.d.now.exprs (width_of c.args.d.now.exprs c.in-Arithmetic.first) (operands c.in-Arithmetic.rest) ≤ c.args.width =
    subst (λ (k : ExprKind). kind_width c.args.d.now.exprs c.args.d.now.objects k ≤ c.args.width) c.in-Arithmetic.is c.requires.kind.wide in (
      omega arith,
      (
        c.requires.kind.known,
        rw (c.as_slice.ensures, c.value_in-v.ensures.width)
            (are_ready c.args.d.now.exprs c.args.e c.in-Arithmetic.first c.args.width (operands c.in-Arithmetic.rest) fits wide),
      ),
    )

pub composed_in-shift_in-requires : goal.composed_in-shift_in-requires
composed_in-shift_in-requires t c =
    let fits = subst (λ (k : ExprKind). fits_kind c.args.d.now.objects c.args.d.now.precision c.args.e k ≡ true) c.in-Shift.is c.requires.kind.fits in (
      omega arith,
      (
        c.requires.kind.known,
        rw c.as_slice-in-Shift.ensures
            (rest_before c.args.e c.in-Shift.first (operands c.in-Shift.rest) fits),
      ),
    )

pub own_in-comparison_in-requires : goal.own_in-comparison_in-requires
own_in-comparison_in-requires t c =
    let fits = subst (λ (k : ExprKind). fits_kind c.args.d.now.objects c.args.d.now.precision c.args.e k ≡ true) c.in-Comparison.is c.requires.fits in (
      omega arith,
      (
        c.requires.known,
        (
          first_before c.args.e c.in-Comparison.first _ fits,
          rw c.as_slice.ensures
              (rest_before c.args.e c.in-Comparison.first (operands c.in-Comparison.rest) fits),
        ),
      ),
    )

pub own_in-logic_in-requires : goal.own_in-logic_in-requires
own_in-logic_in-requires t c =
    let fits = subst (λ (k : ExprKind). fits_kind c.args.d.now.objects c.args.d.now.precision c.args.e k ≡ true) c.in-Logic.is c.requires.fits in (
      omega arith,
      (
        c.requires.known,
        rw c.as_slice-in-Logic.ensures
            (rest_before c.args.e c.in-Logic.first (operands c.in-Logic.rest) fits),
      ),
    )

pub selected_in-chosen_in-v-requires : goal.selected_in-chosen_in-v-requires
selected_in-chosen_in-v-requires t c =
    let x = c.args.x.now in
    (omega arith, (c.requires.known, and_left (fits_word c.args.d.now.objects c.args.e access.Read x.of.object x.of.word) (fits_select c.args.e x.select) c.requires.fits))

pub selected_in-select_in-requires : goal.selected_in-select_in-requires
selected_in-select_in-requires t c =
    let x = c.args.x.now in
    let width = object_width c.args.d.now.objects x.of.object in (
      omega arith,
      (
        c.requires.known,
        (
          and_right (fits_word c.args.d.now.objects c.args.e access.Read x.of.object x.of.word) (fits_select c.args.e x.select) c.requires.fits,
          (select_least width x.select c.requires.least, select_most width x.select c.requires.small),
        ),
      ),
    )

pub own_in-joined_in-requires : goal.own_in-joined_in-requires
own_in-joined_in-requires t c =
    let fits = subst (λ (k : ExprKind). fits_kind c.args.d.now.objects c.args.d.now.precision c.args.e k ≡ true) c.in-Join.is c.requires.fits in
    let small : summed c.args.d.now.exprs (width_of c.args.d.now.exprs c.in-Join.first) c.in-Join.rest ≤ MAX_WIDTH =
    subst (λ (k : ExprKind). kind_width c.args.d.now.exprs c.args.d.now.objects k ≤ MAX_WIDTH) c.in-Join.is c.requires.small in (
      omega arith,
      (
        c.requires.known,
        (
          rw c.as_slice-in-Join.ensures (rest_before c.args.e c.in-Join.first c.in-Join.rest fits),
          rw (c.as_slice-in-Join.ensures, c.alone_in-v.ensures.width) small,
        ),
      ),
    )

pub shift_in-alone_in-operand-requires : goal.shift_in-alone_in-operand-requires
shift_in-alone_in-operand-requires t c =
    let before : c.link-item.result.part < c.args.e =
    subst (λ (l : Link Shift). l.part < c.args.e) (sym c.link-item.is)
    (before_at c.args.e c.args.rest.now c.loop-link.link-index c.link-item.result c.requires.parts (omega arith)) in
    (omega arith, omega arith)

pub value_in-returns-clause-value : goal.value_in-returns-clause-value
value_in-returns-clause-value t c =
    λ k below.
    c.kind_in.ensures.value
    ∙ sym (value_step k c.args.d.now c.args.s.now c.args.e c.args.width c.args.signed below
    ∙ ap (λ (o : Option ExprNode). node_value (value_below c.args.e c.args.d.now c.args.s.now) c.args.d.now c.args.s.now c.args.e o c.args.width c.args.signed)
    c.expr-node.ensures.value)

pub arithmetic_in-loop-link-preserved : goal.arithmetic_in-loop-link-preserved
arithmetic_in-loop-link-preserved t c =
    let part : Valuation = value_below c.args.e c.args.d.now c.args.s.now in
    let item = c.link-item.result in
    let v = c.loop-link.v in
    let before : item.part < c.args.e =
    subst (λ (l : Link Arithmetic). l.part < c.args.e) (sym c.link-item.is)
    (ready_before c.args.d.now.exprs c.args.e _ c.args.rest.now c.loop-link.link-index item c.requires.parts (omega arith)) in
    let next =
    c.arithmetic-v.ensures.value
    ∙ ap (λ (x : Vector). arithmetic_of item.op v x) (c.value_in-operand.ensures.value c.args.e before)
    ∙ ap (λ (w : ℕ). arithmetic_of item.op v (part item.part w c.is_signed-signed.result)) c.width-width.ensures.value
    ∙ ap (λ (g : Bool). arithmetic_of item.op v (part item.part (digits_in c.args.v) g)) c.is_signed-signed.ensures
    ∙ ap (λ (l : Link Arithmetic). arithmetic_of l.op v (part l.part (digits_in c.args.v) c.args.v.signed)) c.link-item.is in
    record {
      value = arithmetic_turn part (digits_in c.args.v) c.args.v.signed v c.arithmetic-v.result c.args.rest.now c.loop-link.link-index item (omega arith) next
          ∙ c.loop-link.invariant.value;
      width = c.arithmetic-v.ensures.width ∙ c.loop-link.invariant.width;
      signed = c.arithmetic-v.ensures.signed ∙ c.loop-link.invariant.signed;
    }

pub shift_in-loop-link-preserved : goal.shift_in-loop-link-preserved
shift_in-loop-link-preserved t c =
    let part : Valuation = value_below c.args.e c.args.d.now c.args.s.now in
    let item = c.link-item.result in
    let v = c.loop-link.v in
    let before : item.part < c.args.e =
    subst (λ (l : Link Shift). l.part < c.args.e) (sym c.link-item.is)
    (before_at c.args.e c.args.rest.now c.loop-link.link-index item c.requires.parts (omega arith)) in
    let next =
    c.shift-v.ensures.value
    ∙ ap (λ (x : Vector). shift_of item.op v x) (c.alone_in-operand.ensures.value c.args.e before)
    ∙ ap (λ (l : Link Shift). shift_of l.op v (alone part c.args.d.now.exprs l.part)) c.link-item.is in
    record {
      value = shift_turn part c.args.d.now.exprs v c.shift-v.result c.args.rest.now c.loop-link.link-index item (omega arith) next
          ∙ c.loop-link.invariant.value;
      width = c.shift-v.ensures.width ∙ c.loop-link.invariant.width;
      signed = c.shift-v.ensures.signed ∙ c.loop-link.invariant.signed;
    }

pub compared_further-loop-link-preserved : goal.compared_further-loop-link-preserved
compared_further-loop-link-preserved t c =
    let ns = c.args.d.now.exprs in
    let part : Valuation = value_below c.args.e c.args.d.now c.args.s.now in
    let item = c.link-item.result in
    let digit = c.loop-link.digit in
    let w = c.width-width.result in
    let before : item.part < c.args.e =
    subst (λ (l : Link Comparison). l.part < c.args.e) (sym c.link-item.is)
    (before_at c.args.e c.args.rest.now c.loop-link.link-index item c.requires.parts (omega arith)) in
    let left = c.resize-left.ensures.value ∙ ap (λ (x : Vector). resized x w false) c.of_digit.ensures.value in
    let next =
    c.comparison-digit.ensures
    ∙ ap (λ (x : Vector). comparison_of item.op x c.value_in-right.result) left
    ∙ ap (λ (x : Vector). comparison_of item.op (resized (of_digit digit) w false) x) (c.value_in-right.ensures.value c.args.e before)
    ∙ ap (λ (n : ℕ). comparison_of item.op (resized (of_digit digit) n false) (part item.part n false)) c.width-width.ensures.value
    ∙ ap (λ (l : Link Comparison). comparison_of l.op (resized (of_digit digit) (width_of ns l.part) false) (part l.part (width_of ns l.part) false)) c.link-item.is in
    comparison_turn part ns digit c.comparison-digit.result c.args.rest.now c.loop-link.link-index item (omega arith) next
    ∙ c.loop-link.invariant

pub logic_in-loop-link-preserved : goal.logic_in-loop-link-preserved
logic_in-loop-link-preserved t c =
    let ns = c.args.d.now.exprs in
    let part : Valuation = value_below c.args.e c.args.d.now c.args.s.now in
    let item = c.link-item.result in
    let digit = c.loop-link.digit in
    let before : item.part < c.args.e =
    subst (λ (l : Link Logic). l.part < c.args.e) (sym c.link-item.is)
    (before_at c.args.e c.args.rest.now c.loop-link.link-index item c.requires.parts (omega arith)) in
    let next =
    c.logic-digit.ensures
    ∙ ap (λ (x : Digit). logic_of item.op digit x) (c.truth_in.ensures c.args.e before)
    ∙ ap (λ (l : Link Logic). logic_of l.op digit (truth_of (alone part ns l.part))) c.link-item.is in
    logic_turn part ns digit c.logic-digit.result c.args.rest.now c.loop-link.link-index item (omega arith) next
    ∙ c.loop-link.invariant

pub joined_in-loop-part-preserved : goal.joined_in-loop-part-preserved
joined_in-loop-part-preserved t c =
    let ns = c.args.d.now.exprs in
    let part : Valuation = value_below c.args.e c.args.d.now c.args.s.now in
    let item = c.part-item.result in
    let v = c.loop-part.v in
    let before : item < c.args.e =
    subst (λ (n : ℕ). n < c.args.e) (sym c.part-item.is)
    (number_before c.args.e c.args.rest.now c.loop-part.part-index item c.requires.parts (omega arith)) in
    let next =
    c.concat-v.ensures.value
    ∙ ap (λ (x : Vector). concatenation v x) (c.alone_in.ensures.value c.args.e before)
    ∙ ap (λ (n : ℕ). concatenation v (alone part ns n)) c.part-item.is in
    let width = c.concat-v.ensures.width
    ∙ ap (λ (n : ℕ). digits_in v + n) (c.alone_in.ensures.width ∙ ap (λ (n : ℕ). width_of ns n) c.part-item.is) in
    record {
      value = joined_turn part ns v c.concat-v.result c.args.rest.now c.loop-part.part-index item (omega arith) next
          ∙ c.loop-part.invariant.value;
      fits = subst (λ (n : ℕ). summed ns n (drop (c.loop-part.part-index + 1) c.args.rest.now) ≤ MAX_WIDTH) (sym width)
          (summed_behind ns (digits_in v) c.args.rest.now c.loop-part.part-index item (omega arith) c.loop-part.invariant.fits);
    }
