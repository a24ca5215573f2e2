-- The number of the expression falls; a loop has what it has gone over in front of what is left.
use Rattle.std.proofs.Common.{◌≡◌, ◌+◌, ◌*◌, ◌≤◌, drop}
use Rattle.vh_logic.specs.declared.vector.TheConstants.{MAX_WIDTH}
use Rattle.vh_logic.specs.Vector.{width_of as digits_in}
use Rattle.vh_design_nodes.specs.Widths.{summed}
use Rattle.vh_eval.specs.Value.{value_below, arithmetic_chain, shift_chain, comparison_chain, logic_chain, joined}
use Rattle.vh_eval.proofs.evaluation.+eval.Given as goal

abbrev pub decreases-value_in : goal.decreases-value_in
decreases-value_in l = 9 * l.e + 5

abbrev pub decreases-alone_in : goal.decreases-alone_in
decreases-alone_in l = 9 * l.e + 6

abbrev pub decreases-truth_in : goal.decreases-truth_in
decreases-truth_in l = 9 * l.e + 7

abbrev pub decreases-chosen_in : goal.decreases-chosen_in
decreases-chosen_in l = 9 * l.e

abbrev pub decreases-select_in : goal.decreases-select_in
decreases-select_in l = 9 * l.e

abbrev pub decreases-selected_in : goal.decreases-selected_in
decreases-selected_in l = 9 * l.e + 1

abbrev pub decreases-kind_in : goal.decreases-kind_in
decreases-kind_in l = 9 * l.e + 4

abbrev pub decreases-arithmetic_in : goal.decreases-arithmetic_in
decreases-arithmetic_in l = 9 * l.e

abbrev pub decreases-shift_in : goal.decreases-shift_in
decreases-shift_in l = 9 * l.e

abbrev pub decreases-compared_in : goal.decreases-compared_in
decreases-compared_in l = 9 * l.e

abbrev pub decreases-compared_further : goal.decreases-compared_further
decreases-compared_further l = 9 * l.e

abbrev pub decreases-comparison_in : goal.decreases-comparison_in
decreases-comparison_in l = 9 * l.e + 1

abbrev pub decreases-logic_in : goal.decreases-logic_in
decreases-logic_in l = 9 * l.e

abbrev pub decreases-joined_in : goal.decreases-joined_in
decreases-joined_in l = 9 * l.e

abbrev pub decreases-unary_in : goal.decreases-unary_in
decreases-unary_in l = 9 * l.part + 8

abbrev pub decreases-choice_in : goal.decreases-choice_in
decreases-choice_in l = 9 * l.e

abbrev pub decreases-own_in : goal.decreases-own_in
decreases-own_in l = 9 * l.e + 2

abbrev pub decreases-composed_in : goal.decreases-composed_in
decreases-composed_in l = 9 * l.e + 3

abbrev pub invariant-arithmetic_in-loop-link : goal.invariant-arithmetic_in-loop-link
invariant-arithmetic_in-loop-link l = record {
  value :
      arithmetic_chain (value_below l.fn.e l.d l.s) (digits_in l.fn.v) l.fn.v.signed l.v (drop l.link-index l.rest)
      ≡ arithmetic_chain (value_below l.fn.e l.d l.s) (digits_in l.fn.v) l.fn.v.signed l.fn.v l.rest;
  width : digits_in l.v ≡ digits_in l.fn.v;
  signed : l.v.signed ≡ l.fn.v.signed;
}

abbrev pub invariant-shift_in-loop-link : goal.invariant-shift_in-loop-link
invariant-shift_in-loop-link l = record {
  value :
      shift_chain (value_below l.fn.e l.d l.s) l.d.exprs l.v (drop l.link-index l.rest)
      ≡ shift_chain (value_below l.fn.e l.d l.s) l.d.exprs l.fn.v l.rest;
  width : digits_in l.v ≡ digits_in l.fn.v;
  signed : l.v.signed ≡ l.fn.v.signed;
}

abbrev pub invariant-compared_further-loop-link : goal.invariant-compared_further-loop-link
invariant-compared_further-loop-link l =
    comparison_chain (value_below l.fn.e l.d l.s) l.d.exprs l.digit (drop l.link-index l.rest)
    ≡ comparison_chain (value_below l.fn.e l.d l.s) l.d.exprs l.fn.digit l.rest

abbrev pub invariant-logic_in-loop-link : goal.invariant-logic_in-loop-link
invariant-logic_in-loop-link l =
    logic_chain (value_below l.fn.e l.d l.s) l.d.exprs l.digit (drop l.link-index l.rest)
    ≡ logic_chain (value_below l.fn.e l.d l.s) l.d.exprs l.fn.digit l.rest

abbrev pub invariant-joined_in-loop-part : goal.invariant-joined_in-loop-part
invariant-joined_in-loop-part l = record {
  value :
      joined (value_below l.fn.e l.d l.s) l.d.exprs l.v (drop l.part-index l.rest)
      ≡ joined (value_below l.fn.e l.d l.s) l.d.exprs l.fn.v l.rest;
  fits : summed l.d.exprs (digits_in l.v) (drop l.part-index l.rest) ≤ MAX_WIDTH;
}
