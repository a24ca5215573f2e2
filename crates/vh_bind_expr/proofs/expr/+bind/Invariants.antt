use Rattle.std.proofs.Common.{◌≡◌, ◌≤◌, ◌*◌, ◌+◌, drop, length, true}
use Rattle.std.specs.Prelude.{map}
use Rattle.vh_design_nodes.specs.Fits.{all_before}
use Rattle.vh_ast.specs.Expressions.{exprs}
use Rattle.vh_ast.specs.Views.{expr_tree}
use Rattle.vh_bind.specs.declared.scope.Mode.TheVariants as mode
use Rattle.vh_bind.specs.Nodes.{IsSound}
use Rattle.vh_bind.specs.Constants.{targets_pieces}
use Rattle.vh_bind.specs.Views.{scope_seen, numbers_of}
use Rattle.vh_bind.proofs.FoldsLemmas.{EntriesSoFar, LinksSoFar}
use Rattle.vh_bind_expr.proofs.NamesLemmas.{SideSoFar}
use Rattle.vh_bind_expr.proofs.expr.+bind.Given as goal

-- What a function hands on is smaller, or as deep and handed to one further down: the last bracket of a select may be as
-- deep as the select.
abbrev pub decreases-bind : goal.decreases-bind
decreases-bind l = 6 * goal.size-bind l

abbrev pub decreases-bind_name : goal.decreases-bind_name
decreases-bind_name l = 6 * goal.size-bind_name l + 3

abbrev pub decreases-bind_bits : goal.decreases-bind_bits
decreases-bind_bits l = 6 * goal.size-bind_bits l + 2

abbrev pub decreases-bind_word : goal.decreases-bind_word
decreases-bind_word l = 6 * goal.size-bind_word l + 2

abbrev pub decreases-bind_part : goal.decreases-bind_part
decreases-bind_part l = 6 * goal.size-bind_part l + 1

abbrev pub decreases-bind_system : goal.decreases-bind_system
decreases-bind_system l = 6 * goal.size-bind_system l + 1

abbrev pub decreases-bind_entry : goal.decreases-bind_entry
decreases-bind_entry l = 6 * goal.size-bind_entry l + 1

abbrev pub decreases-bind_entries : goal.decreases-bind_entries
decreases-bind_entries l = 6 * goal.size-bind_entries l + 2

abbrev pub decreases-bind_call : goal.decreases-bind_call
decreases-bind_call l = 6 * goal.size-bind_call l + 5

abbrev pub decreases-bind_beside : goal.decreases-bind_beside
decreases-bind_beside l = 6 * goal.size-bind_beside l + 4

abbrev pub decreases-bind_side : goal.decreases-bind_side
decreases-bind_side l = 6 * goal.size-bind_side l + 3

abbrev pub decreases-bind_argument : goal.decreases-bind_argument
decreases-bind_argument l = 6 * goal.size-bind_argument l + 2

abbrev pub decreases-bind_output : goal.decreases-bind_output
decreases-bind_output l = 6 * goal.size-bind_output l + 1

abbrev pub decreases-bind_target : goal.decreases-bind_target
decreases-bind_target l = 6 * goal.size-bind_target l

abbrev pub decreases-bind_targets : goal.decreases-bind_targets
decreases-bind_targets l = 6 * goal.size-bind_targets l + 1

abbrev pub decreases-bind_variable : goal.decreases-bind_variable
decreases-bind_variable l = 6 * goal.size-bind_variable l + 3

abbrev pub decreases-bind_links : goal.decreases-bind_links
decreases-bind_links l = 6 * goal.size-bind_links l + 1

abbrev pub invariant-bind_entries-loop-part : goal.invariant-bind_entries-loop-part
invariant-bind_entries-loop-part l =
    EntriesSoFar mode.Value (scope_seen l.scope) l.initial.nodes.items l.part-items l.part-index (numbers_of l.numbers) l.nodes.items

abbrev pub invariant-bind_side-loop-k : goal.invariant-bind_side-loop-k
invariant-bind_side-loop-k l =
    SideSoFar (scope_seen l.scope) l.side l.directions l.initial.nodes.items l.values l.k (numbers_of l.numbers) l.nodes.items

-- The variables so far, with those that are left, are those of the concatenation.
abbrev pub invariant-bind_targets-loop-entry : goal.invariant-bind_targets-loop-entry
invariant-bind_targets-loop-entry l = record {
  step : targets_pieces (scope_seen l.scope) l.parts.items (exprs (map expr_tree (drop l.entry-index l.entry-items))) l.nodes.items
      ≡ targets_pieces (scope_seen l.scope) l.initial.parts.items (exprs (map expr_tree l.entry-items)) l.initial.nodes.items;
  sound : IsSound mode.Value (scope_seen l.scope) l.nodes.items;
  below : all_before (length l.nodes.items) l.parts.items ≡ true;
  grows : length l.initial.nodes.items ≤ length l.nodes.items;
}

abbrev pub invariant-bind_links-loop-link : goal.invariant-bind_links-loop-link
invariant-bind_links-loop-link l =
    LinksSoFar mode.Value (scope_seen l.scope) l.initial.nodes.items l.link-items l.link-index (numbers_of l.numbers) l.nodes.items
