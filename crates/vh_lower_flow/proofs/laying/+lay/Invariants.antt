use Rattle.std.proofs.Common.{◌≡◌, map, drop}
use Rattle.vh_lower_flow.specs.Trees.{flows, case_items}
use Rattle.vh_lower_flow.specs.Laid.{row_laid, items_laid, branches_laid}
use Rattle.vh_lower_flow.specs.Views.{flow_tree, item_tree, laid_seen}
use Rattle.vh_lower_flow.proofs.laying.+lay.Given as goal

-- What is laid so far, with the branches that are left, is all of them.
abbrev pub invariant-lay_branches-loop-flow : goal.invariant-lay_branches-loop-flow
invariant-lay_branches-loop-flow l =
    branches_laid (flows (map flow_tree (drop l.flow-index l.flows))) (laid_seen l.so)
    ≡ branches_laid (flows (map flow_tree l.flows)) (laid_seen l.initial.so)

-- The same of the statements of a `case`, and of a row.
abbrev pub invariant-lay_items-loop-item : goal.invariant-lay_items-loop-item
invariant-lay_items-loop-item l =
    items_laid (case_items (map item_tree (drop l.item-index l.items))) l.after l.inner (laid_seen l.so)
    ≡ items_laid (case_items (map item_tree l.items)) l.after l.inner (laid_seen l.initial.so)

abbrev pub invariant-lay_row-loop-flow : goal.invariant-lay_row-loop-flow
invariant-lay_row-loop-flow l =
    row_laid l.rest (flows (map flow_tree (drop l.flow-index l.flows))) l.after l.inner (laid_seen l.so)
    ≡ row_laid l.size (flows (map flow_tree l.flows)) l.after l.inner (laid_seen l.initial.so)
