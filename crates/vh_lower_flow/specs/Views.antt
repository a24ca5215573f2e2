-- How contracts see what the code holds: trees without pointers, and codes so far as plain lists.
use Rattle.std.specs.Prelude.{map}
use Rattle.vh_lower_flow.specs.declared.flow.CaseItem.{CaseItem}
use Rattle.vh_lower_flow.specs.declared.flow.Flow.{Flow, fold-Flow}
use Rattle.vh_lower_flow.specs.declared.flow.FlowForm.{FlowForm}
use Rattle.vh_lower_flow.specs.declared.flow.FlowForm.TheVariants as form
use Rattle.vh_lower_flow.specs.Trees.{FlowTree, flow, FormTree, step, row, choice, turns, case_of, block, fork, flows, ItemTree, case_items}
use Rattle.vh_lower_flow.specs.declared.positions.Laid as code
use Rattle.vh_lower_flow.specs.Laid.{Laid}

-- One layer of a tree of the code.
abbrev item_layer : CaseItem FlowTree → ItemTree
item_layer i = record { matched = i.matched; body = i.body }

abbrev pub form_layer : FlowForm FlowTree → FormTree
form_layer (form.Step s) = step s
form_layer (form.Row fs) = row (flows fs)
form_layer (form.Choice g m holds fails) = choice g m holds fails
form_layer (form.Turns body g m) = turns body g m
form_layer (form.Case h m is default) = case_of h m (case_items (map item_layer is)) default
form_layer (form.Block o body) = block o body
form_layer (form.Fork m branches) = fork m (flows branches)

-- A tree of the code.
abbrev pub flow_tree : Flow → FlowTree
flow_tree = fold-Flow FlowTree (λ f. flow f.size (form_layer f.form))

abbrev pub item_tree : CaseItem Flow → ItemTree
item_tree i = record { matched = i.matched; body = flow_tree i.body }

abbrev pub form_tree : FlowForm Flow → FormTree
form_tree (form.Step s) = step s
form_tree (form.Row fs) = row (flows (map flow_tree fs))
form_tree (form.Choice g m holds fails) = choice g m (flow_tree holds) (flow_tree fails)
form_tree (form.Turns body g m) = turns (flow_tree body) g m
form_tree (form.Case h m is default) = case_of h m (case_items (map item_tree is)) (flow_tree default)
form_tree (form.Block o body) = block o (flow_tree body)
form_tree (form.Fork m branches) = fork m (flows (map flow_tree branches))

-- A code so far.
abbrev pub laid_seen : code.Laid → Laid
laid_seen so = record { instructions = so.instructions.items; blocks = so.blocks.items }
