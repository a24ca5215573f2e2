use Rattle.vh_bind.specs.declared.scope.Mode.TheVariants as mode
use Rattle.vh_bind.specs.Views.{scope_seen, numbers_of}
use Rattle.vh_bind.proofs.FoldsLemmas.{EntriesSoFar, LinksSoFar}
use Rattle.vh_bind.proofs.binding.+bind.Given as goal

abbrev pub invariant-bind_entries-loop-part : goal.invariant-bind_entries-loop-part
invariant-bind_entries-loop-part l =
    EntriesSoFar mode.Constant (scope_seen l.scope) l.initial.nodes.items l.part-items l.part-index (numbers_of l.numbers) l.nodes.items

abbrev pub invariant-bind_links-loop-link : goal.invariant-bind_links-loop-link
invariant-bind_links-loop-link l =
    LinksSoFar mode.Constant (scope_seen l.scope) l.initial.nodes.items l.link-items l.link-index (numbers_of l.numbers) l.nodes.items
