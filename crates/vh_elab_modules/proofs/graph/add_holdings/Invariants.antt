use Rattle.std.proofs.Common.{◌≡◌, ◌++◌, drop}
use Rattle.std.specs.Prelude.{map}
use Rattle.vh_elab_mentions.specs.Views.{ids_seen}
use Rattle.vh_elab_modules.specs.Numbers.{numbered_in}
use Rattle.vh_elab_modules.specs.Views.{holdings_seen}
use Rattle.vh_elab_modules.proofs.graph.add_holdings.Given as goal

-- The items so far, with those that are left, are all of them.
abbrev pub invariant-loop-id : goal.invariant-loop-id
invariant-loop-id l =
    holdings_seen l.holdings.items ++ map (numbered_in l.index l.from) (ids_seen (drop l.id-index l.ids))
    ≡ holdings_seen l.initial.holdings.items ++ map (numbered_in l.index l.from) (ids_seen l.ids)
