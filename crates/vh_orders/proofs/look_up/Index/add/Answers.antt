use Rattle.std.proofs.Common.{◌∙◌, ap, sym, rules}
use Rattle.indexmap.specs.IndexMap.{insert_entry}
use Rattle.indexmap.proofs.CallerLemmas.{insert_entry-new}
use Rattle.vh_orders.specs.declared.look_up.Index.{Index}
use Rattle.vh_orders.specs.LookUp.{position_in}
use Rattle.vh_orders.proofs.LookUpLemmas.{adds-none, adds-apart, adds-new, copied-none}
use Rattle.vh_orders.proofs.look_up.Index.add.Goals as goal
use Rattle.vh_orders.proofs.look_up.Index.add.Goals.{then-not-self-via-then-not-self, then-not-self-via-else-not-self+then-not-is_findable}

pub returns-then-not-self : goal.returns-then-not-self
returns-then-not-self c =
    let i = c.args.self.now in
    let n = c.args.named.now in
    elim c.then-not-self.branch [
      | then-not-self-via-then-not-self w ↦ adds-apart c.args.at n i i (search rules)
      | then-not-self-via-else-not-self+then-not-is_findable w ↦ adds-none c.args.at n i (search rules)
    ]

pub returns : goal.returns
returns c =
    let i = c.args.self.now in
    let more : Index = record { positions = c.insert.new.self; is_whole = i.is_whole } in
    let key = c.in_ok-key.ensures.items ∙ c.as_slice-2.ensures in
    let none = ap (position_in i) (sym c.as_slice.ensures) ∙ sym c.get.ensures.value ∙ copied-none c.get.result (search rules) in
    adds-new c.args.at c.args.named.now i more c.in_ok-key.key key none
    (c.in_ok-insert.ensures.entries ∙ ap (insert_entry _ i.positions.entries c.in_ok-key.key) (c.in-Ok.ensures.1)
    ∙ insert_entry-new _ i.positions c.in_ok-key.key c.args.at (ap (position_in i) key ∙ none))
    (search rules)
