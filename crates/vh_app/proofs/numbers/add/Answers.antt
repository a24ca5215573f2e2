use Rattle.std.proofs.Common.{◌∙◌, ap, sym, is_some}
use Rattle.indexmap.proofs.CallerLemmas.{insert_entry-new}
use Rattle.vh_app.specs.Numbers.{number_listed}
use Rattle.vh_app.proofs.NumbersLemmas.{adds-again, adds-new, not-listed}
use Rattle.vh_app.proofs.numbers.add.Goals as goal

pub returns-then-contains_key : goal.returns-then-contains_key
returns-then-contains_key c =
    let rows = c.args.numbers.now.entries in
    adds-again c.args.at c.args.procedure.now rows
    (ap (λ t. is_some (number_listed rows t)) (sym c.bytes-name.ensures.text) ∙ sym c.if-contains_key.ensures)

pub returns : goal.returns
returns c =
    let rows = c.args.numbers.now.entries in
    let key = c.in_ok-key.key in
    let named = c.in_ok-key.ensures.items in
    let none = ap (number_listed rows) named ∙ not-listed _ (sym c.if-contains_key.ensures) in
    adds-new c.args.at c.args.procedure.now rows _ key (named ∙ c.bytes-name.ensures.text)
    (c.in_ok-insert.ensures.entries ∙ insert_entry-new _ c.args.numbers.now key c.args.at none)
