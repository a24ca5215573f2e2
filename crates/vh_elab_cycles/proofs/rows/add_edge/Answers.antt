use Rattle.std.proofs.Common.{◌≡◌, ◌++◌, ◌∷◌, [], ◌∙◌, List, ℕ, ap, sym, get_or, set}
use Rattle.std.proofs.lemmas.List.{map-set, get_or-map}
use Rattle.vh_elab_cycles.specs.Views.{rows_seen}
use Rattle.vh_elab_cycles.proofs.rows.add_edge.Goals as goal

pub returns : goal.returns
returns c =
    let rows = c.args.rows.now.items in
    let from = c.args.edge.from in
    let was : get_or (rows_seen rows) from [] ≡ c.index_mut.result.now.items =
    get_or-map (λ r. r.items) rows from c.index_mut.result.now [] c.requires
    ∙ ap (λ r. r.items) (sym c.index_mut.ensures.value) in
    let row : c.push.new.self.items ≡ get_or (rows_seen rows) from [] ++ c.args.edge.to ∷ [] =
    c.in_ok-push.ensures.items ∙ ap (λ r. r ++ c.args.edge.to ∷ []) (sym was) in
    map-set (λ r. r.items) rows from c.push.new.self ∙ ap (λ (r : List ℕ). set (rows_seen rows) from r) row
