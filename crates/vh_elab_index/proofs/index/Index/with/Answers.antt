use Rattle.std.proofs.Common.{◌≡◌, ◌++◌, ◌∷◌, [], ap, sym, refl, ◌∙◌, not}
use Rattle.std.proofs.lemmas.List.{map-append, length-map}
use Rattle.vh_elab_index.specs.Views.{names_seen}
use Rattle.vh_elab_index.proofs.FirstLemmas.{copied-none, copied-some, rows-lookup, rows-new, rows-old}
use Rattle.vh_elab_index.proofs.index.Index.with.Goals as goal
use Rattle.vh_elab_index.proofs.index.Index.with.Goals.{then-is_none+in_ok-key+in_ok-insert, else-is_none}

pub invariant_of-result : goal.invariant_of-result
invariant_of-result c =
    let x = c.args.name.now in
    let rows = c.self.inside.positions.entries in
    let names = names_seen c.self.inside.names.items in
    let more : names_seen c.push.new.self.items ≡ names ++ x ∷ [] =
    ap names_seen c.in_ok-push.ensures.items ∙ map-append (λ b. b.now) c.self.inside.names.items (c.args.name ∷ []) in
    let found = sym (c.self.invariant x) ∙ sym (rows-lookup x rows) ∙ sym c.get.ensures.value in
    elim c.if-is_none.branch [
      | then-is_none+in_ok-key+in_ok-insert w ↦
          rows-new _ (λ a b. refl) names _ rows _ w.in_ok-key.key x c.in-Ok.position c.self.invariant w.in_ok-key.ensures.items
          (c.in-Ok.ensures.1 ∙ c.len.ensures ∙ c.self.inside.names.ok.0 ∙ sym (length-map c.self.inside.names.items (λ b. b.now)))
          (found ∙ copied-none c.get.result (c.is_none.ensures ∙ ap not w.if-is_none.true))
          (ap (λ p. p.entries) w.positions-is ∙ w.in_ok-insert.ensures.entries) more
      | else-is_none w ↦
          let there = copied-some c.get.result w.if-is_none.ensures in
          rows-old names _ rows _ x there.0 c.self.invariant (found ∙ there.1) (ap (λ p. p.entries) w.positions-is) more
    ]
