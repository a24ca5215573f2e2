use Rattle.std.proofs.Common.{◌≡◌, ◌∙◌, rules}
use Rattle.std.specs.Prelude.{max}
use Rattle.vh_design_nodes.specs.Widths.{width_of, signed_of}
use Rattle.vh_eval.specs.Value.{value_of}
use Rattle.vh_store.specs.Opening.{IsOpening}
use Rattle.vh_bind.specs.Constants.{bare}
use Rattle.vh_bind.proofs.ValueLemmas.{opening_nothing}
use Rattle.vh_bind.proofs.value.value_at.Goals as goal

pub returns : goal.returns
returns c =
    let ns = c.args.nodes.items in
    let is_bare = c.bare-design.ensures in
    let opening : IsOpening (bare ns) c.in_ok-store.store = search rules in
    let stored = opening_nothing ns c.in_ok-store.store c.requires.sound opening in
    let w : c.max-width.result ≡ max (width_of ns c.args.e) c.args.least = search rules in
    let g : c.is_signed.result ≡ signed_of ns c.args.e = search rules in
    c.eval.ensures.value ∙ (λ i. value_of (is_bare i) (stored i) c.args.e (w i) (g i))
