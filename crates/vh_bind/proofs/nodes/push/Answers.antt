use Rattle.std.proofs.Common.{◌≡◌, ◌∙◌, ◌<◌, ◌++◌, ◌∷◌, [], true, length, rules}
use Rattle.vh_design_nodes.specs.Fits.{is_width}
use Rattle.vh_design_nodes.specs.Widths.{kind_width, kind_signed}
use Rattle.vh_bind.specs.declared.nodes.TheConstants.{MOST_EXPRS}
use Rattle.vh_bind.specs.Nodes.{node_of}
use Rattle.vh_bind.specs.Scopes.{objects_of, precision_of}
use Rattle.vh_bind.specs.Views.{scope_seen}
use Rattle.vh_bind.proofs.NodesLemmas.{sound-push}
use Rattle.vh_bind.proofs.nodes.push.Goals as goal

pub returns-clause-sound : goal.returns-clause-sound
returns-clause-sound c =
    let ns = c.args.nodes.now.items in
    let m = c.args.mode in
    let s = scope_seen c.args.scope.now in
    let os = objects_of m s in
    let wide : is_width (kind_width ns os c.args.kind) ≡ true = search rules in
    let small : length ns < MOST_EXPRS = search rules in
    let sound = sound-push os (precision_of m s) ns c.args.kind c.requires.sound c.requires.fits wide small in
    let w : c.kind_width-width.result ≡ kind_width ns os c.args.kind = search rules in
    let g : c.kind_signed-signed.result ≡ kind_signed ns os c.args.kind = search rules in
    let same : c.add.new.nodes.items ≡ ns ++ node_of m s ns c.args.kind ∷ [] =
    c.in_ok-add.ensures ∙ (λ i. ns ++ record { kind = c.args.kind; width = w i; signed = g i } ∷ []) in
    rw same sound
