use Rattle.std.proofs.Common.{◌∙◌, ap, length}
use Rattle.vh_design_nodes.specs.declared.expr.ExprKind.{ExprKind}
use Rattle.vh_design_nodes.specs.Fits.{fits_kind}
use Rattle.vh_bind.specs.Scopes.{objects_of, precision_of}
use Rattle.vh_bind.specs.Views.{scope_seen}
use Rattle.vh_bind.proofs.NodesLemmas.{chain_fits}
use Rattle.vh_bind.proofs.nodes.push_chain.Goals as goal

pub push-requires-clause-fits : goal.push-requires-clause-fits
push-requires-clause-fits c =
    let e = length c.args.nodes.now.items in
    let os = objects_of c.args.mode (scope_seen c.args.scope.now) in
    let pr = precision_of c.args.mode (scope_seen c.args.scope.now) in
    ap (λ (k : ExprKind). fits_kind os pr e k) c.in_ok-kind.ensures.kind
    ∙ chain_fits os pr _ c.args.operators.now c.args.first c.args.rest.now e c.requires.first c.requires.rest
