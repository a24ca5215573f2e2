use Rattle.std.proofs.Common.{◌∙◌, sym, arith}
use Rattle.vh_elab_cycles.specs.Views.{edge_seen, edges_seen}
use Rattle.vh_elab_cycles.proofs.LaidLemmas.{falling-is-on-none, rank-most}
use Rattle.vh_elab_cycles.proofs.cycles.is_on_cycle.Goals as goal

pub returns-then-is_falling : goal.returns-then-is_falling
returns-then-is_falling c =
    sym (falling-is-on-none c.args.ranks.now (edges_seen c.args.edges.now) (edge_seen c.args.edge) c.requires.ranked
    (rank-most c.args.ranks.now c.args.edge.from (omega (arith, c.type_inv.ranks c.args.edge.from)))
    (sym c.is_falling.ensures ∙ c.if-is_falling.true))
