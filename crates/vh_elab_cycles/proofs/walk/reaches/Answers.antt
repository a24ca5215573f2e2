use Rattle.std.proofs.Common.{◌≡◌, ◌∙◌, ◌++◌, ◌+◌, ◌*◌, ◌∷◌, [], ℕ, List, false, ap, subst, arith, length}
use Rattle.std.proofs.lemmas.List.{get_or_read, length-append, length-map, nil_from_length}
use Rattle.vh_elab_cycles.specs.Laid.{Walk, see, see_all}
use Rattle.vh_elab_cycles.specs.Views.{edges_seen, rows_seen, walk_seen}
use Rattle.vh_elab_cycles.proofs.LaidLemmas.{Within, within-all}
use Rattle.vh_elab_cycles.proofs.WalkLemmas.{Goes, goes-all, goes-first, goes-on, grows-all, unseen}
use Rattle.vh_elab_cycles.proofs.walk.reaches.Goals as goal

pub loop-node-init : goal.loop-node-init
loop-node-init c =
    goes-first (edges_seen c.args.edges.now) (length c.args.rows.now) c.args.from (walk_seen c.see.new.self) c.requires.begins
    (c.in_ok-see.ensures ∙ ap (λ v. see v c.args.from) c.in_ok-walk.ensures)

pub loop-node-smaller : goal.loop-node-smaller
loop-node-smaller c =
    let less = (grows-all (c.loop-node.walk.seen.items, c.pop.new.self.items) c.row_of.result.now).less in
    let is = ap (λ (w : Walk). 2 * unseen w.0 + length w.1) c.in_ok-see_all.ensures in
    let popped = ap length c.in-Some.ensures.items in
    omega (arith, less, is, popped, length-append c.pop.new.self.items (c.in-Some.node ∷ []))

pub loop-node-preserved : goal.loop-node-preserved
loop-node-preserved c =
    let es = edges_seen c.args.edges.now in
    let rows = c.args.rows.now in
    let seen = c.loop-node.walk.seen.items in
    let rest = c.pop.new.self.items in
    let low : Within (length rows) es =
    subst (λ (n : ℕ). Within n es) (length-map rows (λ r. r.items)) (within-all (length (rows_seen rows)) es c.requires.laid.within) in
    let before : Goes es (length rows) c.args.from (seen, rest ++ c.in-Some.node ∷ []) =
    subst (λ (ws : List ℕ). Goes es (length rows) c.args.from (seen, ws)) c.in-Some.ensures.items c.loop-node.invariant in
    goes-on es (length rows) c.args.from seen rest c.in-Some.node (walk_seen c.see_all.new.self) low before
    (c.in_ok-see_all.ensures ∙ ap (λ r. see_all (seen, rest) r) (c.row_of.ensures ∙ c.requires.laid.ends c.in-Some.node))

pub returns : goal.returns
returns c =
    let es = edges_seen c.args.edges.now in
    let n = length c.args.rows.now in
    let seen = c.loop-node.walk.seen.items in
    let none : c.loop-node.walk.waiting.items ≡ [] =
    nil_from_length c.loop-node.walk.waiting.items (omega (arith, c.in_default.ensures.cases.0, c.loop-node.walk.waiting.ok.0)) in
    let after : Goes es n c.args.from (seen, []) =
    subst (λ (ws : List ℕ). Goes es n c.args.from (seen, ws)) none c.loop-node.invariant in
    get_or_read seen c.args.to c.index.result.now (omega (arith, c.loop-node.invariant.sized, c.requires.ends)) c.index.ensures false
    ∙ goes-all es n c.args.from c.args.to seen after
