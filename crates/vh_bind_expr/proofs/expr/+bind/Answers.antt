use Rattle.std.proofs.Common.{◌≡◌, ◌∙◌, ◌<◌, true, false, Some, ap, refl, length, rules}
use Rattle.vh_bind.specs.declared.scope.Mode.TheVariants as mode
use Rattle.vh_bind.specs.Constants.{given_sign}
use Rattle.vh_bind.specs.Views.{scope_seen}
use Rattle.vh_bind.proofs.FoldsLemmas.{entries-more, links-more, sole_none}
use Rattle.vh_bind.proofs.TreesLemmas.{tree-of, tree-Chain}
use Rattle.vh_bind_expr.proofs.NamesLemmas.{joined-below, side-counts, side-skips}
use Rattle.vh_bind.proofs.NodesLemmas.{all_before-later, all_before-push}
use Rattle.vh_bind.specs.Objects.{goes_so}
use Rattle.vh_bind_expr.specs.Rows.{is_on}
use Rattle.vh_bind_expr.proofs.expr.+bind.Goals as goal
use Rattle.vh_bind_expr.proofs.expr.+bind.Goals.{bind_side-then-is_at+in_ok-number+in_ok-numbers, bind_side-else-is_at}

pub bind-returns-in_err-called-in-Call-clause-step : goal.bind-returns-in_err-called-in-Call-clause-step
bind-returns-in_err-called-in-Call-clause-step t c =
    rw (tree-of c.args.e.now _ _ c.in-Primary.is c.in-Call.is) (search rules)

pub bind-returns-in_err-parts-in-Repeat-clause-step : goal.bind-returns-in_err-parts-in-Repeat-clause-step
bind-returns-in_err-parts-in-Repeat-clause-step t c =
    rw (tree-of c.args.e.now _ _ c.in-Primary.is c.in-Repeat.is) (search rules)

pub bind-returns-in_err-rest-in-Chain-clause-step : goal.bind-returns-in_err-rest-in-Chain-clause-step
bind-returns-in_err-rest-in-Chain-clause-step t c =
    rw (tree-Chain c.args.e.now c.in-Chain.first c.in-Chain.links c.in-Chain.is) (search rules)

pub bind-returns-in_ok-parts-in-Repeat-clause-step : goal.bind-returns-in_ok-parts-in-Repeat-clause-step
bind-returns-in_ok-parts-in-Repeat-clause-step t c =
    rw (tree-of c.args.e.now _ _ c.in-Primary.is c.in-Repeat.is) (search rules)

pub bind-returns-in_ok-rest-in-Chain-clause-step : goal.bind-returns-in_ok-rest-in-Chain-clause-step
bind-returns-in_ok-rest-in-Chain-clause-step t c =
    rw (tree-Chain c.args.e.now c.in-Chain.first c.in-Chain.links c.in-Chain.is) (search rules)

pub bind-returns-in-Name-clause-step : goal.bind-returns-in-Name-clause-step
bind-returns-in-Name-clause-step t c =
    rw (tree-of c.args.e.now _ _ c.in-Primary.is c.in-Name.is) (search rules)

pub bind-returns-in-Some-clause-step : goal.bind-returns-in-Some-clause-step
bind-returns-in-Some-clause-step t c =
    rw (tree-of c.args.e.now _ _ c.in-Primary.is c.in-Call.is) (search rules)

pub bind-returns-in-System-clause-step : goal.bind-returns-in-System-clause-step
bind-returns-in-System-clause-step t c =
    rw (tree-of c.args.e.now _ _ c.in-Primary.is c.in-System.is) (search rules)

pub bind-returns-in_default-clause-step : goal.bind-returns-in_default-clause-step
bind-returns-in_default-clause-step t c =
    rw (tree-of c.args.e.now _ _ c.in-Primary.is c.in-Call.is) (search rules)

pub bind_call-push_call-requires-2-clause-arguments :
    goal.bind_call-push_call-requires-2-clause-arguments
bind_call-push_call-requires-2-clause-arguments t c =
    joined-below _ c.in_ok-given-3.given c.in_ok-taken.taken _ _ c.in_ok-given-3.ensures.below c.in_ok-taken.ensures.grows
    c.in_ok-taken.ensures.below c.in_ok-all.ensures

pub bind_part-returns-in-Range-clause-below : goal.bind_part-returns-in-Range-clause-below
bind_part-returns-in-Range-clause-below t c = c.range_at.ensures.below _

pub bind_system-returns-then-arguments-ne1-clause-step : goal.bind_system-returns-then-arguments-ne1-clause-step
bind_system-returns-then-arguments-ne1-clause-step t c =
    let other : length c.args.arguments.now ≡ 1 → ⊥ = λ one. c.if-arguments-ne1.true (ap length c.as_slice-arguments.ensures ∙ one) in
    let with_sign : given_sign c.args.id.now.name ≡ Some c.in-Some.signed = search rules in
    rw (with_sign, sole_none mode.Value (scope_seen c.args.scope.now) c.args.arguments.now other) refl

pub bind_entries-loop-part-preserved : goal.bind_entries-loop-part-preserved
bind_entries-loop-part-preserved t c =
    entries-more _ _ _ _ _ _ _ _ _ _ _ _ c.loop-part.invariant c.loop-part-test.true c.part-item.is c.in_ok-numbers.ensures
    (record { step = c.in_ok-number.ensures.step; sound = c.in_ok-number.ensures.sound; below = c.in_ok-number.ensures.below; grows = c.in_ok-number.ensures.grows })

pub bind_side-loop-k-preserved : goal.bind_side-loop-k-preserved
bind_side-loop-k-preserved t c =
    elim c.if-is_at.branch [
      | bind_side-then-is_at+in_ok-number+in_ok-numbers w ↦
          let so : goes_so (is_on c.args.side) c.args.directions.now c.loop-k.k ≡ true = search rules in
          rw (w.nodes-is, w.numbers-is)
          (side-counts _ _ _ _ _ _ _ _ _ _ _ _ _ c.loop-k.invariant c.loop-k-test.true c.index-values-k.is so w.in_ok-numbers.ensures
          (record { step = w.in_ok-number.ensures.step; sound = w.in_ok-number.ensures.sound; below = w.in_ok-number.ensures.below; grows = w.in_ok-number.ensures.grows }))
      | bind_side-else-is_at w ↦
          let so : goes_so (is_on c.args.side) c.args.directions.now c.loop-k.k ≡ false = search rules in
          rw (w.nodes-is, w.numbers-is)
          (side-skips _ _ _ _ _ _ c.index-values-k.result _ _ c.loop-k.invariant c.loop-k-test.true so)
    ]

pub bind_target-returns-in_err-number-in-Name-clause-step :
    goal.bind_target-returns-in_err-number-in-Name-clause-step
bind_target-returns-in_err-number-in-Name-clause-step t c =
    rw (tree-of c.args.e.now _ _ c.in-Primary.is c.in-Name.is) (search rules)

pub bind_target-returns-in_default-clause-step : goal.bind_target-returns-in_default-clause-step
bind_target-returns-in_default-clause-step t c =
    rw (tree-of c.args.e.now _ _ c.in-Primary.is c.in-Name.is) (search rules)

pub bind_target-returns-in_default-clause-below : goal.bind_target-returns-in_default-clause-below
bind_target-returns-in_default-clause-below t c =
    all_before-later _ _ _ c.requires.parts c.in_ok-number-in-Name.ensures.grows

pub bind_target-returns-in_ok-add_number-in-Name-clause-step :
    goal.bind_target-returns-in_ok-add_number-in-Name-clause-step
bind_target-returns-in_ok-add_number-in-Name-clause-step t c =
    rw (tree-of c.args.e.now _ _ c.in-Primary.is c.in-Name.is) (search rules)

pub bind_target-returns-in_ok-add_number-in-Name-clause-below :
    goal.bind_target-returns-in_ok-add_number-in-Name-clause-below
bind_target-returns-in_ok-add_number-in-Name-clause-below t c =
    let ns = c.bind_variable.new.nodes.items in
    let below : c.in-Some.number < length ns = search rules in
    let parts = all_before-later _ (length ns) _ c.requires.parts c.in_ok-number-in-Name.ensures.grows in
    rw c.in_ok-add_number-in-Name.ensures (all_before-push (length ns) c.in-Some.number _ parts below)

pub bind_links-loop-link-preserved : goal.bind_links-loop-link-preserved
bind_links-loop-link-preserved t c =
    links-more _ _ _ _ _ _ _ _ _ _ _ _ c.loop-link.invariant c.loop-link-test.true c.link-item.is c.in_ok-numbers.ensures
    (record { step = c.in_ok-number.ensures.step; sound = c.in_ok-number.ensures.sound; below = c.in_ok-number.ensures.below; grows = c.in_ok-number.ensures.grows })
