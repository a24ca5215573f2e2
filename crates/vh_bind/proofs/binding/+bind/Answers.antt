use Rattle.std.proofs.Common.{◌≡◌, ◌∙◌, Some, ap, refl, length, rules}
use Rattle.vh_bind.specs.declared.scope.Mode.TheVariants as mode
use Rattle.vh_bind.specs.Constants.{given_sign}
use Rattle.vh_bind.specs.Views.{scope_seen}
use Rattle.vh_bind.proofs.FoldsLemmas.{entries-more, links-more, sole_none}
use Rattle.vh_bind.proofs.TreesLemmas.{tree-of, tree-Chain}
use Rattle.vh_bind.proofs.binding.+bind.Goals as goal

pub bind-returns-in_err-value-in-Name-clause-step : goal.bind-returns-in_err-value-in-Name-clause-step
bind-returns-in_err-value-in-Name-clause-step t c =
    rw (tree-of c.args.e.now _ _ c.in-Primary.is c.in-Name.is) (search rules)

pub bind-returns-in_err-value-in-Name-2-clause-step : goal.bind-returns-in_err-value-in-Name-2-clause-step
bind-returns-in_err-value-in-Name-2-clause-step t c =
    rw (tree-of c.args.e.now _ _ c.in-Primary.is c.in-Name.is) (search rules)

pub bind-returns-in_ok-value-in-Name-2-clause-step : goal.bind-returns-in_ok-value-in-Name-2-clause-step
bind-returns-in_ok-value-in-Name-2-clause-step t c =
    rw (tree-of c.args.e.now _ _ c.in-Primary.is c.in-Name.is) (search rules)

pub bind-returns-in-Call-clause-step : goal.bind-returns-in-Call-clause-step
bind-returns-in-Call-clause-step t c =
    rw (tree-of c.args.e.now _ _ c.in-Primary.is c.in-Call.is) (search rules)

pub bind-returns-in-System-clause-step : goal.bind-returns-in-System-clause-step
bind-returns-in-System-clause-step t c =
    rw (tree-of c.args.e.now _ _ c.in-Primary.is c.in-System.is) (search rules)

pub bind-returns-in_err-parts-in-Repeat-clause-step : goal.bind-returns-in_err-parts-in-Repeat-clause-step
bind-returns-in_err-parts-in-Repeat-clause-step t c =
    rw (tree-of c.args.e.now _ _ c.in-Primary.is c.in-Repeat.is) (search rules)

pub bind-returns-in_err-joined-in-Repeat-clause-step : goal.bind-returns-in_err-joined-in-Repeat-clause-step
bind-returns-in_err-joined-in-Repeat-clause-step t c =
    rw (tree-of c.args.e.now _ _ c.in-Primary.is c.in-Repeat.is) (search rules)

pub bind-returns-in_ok-joined-in-Repeat-clause-step : goal.bind-returns-in_ok-joined-in-Repeat-clause-step
bind-returns-in_ok-joined-in-Repeat-clause-step t c =
    rw (tree-of c.args.e.now _ _ c.in-Primary.is c.in-Repeat.is) (search rules)

pub bind-returns-in_err-rest-in-Chain-clause-step : goal.bind-returns-in_err-rest-in-Chain-clause-step
bind-returns-in_err-rest-in-Chain-clause-step t c =
    rw (tree-Chain c.args.e.now c.in-Chain.first c.in-Chain.links c.in-Chain.is) (search rules)

pub bind-returns-in_ok-operators-in-Chain-clause-step : goal.bind-returns-in_ok-operators-in-Chain-clause-step
bind-returns-in_ok-operators-in-Chain-clause-step t c =
    rw (tree-Chain c.args.e.now c.in-Chain.first c.in-Chain.links c.in-Chain.is) (search rules)

pub bind_system-returns-then-arguments-ne1-clause-step : goal.bind_system-returns-then-arguments-ne1-clause-step
bind_system-returns-then-arguments-ne1-clause-step t c =
    let other : length c.args.arguments.now ≡ 1 → ⊥ = λ one. c.if-arguments-ne1.true (ap length c.as_slice-arguments.ensures ∙ one) in
    let with_sign : given_sign c.args.id.now.name ≡ Some c.in-Some.signed = search rules in
    rw (with_sign, sole_none mode.Constant (scope_seen c.args.scope.now) c.args.arguments.now other) refl

pub bind_entries-loop-part-preserved : goal.bind_entries-loop-part-preserved
bind_entries-loop-part-preserved t c =
    entries-more _ _ _ _ _ _ _ _ _ _ _ _ c.loop-part.invariant c.loop-part-test.true c.part-item.is c.in_ok-numbers.ensures
    (record { step = c.in_ok-number.ensures.step; sound = c.in_ok-number.ensures.sound; below = c.in_ok-number.ensures.below; grows = c.in_ok-number.ensures.grows })

pub bind_links-loop-link-preserved : goal.bind_links-loop-link-preserved
bind_links-loop-link-preserved t c =
    links-more _ _ _ _ _ _ _ _ _ _ _ _ c.loop-link.invariant c.loop-link-test.true c.link-item.is c.in_ok-numbers.ensures
    (record { step = c.in_ok-number.ensures.step; sound = c.in_ok-number.ensures.sound; below = c.in_ok-number.ensures.below; grows = c.in_ok-number.ensures.grows })
