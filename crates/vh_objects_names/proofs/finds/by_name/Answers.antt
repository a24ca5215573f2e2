use Rattle.std.proofs.Common.{◌≡◌, ◌∙◌, ◌<◌, ℕ, Option, length, ap, sym, arith, rules}
use Rattle.vh_base.specs.declared.orders.Object.{Object}
use Rattle.vh_objects_names.specs.Paths.{meant}
use Rattle.vh_objects_names.proofs.NameLawLemmas.{named-none, named-found, ordered-of}
use Rattle.vh_objects_names.proofs.LeastLemmas.{least_zero, found-value, lost-value}
use Rattle.vh_objects_names.proofs.finds.by_name.Goals as goal

pub loop-k-init : goal.loop-k-init
loop-k-init c = least_zero (meant c.args.d.now.objects c.args.scope c.args.text.now)

pub loop-k-preserved : goal.loop-k-preserved
loop-k-preserved c =
    let f : ℕ → Option Object = meant c.args.d.now.objects c.args.scope c.args.text.now in
    lost-value f c.loop-k.k c.in_ok-found.found c.loop-k.invariant (c.in_ok-found.ensures ∙ ap f c.new.ensures)
    (sym c.is_some.ensures ∙ c.if-is_some.false)

pub returns-then-is_some-clause-value : goal.returns-then-is_some-clause-value
returns-then-is_some-clause-value c =
    let f : ℕ → Option Object = meant c.args.d.now.objects c.args.scope c.args.text.now in
    let inside : c.loop-k.k < length c.args.d.now.objects = omega arith in
    found-value f c.loop-k.k (length c.args.d.now.objects) c.in_ok-found.found inside c.loop-k.invariant
    (c.in_ok-found.ensures ∙ ap f c.new.ensures) (sym c.is_some.ensures ∙ c.if-is_some.true)

pub returns-then-is_some-clause-law : goal.returns-then-is_some-clause-law
returns-then-is_some-clause-law c =
    let f : ℕ → Option Object = meant c.args.d.now.objects c.args.scope c.args.text.now in
    named-found c.args.d.now.objects c.args.scope c.args.text.now c.loop-k.k c.in_ok-found.found
    (ordered-of c.args.d.now c.counts-k-end.ensures.valid c.design_laws.ensures.scopes) c.loop-k.invariant
    (c.in_ok-found.ensures ∙ ap f c.new.ensures) (sym c.is_some.ensures ∙ c.if-is_some.true)

pub returns-clause-law : goal.returns-clause-law
returns-clause-law c =
    named-none c.args.d.now.objects c.args.scope c.args.text.now
    (ordered-of c.args.d.now c.counts-k-end.ensures.valid c.design_laws.ensures.scopes) (search rules)
