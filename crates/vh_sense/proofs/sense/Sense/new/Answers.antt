use Rattle.std.proofs.Common.{◌≡◌, ◌<◌, ◌∙◌, length, true, arith, Some}
use Rattle.vh_sense.specs.Views.{names_at}
use Rattle.vh_sense.proofs.ViewsLemmas.{holds-nobody, waits_inside, readers_are}
use Rattle.vh_sense.proofs.sense.Sense.new.Goals as goal

pub invariant_of-result : goal.invariant_of-result
invariant_of-result c =
    holds-nobody c.in_ok-waits_of.field-0.items c.in_ok-empty_sets.field-0.items c.new.result.entries c.in_ok-empty_sets.ensures.empty c.new.ensures.empty
    (λ w o h.
    let named : names_at c.args.d.now.waits (Some w) o ≡ true = rw (← c.in_ok-waits_of.ensures) h in
    let below : o < length c.args.d.now.objects = waits_inside c.args.d.now w o c.counts.ensures.valid named in
    let size = c.in_ok-empty_sets.ensures.count in let objects = c.counts.ensures.objects in
    omega (arith, below, size, objects))
    c.new.ensures.ordered

pub returns : goal.returns
returns c = record {
  made = record { waits = c.in_ok-waits_of.ensures; readers = λ o below. readers_are c.in_ok-readers_of.field-0.items o ∙ c.in_ok-readers_of.ensures o below };
  nobody = c.new.ensures.empty;
}
