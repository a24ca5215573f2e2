use Rattle.std.proofs.Common.{◌∙◌, Some, ap, sym, true, false}
use Rattle.vh_objects.specs.Kinds.{is_module}
use Rattle.vh_objects.proofs.RelationsLemmas.{find_around, still_there}
use Rattle.vh_objects.proofs.relation.module_from.Goals as goal

pub returns-then-is_module : goal.returns-then-is_module
returns-then-is_module c =
    let there = rw c.in-Some.is at c.loop-next.invariant.there in
    let same = rw c.in-Some.is at c.loop-next.invariant.same in
    sym (find_around is_module c.args.d.now.objects c.in-Some.scope c.object-info.result.now true there
    c.object-info.ensures.value c.object-info.ensures.scope (sym c.is_module.ensures ∙ c.if-is_module.true)) ∙ same

pub loop-next-preserved : goal.loop-next-preserved
loop-next-preserved c =
    let there = rw c.in-Some.is at c.loop-next.invariant.there in
    let same = rw c.in-Some.is at c.loop-next.invariant.same in
    record {
      same = sym (find_around is_module c.args.d.now.objects c.in-Some.scope c.object-info.result.now false there
          c.object-info.ensures.value c.object-info.ensures.scope (sym c.is_module.ensures ∙ c.if-is_module.false)) ∙ same;
      there = still_there c.object-info.result.now.parent c.in-Some.scope _ there c.object-info.ensures.scope;
    }
