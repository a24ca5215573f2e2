use Rattle.std.proofs.Common.{◌≡◌, ◌∙◌, ◌+◌, ◌-◌, ◌++◌, ℕ, List, drop, ap, arith}
use Rattle.vh_design_names.specs.Names.{dotted, name_at}
use Rattle.vh_design_names.proofs.NamesLemmas.{name_is, dotted_none, dotted_then, dotted_else}
use Rattle.vh_objects_names.proofs.paths.push_names.Goals as goal
use Rattle.vh_objects_names.proofs.paths.push_names.Goals.{then-i-scopes+in_ok-push, else-i-scopes}

pub loop-i-init : goal.loop-i-init
loop-i-init c = dotted_none c.args.d.now.objects c.args.scopes.now c.args.name.now.items

pub loop-i-preserved : goal.loop-i-preserved
loop-i-preserved c =
    let os = c.args.d.now.objects in
    let xs = c.args.scopes.now in
    let k : ℕ = c.loop-i.i - 1 in
    let next : k + 1 ≡ c.loop-i.i = omega (arith, c.loop-i-test.true) in
    let old : c.loop-i.name.items ≡ c.args.name.now.items ++ dotted os (drop (k + 1) xs) = rw next c.loop-i.invariant in
    let called =
    c.as_slice.ensures ∙ name_is os c.index-scopes-i.result c.object.result.now c.object.ensures.value
    ∙ ap (name_at os) c.index-scopes-i.is in
    c.in_ok-extend_from_slice.ensures.items
    ∙ elim c.if-i-scopes.branch [
      | then-i-scopes+in_ok-push w ↦
          ap (λ n. n.items ++ c.as_slice.result.now) w.name-is
          ∙ ap (λ (ys : List ℕ). ys ++ c.as_slice.result.now) w.in_ok-push.ensures.items
          ∙ dotted_then os xs k _ c.args.name.now.items c.loop-i.name.items c.as_slice.result.now w.if-i-scopes.true old called
      | else-i-scopes w ↦
          ap (λ n. n.items ++ c.as_slice.result.now) w.name-is
          ∙ dotted_else os xs k _ c.args.name.now.items c.loop-i.name.items c.as_slice.result.now (omega (arith, w.if-i-scopes.false, c.loop-i.auto.i, c.loop-i-test.true)) old called
    ]
