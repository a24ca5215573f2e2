use Rattle.std.proofs.Common.{◌∙◌, ◌<◌, ◌||◌, Bool, length, sym, ap, arith}
use Rattle.vh_design.specs.Laws.{parts_of}
use Rattle.vh_sense.proofs.ReadsLemmas.{part_before, one_part_more, part_there}
use Rattle.vh_proc_simulation.specs.Clock.{is_clock, asks_below}
use Rattle.vh_proc_simulation.proofs.ClockLemmas.{all_parts}
use Rattle.vh_proc_simulation.proofs.clock.+asks_in.Goals as goal
use Rattle.vh_proc_simulation.proofs.clock.+asks_in.Goals.{in-Some, in_default}

pub asks_in-found-requires : goal.asks_in-found-requires
asks_in-found-requires t c =
    let before : c.in-Some.part < c.args.e = part_before c.args.d.now.objects c.args.d.now.precision c.args.e c.expr.result.now.kind c.loop-k.k c.in-Some.part
    c.expr.ensures.fits (sym c.part_at.ensures ∙ c.in-Some.is) in
    let r : c.args.e < length c.args.d.now.exprs = c.requires in
    (omega (arith, before, c.decreases), omega (arith, before, r))

pub loop-k-preserved : goal.loop-k-preserved
loop-k-preserved t c =
    let e = c.args.e in let ns = c.args.d.now.exprs in let k = c.expr.result.now.kind in
    elim c.match-part_at.branch [
      | in-Some w ↦
          let at = sym c.part_at.ensures ∙ w.in-Some.is in
          let part = w.in-Some.part in
          let before : part < e = part_before c.args.d.now.objects c.args.d.now.precision e k c.loop-k.k part c.expr.ensures.fits at in
          w.found-is
          ∙ ap (λ (b : Bool). c.loop-k.found || b) (w.asks_in-found.ensures e before)
          ∙ ap (λ (b : Bool). b || asks_below e ns part) c.loop-k.invariant
          ∙ sym (one_part_more (asks_below e ns) (is_clock k) (parts_of k) c.loop-k.k part at)
      | in_default w ↦
          absurd (part_there (parts_of k) c.loop-k.k (c.count_parts-k-end.result) c.count_parts-k-end.ensures c.loop-k-test.true
          (sym c.part_at.ensures ∙ w.in_default.is))
    ]

pub returns : goal.returns
returns t c = λ k above.
    c.loop-k.invariant
    ∙ all_parts k c.args.d.now.exprs c.args.e c.expr.result.now c.loop-k.k above c.expr.ensures.value
    (rw (← c.count_parts-k-end.ensures) c.loop-k-test.false)
