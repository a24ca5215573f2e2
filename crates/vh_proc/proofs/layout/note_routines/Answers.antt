use Rattle.std.proofs.Common.{◌≡◌, ℕ, true, Some, subst, arith}
use Rattle.vh_design_code.specs.declared.code.Code.{Code}
use Rattle.vh_design.specs.Validity.{body_at}
use Rattle.vh_design_nodes.specs.Fits.{has_body}
use Rattle.vh_proc.specs.declared.layout.Owner.TheVariants as owner
use Rattle.vh_proc.specs.Homes.{Says, SaysAll}
use Rattle.vh_proc.proofs.HomesLemmas.{next-own, next-body, body-below, code-below}
use Rattle.vh_proc.proofs.layout.note_routines.Goals as goal

pub loop-o-preserved : goal.loop-o-preserved
loop-o-preserved c =
    let d = c.args.d.now in
    let new = c.note_routine.new.homes.entries in record {
      own = next-own d c.loop-o.homes.entries new c.loop-o.o c.loop-o.invariant.own c.in_ok-note_routine.ensures.kept
          (subst (λ (r : ℕ). has_body d.objects r ≡ true → Says new (owner.Routine r) r) c.new.ensures c.in_ok-note_routine.ensures.own);
      noted = next-body d c.loop-o.homes.entries new c.loop-o.o c.loop-o.invariant.noted c.in_ok-note_routine.ensures.kept
          (subst (λ (r : ℕ). (k : Code) → body_at d r ≡ Some k → SaysAll new (owner.Routine r) k.blocks) c.new.ensures c.in_ok-note_routine.ensures.noted);
      kept = λ k o told. c.in_ok-note_routine.ensures.kept k o (c.loop-o.invariant.kept k o told);
    }

pub returns-clause-own : goal.returns-clause-own
returns-clause-own c = λ r has. c.loop-o.invariant.own r (grind (arith, body-below c.args.d.now r has)) has

pub returns-clause-noted : goal.returns-clause-noted
returns-clause-noted c = λ r k at. c.loop-o.invariant.noted r k (grind (arith, code-below c.args.d.now r k at)) at
