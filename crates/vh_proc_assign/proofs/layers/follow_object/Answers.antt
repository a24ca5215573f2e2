use Rattle.std.proofs.Common.{◌∙◌, ℕ, Option, Bool, sym, ap, cond}
use Rattle.vh_proc_assign.specs.Layers.{followed_by, with_layer}
use Rattle.vh_proc_assign.proofs.AssignedLemmas.{nothing-followed}
use Rattle.vh_proc_assign.proofs.layers.follow_object.Goals as goal

pub returns-in_default-clause-made : goal.returns-in_default-clause-made
returns-in_default-clause-made c =
    nothing-followed c.args.force c.args.d.now c.args.o c.args.s.now c.args.made.now.items
    (ap (λ (e : Option ℕ). followed_by e c.args.force c.args.d.now c.args.o c.args.s.now) (sym c.expr_of.ensures ∙ c.in_default.is))

pub returns-then-not-fits_force-clause-made : goal.returns-then-not-fits_force-clause-made
returns-then-not-fits_force-clause-made c =
    let d = c.args.d.now in let o = c.args.o in let s = c.args.s.now in let e = c.in-Some.e in
    nothing-followed c.args.force d o s c.args.made.now.items
    (ap (λ (e : Option ℕ). followed_by e c.args.force d o s) (sym c.expr_of.ensures ∙ c.in-Some.is)
    ∙ ap (λ (b : Bool). cond b (with_layer c.args.force d o e s) s) (sym c.fits_force.ensures ∙ c.if-not-fits_force.true))
