use Rattle.vh_design.proofs.fitting.all_shows_fit.Goals as goal

pub returns : goal.returns
returns c =
    let same = rw (c.deref.ensures.value, c.deref-2.ensures.value, c.deref-3.ensures.value) at c.shows_fit.ensures in (
      λ passed. same.0 passed,
      λ fits. same.1 fits,
    )
