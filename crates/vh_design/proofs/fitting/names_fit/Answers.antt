use Rattle.vh_design.proofs.fitting.names_fit.Goals.{then-all_shows_fit, else-all_shows_fit}
use Rattle.vh_design.proofs.fitting.names_fit.Goals as goal

-- The waits do not fit, or the display calls do not.
pub returns-else-waits_fit : goal.returns-else-waits_fit
returns-else-waits_fit c = (
  λ h. absurd (cc),
  λ fits.
      elim c.if-all_shows_fit.branch [
        | then-all_shows_fit w ↦
            let same = rw (w.deref.ensures.value, w.deref-then-all_shows_fit.ensures.value) at w.waits_fit.ensures in
            let passed = same.1 fits.waits in
            cc
        | else-all_shows_fit w ↦ let passed = c.all_shows_fit.ensures.1 fits.shows in cc
      ],
)
