-- A mask of the positions above is added where the highest bit is 1.
use Rattle.vh_logic.proofs.PartsLemmas.{moved_down-set, moved_down-clear, moved_down-below}
use Rattle.vh_logic.proofs.shift.moved_down.Goals as goal

pub returns-then-plane-width-eq1-clause-fits : goal.returns-then-plane-width-eq1-clause-fits
returns-then-plane-width-eq1-clause-fits c = rw c.mask-all.ensures (moved_down-below _ _ _ c.requires.fits)

pub returns-then-plane-width-eq1-clause-bits : goal.returns-then-plane-width-eq1-clause-bits
returns-then-plane-width-eq1-clause-bits c =
    rw c.mask-all.ensures (λ i h. moved_down-set _ _ _ i c.requires.least c.requires.fits c.requires.inside c.if-plane-width-eq1.true h)

pub returns-else-plane-width-eq1-clause-bits : goal.returns-else-plane-width-eq1-clause-bits
returns-else-plane-width-eq1-clause-bits c =
    λ i h. moved_down-clear _ _ _ i c.requires.least c.requires.fits c.requires.inside c.if-plane-width-eq1.false h
