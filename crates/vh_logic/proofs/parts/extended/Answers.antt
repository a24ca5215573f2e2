-- A mask of the positions above is added where the highest bit is 1.
use Rattle.vh_logic.proofs.PartsLemmas.{extended-set, extended-clear}
use Rattle.vh_logic.proofs.parts.extended.Goals as goal

pub returns-then-plane-from-eq1 : goal.returns-then-plane-from-eq1
returns-then-plane-from-eq1 c =
    λ i h. rw (c.mask.ensures, c.mask-then-plane-from-eq1.ensures)
    (extended-set c.args.from c.args.plane c.args.to i c.requires.from_least c.requires.fits c.if-plane-from-eq1.true h)

pub returns-else-plane-from-eq1 : goal.returns-else-plane-from-eq1
returns-else-plane-from-eq1 c = λ i h. extended-clear _ _ i c.requires.from_least c.requires.fits c.if-plane-from-eq1.false
