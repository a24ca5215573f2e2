use Rattle.std.proofs.Common.{rules}
use Rattle.vh_proc.proofs.HomesLemmas.{is-owner}
use Rattle.vh_proc.proofs.layout.Layout.owner.Goals as goal

pub returns-in-Some-Only : goal.returns-in-Some-Only
returns-in-Some-Only c = is-owner c.args.self.now c.self.inside.homes.entries c.args.target c.in-Some-Only.owner (search rules) (search rules)
