use Rattle.std.proofs.Common.{rules, ◌≡◌, sym}
use Rattle.vh_elab_declare.proofs.GivenLemmas.{given-at}
use Rattle.vh_elab_declare.proofs.given.Given.of.Goals as goal

pub returns-in-None : goal.returns-in-None
returns-in-None c =
    rw (sym c.self.view_is)
    (rw (given-at c.self.inside.names c.self.inside.values.items c.args.name.now c.self.invariant) (search rules))

pub returns-in-Some : goal.returns-in-Some
returns-in-Some c =
    rw (sym c.self.view_is)
    (rw (given-at c.self.inside.names c.self.inside.values.items c.args.name.now c.self.invariant) (search rules))
