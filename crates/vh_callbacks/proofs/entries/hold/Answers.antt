use Rattle.std.proofs.Common.{sym, ap, ◌∙◌}
use Rattle.std.proofs.lemmas.Map.Steps.{set_value_same}
use Rattle.std.specs.Option.{option_copied_mut}
use Rattle.vh_callbacks.proofs.entries.hold.Goals as goal

pub returns-then-kept-eq0-clause-entries : goal.returns-then-kept-eq0-clause-entries
returns-then-kept-eq0-clause-entries g c =
    let found = sym c.get_mut.ensures.value ∙ ap option_copied_mut c.in-Some.is in
    (c.get_mut.follows.holds c.in-Some.kept.now).0 ∙ set_value_same _ c.args.entries.now.entries c.in-Some.kept.now found
