use Rattle.std.proofs.Common.{◌∙◌, sym, ap}
use Rattle.std.specs.Prelude.{option_copied}
use Rattle.vh_proc.proofs.RunsLemmas.{runs-found}
use Rattle.vh_proc.proofs.idle.is_in_call.Goals as goal

pub is_inside-requires : goal.is_inside-requires
is_inside-requires c =
    runs-found c.args.d.now _ c.args.all.now.entries c.in-Some.process.now c.requires (sym c.get.ensures.value ∙ ap option_copied c.in-Some.is)
