use Rattle.std.proofs.Common.{◌≡◌, true, length, rules}
use Rattle.vh_design_code.specs.Operations.{fits_write}
use Rattle.vh_proc_turn.proofs.ForciblesLemmas.{forces-as-writes}
use Rattle.vh_proc_turn.proofs.rows.take_effect.Goals as goal

pub assign_object-requires : goal.assign_object-requires
assign_object-requires c =
    let os = c.args.d.now.objects in let count = length c.args.d.now.exprs in
    let fits : fits_write os count c.in-Procedural.object c.in-Procedural.value ≡ true = search rules in
    forces-as-writes os count c.in-Procedural.object c.in-Procedural.value fits
