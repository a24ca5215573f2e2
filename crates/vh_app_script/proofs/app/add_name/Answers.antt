-- The names of the code grow as those that contracts see.
use Rattle.vh_app_script.proofs.Names.{names-grown}
use Rattle.vh_app_script.proofs.app.add_name.Goals as goal

pub returns : goal.returns
returns c = names-grown c.args.names.now.keys c.insert_full.new.self.keys c.args.name c.in_ok-insert_full.ensures.keys
