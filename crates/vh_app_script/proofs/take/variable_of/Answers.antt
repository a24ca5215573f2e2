-- The names of the code stand where those that contracts see do.
use Rattle.std.proofs.Common.{sym, ◌∙◌}
use Rattle.std.specs.Str.{bytes_eq}
use Rattle.vh_base.proofs.ListsLemmas.{position-seen}
use Rattle.vh_app_script.proofs.take.variable_of.Goals as goal

pub returns : goal.returns
returns c = c.get_index_of.ensures.index ∙ sym (position-seen (bytes_eq c.args.name.now) c.args.names.now.keys)
