-- The names of the code are those that contracts see.
use Rattle.std.proofs.Common.{sym, ◌∙◌}
use Rattle.std.specs.Str.{bytes_eq}
use Rattle.vh_base.proofs.ListsLemmas.{list_any-seen}
use Rattle.vh_app_script.proofs.take.is_taken.Goals as goal

pub returns-then-counts : goal.returns-then-counts
returns-then-counts c = rw (sym c.counts.ensures, c.if-counts.true) (c.contains.ensures ∙ sym (list_any-seen (bytes_eq c.args.name.now) c.args.names.now.keys))
