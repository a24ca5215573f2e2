use Rattle.std.proofs.Common.{◌∙◌, ap}
use Rattle.vh_bind_scope.specs.Names.{named}
use Rattle.vh_bind_scope.proofs.NamesLemmas.{named_seen}
use Rattle.vh_bind_scope.proofs.table.Table.get.Goals as goal

pub returns : goal.returns
returns c =
    c.copied.ensures ∙ c.get.ensures.value ∙ named_seen c.args.name.now c.self.inside.names.entries
    ∙ ap (named c.args.name.now) c.self.view_is
