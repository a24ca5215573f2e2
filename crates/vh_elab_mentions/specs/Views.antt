-- How contracts see what the code holds.
use Rattle.std.specs.Prelude.{List, map}
use Rattle.std.specs.Borrow.{Bor}
use Rattle.vh_ast.specs.declared.token.Id.{Id}
use Rattle.vh_elab_mentions.specs.Mentions.{Ids}

abbrev pub ids_seen : List (Bor Id) → Ids
ids_seen ids = map (λ b. b.now) ids
