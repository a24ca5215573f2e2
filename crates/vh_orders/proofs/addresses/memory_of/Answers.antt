use Rattle.std.proofs.Common.{◌∷◌, [], Some, None, rules}
use Rattle.std.proofs.lemmas.Slice.Eq.{strip_suffix_is}
use Rattle.std.proofs.lemmas.Bool.Decides.{Decides-eqb}
use Rattle.vh_orders.proofs.LookUpLemmas.{memory-found, no-memory, no-end}
use Rattle.vh_orders.proofs.addresses.memory_of.Goals as goal

pub returns-in_default : goal.returns-in_default
returns-in_default c =
    no-end c.args.text.now (strip_suffix_is Decides-eqb c.args.text.now (93 ∷ []) None c.in_default.ensures.cases)

pub returns-in_default-rposition : goal.returns-in_default-rposition
returns-in_default-rposition c =
    no-memory c.args.text.now c.in-Some.inner.now
    (strip_suffix_is Decides-eqb c.args.text.now (93 ∷ []) (Some c.in-Some.inner) c.in-Some.ensures.cases) (search rules)

pub returns : goal.returns
returns c =
    memory-found c.args.text.now c.in-Some.inner.now c.in-Some-rposition.open
    (strip_suffix_is Decides-eqb c.args.text.now (93 ∷ []) (Some c.in-Some.inner) c.in-Some.ensures.cases)
    (search rules) (search rules) (search rules)
