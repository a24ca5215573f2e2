use Rattle.vh_store.proofs.LawsLemmas.{joins-digits, has-no-order}
use Rattle.vh_store.proofs.OpeningLemmas.{has-its-drivers, has-its-position}
use Rattle.vh_store.proofs.laws.store_laws.Goals as goal

pub returns : goal.returns
returns c = record { digits = joins-digits; order = has-no-order; opening = has-its-drivers; positions = has-its-position }
