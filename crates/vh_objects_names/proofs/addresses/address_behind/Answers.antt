use Rattle.std.proofs.Common.{◌∷◌, [], Some, None}
use Rattle.std.proofs.lemmas.Slice.Eq.{strip_prefix_is, strip_suffix_is}
use Rattle.std.proofs.lemmas.Bool.Decides.{Decides-eqb}
use Rattle.vh_objects_names.proofs.AddressesLemmas.{word-of, no-front}
use Rattle.vh_objects_names.proofs.addresses.address_behind.Goals as goal

pub returns-in_default : goal.returns-in_default
returns-in_default c = no-front c.args.name.now c.args.text.now (strip_prefix_is Decides-eqb c.args.text.now c.args.name.now None c.in_default.ensures.cases)

pub returns : goal.returns
returns c = word-of c.args.name.now c.args.text.now c.in-Some.behind.now c.in-Some-strip_prefix.open.now c.in-Some-strip_suffix.digits.now c.number_of.result
    (strip_prefix_is Decides-eqb c.args.text.now c.args.name.now (Some c.in-Some.behind) c.in-Some.ensures.cases)
    (strip_prefix_is Decides-eqb c.in-Some.behind.now (91 ∷ []) (Some c.in-Some-strip_prefix.open) c.in-Some-strip_prefix.ensures.cases)
    (strip_suffix_is Decides-eqb c.in-Some-strip_prefix.open.now (93 ∷ []) (Some c.in-Some-strip_suffix.digits) c.in-Some-strip_suffix.ensures.cases)
    c.number_of.ensures
