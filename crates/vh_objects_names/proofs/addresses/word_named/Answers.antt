use Rattle.std.proofs.Common.{sym, arith}
use Rattle.vh_objects_names.proofs.AddressesLemmas.{word-found, word-lost, other-word}
use Rattle.vh_objects_names.proofs.addresses.word_named.Goals as goal

pub returns-in_default : goal.returns-in_default
returns-in_default c =
    sym (word-lost c.args.text.now c.args.name.now c.args.lowest c.args.words (λ b low high. c.in_default.ensures b (omega (arith, high, c.ranges.lowest.fits, c.ranges.words.fits))))

pub returns-then-address-from : goal.returns-then-address-from
returns-then-address-from c =
    sym (other-word c.args.text.now c.args.name.now c.in-Some.address c.args.lowest c.args.words c.in-Some.ensures.1
    c.in-Some.ensures.0 (omega (arith, c.ranges.lowest.fits, c.ranges.words.fits))
    (λ low high. omega (arith, low, c.from.ensures, c.if-address-from.true)))

pub returns-then-address-from-2 : goal.returns-then-address-from-2
returns-then-address-from-2 c =
    sym (other-word c.args.text.now c.args.name.now c.in-Some.address c.args.lowest c.args.words c.in-Some.ensures.1
    c.in-Some.ensures.0 (omega (arith, c.ranges.lowest.fits, c.ranges.words.fits))
    (λ low high. omega (arith, low, high, c.from-2.ensures, c.from-3.ensures, c.if-address-from-2.true)))

pub returns : goal.returns
returns c =
    sym (word-found c.args.text.now c.args.name.now c.in-Some.address c.args.lowest c.args.words c.in-Some.ensures.1
    (omega (arith, c.ranges.lowest.fits, c.ranges.words.fits)) (omega (arith, c.from.ensures, c.if-address-from.false))
    (omega (arith, c.from.ensures, c.if-address-from.false, c.from-2.ensures, c.from-3.ensures, c.if-address-from-2.false)))
