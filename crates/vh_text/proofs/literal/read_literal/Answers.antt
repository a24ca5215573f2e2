use Rattle.std.proofs.Common.{ap, ◌∙◌, sym, ℕ, List, length, take, drop, Result}
use Rattle.std.specs.List.{take_while}
use Rattle.vh_text.specs.Symbols.{is_number_byte}
use Rattle.std.proofs.lemmas.Bool.{eqb-false}
use Rattle.vh_text.specs.declared.literal.LiteralFault.{LiteralFault}
use Rattle.vh_text.specs.declared.literal.Size.{Size}
use Rattle.vh_text.specs.Literals.{by_front, behind_size, after_white, based_value, unsigned_number}
use Rattle.vh_text.proofs.LiteralsLemmas.{by_front-sized}
use Rattle.vh_text.proofs.literal.read_literal.Goals as goal

pub returns-in-Ok : goal.returns-in-Ok
returns-in-Ok c =
    let bs = c.args.bytes.now in
    let front = c.split_at.result.0.now in
    let rest = c.split_at.result.1.now in
    let front_is = c.split_at.ensures.front ∙ ap (λ n. take n bs) c.number_len.ensures.value in
    let rest_is = c.split_at.ensures.back ∙ ap (λ n. drop n bs) c.number_len.ensures.value in
    let size = sym (c.size_of_number.ensures.value (unsigned_number front) c.unsigned_number-number.ensures) ∙ c.in-Ok.is in
    let some_front = eqb-false (length front) 0 (sym c.is_empty.ensures ∙ c.if-is_empty.false) in
    let some_rest = eqb-false (length rest) 0 (sym c.is_empty-2.ensures ∙ c.if-is_empty-2.false) in
    c.based_value-in-Ok.ensures
    ∙ ap (λ (xs : List ℕ). based_value xs c.in-Ok.size) c.after_white.ensures
    ∙ sym (ap (λ (r : Result Size LiteralFault). behind_size (after_white rest) r) size)
    ∙ sym (by_front-sized front rest some_front some_rest)
    ∙ ap (λ (xs : List ℕ). by_front xs rest) front_is
    ∙ ap (λ (xs : List ℕ). by_front (take_while is_number_byte bs) xs) rest_is
