use Rattle.std.proofs.Common.{ℕ, List, ◌<◌, ◌^◌, ◌∙◌, sym, subst}
use Rattle.std.specs.Str.Parse.{IsNumeral, digits_value, without_leading_plus}
use Rattle.vh_objects_names.proofs.AddressesLemmas.{not-canonical, no-text, no-number, is-number, Reads}
use Rattle.vh_objects_names.proofs.addresses.number_of.Goals as goal

pub returns-then-not-is_canonical : goal.returns-then-not-is_canonical
returns-then-not-is_canonical c = not-canonical c.args.digits.now (sym c.is_canonical.ensures ∙ c.if-not-is_canonical.true)

pub returns-in_default : goal.returns-in_default
returns-in_default c = no-text c.args.digits.now c.in_default.ensures.cases.0

pub returns-in-Ok-parse : goal.returns-in-Ok-parse
returns-in-Ok-parse c =
    is-number c.args.digits.now c.in-Ok-parse.number (sym c.is_canonical.ensures ∙ c.if-not-is_canonical.false)
    (subst (λ (t : List ℕ). Reads t c.in-Ok-parse.number) c.in-Ok.ensures.cases.0 c.in-Ok-parse.ensures.value.0)

pub returns-in-Err : goal.returns-in-Err
returns-in-Err c = no-number c.args.digits.now c.in-Err.field-0
    (subst (λ (t : List ℕ). ((IsNumeral 10 (without_leading_plus t) × (digits_value 10 (without_leading_plus t) < 2 ^ 64)) → ⊥)) c.in-Ok.ensures.cases.0 c.in-Err.ensures.value.0)
