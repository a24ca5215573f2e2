use Rattle.std.proofs.Common.{◌≡◌, ◌∙◌, ℕ, sym, ap, subst, None}
use Rattle.std.specs.BTreeMap.{is_at}
use Rattle.std.specs.Map.{lookup}
use Rattle.std.specs.Option.{option_copied_mut}
use Rattle.std.specs.Ordering.{nat_cmp}
use Rattle.vh_store.proofs.ContentsLemmas.{set_absent}
use Rattle.vh_store.proofs.store.answer.Goals as goal

pub returns-in_default : goal.returns-in_default
returns-in_default c =
    let absent = subst (λ (n : ℕ). lookup (is_at (nat_cmp n)) c.args.results.now.entries ≡ None) c.number.ensures
    (sym c.get_mut.ensures.value ∙ ap option_copied_mut c.in_default.is) in
    ap (λ m. m.entries) c.get_mut.follows.holds-at-none
    ∙ sym (set_absent (is_at (nat_cmp c.args.e)) c.args.results.now.entries c.args.v.now absent)
