use Rattle.std.proofs.Common.{◌≡◌, ◌==◌, ◌∙◌, Some, None, true, false, slice_get, sym, ap, ltb-true, ltb-false, eq-eqb, ne_eqb, nat_cmp}
use Rattle.std.proofs.lemmas.Option.{slice_get-get_or}
use Rattle.std.specs.BTreeMap.{is_at}
use Rattle.std.specs.Map.{lookup}
use Rattle.vh_queue_maps.specs.Recent.{early_len}
use Rattle.vh_queue_maps.proofs.RecentLemmas.{climbs-back, past-none, apart-none, there-some, front-none, row-past, lookup-front, lookup-back}
use Rattle.vh_queue_maps.proofs.recent.Recent.get.Goals as goal

pub early-requires : goal.early-requires
early-requires g c =
    rw (c.deref-2.ensures.value) (climbs-back c.self.inside.tree.entries c.self.inside.row.items c.self.invariant)

pub returns-in_default : goal.returns-in_default
returns-in_default g c =
    let tree = c.self.inside.tree.entries in let row = c.self.inside.row.items in let n = c.args.number in
    let n_is : c.early.result ≡ early_len n row = c.early.ensures ∙ ap (early_len n) c.deref-2.ensures.value in
    let past : slice_get row (early_len n row) ≡ None =
    ap (slice_get row) (sym n_is) ∙ ap (λ xs. slice_get xs c.early.result) (sym c.deref.ensures.value)
    ∙ row-past c.deref.result.now c.early.result (ltb-false _ _ (sym c.in_default.ensures.lookup.0)) in
    c.get-in_default.ensures.value ∙ sym (lookup-front n tree row (past-none n row past))
    ∙ ap (λ es. lookup (is_at (nat_cmp n)) es) c.self.view_is

pub returns-then-entry-number : goal.returns-then-entry-number
returns-then-entry-number g c =
    let tree = c.self.inside.tree.entries in let row = c.self.inside.row.items in let n = c.args.number in let e = c.in-Some.entry.now in
    let n_is : c.early.result ≡ early_len n row = c.early.ensures ∙ ap (early_len n) c.deref-2.ensures.value in
    let got : slice_get row (early_len n row) ≡ Some e =
    ap (slice_get row) (sym n_is) ∙ ap (λ xs. slice_get xs c.early.result) (sym c.deref.ensures.value)
    ∙ slice_get-get_or c.deref.result.now c.early.result e (ltb-true _ _ (sym c.in-Some.ensures.lookup.0)) ∙ ap Some (sym c.in-Some.ensures.lookup.1) in
    let same : (e.0 == n) ≡ true = eq-eqb e.0 n c.if-entry-number.true in
    sym (lookup-back n tree row (front-none n tree row e (early_len n row) c.self.invariant got same) ∙ (there-some n row e got same).0)
    ∙ ap (λ es. lookup (is_at (nat_cmp n)) es) c.self.view_is

pub returns : goal.returns
returns g c =
    let tree = c.self.inside.tree.entries in let row = c.self.inside.row.items in let n = c.args.number in let e = c.in-Some.entry.now in
    let n_is : c.early.result ≡ early_len n row = c.early.ensures ∙ ap (early_len n) c.deref-2.ensures.value in
    let got : slice_get row (early_len n row) ≡ Some e =
    ap (slice_get row) (sym n_is) ∙ ap (λ xs. slice_get xs c.early.result) (sym c.deref.ensures.value)
    ∙ slice_get-get_or c.deref.result.now c.early.result e (ltb-true _ _ (sym c.in-Some.ensures.lookup.0)) ∙ ap Some (sym c.in-Some.ensures.lookup.1) in
    let apart : (e.0 == n) ≡ false = ne_eqb e.0 n c.if-entry-number.false in
    c.get-2.ensures.value ∙ sym (lookup-front n tree row (apart-none n row e (climbs-back tree row c.self.invariant) got apart))
    ∙ ap (λ es. lookup (is_at (nat_cmp n)) es) c.self.view_is
