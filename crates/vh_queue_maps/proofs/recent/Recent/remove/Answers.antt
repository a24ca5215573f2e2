use Rattle.std.proofs.Common.{◌≡◌, ◌==◌, ◌++◌, ◌∙◌, Some, None, true, length, slice_get, sym, ap, subst, arith, ltb-true, ltb-false, eq-eqb, ne_eqb, nat_cmp}
use Rattle.std.proofs.lemmas.Option.{slice_get-get_or}
use Rattle.std.specs.BTreeMap.{is_at}
use Rattle.std.specs.List.{remove}
use Rattle.std.specs.List.Sorted.{IsStrictlySortedBy}
use Rattle.std.specs.Map.{keys_of, lookup, remove_entry}
use Rattle.vh_queue_maps.specs.Recent.{early_len}
use Rattle.vh_queue_maps.proofs.RecentLemmas.{HasNone, climbs-back, climbs-left, past-none, apart-none, there-some, front-none, row-past, lookup-front, lookup-back, remove-front, remove-back}
use Rattle.vh_queue_maps.proofs.recent.Recent.remove.Goals as goal

taken : {X : Type 0} {a b : X} → Some a ≡ Some b → a ≡ b
taken e = cc

pub early-at-requires : goal.early-at-requires
early-at-requires g c =
    rw (c.deref.ensures.value) (climbs-back c.self.inside.tree.entries c.self.inside.row.items c.self.invariant)

pub invariant_of-self : goal.invariant_of-self
invariant_of-self g c =
    let tree = c.self.inside.tree.entries in let row = c.self.inside.row.items in let n = c.args.number in
    let n_is : c.early-at.result ≡ early_len n row = c.early-at.ensures ∙ ap (early_len n) c.deref.ensures.value in
    let past : slice_get row (early_len n row) ≡ None =
    ap (slice_get row) (sym n_is) ∙ ap (λ xs. slice_get xs c.early-at.result) (sym c.deref-2.ensures.value)
    ∙ row-past c.deref-2.result.now c.early-at.result (ltb-false _ _ (sym c.in_default.ensures.lookup.0)) in
    let none : HasNone n row = past-none n row past in
    subst (λ es. IsStrictlySortedBy nat_cmp (keys_of es)) (remove-front n tree row none ∙ ap (λ xs. xs ++ row) (sym c.remove.ensures.entries))
    (climbs-left (is_at (nat_cmp n)) (tree ++ row) c.self.invariant)

pub returns-in_default-clause-value : goal.returns-in_default-clause-value
returns-in_default-clause-value g c =
    let tree = c.self.inside.tree.entries in let row = c.self.inside.row.items in let n = c.args.number in
    let n_is : c.early-at.result ≡ early_len n row = c.early-at.ensures ∙ ap (early_len n) c.deref.ensures.value in
    let past : slice_get row (early_len n row) ≡ None =
    ap (slice_get row) (sym n_is) ∙ ap (λ xs. slice_get xs c.early-at.result) (sym c.deref-2.ensures.value)
    ∙ row-past c.deref-2.result.now c.early-at.result (ltb-false _ _ (sym c.in_default.ensures.lookup.0)) in
    let none : HasNone n row = past-none n row past in
    c.remove.ensures.value ∙ sym (lookup-front n tree row none) ∙ ap (λ es. lookup (is_at (nat_cmp n)) es) c.self.view_is

pub returns-in_default-clause-rest : goal.returns-in_default-clause-rest
returns-in_default-clause-rest g c =
    let tree = c.self.inside.tree.entries in let row = c.self.inside.row.items in let n = c.args.number in
    let n_is : c.early-at.result ≡ early_len n row = c.early-at.ensures ∙ ap (early_len n) c.deref.ensures.value in
    let past : slice_get row (early_len n row) ≡ None =
    ap (slice_get row) (sym n_is) ∙ ap (λ xs. slice_get xs c.early-at.result) (sym c.deref-2.ensures.value)
    ∙ row-past c.deref-2.result.now c.early-at.result (ltb-false _ _ (sym c.in_default.ensures.lookup.0)) in
    let none : HasNone n row = past-none n row past in
    ap (λ xs. xs ++ row) c.remove.ensures.entries ∙ sym (remove-front n tree row none) ∙ ap (λ es. remove_entry (is_at (nat_cmp n)) es) c.self.view_is

pub invariant_of-self-then-entry-number : goal.invariant_of-self-then-entry-number
invariant_of-self-then-entry-number g c =
    let tree = c.self.inside.tree.entries in let row = c.self.inside.row.items in let n = c.args.number in
    let n_is : c.early-at.result ≡ early_len n row = c.early-at.ensures ∙ ap (early_len n) c.deref.ensures.value in
    let e = c.in-Some.entry.now in
    let got : slice_get row (early_len n row) ≡ Some e =
    ap (slice_get row) (sym n_is) ∙ ap (λ xs. slice_get xs c.early-at.result) (sym c.deref-2.ensures.value)
    ∙ slice_get-get_or c.deref-2.result.now c.early-at.result e (ltb-true _ _ (sym c.in-Some.ensures.lookup.0)) ∙ ap Some (sym c.in-Some.ensures.lookup.1) in
    let same : (e.0 == n) ≡ true = eq-eqb e.0 n c.if-entry-number.true in
    let before : HasNone n tree = front-none n tree row e (early_len n row) c.self.invariant got same in
    let left : tree ++ c.remove-then-entry-number.new.self.items ≡ remove_entry (is_at (nat_cmp n)) (tree ++ row) =
    ap (λ xs. tree ++ xs) (c.remove-then-entry-number.ensures.items ∙ ap (λ m. remove row m) n_is ∙ sym ((there-some n row e got same).1)) ∙ sym (remove-back n tree row before) in
    subst (λ es. IsStrictlySortedBy nat_cmp (keys_of es)) (sym left) (climbs-left (is_at (nat_cmp n)) (tree ++ row) c.self.invariant)

pub returns-then-entry-number-clause-value : goal.returns-then-entry-number-clause-value
returns-then-entry-number-clause-value g c =
    let tree = c.self.inside.tree.entries in let row = c.self.inside.row.items in let n = c.args.number in
    let n_is : c.early-at.result ≡ early_len n row = c.early-at.ensures ∙ ap (early_len n) c.deref.ensures.value in
    let e = c.in-Some.entry.now in
    let got : slice_get row (early_len n row) ≡ Some e =
    ap (slice_get row) (sym n_is) ∙ ap (λ xs. slice_get xs c.early-at.result) (sym c.deref-2.ensures.value)
    ∙ slice_get-get_or c.deref-2.result.now c.early-at.result e (ltb-true _ _ (sym c.in-Some.ensures.lookup.0)) ∙ ap Some (sym c.in-Some.ensures.lookup.1) in
    let same : (e.0 == n) ≡ true = eq-eqb e.0 n c.if-entry-number.true in
    let before : HasNone n tree = front-none n tree row e (early_len n row) c.self.invariant got same in
    let left : tree ++ c.remove-then-entry-number.new.self.items ≡ remove_entry (is_at (nat_cmp n)) (tree ++ row) =
    ap (λ xs. tree ++ xs) (c.remove-then-entry-number.ensures.items ∙ ap (λ m. remove row m) n_is ∙ sym ((there-some n row e got same).1)) ∙ sym (remove-back n tree row before) in
    let at = c.early-at.result in let x = c.remove-then-entry-number.result in
    let within = ltb-true _ _ (sym c.in-Some.ensures.lookup.0) in
    let long : length c.deref-2.result.now ≡ length row = ap length c.deref-2.ensures.value in
    let is : x ≡ e =
    taken (ap Some c.remove-then-entry-number.ensures.value ∙ sym (slice_get-get_or row at x (omega (arith, within, long))) ∙ ap (slice_get row) n_is ∙ got) in
    ap (λ y. Some y.1) is ∙ sym (lookup-back n tree row before ∙ (there-some n row e got same).0) ∙ ap (λ es. lookup (is_at (nat_cmp n)) es) c.self.view_is

pub returns-then-entry-number-clause-rest : goal.returns-then-entry-number-clause-rest
returns-then-entry-number-clause-rest g c =
    let tree = c.self.inside.tree.entries in let row = c.self.inside.row.items in let n = c.args.number in
    let n_is : c.early-at.result ≡ early_len n row = c.early-at.ensures ∙ ap (early_len n) c.deref.ensures.value in
    let e = c.in-Some.entry.now in
    let got : slice_get row (early_len n row) ≡ Some e =
    ap (slice_get row) (sym n_is) ∙ ap (λ xs. slice_get xs c.early-at.result) (sym c.deref-2.ensures.value)
    ∙ slice_get-get_or c.deref-2.result.now c.early-at.result e (ltb-true _ _ (sym c.in-Some.ensures.lookup.0)) ∙ ap Some (sym c.in-Some.ensures.lookup.1) in
    let same : (e.0 == n) ≡ true = eq-eqb e.0 n c.if-entry-number.true in
    let before : HasNone n tree = front-none n tree row e (early_len n row) c.self.invariant got same in
    let left : tree ++ c.remove-then-entry-number.new.self.items ≡ remove_entry (is_at (nat_cmp n)) (tree ++ row) =
    ap (λ xs. tree ++ xs) (c.remove-then-entry-number.ensures.items ∙ ap (λ m. remove row m) n_is ∙ sym ((there-some n row e got same).1)) ∙ sym (remove-back n tree row before) in
    left ∙ ap (λ es. remove_entry (is_at (nat_cmp n)) es) c.self.view_is

pub invariant_of-self-2 : goal.invariant_of-self-2
invariant_of-self-2 g c =
    let tree = c.self.inside.tree.entries in let row = c.self.inside.row.items in let n = c.args.number in
    let n_is : c.early-at.result ≡ early_len n row = c.early-at.ensures ∙ ap (early_len n) c.deref.ensures.value in
    let e = c.in-Some.entry.now in
    let got : slice_get row (early_len n row) ≡ Some e =
    ap (slice_get row) (sym n_is) ∙ ap (λ xs. slice_get xs c.early-at.result) (sym c.deref-2.ensures.value)
    ∙ slice_get-get_or c.deref-2.result.now c.early-at.result e (ltb-true _ _ (sym c.in-Some.ensures.lookup.0)) ∙ ap Some (sym c.in-Some.ensures.lookup.1) in
    let none : HasNone n row = apart-none n row e (climbs-back tree row c.self.invariant) got (ne_eqb e.0 n c.if-entry-number.false) in
    subst (λ es. IsStrictlySortedBy nat_cmp (keys_of es)) (remove-front n tree row none ∙ ap (λ xs. xs ++ row) (sym c.remove-2.ensures.entries))
    (climbs-left (is_at (nat_cmp n)) (tree ++ row) c.self.invariant)

pub returns-clause-value : goal.returns-clause-value
returns-clause-value g c =
    let tree = c.self.inside.tree.entries in let row = c.self.inside.row.items in let n = c.args.number in
    let n_is : c.early-at.result ≡ early_len n row = c.early-at.ensures ∙ ap (early_len n) c.deref.ensures.value in
    let e = c.in-Some.entry.now in
    let got : slice_get row (early_len n row) ≡ Some e =
    ap (slice_get row) (sym n_is) ∙ ap (λ xs. slice_get xs c.early-at.result) (sym c.deref-2.ensures.value)
    ∙ slice_get-get_or c.deref-2.result.now c.early-at.result e (ltb-true _ _ (sym c.in-Some.ensures.lookup.0)) ∙ ap Some (sym c.in-Some.ensures.lookup.1) in
    let none : HasNone n row = apart-none n row e (climbs-back tree row c.self.invariant) got (ne_eqb e.0 n c.if-entry-number.false) in
    c.remove-2.ensures.value ∙ sym (lookup-front n tree row none) ∙ ap (λ es. lookup (is_at (nat_cmp n)) es) c.self.view_is

pub returns-clause-rest : goal.returns-clause-rest
returns-clause-rest g c =
    let tree = c.self.inside.tree.entries in let row = c.self.inside.row.items in let n = c.args.number in
    let n_is : c.early-at.result ≡ early_len n row = c.early-at.ensures ∙ ap (early_len n) c.deref.ensures.value in
    let e = c.in-Some.entry.now in
    let got : slice_get row (early_len n row) ≡ Some e =
    ap (slice_get row) (sym n_is) ∙ ap (λ xs. slice_get xs c.early-at.result) (sym c.deref-2.ensures.value)
    ∙ slice_get-get_or c.deref-2.result.now c.early-at.result e (ltb-true _ _ (sym c.in-Some.ensures.lookup.0)) ∙ ap Some (sym c.in-Some.ensures.lookup.1) in
    let none : HasNone n row = apart-none n row e (climbs-back tree row c.self.invariant) got (ne_eqb e.0 n c.if-entry-number.false) in
    ap (λ xs. xs ++ row) c.remove-2.ensures.entries ∙ sym (remove-front n tree row none) ∙ ap (λ es. remove_entry (is_at (nat_cmp n)) es) c.self.view_is
