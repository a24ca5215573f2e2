use Rattle.std.proofs.Common.{◌≡◌, ◌<◌, ℕ, List, length, Some, slice_get, refl, sym, ap, subst, ◌∙◌, arith}
use Rattle.std.specs.List.{remove}
use Rattle.std.proofs.lemmas.Option.{slice_get-get_or}
use Rattle.vh_callbacks.specs.Marks.{IsSet}
use Rattle.vh_callbacks.proofs.MarksLemmas.{set_without, removed_is, where_some}
use Rattle.vh_callbacks.proofs.numbers.Numbers.take.Goals as goal

pub invariant_of-self : goal.invariant_of-self
invariant_of-self c =
    let old = c.self.inside.items.items in
    let n = c.in_ok-c.field-0.now in
    let many : c.len.result ≡ length old = c.len.ensures.len ∙ ap (λ (ns : List ℕ). length ns) (sym c.self.view_is) in
    let within : c.args.k < length old = (let test = c.if-k-len.false in omega arith) in
    let got : slice_get old c.args.k ≡ Some n = slice_get-get_or old c.args.k n within ∙ ap (λ (m : ℕ). Some m) (sym c.in_ok-c.ensures.lookup) in
    let is : c.remove.new.self.items ≡ remove old c.args.k =
    where_some c.remove.result (c.remove.new.self.items ≡ remove old c.args.k) c.remove.ensures.items (c.remove.ensures.variant.1 (c.in_ok-c.ensures.variant.0 refl)) in
    subst IsSet (sym (is ∙ removed_is 0 old c.args.k n c.self.invariant.rising got)) (set_without n old c.self.invariant)

pub returns-clause-taken : goal.returns-clause-taken
returns-clause-taken c =
    let old = c.self.inside.items.items in
    let n = c.in_ok-c.field-0.now in
    let many : c.len.result ≡ length old = c.len.ensures.len ∙ ap (λ (ns : List ℕ). length ns) (sym c.self.view_is) in
    let within : c.args.k < length old = (let test = c.if-k-len.false in omega arith) in
    let got : slice_get old c.args.k ≡ Some n = slice_get-get_or old c.args.k n within ∙ ap (λ (m : ℕ). Some m) (sym c.in_ok-c.ensures.lookup) in
    rw (← c.self.view_is) (sym got)

pub returns-clause-left : goal.returns-clause-left
returns-clause-left c =
    let old = c.self.inside.items.items in
    let n = c.in_ok-c.field-0.now in
    let many : c.len.result ≡ length old = c.len.ensures.len ∙ ap (λ (ns : List ℕ). length ns) (sym c.self.view_is) in
    let within : c.args.k < length old = (let test = c.if-k-len.false in omega arith) in
    let got : slice_get old c.args.k ≡ Some n = slice_get-get_or old c.args.k n within ∙ ap (λ (m : ℕ). Some m) (sym c.in_ok-c.ensures.lookup) in
    let is : c.remove.new.self.items ≡ remove old c.args.k =
    where_some c.remove.result (c.remove.new.self.items ≡ remove old c.args.k) c.remove.ensures.items (c.remove.ensures.variant.1 (c.in_ok-c.ensures.variant.0 refl)) in
    rw (← c.self.view_is) (is ∙ removed_is 0 old c.args.k n c.self.invariant.rising got)
