use Rattle.std.proofs.Common.{◌≡◌, ◌∷◌, ◌||◌, ℕ, List, subst, rules}
use Rattle.std.specs.BTreeSet.{BTreeSet, contains}
use Rattle.std.specs.Ordering.{nat_cmp}
use Rattle.vh_proc.specs.Families.{is_of}
use Rattle.vh_proc.proofs.CallersLemmas.{none-yet, one-more, all-in, none-in}
use Rattle.vh_proc.proofs.families.Families.of_callers.Goals as goal

pub loop-k-init : goal.loop-k-init
loop-k-init c =
    let is : c.into_iter-k-iterator.result ≡ c.in-Some.callers.now.keys = search rules in
    none-yet c.args.self.now c.args.r _ c.in-Some.callers.now _ (search rules) is (search rules)

pub loop-k-preserved : goal.loop-k-preserved
loop-k-preserved c =
    let step : c.loop-k.k-iterator ≡ c.in-Some-k.k.now ∷ c.next.new.self = search rules in
    one-more c.args.self.now c.args.r c.in-Some-k.k.now c.next.new.self c.loop-k.k-iterator c.loop-k.all c.add_all.new.all c.requires step
    (subst (λ (xs : List (BTreeSet ℕ)). (p : ℕ) → contains nat_cmp c.add_all.new.all p ≡ (contains nat_cmp c.loop-k.all p || is_of xs c.in-Some-k.k.now p))
    c.deref.ensures.value c.in_ok-add_all.ensures) c.loop-k.invariant

pub returns : goal.returns
returns c = all-in c.args.self.now c.args.r c.loop-k.k-iterator c.loop-k.all (search rules) c.loop-k.invariant

pub returns-in_default : goal.returns-in_default
returns-in_default c = none-in c.args.self.now c.args.r _ (search rules) (search rules)
