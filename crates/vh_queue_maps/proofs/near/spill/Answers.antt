use Rattle.std.proofs.Common.{◌≡◌, ◌++◌, ◌∙◌, ◌-◌, List, Result, Ok, Err, true, OnOk, Some, length, slice_get, sym, ap, arith}
use Rattle.std.specs.Result.{is_ok}
use Rattle.vh_queue_maps.proofs.RowsLemmas.{spilled-is}
use Rattle.vh_queue_maps.proofs.near.spill.Goals as goal

on-ok : {X Y : Type 0} (r : Result X Y) (P : Type 0) → is_ok r ≡ true → OnOk r P → P
on-ok (Ok x) P is holds = holds
on-ok (Err y) P is holds = absurd (cc)

pub returns-then-is_ok : goal.returns-then-is_ok
returns-then-is_ok c c' =
    let xs = c'.args.near.now.items in
    let last_is : Some c'.in-Some.last.now ≡ slice_get xs (length xs - 1) =
    c'.in-Some.ensures.value ∙ ap (λ (ks : List c.row.K.Denot). slice_get ks (length ks - 1)) c'.deref.ensures.value in
    ap (λ (ks : List c.row.K.Denot). c'.pop.new.self.items ++ ks) (on-ok c'.insert.result _ (sym c'.is_ok.ensures.value ∙ c'.if-is_ok.true) c'.insert.ensures.keys)
    ∙ spilled-is c.K.Ord.cmp c.met.K.Ord.total xs c'.pop.new.self.items c'.args.far.now.keys c'.pop.result c'.in-Some.last.now c'.pop.ensures.items
    (c'.pop.ensures.variant.1 (let many = c'.if-len-le-MOST_NEAR.false in let n = c'.len.ensures in omega (arith, many, n))) last_is c'.requires
