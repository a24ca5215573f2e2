use Rattle.std.proofs.Common.{◌≡◌, ◌∷◌, ◌++◌, ◌∙◌, [], List, Some, slice_get, sym, ap}
use Rattle.vh_queue_maps.proofs.RowsLemmas.{all-from, has-first, least-of}
use Rattle.vh_queue_maps.proofs.near.Near.first.Goals as goal

front : {X : Type 0} (xs ys : List X) (x : X) → slice_get xs 0 ≡ Some x → slice_get (xs ++ ys) 0 ≡ Some x
front [] ys x is = absurd (cc)
front (y ∷ xs) ys x is = is

pub returns-in-Some-clause-all_from : goal.returns-in-Some-clause-all_from
returns-in-Some-clause-all_from c c' =
    rw (← c'.self.view_is)
    (all-from c.K.Ord.cmp c.met.K.Ord.total c'.in-Some.first.now (c'.self.inside.near.items ++ c'.self.inside.far.keys) c'.self.invariant
    (front c'.self.inside.near.items c'.self.inside.far.keys c'.in-Some.first.now (ap (λ (xs : List c.row.K.Denot). slice_get xs 0) (sym c'.deref.ensures.value) ∙ sym c'.in-Some.ensures.value)))

pub returns-in-Some-clause-member : goal.returns-in-Some-clause-member
returns-in-Some-clause-member c c' =
    rw (← c'.self.view_is)
    (has-first c.K.Ord.cmp c.met.K.Ord.total c'.in-Some.first.now (c'.self.inside.near.items ++ c'.self.inside.far.keys)
    (front c'.self.inside.near.items c'.self.inside.far.keys c'.in-Some.first.now (ap (λ (xs : List c.row.K.Denot). slice_get xs 0) (sym c'.deref.ensures.value) ∙ sym c'.in-Some.ensures.value)))

pub returns-in-Some-clause-least : goal.returns-in-Some-clause-least
returns-in-Some-clause-least c c' =
    rw (← c'.self.view_is)
    (least-of c.K.Ord.cmp c.met.K.Ord.total c'.in-Some.first.now (c'.self.inside.near.items ++ c'.self.inside.far.keys) c'.self.invariant
    (front c'.self.inside.near.items c'.self.inside.far.keys c'.in-Some.first.now (ap (λ (xs : List c.row.K.Denot). slice_get xs 0) (sym c'.deref.ensures.value) ∙ sym c'.in-Some.ensures.value)))
