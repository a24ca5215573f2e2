use Rattle.std.proofs.Common.{ℕ, List, ◌++◌, ◌∷◌, [], sym, subst}
use Rattle.vh_callbacks.specs.Callbacks.{Rise}
use Rattle.vh_callbacks.specs.Keeping.{live_of, is_live_one}
use Rattle.vh_callbacks.specs.Marks.{IsSet}
use Rattle.vh_callbacks.specs.Watching.{Indexes}
use Rattle.vh_callbacks.proofs.KeepingLemmas.{live_more, rise_passing}
use Rattle.vh_callbacks.proofs.WatchingLemmas.{numbers_are, set_end, indexed_more, undone}
use Rattle.vh_callbacks.proofs.entries.put.Goals as goal

pub add-requires : goal.add-requires
add-requires g c =
    let es = c.args.entries.now.entries in
    let n = c.new-c.result in
    let w = c.watch_of-w.result in
    let rising : Rise 1 es n = rw c.new-c.ensures c.requires.rising in
    subst (λ (ns : List ℕ). IsSet (ns ++ n ∷ [])) (sym (numbers_are (live_of es) c.args.index.now.entries c.requires.indexed w))
    (set_end w n (live_of es) (rise_passing is_live_one 1 es n rising) c.requires.few)

pub returns-in-Err-clause-indexed : goal.returns-in-Err-clause-indexed
returns-in-Err-clause-indexed g c =
    let es = c.args.entries.now.entries in
    let rising : Rise 1 es c.new-c.result = rw c.new-c.ensures c.requires.rising in
    rw c.in-Err.ensures.kept
    (undone c.watch_of-w.result c.new-c.result (live_of es) c.args.index.now.entries c.add.new.index.entries c.take.new.index.entries
    (rise_passing is_live_one 1 es c.new-c.result rising) c.requires.indexed c.in-Ok.ensures.ok c.take.ensures)

pub returns-in-Ok-put_last-clause-indexed : goal.returns-in-Ok-put_last-clause-indexed
returns-in-Ok-put_last-clause-indexed g c =
    let es = c.args.entries.now.entries in
    let index = c.add.new.index.entries in
    let P : ℕ → Type 0 = λ n. Indexes index (live_of es ++ (n, c.args.live) ∷ []) in
    rw (c.in-Ok-put_last.ensures.ok, live_more es c.args.number c.args.live)
    (subst P c.new-c.ensures
    (indexed_more c.watch_of-w.result c.new-c.result c.args.live (live_of es) c.args.index.now.entries index c.watch_of-w.ensures c.requires.indexed c.in-Ok.ensures.ok))
