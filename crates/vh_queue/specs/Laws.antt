-- What the definitions mean. (own)
use Rattle.std.specs.Prelude.{◌≡◌, ℕ, ◌≤◌, true, false, ◌==◌, Some, None, slice_get}
use Rattle.vh_queue.specs.declared.entry.Entry.{Entry}
use Rattle.vh_queue.specs.declared.region.Region.TheVariants as region
use Rattle.vh_queue.specs.Entries.{is_update, is_active}
use Rattle.vh_queue.specs.Events.{Events, any_due, eligible, entry_of, without}

-- Where no start entry is due, an update that may be picked has the least serial of the active ones.
abbrev pub UpdatesInOrder : Type 0
UpdatesInOrder =
    (q : Events) (k j : ℕ) (e f : Entry) → any_due region.Start q ≡ false → slice_get (eligible q) k ≡ Some e → is_update e.work ≡ true
    → slice_get q.entries j ≡ Some f → is_active f ≡ true → is_update f.work ≡ true → e.serial ≤ f.serial

-- A serial that was picked or cancelled has no entry any more, and any other has the entry that it had.
abbrev pub OneIsGone : Type 0
OneIsGone = (q : Events) (s : ℕ) → entry_of s (without s q) ≡ None

abbrev pub OthersStand : Type 0
OthersStand = (q : Events) (r s : ℕ) → (r == s) ≡ false → entry_of r (without s q) ≡ entry_of r q
