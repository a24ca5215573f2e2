-- The first, the last and the number of the entries that four regions of a time have up to a serial each. (own)
use Rattle.std.specs.Prelude.{ℕ, ◌+◌, length, Option, slice_get}
use Rattle.std.specs.BTreeSet.{BTreeSet}
use Rattle.vh_queue.specs.declared.horizons.Horizons.{Horizons}
use Rattle.vh_queue.specs.declared.key.Key.{Key}
use Rattle.vh_queue.specs.Events.{earlier_of}
use Rattle.vh_queue.specs.Ranked.{serials_of, dated_in}
use Rattle.vh_queue.specs.Serials.{later_of, last_of}

abbrev first_in : ℕ → ℕ → ℕ → BTreeSet Key → Option ℕ
first_in time r below ranked = slice_get (serials_of time r 0 below ranked) 0

abbrev last_in : ℕ → ℕ → ℕ → BTreeSet Key → Option ℕ
last_in time r below ranked = last_of (serials_of time r 0 below ranked)

abbrev count_in : ℕ → ℕ → ℕ → BTreeSet Key → ℕ
count_in time r below ranked = length (serials_of time r 0 below ranked)

-- Of the active region up to this serial, and of the others up to their horizons.
abbrev pub first_four : ℕ → ℕ → Horizons → BTreeSet Key → Option ℕ
first_four time own m ranked =
    earlier_of (earlier_of (first_in time 1 own ranked) (first_in time 2 m.inactive ranked))
    (earlier_of (first_in time 3 m.nonblocking ranked) (first_in time 4 m.monitor ranked))

abbrev pub last_four : ℕ → ℕ → Horizons → BTreeSet Key → Option ℕ
last_four time own m ranked =
    later_of (later_of (last_in time 1 own ranked) (last_in time 2 m.inactive ranked))
    (later_of (last_in time 3 m.nonblocking ranked) (last_in time 4 m.monitor ranked))

abbrev pub count_four : ℕ → ℕ → Horizons → BTreeSet Key → ℕ
count_four time own m ranked =
    (count_in time 1 own ranked + count_in time 2 m.inactive ranked) + (count_in time 3 m.nonblocking ranked + count_in time 4 m.monitor ranked)

-- The start entries of a time up to a serial, and those without a time up to theirs.
abbrev pub first_start : ℕ → ℕ → Horizons → BTreeSet Key → BTreeSet Key → BTreeSet ℕ → Option ℕ
first_start time own m plain updates untimed =
    earlier_of (earlier_of (first_in time 0 own plain) (first_in time 0 own updates)) (slice_get (dated_in m.dated untimed) 0)

abbrev pub last_start : ℕ → ℕ → Horizons → BTreeSet Key → BTreeSet Key → BTreeSet ℕ → Option ℕ
last_start time own m plain updates untimed =
    later_of (later_of (last_in time 0 own plain) (last_in time 0 own updates)) (last_of (dated_in m.dated untimed))

abbrev pub count_start : ℕ → ℕ → Horizons → BTreeSet Key → BTreeSet Key → BTreeSet ℕ → ℕ
count_start time own m plain updates untimed =
    (count_in time 0 own plain + count_in time 0 own updates) + length (dated_in m.dated untimed)
