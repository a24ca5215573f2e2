-- Lemmas on `specs/Views.antt`: entries as they are seen, by the ranked where they wait.
use Rattle.std.proofs.Common.{◌≡◌, ◌∙◌, ℕ, ◌<◌, Bool, true, false, not, ◌&&◌, ◌||◌, ◌==◌, cond, nat_lt, nat_le, Option, Some, None, refl, ap, arith}
use Rattle.std.proofs.lemmas.Bool.{eq-eqb, le-ltb, lt-ltb, le-leb, ltb-false}
use Rattle.std.proofs.lemmas.Bool.Decides.{nat_tests}
use Rattle.vh_queue.specs.declared.entry.Entry.{Entry}
use Rattle.vh_queue.specs.declared.horizons.Horizons.{Horizons}
use Rattle.vh_queue.specs.declared.region.Region.{Region}
use Rattle.vh_queue.specs.declared.region.Region.TheVariants as region
use Rattle.vh_queue.specs.declared.work.Work.{Work}
use Rattle.vh_queue.specs.Entries.{rank, is_at, is_due, is_active, IsPresent, HasTime, time_given}
use Rattle.vh_queue.specs.Events.{is_beyond_start}
use Rattle.vh_queue.specs.Ranked.{is_untimed, has_none, waits}
use Rattle.vh_queue.specs.Views.{Later, inactive, nonblocking, monitor, horizon_of, with_horizon, seen, IsTimely}

-- Tests of a serial.
within : (s below : ℕ) → (nat_le 0 s && nat_lt s below) ≡ nat_lt s below
within s below = grind (arith, nat_tests)

no-serial : (s : ℕ) → nat_lt s 0 ≡ false
no-serial s = le-ltb s 0 (omega arith)

itself : (n : ℕ) → (n == n) ≡ true
itself n = eq-eqb n n refl

-- Which entries are active: those of the active region, and those of another up to its horizon.
abbrev pub lanes : ℕ → ℕ → Horizons → Entry → Bool
lanes now next m e =
    (waits now 1 0 next e || waits now 2 0 m.inactive e) || (waits now 3 0 m.nonblocking e || waits now 4 0 m.monitor e)

abbrev lanes_of : ℕ → ℕ → Horizons → Option ℕ → Region → ℕ → Bool
lanes_of now next m time r s =
    (((is_at time now && rank r == 1) && (nat_le 0 s && nat_lt s next)) || ((is_at time now && rank r == 2) && (nat_le 0 s && nat_lt s m.inactive)))
    || (((is_at time now && rank r == 3) && (nat_le 0 s && nat_lt s m.nonblocking)) || ((is_at time now && rank r == 4) && (nat_le 0 s && nat_lt s m.monitor)))

lanes-start : (a z w1 w2 w3 w4 : Bool) → z ≡ false
    → (rank (cond (a && z) region.Active region.Start) == 1)
    ≡ ((((a && false) && w1) || ((a && false) && w2)) || (((a && false) && w3) || ((a && false) && w4)))
lanes-start true z w1 w2 w3 w4 is = rw is refl
lanes-start false z w1 w2 w3 w4 is = refl

lanes-active : (a z w1 w2 w3 w4 : Bool) → a ≡ true → w1 ≡ true
    → (rank (cond (a && z) region.Active region.Active) == 1)
    ≡ ((((a && true) && w1) || ((a && false) && w2)) || (((a && false) && w3) || ((a && false) && w4)))
lanes-active true true w1 w2 w3 w4 at is = rw is refl
lanes-active true false w1 w2 w3 w4 at is = rw is refl
lanes-active false z w1 w2 w3 w4 at is = absurd (cc)

lanes-inactive : (a z w1 w2 w3 w4 : Bool) → w2 ≡ z
    → (rank (cond (a && z) region.Active region.Inactive) == 1)
    ≡ ((((a && false) && w1) || ((a && true) && w2)) || (((a && false) && w3) || ((a && false) && w4)))
lanes-inactive true true w1 w2 w3 w4 is = rw is refl
lanes-inactive true false w1 w2 w3 w4 is = rw is refl
lanes-inactive false z w1 w2 w3 w4 is = refl

lanes-nonblocking : (a z w1 w2 w3 w4 : Bool) → w3 ≡ z
    → (rank (cond (a && z) region.Active region.Nonblocking) == 1)
    ≡ ((((a && false) && w1) || ((a && false) && w2)) || (((a && true) && w3) || ((a && false) && w4)))
lanes-nonblocking true true w1 w2 w3 w4 is = rw is refl
lanes-nonblocking true false w1 w2 w3 w4 is = rw is refl
lanes-nonblocking false z w1 w2 w3 w4 is = refl

lanes-monitor : (a z w1 w2 w3 w4 : Bool) → w4 ≡ z
    → (rank (cond (a && z) region.Active region.Monitor) == 1)
    ≡ ((((a && false) && w1) || ((a && false) && w2)) || (((a && false) && w3) || ((a && true) && w4)))
lanes-monitor true true w1 w2 w3 w4 is = rw is refl
lanes-monitor true false w1 w2 w3 w4 is = rw is refl
lanes-monitor false z w1 w2 w3 w4 is = refl

at-now : (now : ℕ) (time : Option ℕ) → time ≡ Some now → is_at time now ≡ true
at-now now time is = ap (λ (o : Option ℕ). is_at o now) is ∙ itself now

in-time : (s next : ℕ) → s < next → (nat_le 0 s && nat_lt s next) ≡ true
in-time s next below = within s next ∙ lt-ltb s next below

lanes-by : (now next : ℕ) (m : Horizons) (time : Option ℕ) (r : Region) (s : ℕ) → s < next → IsPresent r now time
    → (rank (cond (is_at time now && nat_lt s (horizon_of m r)) region.Active r) == 1) ≡ lanes_of now next m time r s
lanes-by now next m time region.Start s below present = lanes-start (is_at time now) (nat_lt s 0) _ _ _ _ (no-serial s)
lanes-by now next m time region.Active s below present =
    lanes-active (is_at time now) (nat_lt s 0) _ _ _ _ (at-now now time present) (in-time s next below)
lanes-by now next m time region.Inactive s below present = lanes-inactive (is_at time now) (nat_lt s m.inactive) _ _ _ _ (within s m.inactive)
lanes-by now next m time region.Nonblocking s below present =
    lanes-nonblocking (is_at time now) (nat_lt s m.nonblocking) _ _ _ _ (within s m.nonblocking)
lanes-by now next m time region.Monitor s below present = lanes-monitor (is_at time now) (nat_lt s m.monitor) _ _ _ _ (within s m.monitor)

pub active-is : (now next : ℕ) (m : Horizons) (e : Entry) → e.serial < next → IsPresent e.region now e.time
    → is_active (seen now m e) ≡ lanes now next m e
active-is now next m e below present = lanes-by now next m e.time e.region e.serial below present

-- Which wait in a region that isn't active yet.
rank-by : (b : Bool) (r : Region) (k : ℕ) → (rank (cond b region.Active r) == k) ≡ cond b (1 == k) (rank r == k)
rank-by true r k = refl
rank-by false r k = refl

left-by : (horizon s next : ℕ) → s < next → cond (nat_lt s horizon) false true ≡ (nat_le horizon s && nat_lt s next)
left-by horizon s next below = grind (arith, nat_tests)

either-false : (b : Bool) → cond b false false ≡ false
either-false true = refl
either-false false = refl

waiting-by : (now next : ℕ) (m : Horizons) (q r : Region) (s : ℕ) → s < next → Later r
    → (rank (cond (nat_lt s (horizon_of m q)) region.Active q) == rank r) ≡ ((rank q == rank r) && (nat_le (horizon_of m r) s && nat_lt s next))
waiting-by now next m region.Start region.Inactive s below later = rank-by (nat_lt s 0) region.Start 2 ∙ either-false (nat_lt s 0)
waiting-by now next m region.Active region.Inactive s below later = rank-by (nat_lt s 0) region.Active 2 ∙ either-false (nat_lt s 0)
waiting-by now next m region.Inactive region.Inactive s below later = rank-by (nat_lt s m.inactive) region.Inactive 2 ∙ left-by m.inactive s next below
waiting-by now next m region.Nonblocking region.Inactive s below later =
    rank-by (nat_lt s m.nonblocking) region.Nonblocking 2 ∙ either-false (nat_lt s m.nonblocking)
waiting-by now next m region.Monitor region.Inactive s below later = rank-by (nat_lt s m.monitor) region.Monitor 2 ∙ either-false (nat_lt s m.monitor)
waiting-by now next m region.Start region.Nonblocking s below later = rank-by (nat_lt s 0) region.Start 3 ∙ either-false (nat_lt s 0)
waiting-by now next m region.Active region.Nonblocking s below later = rank-by (nat_lt s 0) region.Active 3 ∙ either-false (nat_lt s 0)
waiting-by now next m region.Inactive region.Nonblocking s below later =
    rank-by (nat_lt s m.inactive) region.Inactive 3 ∙ either-false (nat_lt s m.inactive)
waiting-by now next m region.Nonblocking region.Nonblocking s below later =
    rank-by (nat_lt s m.nonblocking) region.Nonblocking 3 ∙ left-by m.nonblocking s next below
waiting-by now next m region.Monitor region.Nonblocking s below later = rank-by (nat_lt s m.monitor) region.Monitor 3 ∙ either-false (nat_lt s m.monitor)
waiting-by now next m region.Start region.Monitor s below later = rank-by (nat_lt s 0) region.Start 4 ∙ either-false (nat_lt s 0)
waiting-by now next m region.Active region.Monitor s below later = rank-by (nat_lt s 0) region.Active 4 ∙ either-false (nat_lt s 0)
waiting-by now next m region.Inactive region.Monitor s below later =
    rank-by (nat_lt s m.inactive) region.Inactive 4 ∙ either-false (nat_lt s m.inactive)
waiting-by now next m region.Nonblocking region.Monitor s below later =
    rank-by (nat_lt s m.nonblocking) region.Nonblocking 4 ∙ either-false (nat_lt s m.nonblocking)
waiting-by now next m region.Monitor region.Monitor s below later = rank-by (nat_lt s m.monitor) region.Monitor 4 ∙ left-by m.monitor s next below
waiting-by now next m q region.Start s below (inactive is) = absurd (cc)
waiting-by now next m q region.Start s below (nonblocking is) = absurd (cc)
waiting-by now next m q region.Start s below (monitor is) = absurd (cc)
waiting-by now next m q region.Active s below (inactive is) = absurd (cc)
waiting-by now next m q region.Active s below (nonblocking is) = absurd (cc)
waiting-by now next m q region.Active s below (monitor is) = absurd (cc)

later-rank : (r : Region) → Later r → (0 == rank r) ≡ false
later-rank region.Start (inactive is) = absurd (cc)
later-rank region.Start (nonblocking is) = absurd (cc)
later-rank region.Start (monitor is) = absurd (cc)
later-rank region.Active later = refl
later-rank region.Inactive later = refl
later-rank region.Nonblocking later = refl
later-rank region.Monitor later = refl

some-by : (a z c : Bool) (q : Region) (k : ℕ) → (rank (cond z region.Active q) == k) ≡ ((rank q == k) && c)
    → (a && (rank (cond (a && z) region.Active q) == k)) ≡ ((a && (rank q == k)) && c)
some-by true z c q k same = same
some-by false z c q k same = refl

no-and : (a b : Bool) → b ≡ false → (a && b) ≡ false
no-and true b is = is
no-and false b is = refl

due-by : (now next : ℕ) (m : Horizons) (time : Option ℕ) (q : Region) (w : Work) (s : ℕ) (r : Region) → s < next → HasTime q w time → Later r
    → (is_at (time_given (nat_lt s m.dated) now time) now && (rank (cond (is_at time now && nat_lt s (horizon_of m q)) region.Active q) == rank r))
    ≡ ((is_at time now && rank q == rank r) && (nat_le (horizon_of m r) s && nat_lt s next))
due-by now next m None q w s r below timed later =
    no-and (is_at (time_given (nat_lt s m.dated) now None) now) (rank q == rank r)
    (ap (λ (n : ℕ). n == rank r) timed.0 ∙ later-rank r later)
due-by now next m (Some t) q w s r below timed later =
    some-by (t == now) (nat_lt s (horizon_of m q)) (nat_le (horizon_of m r) s && nat_lt s next) q (rank r) (waiting-by now next m q r s below later)

pub due-is : (now next : ℕ) (m : Horizons) (r : Region) (e : Entry) → e.serial < next → IsTimely now e → Later r
    → is_due r now (seen now m e) ≡ waits now (rank r) (horizon_of m r) next e
due-is now next m r e below timely later = due-by now next m e.time e.region e.work e.serial r below timely.timed later

-- Which start entries are due: those of the time, and those that have got it.
start-none : (d : Bool) (now n : ℕ) (c : Bool) → n ≡ 0 → (is_at (time_given d now None) now && (n == 0)) ≡ (((false && (n == 0)) && c) || (true && d))
start-none true now n c is = rw (is, itself now) refl
start-none false now n c is = refl

start-region : (z c : Bool) (q : Region) → (rank q ≡ 0 → z ≡ false) → c ≡ true
    → (rank (cond z region.Active q) == 0) ≡ ((rank q == 0) && c)
start-region z c region.Start without_horizon is = rw (without_horizon refl, is) refl
start-region true c region.Active without_horizon is = refl
start-region false c region.Active without_horizon is = refl
start-region true c region.Inactive without_horizon is = refl
start-region false c region.Inactive without_horizon is = refl
start-region true c region.Nonblocking without_horizon is = refl
start-region false c region.Nonblocking without_horizon is = refl
start-region true c region.Monitor without_horizon is = refl
start-region false c region.Monitor without_horizon is = refl

no-horizon : (m : Horizons) (q : Region) (s : ℕ) → rank q ≡ 0 → nat_lt s (horizon_of m q) ≡ false
no-horizon m region.Start s is = no-serial s
no-horizon m region.Active s is = absurd (omega (arith, is))
no-horizon m region.Inactive s is = absurd (omega (arith, is))
no-horizon m region.Nonblocking s is = absurd (omega (arith, is))
no-horizon m region.Monitor s is = absurd (omega (arith, is))

or-nothing : (b d : Bool) → b ≡ (b || (false && d))
or-nothing true d = refl
or-nothing false d = refl

start-by : (now next : ℕ) (m : Horizons) (time : Option ℕ) (q : Region) (w : Work) (s : ℕ) → s < next → HasTime q w time
    → (is_at (time_given (nat_lt s m.dated) now time) now && (rank (cond (is_at time now && nat_lt s (horizon_of m q)) region.Active q) == 0))
    ≡ (((is_at time now && rank q == 0) && (nat_le 0 s && nat_lt s next)) || (has_none time && nat_lt s m.dated))
start-by now next m None q w s below timed = start-none (nat_lt s m.dated) now (rank q) (nat_le 0 s && nat_lt s next) timed.0
start-by now next m (Some t) q w s below timed =
    some-by (t == now) (nat_lt s (horizon_of m q)) (nat_le 0 s && nat_lt s next) q 0
    (start-region (nat_lt s (horizon_of m q)) (nat_le 0 s && nat_lt s next) q (no-horizon m q s) (in-time s next below))
    ∙ or-nothing _ (nat_lt s m.dated)

pub start-is : (now next : ℕ) (m : Horizons) (e : Entry) → e.serial < next → IsTimely now e
    → is_due region.Start now (seen now m e) ≡ (waits now 0 0 next e || (is_untimed e && nat_lt e.serial m.dated))
start-is now next m e below timely = start-by now next m e.time e.region e.work e.serial below timely.timed

-- Which entries of a time aren't of its start.
beyond-none : (a b : Bool) → b ≡ true → (a && not b) ≡ false
beyond-none true b is = rw is refl
beyond-none false b is = refl

beyond-some : (a z w1 w2 w3 w4 : Bool) (q : Region) → (rank q ≡ 0 → z ≡ false) → w1 ≡ true
    → (a && not (rank (cond z region.Active q) == 0))
    ≡ ((((a && rank q == 1) && w1) || ((a && rank q == 2) && w1)) || (((a && rank q == 3) && w1) || ((a && rank q == 4) && w1)))
beyond-some false z w1 w2 w3 w4 q without_horizon is = refl
beyond-some true z w1 w2 w3 w4 region.Start without_horizon is = rw (without_horizon refl) refl
beyond-some true true w1 w2 w3 w4 region.Active without_horizon is = rw is refl
beyond-some true false w1 w2 w3 w4 region.Active without_horizon is = rw is refl
beyond-some true true w1 w2 w3 w4 region.Inactive without_horizon is = rw is refl
beyond-some true false w1 w2 w3 w4 region.Inactive without_horizon is = rw is refl
beyond-some true true w1 w2 w3 w4 region.Nonblocking without_horizon is = rw is refl
beyond-some true false w1 w2 w3 w4 region.Nonblocking without_horizon is = rw is refl
beyond-some true true w1 w2 w3 w4 region.Monitor without_horizon is = rw is refl
beyond-some true false w1 w2 w3 w4 region.Monitor without_horizon is = rw is refl

abbrev pub beyond : ℕ → ℕ → Entry → Bool
beyond time next e = (waits time 1 0 next e || waits time 2 0 next e) || (waits time 3 0 next e || waits time 4 0 next e)

beyond-by : (now next t : ℕ) (m : Horizons) (time : Option ℕ) (q : Region) (w : Work) (s : ℕ) → s < next → HasTime q w time
    → (is_at (time_given (nat_lt s m.dated) now time) t && not (rank (cond (is_at time now && nat_lt s (horizon_of m q)) region.Active q) == 0))
    ≡ ((((is_at time t && rank q == 1) && (nat_le 0 s && nat_lt s next)) || ((is_at time t && rank q == 2) && (nat_le 0 s && nat_lt s next)))
    || (((is_at time t && rank q == 3) && (nat_le 0 s && nat_lt s next)) || ((is_at time t && rank q == 4) && (nat_le 0 s && nat_lt s next))))
beyond-by now next t m None q w s below timed =
    beyond-none (is_at (time_given (nat_lt s m.dated) now None) t) (rank q == 0) (ap (λ (n : ℕ). n == 0) timed.0)
beyond-by now next t m (Some u) q w s below timed =
    beyond-some (u == t) ((u == now) && nat_lt s (horizon_of m q)) (nat_le 0 s && nat_lt s next) false false false q
    (λ is. no-and (u == now) (nat_lt s (horizon_of m q)) (no-horizon m q s is)) (in-time s next below)

pub beyond-is : (now next t : ℕ) (m : Horizons) (e : Entry) → e.serial < next → IsTimely now e
    → is_beyond_start t (seen now m e) ≡ beyond t next e
beyond-is now next t m e below timely = beyond-by now next t m e.time e.region e.work e.serial below timely.timed

-- What is seen once a region is made active.
pub region-if : (b : Bool) (e : Entry) → (cond b (record e { region = region.Active }) e) ≡ record e { region = cond b region.Active e.region }
region-if true e = refl
region-if false e = refl

made-by : (a : Bool) (horizon s next : ℕ) (q : Region) → s < next
    → cond (a && nat_lt s next) region.Active q ≡ cond ((a && true) && (nat_le horizon s && nat_lt s next)) region.Active (cond (a && nat_lt s horizon) region.Active q)
made-by false horizon s next q below = refl
made-by true horizon s next q below = rw (lt-ltb s next below) (split (nat_lt s horizon) refl)
  where
    split : (b : Bool) → nat_lt s horizon ≡ b → region.Active ≡ cond (nat_le horizon s && true) region.Active (cond b region.Active q)
    split true is = active-twice (nat_le horizon s && true)
      where
        active-twice : (c : Bool) → region.Active ≡ cond c region.Active region.Active
        active-twice true = refl
        active-twice false = refl
    split false is = rw (le-leb horizon s (ltb-false s horizon is)) refl

made-other : (a : Bool) (c : Bool) (r : Region) → r ≡ cond ((a && false) && c) region.Active r
made-other true c r = refl
made-other false c r = refl

pub made-region : (now next : ℕ) (m : Horizons) (a : Bool) (q r : Region) (s : ℕ) → s < next → Later r
    → cond (a && nat_lt s (horizon_of (with_horizon r next m) q)) region.Active q
    ≡ cond ((a && rank q == rank r) && (nat_le (horizon_of m r) s && nat_lt s next)) region.Active (cond (a && nat_lt s (horizon_of m q)) region.Active q)
made-region now next m a region.Start region.Inactive s below later = made-other a _ _
made-region now next m a region.Active region.Inactive s below later = made-other a _ _
made-region now next m a region.Inactive region.Inactive s below later = made-by a m.inactive s next region.Inactive below
made-region now next m a region.Nonblocking region.Inactive s below later = made-other a _ _
made-region now next m a region.Monitor region.Inactive s below later = made-other a _ _
made-region now next m a region.Start region.Nonblocking s below later = made-other a _ _
made-region now next m a region.Active region.Nonblocking s below later = made-other a _ _
made-region now next m a region.Inactive region.Nonblocking s below later = made-other a _ _
made-region now next m a region.Nonblocking region.Nonblocking s below later = made-by a m.nonblocking s next region.Nonblocking below
made-region now next m a region.Monitor region.Nonblocking s below later = made-other a _ _
made-region now next m a region.Start region.Monitor s below later = made-other a _ _
made-region now next m a region.Active region.Monitor s below later = made-other a _ _
made-region now next m a region.Inactive region.Monitor s below later = made-other a _ _
made-region now next m a region.Nonblocking region.Monitor s below later = made-other a _ _
made-region now next m a region.Monitor region.Monitor s below later = made-by a m.monitor s next region.Monitor below
made-region now next m a q region.Start s below (inactive is) = absurd (cc)
made-region now next m a q region.Start s below (nonblocking is) = absurd (cc)
made-region now next m a q region.Start s below (monitor is) = absurd (cc)
made-region now next m a q region.Active s below (inactive is) = absurd (cc)
made-region now next m a q region.Active s below (nonblocking is) = absurd (cc)
made-region now next m a q region.Active s below (monitor is) = absurd (cc)
