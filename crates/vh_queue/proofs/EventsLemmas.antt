-- Lemmas on `specs/Events.antt`: serials rise, and each names one entry.
use Rattle.std.proofs.Common.{◌≡◌, ℕ, zero, suc, ◌+◌, ◌≤◌, List, [], ◌∷◌, ◌++◌, map, filter, Bool, true, false, cond, Option, Some, slice_get, refl, sym, ap, subst, arith}
use Rattle.vh_queue.specs.declared.entry.Entry.{Entry}
use Rattle.vh_queue.specs.declared.region.Region.{Region}
use Rattle.vh_queue.specs.declared.region.Region.TheVariants as region
use Rattle.vh_queue.specs.declared.work.Work.{Work}
use Rattle.vh_queue.specs.Entries.{is_due, activated_entry}
use Rattle.vh_queue.specs.Events.{arrived, Rises}

-- Rising serials: below a lower bound, without some entries, with other regions or times, with one more.
pub rises-lower : (low lower high : ℕ) (es : List Entry) → lower ≤ low → Rises low high es → Rises lower high es
rises-lower low lower high [] below r = omega arith
rises-lower low lower high (e ∷ es) below r = ((let h = r.0 in omega arith), r.1)

filter-by : (b : Bool) (keep : Entry → Bool) (low high : ℕ) (e : Entry) (es : List Entry)
    → low ≤ e.serial → Rises (e.serial + 1) high (filter keep es) → Rises low high (cond b (e ∷ filter keep es) (filter keep es))
filter-by true keep low high e es below r = (below, r)
filter-by false keep low high e es below r = rises-lower (e.serial + 1) low high (filter keep es) (omega arith) r

pub rises-filter : (keep : Entry → Bool) (low high : ℕ) (es : List Entry) → Rises low high es → Rises low high (filter keep es)
rises-filter keep low high [] r = r
rises-filter keep low high (e ∷ es) r =
    filter-by (keep e) keep low high e es r.0 (rises-filter keep (e.serial + 1) high es r.1)

pub rises-map : (f : Entry → Entry) → ((e : Entry) → (f e).serial ≡ e.serial) → (low high : ℕ) (es : List Entry)
    → Rises low high es → Rises low high (map f es)
rises-map f keeps low high [] rises = rises
rises-map f keeps low high (e ∷ es) rises = (
  (let h = rises.0 in let k = keeps e in omega arith),
  (let P : ℕ → Type 0 = λ n. Rises (n + 1) high (map f es) in
      subst P (sym (keeps e)) (rises-map f keeps (e.serial + 1) high es rises.1)),
)

pub rises-added : (time : Option ℕ) (r : Region) (w : Work) (low high : ℕ) (es : List Entry) → Rises low high es
    → Rises low (high + 1) (es ++ record { serial = high; time = time; region = r; work = w } ∷ [])
rises-added time r w low high [] rises = (rises, omega arith)
rises-added time r w low high (e ∷ es) rises = (rises.0, rises-added time r w (e.serial + 1) high es rises.1)

pub rises-empty : (low high : ℕ) (es : List Entry) → Rises low high es → low ≤ high
rises-empty low high [] rises = rises
rises-empty low high (e ∷ es) rises = let h = rises-empty (e.serial + 1) high es rises.1 in let k = rises.0 in omega arith

-- What becomes of an entry keeps its serial.
activated-by : (b : Bool) (e : Entry) → (cond b (record e { region = region.Active }) e).serial ≡ e.serial
activated-by true e = refl
activated-by false e = refl

pub activated-serial : (r : Region) (now : ℕ) (e : Entry) → (activated_entry r now e).serial ≡ e.serial
activated-serial r now e = activated-by (is_due r now e) e

pub arrived-serial : (gives : Bool) (now : ℕ) (e : Entry) → (arrived gives now e).serial ≡ e.serial
arrived-serial gives now e = activated-serial region.Inactive now e

-- An entry is told by its serial.
rises-above : (low high : ℕ) (es : List Entry) (k : ℕ) (e : Entry) → Rises low high es → slice_get es k ≡ Some e → low ≤ e.serial
rises-above low high [] k e rises is = absurd (cc)
rises-above low high (x ∷ es) zero e rises is =
    let same : x ≡ e = cc in let P : Entry → Type 0 = λ y. low ≤ y.serial in subst P same rises.0
rises-above low high (x ∷ es) (suc k) e rises is =
    let h : x.serial + 1 ≤ e.serial = rises-above (x.serial + 1) high es k e rises.1 is in let m = rises.0 in omega arith

pub rises-one : (low high : ℕ) (es : List Entry) (i j : ℕ) (e f : Entry) → Rises low high es
    → slice_get es i ≡ Some e → slice_get es j ≡ Some f → e.serial ≡ f.serial → e ≡ f
rises-one low high [] i j e f rises at_i at_j same = absurd (cc)
rises-one low high (x ∷ es) zero zero e f rises at_i at_j same = cc
rises-one low high (x ∷ es) zero (suc j) e f rises at_i at_j same =
    let h : x.serial + 1 ≤ f.serial = rises-above (x.serial + 1) high es j f rises.1 at_j in
    let here : x.serial ≡ e.serial = (let xe : x ≡ e = cc in ap (λ (y : Entry). y.serial) xe) in absurd (omega arith)
rises-one low high (x ∷ es) (suc i) zero e f rises at_i at_j same =
    let h : x.serial + 1 ≤ e.serial = rises-above (x.serial + 1) high es i e rises.1 at_i in
    let here : x.serial ≡ f.serial = (let xf : x ≡ f = cc in ap (λ (y : Entry). y.serial) xf) in absurd (omega arith)
rises-one low high (x ∷ es) (suc i) (suc j) e f rises at_i at_j same =
    rises-one (x.serial + 1) high es i j e f rises.1 at_i at_j same
