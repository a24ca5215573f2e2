-- Which drivers a net has before all.
use Rattle.std.proofs.Common.{◌≡◌, ◌∙◌, ◌≢◌, ◌==◌, ◌+◌, ℕ, zero, suc, List, [], ◌∷◌, ◌++◌, map, filter, take, length, Bool, true, false, cond, Option, Some, None, slice_get, slice_set, refl, ap, sym, arith, append_assoc, length-append}
use Rattle.std.specs.List.{fold}
use Rattle.std.specs.Option.{option_map}
use Rattle.std.proofs.lemmas.Bool.{eqb-true, eqb-false}
use Rattle.std.proofs.lemmas.List.{append-nil}
use Rattle.std.proofs.lemmas.Option.{slice_get-map}
use Rattle.vh_design_nodes.specs.declared.driver.DriverInfo.{DriverInfo}
use Rattle.vh_design_nodes.specs.declared.object.Kind.{Kind}
use Rattle.vh_design_nodes.specs.declared.object.Kind.TheVariants as of
use Rattle.vh_design_nodes.specs.declared.object.ObjectInfo.{ObjectInfo}
use Rattle.vh_design_nodes.specs.Kinds.{rank, is_net, is_memory}
use Rattle.vh_design.specs.Shape.{Shape}
use Rattle.vh_store.specs.declared.net.Driven.{Driven}
use Rattle.vh_store.specs.declared.store.DriverPosition.{DriverPosition}
use Rattle.vh_store.specs.Contents.{Record, Net, net, plain, with_record}
use Rattle.vh_store.specs.Opening.{table_of, undriven, opening_record, opening_driver, opening_wired, with_one_driver, count_at, Wired, wired}
use Rattle.vh_store.specs.Laws.{is_driver_of, HasItsDrivers, HasItsPosition}

-- One record is set.
set-here : {X : Type 0} (rs : List X) (o : ℕ) (r new : X) → slice_get rs o ≡ Some r → slice_get (slice_set rs o new) o ≡ Some new
set-here [] o r new there = absurd (cc)
set-here (x ∷ rs) zero r new there = refl
set-here (x ∷ rs) (suc o) r new there = set-here rs o r new there

set-there : {X : Type 0} (rs : List X) (o p : ℕ) (new : X) → o ≢ p → slice_get (slice_set rs p new) o ≡ slice_get rs o
set-there [] o p new other = refl
set-there (x ∷ rs) zero zero new other = absurd (other refl)
set-there (x ∷ rs) zero (suc p) new other = refl
set-there (x ∷ rs) (suc o) zero new other = refl
set-there (x ∷ rs) (suc o) (suc p) new other = set-there rs o p new (λ e. other (ap suc e))

-- A net with some drivers more.
abbrev driven_net : Net → List Driven → Record
driven_net n xs = plain (net (record n { drivers = xs }))

one-here : (rs : List Record) (o : ℕ) (x : DriverInfo) (n : Net) (xs : List Driven) (r : Option Record) → slice_get rs o ≡ r
    → r ≡ Some (driven_net n xs)
    → slice_get (with_record r o (with_one_driver x) rs) o ≡ Some (driven_net n (xs ++ opening_driver x ∷ []))
one-here rs o x n xs r found is =
    rw is (set-here rs o (driven_net n xs) (driven_net n (xs ++ opening_driver x ∷ [])) (found ∙ is))

one-there : (rs : List Record) (o p : ℕ) (x : DriverInfo) (r : Option Record) → o ≢ p
    → slice_get (with_record r p (with_one_driver x) rs) o ≡ slice_get rs o
one-there rs o p x None other = refl
one-there rs o p x (Some r) other = set-there rs o p (with_one_driver x r) other

its-drivers : (w : Wired) (xs : List DriverInfo) (o : ℕ) (n : Net) (ys : List Driven) → slice_get w.records o ≡ Some (driven_net n ys)
    → slice_get (fold wired w xs).records o ≡ Some (driven_net n (ys ++ map opening_driver (filter (is_driver_of o) xs)))
its-drivers w [] o n ys there = there ∙ ap (λ (zs : List Driven). Some (driven_net n zs)) (sym (append-nil ys))
its-drivers w (x ∷ xs) o n ys there = by (is_driver_of o x) (λ v zs here. its-drivers v xs o n zs here) refl
  where
    by : (b : Bool)
        → ((v : Wired) (zs : List Driven) → slice_get v.records o ≡ Some (driven_net n zs)
        → slice_get (fold wired v xs).records o ≡ Some (driven_net n (zs ++ map opening_driver (filter (is_driver_of o) xs))))
        → is_driver_of o x ≡ b
        → slice_get (fold wired w (x ∷ xs)).records o ≡ Some (driven_net n (ys ++ map opening_driver (filter (is_driver_of o) (x ∷ xs))))
    by true rest is =
        let here : x.object ≡ o = eqb-true x.object o is in
        let after : slice_get (wired w x).records o ≡ Some (driven_net n (ys ++ opening_driver x ∷ [])) =
        ap (λ (p : ℕ). slice_get (with_record (slice_get w.records p) p (with_one_driver x) w.records) o) here
        ∙ one-here w.records o x n ys (slice_get w.records o) refl there in
        rest (wired w x) (ys ++ opening_driver x ∷ []) after
        ∙ ap (λ (zs : List Driven). Some (driven_net n zs))
        (append_assoc ys (opening_driver x ∷ []) (map opening_driver (filter (is_driver_of o) xs))
        ∙ ap (λ (b : Bool). ys ++ map opening_driver (cond b (x ∷ filter (is_driver_of o) xs) (filter (is_driver_of o) xs))) (sym is))
    by false rest is =
        let other : o ≢ x.object = λ e. eqb-false x.object o is (sym e) in
        rest (wired w x) ys (one-there w.records o x.object x (slice_get w.records x.object) other ∙ there)
        ∙ ap (λ (b : Bool). Some (driven_net n (ys ++ map opening_driver (cond b (x ∷ filter (is_driver_of o) xs) (filter (is_driver_of o) xs))))) (sym is)

-- A net is no memory.
no-memory : (k : Kind) → is_net k ≡ true → is_memory k ≡ false
no-memory k is = ap (λ (n : ℕ). n == rank of.Memory) (eqb-true (rank k) (rank of.Net) is)

net-base : (d : Shape) (i : ObjectInfo) → is_net i.kind ≡ true
    → opening_record d.exprs i ≡ driven_net (record { table = table_of i.detail; undriven = undriven i; drivers = [] }) []
net-base d i is = rw (no-memory i.kind is, is) refl

pub has-its-drivers : HasItsDrivers
has-its-drivers d o i there is =
    its-drivers (record { records = map (opening_record d.exprs) d.objects; drivers = [] }) d.drivers o
    (record { table = table_of i.detail; undriven = undriven i; drivers = [] }) []
    (slice_get-map (opening_record d.exprs) d.objects o ∙ ap (λ (x : Option ObjectInfo). option_map (opening_record d.exprs) x) there
    ∙ ap Some (net-base d i is))

-- A list that gets longer keeps what it has; the last comes to its end.
get-front : {X : Type 0} (xs ys : List X) (k : ℕ) (x : X) → slice_get xs k ≡ Some x → slice_get (xs ++ ys) k ≡ Some x
get-front [] ys k x there = absurd (cc)
get-front (z ∷ xs) ys zero x there = there
get-front (z ∷ xs) ys (suc k) x there = get-front xs ys k x there

get-last : {X : Type 0} (xs : List X) (x : X) → slice_get (xs ++ x ∷ []) (length xs) ≡ Some x
get-last [] x = refl
get-last (z ∷ xs) x = get-last xs x

-- What has its position keeps it.
position-stays : (w : Wired) (xs : List DriverInfo) (k : ℕ) (p : DriverPosition) → slice_get w.drivers k ≡ Some p
    → slice_get (fold wired w xs).drivers k ≡ Some p
position-stays w [] k p there = there
position-stays w (x ∷ xs) k p there = position-stays (wired w x) xs k p (get-front w.drivers _ k p there)

count-of : (r : Option Record) (n : Net) (ys : List Driven) → r ≡ Some (driven_net n ys) → count_at r ≡ length ys
count-of r n ys is = ap count_at is

-- A net has one driver more, or is left alone.
one-more : (w : Wired) (x : DriverInfo) (o : ℕ) (n : Net) (ys : List Driven) → slice_get w.records o ≡ Some (driven_net n ys)
    → (b : Bool) → is_driver_of o x ≡ b
    → (zs : List Driven) × (slice_get (wired w x).records o ≡ Some (driven_net n zs)) × (length zs ≡ length (filter (is_driver_of o) (x ∷ [])) + length ys)
one-more w x o n ys there true is =
    let here : x.object ≡ o = eqb-true x.object o is in (
      ys ++ opening_driver x ∷ [],
      ap (λ (p : ℕ). slice_get (with_record (slice_get w.records p) p (with_one_driver x) w.records) o) here
          ∙ one-here w.records o x n ys (slice_get w.records o) refl there,
      length-append ys (opening_driver x ∷ []) ∙ (omega arith ∙ ap (λ (b : Bool). length (cond b (x ∷ []) []) + length ys) (sym is)),
    )
one-more w x o n ys there false is =
    let other : o ≢ x.object = λ e. eqb-false x.object o is (sym e) in
    let nothing : length ys ≡ 0 + length ys = omega arith in (
      ys,
      one-there w.records o x.object x (slice_get w.records x.object) other ∙ there,
      nothing ∙ ap (λ (b : Bool). length (cond b (x ∷ []) []) + length ys) (sym is),
    )

more-before : (o : ℕ) (x : DriverInfo) (xs : List DriverInfo) (b : Bool) → is_driver_of o x ≡ b
    → length (filter (is_driver_of o) (x ∷ xs)) ≡ length (filter (is_driver_of o) (x ∷ [])) + length (filter (is_driver_of o) xs)
more-before o x xs true is = rw is (omega arith)
more-before o x xs false is = rw is (omega arith)

abbrev driver_position : ℕ → ℕ → DriverPosition
driver_position o k = record { object = o; index = k }

its-position : (w : Wired) (xs : List DriverInfo) (x : ℕ) (i : DriverInfo) (n : Net) (ys : List Driven) → slice_get xs x ≡ Some i
    → slice_get w.records i.object ≡ Some (driven_net n ys)
    → slice_get (fold wired w xs).drivers (length w.drivers + x)
    ≡ Some (record { object = i.object; index = length ys + length (filter (is_driver_of i.object) (take x xs)) })
its-position w [] x i n ys here there = absurd (cc)
its-position w (j ∷ xs) zero i n ys here there =
    let same : j ≡ i = cc in
    let count = count-of (slice_get w.records i.object) n ys there in
    let position = get-last w.drivers (record { object = j.object; index = count_at (slice_get w.records j.object) }) in
    let at : length w.drivers ≡ length w.drivers + 0 = omega arith in
    let none : length ys ≡ length ys + 0 = omega arith in
    ap (λ (k : ℕ). slice_get (fold wired w (j ∷ xs)).drivers k) (sym at)
    ∙ (position-stays (wired w j) xs (length w.drivers) _ position
    ∙ (ap (λ (y : DriverInfo). Some (driver_position y.object (count_at (slice_get w.records y.object)))) same
    ∙ ap (λ (c : ℕ). Some (driver_position i.object c)) (count ∙ none)))
its-position w (j ∷ xs) (suc x) i n ys here there =
    let more = one-more w j i.object n ys there (is_driver_of i.object j) refl in
    let long = length-append w.drivers (record { object = j.object; index = count_at (slice_get w.records j.object) } ∷ []) in
    let at : length (wired w j).drivers + x ≡ length w.drivers + suc x = omega (arith, long) in
    let sum = more-before i.object j (take x xs) (is_driver_of i.object j) refl in
    ap (λ (k : ℕ). slice_get (fold wired (wired w j) xs).drivers k) (sym at)
    ∙ (its-position (wired w j) xs x i n more.0 here more.1
    ∙ ap (λ (c : ℕ). Some (driver_position i.object c)) (omega (arith, sum, more.2)))

pub has-its-position : HasItsPosition
has-its-position d x i o here there is =
    let none : x ≡ 0 + x = omega arith in
    let all : length (filter (is_driver_of i.object) (take x d.drivers)) ≡ 0 + length (filter (is_driver_of i.object) (take x d.drivers)) = omega arith in
    ap (λ (k : ℕ). slice_get (opening_wired d).drivers k) none
    ∙ (its-position (record { records = map (opening_record d.exprs) d.objects; drivers = [] }) d.drivers x i
    (record { table = table_of o.detail; undriven = undriven o; drivers = [] }) [] here
    (slice_get-map (opening_record d.exprs) d.objects i.object ∙ ap (λ (y : Option ObjectInfo). option_map (opening_record d.exprs) y) there
    ∙ ap Some (net-base d o is))
    ∙ ap (λ (c : ℕ). Some (driver_position i.object c)) (sym all))
