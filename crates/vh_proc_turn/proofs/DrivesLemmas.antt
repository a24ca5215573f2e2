-- How many digits drivers have side by side, and the loop over them.
use Rattle.std.proofs.Common.{◌≡◌, ◌∙◌, ◌≤◌, ◌+◌, ◌-◌, ℕ, true, List, [], ◌∷◌, length, min, nat_le, nat_lt, Option, Result, Ok, sym, ap, arith}
use Rattle.std.proofs.lemmas.Bool.{leb-true}
use Rattle.std.specs.List.{fold, list_all}
use Rattle.vh_base.specs.Checks.{with_ok}
use Rattle.vh_base.specs.declared.faults.Fault.{Fault}
use Rattle.vh_logic.specs.declared.vector.TheConstants.{MAX_WIDTH}
use Rattle.vh_logic.specs.Parts.{part_of}
use Rattle.vh_logic.specs.Vector.{Vector}
use Rattle.vh_design_nodes.specs.declared.driver.DriverInfo.{DriverInfo}
use Rattle.vh_design_nodes.specs.Fits.{is_width}
use Rattle.vh_design_nodes.specs.Widths.{driver_width}
use Rattle.vh_design_nodes.proofs.FitsLemmas.{and_left, and_right}
use Rattle.vh_design_code.specs.Targets.{fits_drivers}
use Rattle.vh_store.specs.Contents.{Contents}
use Rattle.vh_proc_turn.specs.declared.fault.StepFault.{StepFault}
use Rattle.vh_proc_turn.specs.declared.fault.StepFault.TheVariants as step
use Rattle.vh_proc_turn.specs.Own.{FailsBy}
use Rattle.vh_proc_turn.specs.Drives.{Driving, one_driven, all_driven, digits_driven}

abbrev summed : List DriverInfo → ℕ → List ℕ → ℕ
summed ds a xs = fold (λ sum x. min (sum + driver_width ds x) (MAX_WIDTH + 1)) a xs

-- A sum that isn't cut is their sum.
sum-of-digits : (ds : List DriverInfo) (a : ℕ) (xs : List ℕ) → summed ds a xs ≤ MAX_WIDTH → summed ds a xs ≡ a + digits_driven ds xs
unfolding digits_driven
sum-of-digits ds a [] most = omega arith
sum-of-digits ds a (x ∷ xs) most =
    let rest = sum-of-digits ds (min (a + driver_width ds x) (MAX_WIDTH + 1)) xs most in omega arith

-- The drivers of a continuous assignment are there, and have a width that a vector may have.
pub record AreDrivers (ds : List DriverInfo) (xs : List ℕ) : Type 0 where
  pub each : list_all (λ x. nat_lt x (length ds)) xs ≡ true
  pub least : 1 ≤ digits_driven ds xs
  pub most : digits_driven ds xs ≤ MAX_WIDTH

pub are-drivers : (ds : List DriverInfo) (xs : List ℕ) → fits_drivers ds xs ≡ true → AreDrivers ds xs
are-drivers ds xs fits =
    let there = list_all (λ x. nat_lt x (length ds)) xs in
    let wide = and_right there (is_width (summed ds 0 xs)) fits in
    let least = and_left (nat_le 1 (summed ds 0 xs)) (nat_le (summed ds 0 xs) MAX_WIDTH) wide in
    let most = and_right (nat_le 1 (summed ds 0 xs)) (nat_le (summed ds 0 xs) MAX_WIDTH) wide in
    let sum = sum-of-digits ds 0 xs (leb-true (summed ds 0 xs) MAX_WIDTH most) in
    record {
      each = and_left there (is_width (summed ds 0 xs)) fits;
      least = omega (arith, sum, leb-true 1 (summed ds 0 xs) least);
      most = omega (arith, sum, leb-true (summed ds 0 xs) MAX_WIDTH most);
    }

-- The next driver takes its digits, and those behind it have the rest.
pub rest-of-digits : (ds : List DriverInfo) (x : ℕ) (xs ys : List ℕ) (left : ℕ) → ys ≡ x ∷ xs → left ≡ digits_driven ds ys
    → (driver_width ds x ≤ left) × (left - driver_width ds x ≡ digits_driven ds xs)
unfolding digits_driven
rest-of-digits ds x xs ys left is all =
    let more : left ≡ driver_width ds x + digits_driven ds xs = all ∙ ap (digits_driven ds) is in (omega (arith, more), omega (arith, more))

-- What all drivers from one on do, by what that one does.
pub driven-from : (ds : List DriverInfo) (s : Contents) (time : Option ℕ) (v : Vector) (x : ℕ) (xs ys : List ℕ) (rest : ℕ) (b : Driving)
    → ys ≡ x ∷ xs → rest ≡ digits_driven ds xs
    → all_driven ds s time ys v b ≡ with_ok (one_driven s time x (part_of v rest (driver_width ds x)) b) (all_driven ds s time xs v)
unfolding all_driven
driven-from ds s time v x xs ys rest b is left =
    ap (λ (zs : List ℕ). all_driven ds s time zs v b) is
    ∙ ap (λ (n : ℕ). with_ok (one_driven s time x (part_of v n (driver_width ds x)) b) (all_driven ds s time xs v)) (sym left)

-- What all do, by what the next one has done, or why it hasn't.
pub driven-more : (ds : List DriverInfo) (s : Contents) (time : Option ℕ) (v : Vector) (x : ℕ) (xs ys : List ℕ) (rest : ℕ) (b c : Driving)
    (all : Result Driving (Option Fault)) → ys ≡ x ∷ xs → rest ≡ digits_driven ds xs
    → one_driven s time x (part_of v rest (driver_width ds x)) b ≡ Ok c → all_driven ds s time ys v b ≡ all
    → all_driven ds s time xs v c ≡ all
driven-more ds s time v x xs ys rest b c all is left done before =
    ap (λ (r : Result Driving (Option Fault)). with_ok r (all_driven ds s time xs v)) (sym done)
    ∙ sym (driven-from ds s time v x xs ys rest b is left) ∙ before

pub driven-fails : (ds : List DriverInfo) (s : Contents) (time : Option ℕ) (v : Vector) (x : ℕ) (xs ys : List ℕ) (rest : ℕ) (b : Driving)
    (all : Result Driving (Option Fault)) (e : StepFault) → ys ≡ x ∷ xs → rest ≡ digits_driven ds xs
    → FailsBy (one_driven s time x (part_of v rest (driver_width ds x)) b) e → all_driven ds s time ys v b ≡ all
    → FailsBy all e
driven-fails ds s time v x xs ys rest b all (step.Run f) is left fails before =
    sym before ∙ driven-from ds s time v x xs ys rest b is left
    ∙ ap (λ (r : Result Driving (Option Fault)). with_ok r (all_driven ds s time xs v)) fails
driven-fails ds s time v x xs ys rest b all step.NoMemory is left fails before = tt
