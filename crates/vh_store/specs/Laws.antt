-- What the definitions mean for the drivers of a net. (IEEE 1364-2005, 4.6 and 6.1)
use Rattle.std.specs.Prelude.{◌≡◌, ◌+◌, ◌-◌, ◌<◌, ◌==◌, nat_lt, if◌then◌else◌, ℕ, Bool, true, List, ◌∷◌, ◌++◌, map, filter, take, length, Some, slice_get, slice_index_or}
use Rattle.std.specs.List.{fold}
use Rattle.vh_logic.specs.declared.digits.Digit.{Digit}
use Rattle.vh_logic.specs.declared.digits.Digit.TheVariants.{Z}
use Rattle.vh_logic.specs.Vector.{Vector, filled}
use Rattle.vh_design_nodes.specs.declared.driver.DriverInfo.{DriverInfo}
use Rattle.vh_design_nodes.specs.declared.object.NetType.{NetType}
use Rattle.vh_design_nodes.specs.declared.object.ObjectInfo.{ObjectInfo}
use Rattle.vh_design_nodes.specs.Kinds.{is_net}
use Rattle.vh_design.specs.Shape.{Shape}
use Rattle.vh_store.specs.declared.net.Driven.{Driven}
use Rattle.vh_store.specs.declared.store.DriverPosition.{DriverPosition}
use Rattle.vh_store.specs.Contents.{Record, net, plain}
use Rattle.vh_store.specs.Opening.{table_of, undriven, opening_driver, opening_wired}
use Rattle.vh_store.specs.Resolution.{digit_joined, resolution}

-- The digit that a driver gives a position of its net: the one as far above those that lie below the net as the position is above
-- where the driver begins; z where it has none.
abbrev pub digit_given : ℕ → Driven → Digit
digit_given i d = if nat_lt i d.low then Z else slice_index_or d.value.digits (d.below + (i - d.low)) Z

-- Each digit of a net is the join of the digits that its drivers give its position, by the table of its type.
abbrev pub JoinsDigits : Type 0
JoinsDigits = (t : NetType) (w : ℕ) (g : Bool) (ds : List Driven) (i : ℕ) → i < w
    → slice_index_or (resolution t (filled w Z g) ds).digits i Z
    ≡ fold (digit_joined t) Z (map (digit_given i) ds)

-- Their order doesn't matter: two neighbours may change positions.
abbrev pub HasNoOrder : Type 0
HasNoOrder = (t : NetType) (u : Vector) (c d : Driven) (before after : List Driven)
    → resolution t u (before ++ c ∷ d ∷ after) ≡ resolution t u (before ++ d ∷ c ∷ after)

-- Before all, a net has the drivers of the design that name it, in their order.
abbrev pub is_driver_of : ℕ → DriverInfo → Bool
is_driver_of o x = x.object == o

abbrev pub net_before : List DriverInfo → ℕ → ObjectInfo → Record
net_before xs o i = plain (net (record {
  table = table_of i.detail;
  undriven = undriven i;
  drivers = map opening_driver (filter (is_driver_of o) xs);
}))

abbrev pub HasItsDrivers : Type 0
HasItsDrivers = (d : Shape) (o : ℕ) (i : ObjectInfo) → slice_get d.objects o ≡ Some i → is_net i.kind ≡ true
    → slice_get (opening_wired d).records o ≡ Some (net_before d.drivers o i)

-- A driver's position is how many of the drivers before it drive the same net.
abbrev pub position_before : List DriverInfo → ℕ → DriverInfo → DriverPosition
position_before xs x i = record { object = i.object; index = length (filter (is_driver_of i.object) (take x xs)) }

abbrev pub HasItsPosition : Type 0
HasItsPosition = (d : Shape) (x : ℕ) (i : DriverInfo) (o : ObjectInfo) → slice_get d.drivers x ≡ Some i
    → slice_get d.objects i.object ≡ Some o → is_net o.kind ≡ true
    → slice_get (opening_wired d).drivers x ≡ Some (position_before d.drivers x i)
