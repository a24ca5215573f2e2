-- How contracts see what the code holds.
use Rattle.std.specs.Prelude.{◌≡◌, ℕ, List, map, Result, Ok, Err, Option, Some, None, Vec}
use Rattle.std.specs.Borrow.{Bor}
use Rattle.std.specs.Option.{option_map}
use Rattle.vh_logic.specs.Vector.{Vector}
use Rattle.vh_ast.specs.declared.data_type.Range as ast
use Rattle.vh_ast.specs.Declarations.{RangeTree}
use Rattle.vh_ast.specs.Views.{range_tree}
use Rattle.vh_design_nodes.specs.declared.expr.Range.{Range}
use Rattle.vh_design_nodes.specs.declared.object.ObjectInfo.{ObjectInfo}
use Rattle.vh_bind_scope.specs.Names.{Names}
use Rattle.vh_bind_least.specs.Least.{Fault, lesser}
use Rattle.vh_bind.specs.declared.fault.ElabFault.{ElabFault}
use Rattle.vh_bind.specs.declared.fault.ElabFault.TheVariants as faults
use Rattle.vh_elab_sites.specs.declared.site.Site as at_site
use Rattle.vh_elab_sites.specs.Sites.{SiteTree}
use Rattle.vh_elab_sites.specs.Views.{all_seen}
use Rattle.vh_elab_declare.specs.declared.checked.Checked as pass
use Rattle.vh_elab_declare.specs.declared.known.Home as at
use Rattle.vh_elab_declare.specs.declared.known.Known as what
use Rattle.vh_elab_declare.specs.declared.ranges.Measure.{Measure}
use Rattle.vh_elab_declare.specs.Objects.{Gathered, Naming}
use Rattle.vh_elab_declare.specs.Constants.{Given, Home, Known, Checked, measured_by, valued_by}

abbrev pub home_seen : at.Home → Home
home_seen h = record {
  number = h.number;
  top_name = h.top_name.now;
  unit = h.unit;
  precision = h.precision;
  given = h.given.now;
}

abbrev pub known_seen : what.Known → Known
known_seen k =
    record { names = k.names; objects = k.objects.items; bodies = k.bodies; exprs = k.exprs.items; genvars = k.genvars }

abbrev pub gathered_seen : List ObjectInfo → ℕ → Gathered
gathered_seen os bodies = record { objects = os; bodies = bodies }

abbrev pub naming_seen : Names → Option Fault → Naming
naming_seen ns fault = record { names = ns; fault = fault }

abbrev pub checked_seen : pass.Checked → Checked
checked_seen c = record { known = known_seen c.known; fault = c.fault; passed = c.passed; words = c.words }

abbrev pub range_seen : Option (Bor ast.Range) → Option RangeTree
range_seen r = option_map (λ b. range_tree b.now) r

-- A measure that was asked for is taken. (Want of memory is free.)
abbrev pub MeasuresBy : {E : Type 0} → SiteTree → Checked → Result (Option Measure) ElabFault → Result (Unit {0}) E → Checked → Type 0
MeasuresBy s old (Ok m) (Ok done) new = new ≡ measured_by s old (Ok m)
MeasuresBy s old (Err (faults.Refused f p)) (Ok done) new = new ≡ measured_by s old (Err (f, p))
MeasuresBy s old (Err faults.NoMemory) (Ok done) new = ⊥
MeasuresBy s old measure (Err refused) new = Unit {0}

abbrev pub ValuesBy : {E : Type 0} → Checked → Result (Option (Range × Vector)) ElabFault → Result (Unit {0}) E → Checked → Type 0
ValuesBy old (Ok v) (Ok done) new = new ≡ valued_by old (Ok v)
ValuesBy old (Err (faults.Refused f p)) (Ok done) new = new ≡ valued_by old (Err (f, p))
ValuesBy old (Err faults.NoMemory) (Ok done) new = ⊥
ValuesBy old value (Err refused) new = Unit {0}

-- What is given of a value, where a fault is found later. (Want of memory is free.)
abbrev pub IsFound : {E : Type 0} → Result (Option (Range × Vector)) ElabFault → Result (Option (Range × Vector)) E → Type 0
IsFound (Ok v) (Ok found) = found ≡ v
IsFound (Err (faults.Refused f p)) (Ok found) = found ≡ None
IsFound (Err faults.NoMemory) (Ok found) = ⊥
IsFound value (Err refused) = Unit {0}

abbrev pub bytes_seen : {A : Type 0} → Option (Vec ℕ A) → Option (List ℕ)
bytes_seen None = None
bytes_seen (Some v) = Some v.items

-- Both of two, or the lesser of their faults; want of memory where one of them wants it and no fault is known.
abbrev pub BothBy : {A B : Type 0} → Result A ElabFault → Result B ElabFault → Result (A × B) ElabFault → Type 0
BothBy (Ok a) (Ok b) r = r ≡ Ok (a, b)
BothBy (Ok a) (Err fault) r = r ≡ Err fault
BothBy (Err faults.NoMemory) right r = r ≡ Err faults.NoMemory
BothBy (Err (faults.Refused f p)) (Ok b) r = r ≡ Err (faults.Refused f p)
BothBy (Err (faults.Refused f p)) (Err faults.NoMemory) r = r ≡ Err faults.NoMemory
BothBy (Err (faults.Refused f p)) (Err (faults.Refused g q)) r =
    r ≡ Err (faults.Refused (lesser (f, p) (g, q)).0 (lesser (f, p) (g, q)).1)

-- The layers of sites, and some in their order, or as they stand where none are told.
abbrev pub layers_seen : {A : Type 0} → List (Vec at_site.Site A) → List (List SiteTree)
layers_seen layers = map (λ v. all_seen v.items) layers

abbrev pub sequence_seen : {A : Type 0} → List SiteTree → Option (Vec at_site.Site A) → List SiteTree
sequence_seen so None = so
sequence_seen so (Some v) = all_seen v.items
