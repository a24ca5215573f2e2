-- What a store holds, and what its calls do to it. (IEEE 1364-2005, 4.2, 4.6, 4.9, 6.1, 9.2 and 9.3; calls that
-- expressions make have one result each, and a put's override, which are own)
use Rattle.std.specs.Prelude.{◌≡◌, ◌≢◌, ℕ, ◌-◌, List, Bool, true, false, ◌&&◌, ◌||◌, ◌==◌, if◌then◌else◌, nat_le, Option, Some, None, slice_get, slice_set, unwrap_or}
use Rattle.std.specs.Option.{option_map, option_and_then, is_some}
use Rattle.std.specs.BTreeMap.{is_at}
use Rattle.std.specs.Map.{lookup, set_value}
use Rattle.std.specs.Ordering.{nat_cmp}
use Rattle.vh_base.specs.declared.orders.Object.{Object}
use Rattle.vh_logic.specs.declared.digits.Digit.TheVariants.{X}
use Rattle.vh_logic.specs.Digit.{is_same}
use Rattle.vh_logic.specs.Vector.{Vector, width_of, filled, all_positions}
use Rattle.vh_design_nodes.specs.declared.object.NetType.{NetType}
use Rattle.vh_design_nodes.specs.Fits.{same_sign}
use Rattle.vh_design_code.specs.declared.change.Change.{Change}
use Rattle.vh_store.specs.declared.net.Driven.{Driven}
use Rattle.vh_store.specs.declared.record.Held.{Held}
use Rattle.vh_store.specs.declared.store.DriverPosition.{DriverPosition}
use Rattle.vh_store.specs.Resolution.{resolution}

-- A net: its type, z at each of its digits, and its drivers in order, each with its value.
pub record Net : Type 0 where
  pub table : NetType
  pub undriven : Vector
  pub drivers : List Driven

-- What an object was assigned: a value; the words of a memory, from its lowest address up; or, of a net, its
-- drivers' values.
pub data Assigned : Type 0 where
  variable : Vector → Assigned
  memory : ℕ → List Vector → Assigned
  net : Net → Assigned

-- What is known of an object: what it was assigned, and, each where it stands, the value of a put that overrides
-- a net's drivers, of a procedural assign, and of a force.
pub record Record : Type 0 where
  pub base : Assigned
  pub overridden : Option Vector
  pub procedural : Option Held
  pub force : Option Held

-- Each object by its number; of each driver its net and its position among the net's drivers; the last result of
-- each call that stands in an expression, by the number of the expression; and the present time.
pub record Contents : Type 0 where
  pub records : List Record
  pub drivers : List DriverPosition
  pub results : List (ℕ × Vector)
  pub time : ℕ

-- A record of which nothing is known but what was assigned.
abbrev pub plain : Assigned → Record
plain base = record { base = base; overridden = None; procedural = None; force = None }

-- Is it a net?
abbrev pub is_net : Assigned → Bool
is_net (variable v) = false
is_net (memory lowest words) = false
is_net (net n) = true

-- The word of a memory at an address, if it has that word.
abbrev pub word_at : ℕ → List Vector → ℕ → Option Vector
word_at lowest words at = if nat_le lowest at then slice_get words (at - lowest) else None

-- What a net's drivers make of it.
abbrev pub resolved : Net → Vector
resolved n = resolution n.table n.undriven n.drivers

-- What was assigned to an object, or to the word at an address; of a net, what its drivers make of it.
abbrev pub assigned_at : Assigned → Option ℕ → Option Vector
assigned_at (variable v) None = Some v
assigned_at (variable v) (Some at) = None
assigned_at (memory lowest words) None = None
assigned_at (memory lowest words) (Some at) = word_at lowest words at
assigned_at (net n) None = Some (resolved n)
assigned_at (net n) (Some at) = None

-- The value that a force or an assign holds.
abbrev pub held_value : Option Held → Option Vector
held_value h = option_map (λ h. h.value) h

-- What an object shows: the first of its force, its procedural assign, its override, and what it was assigned.
abbrev pub top_of : Record → Vector → Vector
top_of r v = unwrap_or (held_value r.force) (unwrap_or (held_value r.procedural) (unwrap_or r.overridden v))

abbrev pub record_at : Option Record → Option ℕ → Option Vector
record_at None at = None
record_at (Some r) at = option_map (top_of r) (assigned_at r.base at)

-- The value that an object or a word shows, where there is one.
abbrev pub found : Contents → Object → Option Vector
found s o = record_at (slice_get s.records o.id) o.word

-- That value; one x digit where there is none.
abbrev pub shown : Contents → Object → Vector
shown s o = unwrap_or (found s o) (filled 1 X false)

-- Two values have the same width, sign and digits.
abbrev pub same_value : Vector → Vector → Bool
same_value a b = width_of a == width_of b && same_sign a.signed b.signed && all_positions is_same a.digits b.digits

-- Another record of an object.
abbrev pub with_record : Option Record → ℕ → (Record → Record) → List Record → List Record
with_record None o change records = records
with_record (Some r) o change records = slice_set records o (change r)

abbrev pub edited : ℕ → (Record → Record) → Contents → Contents
edited o change s = record s { records = with_record (slice_get s.records o) o change s.records }

-- Another value is assigned to an object, or to the word at an address; a net takes none.
abbrev pub assigned : Option ℕ → Vector → Assigned → Assigned
assigned None v (variable old) = variable v
assigned (Some at) v (variable old) = variable old
assigned None v (memory lowest words) = memory lowest words
assigned (Some at) v (memory lowest words) =
    if nat_le lowest at then memory lowest (slice_set words (at - lowest) v) else memory lowest words
assigned at v (net n) = net n

-- Does a force or an assign hold the object?
abbrev pub is_held : Record → Bool
is_held r = is_some r.force || is_some r.procedural

-- A blocking or nonblocking assignment is performed; an object that is held stays. (9.2; the latter is own)
abbrev pub record_written : Option ℕ → Vector → Record → Record
record_written at v r = if is_held r then r else record r { base = assigned at v r.base }

abbrev pub written : Object → Vector → Contents → Contents
written o v s = edited o.id (record_written o.word v) s

-- A put without a force: a variable or a word is assigned, and a net is overridden. (own)
abbrev pub put_into : Option ℕ → Vector → Record → Assigned → Record
put_into at v r (variable old) = record r { base = assigned at v (variable old) }
put_into at v r (memory lowest words) = record r { base = assigned at v (memory lowest words) }
put_into None v r (net n) = record r { overridden = Some v }
put_into (Some at) v r (net n) = r

abbrev pub record_put : Option ℕ → Vector → Record → Record
record_put at v r = if is_held r then r else put_into at v r r.base

abbrev pub put_at : Object → Vector → Contents → Contents
put_at o v s = edited o.id (record_put o.word v) s

-- A force begins, with its expression where a statement gave it; it ends an override. (9.3.2)
abbrev pub record_forced : Vector → Option ℕ → Record → Record
record_forced v e r = record r { force = Some (record { value = v; from = e }); overridden = None }

abbrev pub forced : ℕ → Vector → Option ℕ → Contents → Contents
forced o v e s = edited o (record_forced v e) s

-- A force ends: a net shows its drivers at once, a variable its procedural assign, and where there is none it
-- keeps the value of the force. (9.3.2)
abbrev pub kept_after : Option Held → Vector → Assigned → Assigned
kept_after None v base = assigned None v base
kept_after (Some h) v base = base

abbrev pub without_force : Option Held → Record → Record
without_force None r = r
without_force (Some h) r = record r { base = kept_after r.procedural h.value r.base; force = None }

abbrev pub record_released : Record → Record
record_released r = without_force r.force r

abbrev pub released : ℕ → Contents → Contents
released o s = edited o record_released s

-- A procedural assign begins. (9.3.1)
abbrev pub record_procedural : Vector → ℕ → Record → Record
record_procedural v e r = record r { procedural = Some (record { value = v; from = Some e }) }

abbrev pub procedural : ℕ → Vector → ℕ → Contents → Contents
procedural o v e s = edited o (record_procedural v e) s

-- It ends, and its value is kept. (9.3.1)
abbrev pub without_assign : Option Held → Record → Record
without_assign None r = r
without_assign (Some h) r = record r { base = assigned None h.value r.base; procedural = None }

abbrev pub record_deassigned : Record → Record
record_deassigned r = without_assign r.procedural r

abbrev pub deassigned : ℕ → Contents → Contents
deassigned o s = edited o record_deassigned s

-- Has a driver of a net, by its position, this value? One that isn't there has every value.
abbrev pub has_value : Vector → Option Driven → Bool
has_value v None = true
has_value v (Some d) = same_value d.value v

abbrev pub drives : ℕ → Vector → Assigned → Bool
drives i v (variable old) = true
drives i v (memory lowest words) = true
drives i v (net n) = has_value v (slice_get n.drivers i)

-- A driver of a net takes a value.
abbrev pub with_value : Vector → Option Driven → ℕ → List Driven → List Driven
with_value v None i ds = ds
with_value v (Some d) i ds = slice_set ds i (record d { value = v })

abbrev pub redriven : ℕ → Vector → Assigned → Assigned
redriven i v (variable old) = variable old
redriven i v (memory lowest words) = memory lowest words
redriven i v (net n) = net (record n { drivers = with_value v (slice_get n.drivers i) i n.drivers })

-- Where its value becomes another, an override ends. (6.1 and 4.6; the latter is own)
abbrev pub record_driven : ℕ → Vector → Record → Record
record_driven i v r = if drives i v r.base then r else record r { base = redriven i v r.base; overridden = None }

abbrev pub driven_at : Option DriverPosition → Vector → Contents → Contents
driven_at None v s = s
driven_at (Some p) v s = edited p.object (record_driven p.index v) s

abbrev pub with_driven : ℕ → Vector → Contents → Contents
with_driven x v s = driven_at (slice_get s.drivers x) v s

-- The value of a driver, where there is one.
abbrev pub driver_in : ℕ → Assigned → Option Vector
driver_in i (variable v) = None
driver_in i (memory lowest words) = None
driver_in i (net n) = option_map (λ (d : Driven). d.value) (slice_get n.drivers i)

abbrev pub driver_at : Contents → DriverPosition → Option Vector
driver_at s p = option_and_then (λ (r : Record). driver_in p.index r.base) (slice_get s.records p.object)

-- That value; one x digit where there is none.
abbrev pub driven : Contents → ℕ → Vector
driven s x = unwrap_or (option_and_then (driver_at s) (slice_get s.drivers x)) (filled 1 X false)

-- Is an object forced? (9.3.2)
abbrev pub is_forced : Contents → ℕ → Bool
is_forced s o = is_some (option_and_then (λ (r : Record). r.force) (slice_get s.records o))

-- The expression that the force of an object follows, and the one that its assign follows.
abbrev pub force_of : Contents → ℕ → Option ℕ
force_of s o = option_and_then (λ (h : Held). h.from) (option_and_then (λ (r : Record). r.force) (slice_get s.records o))

abbrev pub assign_of : Contents → ℕ → Option ℕ
assign_of s o = option_and_then (λ (h : Held). h.from) (option_and_then (λ (r : Record). r.procedural) (slice_get s.records o))

-- A change is told exactly where the shown value is another.
abbrev pub IsChange : Object → Vector → Vector → Option Change → Type 0
IsChange o old new None = old ≡ new
IsChange o old new (Some c) = (c ≡ record { object = o; old = old; new = new }) × (old ≢ new)

-- An object as a whole.
abbrev pub whole : ℕ → Object
whole o = record { id = o; word = None }

-- The same of what is done to a driver: its net may change.
abbrev pub IsDriven : Option DriverPosition → Contents → Contents → Option Change → Type 0
IsDriven None old new c = c ≡ None
IsDriven (Some p) old new c = IsChange (whole p.object) (shown old (whole p.object)) (shown new (whole p.object)) c

-- The last result of the call at an expression, where one stands there.
abbrev pub answered : Contents → ℕ → Option Vector
answered s e = lookup (is_at (nat_cmp e)) s.results

-- That result; one x digit where no call stands there.
abbrev pub result_of : Contents → ℕ → Vector
result_of s e = unwrap_or (answered s e) (filled 1 X false)

-- The call at an expression has answered.
abbrev pub with_result : ℕ → Vector → Contents → Contents
with_result e v s = record s { results = set_value (is_at (nat_cmp e)) s.results v }
