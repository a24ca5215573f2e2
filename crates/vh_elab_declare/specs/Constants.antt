-- What is known of the objects of the instances: the values of parameters, ranges, and the faults that the first pass finds in an
-- instance. (IEEE 1364-2005, 4.3, 4.9 and 4.10)
use Rattle.std.specs.Prelude.{ℕ, ◌+◌, ◌-◌, Bool, true, false, ◌||◌, ◌&&◌, List, [], ◌∷◌, ◌++◌, length, if◌then◌else◌, ◌==◌, nat_lt, nat_le, Option, Some, None, Ok, Err, slice_get, slice_set, nat_eq}
use Rattle.std.specs.List.{flat_map}
use Rattle.std.specs.Map.{lookup}
use Rattle.indexmap.specs.IndexMap.{insert_entry}
use Rattle.std.specs.Option.{option_map}
use Rattle.vh_base.specs.declared.faults.DesignFault.TheVariants.{N3, N11}
use Rattle.vh_base.specs.declared.place.Place.{Place}
use Rattle.vh_logic.specs.declared.vector.TheConstants.{MAX_WIDTH}
use Rattle.vh_logic.specs.Vector.{Vector, width_of}
use Rattle.vh_logic.specs.Parts.{resized}
use Rattle.vh_ast.specs.declared.item.ParameterWord.{ParameterWord}
use Rattle.vh_ast.specs.declared.item.ParameterWord.TheVariants as parameter_word
use Rattle.vh_ast.specs.Expressions.{ExprTree}
use Rattle.vh_ast.specs.Declarations.{RangeTree, TypeTree}
use Rattle.vh_design_nodes.specs.declared.expr.ExprNode.{ExprNode}
use Rattle.vh_design_nodes.specs.declared.expr.ExprKind.TheVariants as kind
use Rattle.vh_design_nodes.specs.declared.expr.Range.{Range}
use Rattle.vh_design_nodes.specs.declared.object.Detail.{Detail}
use Rattle.vh_design_nodes.specs.declared.object.Detail.TheVariants as detail
use Rattle.vh_design_nodes.specs.declared.object.ObjectInfo.{ObjectInfo}
use Rattle.vh_bind_scope.specs.Names.{Names}
use Rattle.vh_bind.specs.declared.scope.Genvar.{Genvar}
use Rattle.vh_bind.specs.Constants.{constant}
use Rattle.vh_bind.specs.Scopes.{Scope}
use Rattle.vh_bind.specs.Selects.{Outcome, with_ok, with_some, number_in, most_bound}
use Rattle.vh_bind.specs.Steps.{Nodes}
use Rattle.vh_elab_index.specs.First.{first_named}
use Rattle.vh_bind_least.specs.Least.{Fault, both, least}
use Rattle.vh_elab_sites.specs.Sites as S
use Rattle.vh_elab_sites.specs.Sites.{Declared, SiteTree, VarType, typed, joined, one_digit, integer_type, time_type, variable, words, named_event, code, named_block, result, argument, net, wire, port, drives, gate, genvar, gen_block, loop_name, child}
use Rattle.vh_elab_declare.specs.declared.ranges.Measure.{Measure}
use Rattle.vh_elab_declare.specs.Objects.{around_in, each, lone_digit, with_bounds}

-- The values that are given to an instance's parameters, by their names. (12.2.2)
abbrev pub Given : Type 0
Given = List (List ℕ × Vector)

-- Names beside values, in pairs.
abbrev pub paired : List (List ℕ) → List Vector → Given
paired [] vs = []
paired (n ∷ ns) [] = []
paired (n ∷ ns) (v ∷ vs) = (n, v) ∷ paired ns vs

abbrev pub given_for : Given → List ℕ → Option Vector
given_for g name = option_map (λ e. e.1) (first_named (λ e. e.0) g name)

-- What holds for all that stands in an instance: the number of its object, the name of the top, its time unit and its precision, and
-- the values that its parameters are given. (12.1 and 19.8)
pub record Home : Type 0 where
  pub number : ℕ
  pub top_name : List ℕ
  pub unit : ℕ
  pub precision : ℕ
  pub given : Given

-- The genvars of generate blocks, by the blocks' objects. (12.4.1)
abbrev pub Genvars : Type 0
Genvars = List (ℕ × Genvar)

-- A block has one, or none.
abbrev pub with_genvar : ℕ → Genvar → Genvars → Genvars
with_genvar block g gs = insert_entry nat_eq gs block g

abbrev pub genvar_of : Genvars → ℕ → Option Genvar
genvar_of gs s = lookup (nat_eq s) gs

-- The names and objects so far, the genvars of generate blocks, the number of bodies, and the values of parameters, which are expressions.
pub record Known : Type 0 where
  pub names : Names
  pub objects : List ObjectInfo
  pub bodies : ℕ
  pub exprs : Nodes
  pub genvars : Genvars

-- The genvars that have a value in these scopes, from the inside out: each in the blocks of its loop. (12.4.1)
abbrev pub written : Option Genvar → List Genvar
written None = []
written (Some g) = g ∷ []

abbrev pub genvars_in : Genvars → List ℕ → List Genvar
genvars_in gs around = flat_map (λ s. written (genvar_of gs s)) around

abbrev pub nothing_known : Known
nothing_known = record { names = []; objects = []; bodies = 0; exprs = []; genvars = [] }

-- Where a constant stands: in a scope of the instance.
abbrev pub scope_in : Home → Known → List ℕ → Scope
scope_in h k around = record {
  names = k.names;
  around = around;
  top = 0;
  top_name = h.top_name;
  genvars = genvars_in k.genvars around;
  objects = k.objects;
  exprs = k.exprs;
  routines = [];
  unit = h.unit;
  precision = h.precision;
}

abbrev pub scope_at : Home → Known → ℕ → Scope
scope_at h k scope = scope_in h k (around_in k.objects scope)

-- A range: both bounds are numbers from 0 to 2^31 - 1, and it has so many elements at most. (4.3.1; the limits own)
abbrev pub span : Range → ℕ
span r = if nat_le r.right r.left then (r.left - r.right) + 1 else (r.right - r.left) + 1

abbrev pub bound : Scope → Place → ExprTree → Outcome (Option ℕ)
bound sc place e = with_ok (constant sc 0 e) (λ v. number_in place 0 most_bound v)

abbrev pub within : Place → ℕ → ℕ → ℕ → Outcome (Option Range)
within place most left right =
    if nat_le (span (record { left = left; right = right })) most then
    Ok (Some (record { left = left; right = right })) else Err (N3, place)

abbrev pub bounds : Scope → RangeTree → Outcome (Option ℕ × Option ℕ)
bounds sc r = both (bound sc r.place r.left) (bound sc r.place r.right)

abbrev pub range_of : Scope → ℕ → RangeTree → Outcome (Option Range)
range_of sc most r =
    with_ok (bounds sc r) (λ b.
    with_some b.0 (λ left. with_some b.1 (λ right. within r.place most left right)))

abbrev pub type_range : Scope → Option RangeTree → Outcome (Option Range)
type_range sc None = Ok (Some lone_digit)
type_range sc (Some r) = range_of sc MAX_WIDTH r

-- What is known of an object once its ranges are: the bounds of its digits, its width and its sign,
-- and how many words a memory has, from which address on.
abbrev pub vector_measure : Bool → Range → Measure
vector_measure signed r = record { range = r; width = span r; signed = signed; words = 0; lowest = None }

abbrev pub lowest_of : Range → ℕ
lowest_of r = if nat_le r.left r.right then r.left else r.right

abbrev pub words_measure : Bool → Range → Range → Measure
words_measure signed addresses r =
    record { range = r; width = span r; signed = signed; words = span addresses; lowest = Some (lowest_of addresses) }

abbrev pub typed_measure : Scope → TypeTree → Outcome (Option Measure)
typed_measure sc t = with_ok (type_range sc t.range) (λ r. Ok (option_map (vector_measure t.signed) r))

-- Of two ranges that of the declaration counts, and of two signs the one that is written. (12.3.3)
abbrev pub own_or : Option RangeTree → Option Range × Option Range → Option Range
own_or None rs = rs.1
own_or (Some r) rs = rs.0

abbrev pub joined_measure : Scope → TypeTree → TypeTree → Outcome (Option Measure)
joined_measure sc t p =
    with_ok (both (type_range sc t.range) (type_range sc p.range)) (λ rs.
    Ok (option_map (vector_measure (t.signed || p.signed)) (own_or t.range rs)))

unfoldable pub var_measure : Scope → VarType → Outcome (Option Measure)
var_measure sc (typed t) = typed_measure sc t
var_measure sc (joined t p) = joined_measure sc t p
var_measure sc one_digit = Ok (Some (vector_measure false lone_digit))
var_measure sc integer_type = Ok (Some (vector_measure true (record { left = 31; right = 0 })))
var_measure sc time_type = Ok (Some (vector_measure false (record { left = 63; right = 0 })))

abbrev pub most_words : ℕ
most_words = 65536

unfoldable pub memory_measure : Scope → TypeTree → RangeTree → Outcome (Option Measure)
memory_measure sc t r =
    with_ok (type_range sc t.range) (λ d. with_ok (range_of sc most_words r) (λ a.
    with_some d (λ digits. with_some a (λ addresses. Ok (Some (words_measure t.signed addresses digits))))))

-- A parameter: without a range it has the width of its value, and its sign where none is written; with one its value is
-- that of an assignment to so many digits. (4.10.1)
abbrev pub own_value : Bool → Vector → Range × Vector
own_value signed v =
    (record { left = width_of v - 1; right = 0 }, resized v (width_of v) (signed || v.signed))

abbrev pub ranged_value : Scope → Bool → ExprTree → Range → Outcome (Option (Range × Vector))
ranged_value sc signed e r =
    with_ok (constant sc (span r) e) (λ v. Ok (option_map (λ x. (r, resized x (span r) signed)) v))

abbrev pub known_range : Scope → Bool → ExprTree → Option Range → Outcome (Option (Range × Vector))
known_range sc signed e None = with_ok (constant sc 0 e) (λ v. Ok None)
known_range sc signed e (Some r) = ranged_value sc signed e r

abbrev pub typed_value : Scope → Bool → Option RangeTree → ExprTree → Outcome (Option (Range × Vector))
typed_value sc signed None e = with_ok (constant sc 0 e) (λ v. Ok (option_map (own_value signed) v))
typed_value sc signed (Some r) e = with_ok (range_of sc MAX_WIDTH r) (known_range sc signed e)

abbrev pub parameter_value : Scope → Option TypeTree → ExprTree → Outcome (Option (Range × Vector))
parameter_value sc None e = typed_value sc false None e
parameter_value sc (Some t) e = typed_value sc t.signed t.range e

-- One that is given a value: its own isn't looked at. A `localparam` is none, and none is that doesn't stand in the module's own
-- scope. (12.2.2)
abbrev pub given_to : Home → SiteTree → ParameterWord → Option Vector
given_to h s parameter_word.Localparam = None
given_to h s parameter_word.Parameter =
    if s.scope == h.number then given_for h.given s.name else None

abbrev pub given_range : Bool → Vector → Option RangeTree → Scope → Outcome (Option (Range × Vector))
given_range signed v None sc = Ok (Some (own_value signed v))
given_range signed v (Some r) sc =
    with_ok (range_of sc MAX_WIDTH r) (λ x. Ok (option_map (λ y. (y, resized v (span y) signed)) x))

abbrev pub given_value : Scope → Option TypeTree → Vector → Outcome (Option (Range × Vector))
given_value sc None v = given_range false v None sc
given_value sc (Some t) v = given_range t.signed v t.range sc

abbrev pub own_or_given : Scope → Option TypeTree → ExprTree → Option Vector → Outcome (Option (Range × Vector))
own_or_given sc t e None = parameter_value sc t e
own_or_given sc t e (Some v) = given_value sc t v

abbrev pub value_at : Home → Known → SiteTree → ParameterWord → Option TypeTree → ExprTree → Outcome (Option (Range × Vector))
value_at h k s w t e = own_or_given (scope_at h k s.scope) t e (given_to h s w)

-- Parameters need each other: each takes its value as soon as all that it needs have theirs, in as many rounds as there
-- are sites, whatever the order in which the sites go. (4.10; the rounds are own)
abbrev pub edited : ℕ → (ObjectInfo → ObjectInfo) → List ObjectInfo → Option ObjectInfo → List ObjectInfo
edited n f os None = os
edited n f os (Some o) = slice_set os n (f o)

abbrev pub with_object : ℕ → (ObjectInfo → ObjectInfo) → List ObjectInfo → List ObjectInfo
with_object n f os = edited n f os (slice_get os n)

abbrev pub literal_node : Vector → ExprNode
literal_node v = record { kind = kind.Literal v; width = width_of v; signed = v.signed }

abbrev pub valued_object : ℕ → Vector → ObjectInfo → ObjectInfo
valued_object e v o = record o { width = width_of v; signed = v.signed; detail = detail.Value e }

abbrev pub with_value : SiteTree → Range × Vector → Known → Known
with_value s v k = record k {
  names = with_bounds s v.0 k.names;
  objects = with_object s.number (valued_object (length k.exprs) v.1) k.objects;
  exprs = k.exprs ++ literal_node v.1 ∷ [];
}

abbrev pub has_value : Detail → Bool
has_value (detail.Value e) = true
has_value _ = false

abbrev pub valued_in : Option ObjectInfo → Bool
valued_in None = true
valued_in (Some o) = has_value o.detail

abbrev pub is_valued : ℕ → Known → Bool
is_valued n k = valued_in (slice_get k.objects n)

abbrev pub settled_by : SiteTree → Known → Option (Range × Vector) → Known
settled_by s k (Some v) = with_value s v k
settled_by s k None = k

abbrev pub found_value : Outcome (Option (Range × Vector)) → Option (Range × Vector)
found_value (Ok v) = v
found_value (Err fault) = None

abbrev pub settled : Home → SiteTree → Declared → Known → Known
settled h s (variable t value) k = k
settled h s (words t r) k = k
settled h s named_event k = k
settled h s (S.constant w t e) k =
    if is_valued s.number k then k else settled_by s k (found_value (value_at h k s w t e))
settled h s (code w st) k = k
settled h s (named_block w) k = k
settled h s (result t) k = k
settled h s (argument d t) k = k
settled h s (net n t) k = k
settled h s wire k = k
settled h s (port d i t) k = k
settled h s (drives d x e) k = k
settled h s (gate g d x) k = k
settled h s genvar k = k
settled h s (gen_block b g) k = k
settled h s (loop_name t) k = k
settled h s (child m ps i) k = k

abbrev pub settled_site : Home → SiteTree → Known → Known
settled_site h s k = settled h s s.declared k

abbrev pub round : Home → List SiteTree → Known → Known
round h so k = each (settled_site h) so k

abbrev pub rounds : List SiteTree → Home → List SiteTree → Known → Known
rounds [] h so k = k
rounds (s ∷ more) h so k = rounds more h so (round h so k)

abbrev pub settled_in : Home → List SiteTree → Known → Known
settled_in h so k = rounds so h so k

-- The first pass over the sites: what is known, the least fault so far, whether something was passed over, since it needs a
-- parameter that has no value, and how many words the memories have.
pub record Checked : Type 0 where
  pub known : Known
  pub fault : Option Fault
  pub passed : Bool
  pub words : ℕ

abbrev pub detail_with : Option ℕ → Detail → Detail
detail_with None d = d
detail_with (Some lowest) d = detail.Memory lowest

abbrev pub measured_object : Measure → ObjectInfo → ObjectInfo
measured_object m o = record o {
  width = m.width;
  signed = m.signed;
  words = m.words;
  detail = detail_with m.lowest o.detail;
}

abbrev pub with_measure : SiteTree → Measure → Known → Known
with_measure s m k = record k {
  names = with_bounds s m.range k.names;
  objects = with_object s.number (measured_object m) k.objects;
}

abbrev pub most_objects : ℕ
most_objects = 100000

abbrev pub most_words_in_all : ℕ
most_words_in_all = 1048576

-- Above these numbers it is N11. (own)
abbrev pub too_many : SiteTree → Bool → Option Fault
too_many s b = if b then Some (N11, s.place) else None

abbrev pub with_words : SiteTree → Measure → Checked → Checked
with_words s m c = record c {
  known = with_measure s m c.known;
  fault = least c.fault (too_many s (nat_lt most_words_in_all (c.words + m.words)));
  words = c.words + m.words;
}

abbrev pub measured_by : SiteTree → Checked → Outcome (Option Measure) → Checked
measured_by s c (Ok (Some m)) = with_words s m c
measured_by s c (Ok None) = record c { passed = true }
measured_by s c (Err fault) = record c { fault = least c.fault (Some fault) }

abbrev pub valued_by : Checked → Outcome (Option (Range × Vector)) → Checked
valued_by c (Ok (Some v)) = c
valued_by c (Ok None) = record c { passed = true }
valued_by c (Err fault) = record c { fault = least c.fault (Some fault) }

abbrev pub measured_var : Home → SiteTree → VarType → Checked → Checked
measured_var h s t c = measured_by s c (var_measure (scope_at h c.known s.scope) t)

abbrev pub measured_memory : Home → SiteTree → TypeTree → RangeTree → Checked → Checked
measured_memory h s t r c = measured_by s c (memory_measure (scope_at h c.known s.scope) t r)

abbrev pub measured_parameter : Home → SiteTree → ParameterWord → Option TypeTree → ExprTree → Checked → Checked
measured_parameter h s w t e c = valued_by c (value_at h c.known s w t e)

abbrev pub measured : Home → SiteTree → Declared → Checked → Checked
measured h s (variable t value) c = measured_var h s t c
measured h s (words t r) c = measured_memory h s t r c
measured h s named_event c = c
measured h s (S.constant w t e) c = measured_parameter h s w t e c
measured h s (code w st) c = c
measured h s (named_block w) c = c
measured h s (result t) c = measured_var h s t c
measured h s (argument d t) c = measured_var h s t c
measured h s (net n t) c = measured_var h s t c
measured h s wire c = measured_var h s one_digit c
measured h s (port d i t) c = measured_var h s t c
measured h s (drives d x e) c = c
measured h s (gate g d x) c = c
measured h s genvar c = c
measured h s (gen_block b g) c = c
measured h s (loop_name t) c = c
measured h s (child m ps i) c = c

-- What is no object isn't counted.
abbrev pub counted : SiteTree → Checked → Checked
counted s c =
    record c { fault = least c.fault (too_many s (S.is_object s.declared && nat_le most_objects s.number)) }

abbrev pub measured_site : Home → SiteTree → Checked → Checked
measured_site h s c = measured h s s.declared (counted s c)
