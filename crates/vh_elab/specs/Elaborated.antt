-- The design of a source, or its least fault; or neither, where what is made of it keeps not each rule of a design, which no text is known
-- to do. (IEEE 1364-2005, clause 12)
use Rattle.std.specs.Prelude.{ℕ, Bool, true, false, not, ◌||◌, List, [], ◌∷◌, ◌++◌, length, map, if◌then◌else◌, Option, Some, None, is_some}
use Rattle.vh_base.specs.declared.place.Place.{Place}
use Rattle.vh_ast.specs.Expressions.{ExprTree}
use Rattle.vh_ast.specs.Items.{InstTree, ModuleTree, SourceTree}
use Rattle.vh_ast.specs.declared.token.Id.{Id}
use Rattle.std.specs.Option.{option_and_then}
use Rattle.vh_logic.specs.Vector.{Vector}
use Rattle.vh_design_nodes.specs.declared.expr.ExprKind.{ExprKind}
use Rattle.vh_design_nodes.specs.declared.expr.ExprKind.TheVariants as kind
use Rattle.vh_design_nodes.specs.declared.object.ObjectInfo.{ObjectInfo}
use Rattle.vh_design_nodes.specs.Fits.{is_unit}
use Rattle.vh_design.specs.Shape.{Shape}
use Rattle.vh_bind.specs.Steps.{Nodes}
use Rattle.vh_bind_stmt.specs.Calls.{Surroundings}
use Rattle.vh_bind_least.specs.Least.{Fault}
use Rattle.vh_elab_sites.specs.declared.site.CodeWord.{CodeWord}
use Rattle.vh_elab_sites.specs.declared.site.CodeWord.TheVariants as word
use Rattle.vh_elab_sites.specs.Sites as S
use Rattle.vh_elab_sites.specs.Sites.{Declared, SiteTree, variable, words, named_event, code, named_block, result, argument, net, wire, port, drives, gate, genvar, gen_block, loop_name, child}
use Rattle.vh_elab_modules.specs.Modules.{module_named, modules_fault, top_of}
use Rattle.vh_elab_walk.specs.Walks.{Placed, Walk, Walked, instances_of, least_precision}
use Rattle.vh_elab_walk.specs.Walks as W
use Rattle.vh_elab_declare.specs.Constants.{literal_node}
use Rattle.vh_elab.specs.Routines.{routines_of}
use Rattle.vh_elab.specs.Coded.{Coding, Ready, assignment_coded, counted, gate_coded, is_full, only_values, statement_coded, surroundings_at, value_coded}
use Rattle.vh_elab.specs.Connected.{connected, object_at}
use Rattle.vh_elab.specs.Fitting.{are_sound, is_design}

pub data Elaborated : Type 0 where
  made : Shape → Elaborated
  refused : Fault → Elaborated
  later : Elaborated

-- A site in the second pass, a row for each kind.
abbrev pub value_or_none : Ready → Surroundings → ℕ → Option ExprTree → Coding → Coding
value_or_none r w n None c = c
value_or_none r w n (Some e) c = value_coded r w n e c

abbrev pub instance_coded : Ready → Surroundings → InstTree → Option ModuleTree → Option ℕ → Coding → Coding
instance_coded r w i None n c = c
instance_coded r w i (Some m) None c = c
instance_coded r w i (Some m) (Some n) c = connected r w m n i c

abbrev pub child_coded : SourceTree → Ready → Surroundings → ℕ → Id → InstTree → Coding → Coding
child_coded ms r w scope m i c = instance_coded r w i (module_named ms m.name) (object_at r scope i.id.name) c

abbrev pub declared_coded : SourceTree → Ready → Surroundings → ℕ → ℕ → Declared → Coding → Coding
declared_coded ms r w n scope (variable t value) c = value_or_none r w n value c
declared_coded ms r w n scope (words t x) c = c
declared_coded ms r w n scope named_event c = c
declared_coded ms r w n scope (S.constant k t e) c = c
declared_coded ms r w n scope (code k s) c = statement_coded r w k s c
declared_coded ms r w n scope (named_block k) c = c
declared_coded ms r w n scope (result t) c = c
declared_coded ms r w n scope (argument d t) c = c
declared_coded ms r w n scope (net x t) c = c
declared_coded ms r w n scope wire c = c
declared_coded ms r w n scope (port d i t) c = c
declared_coded ms r w n scope (drives d x e) c = assignment_coded r w d x e c
declared_coded ms r w n scope (gate g d x) c = gate_coded r w g d x c
declared_coded ms r w n scope genvar c = c
declared_coded ms r w n scope (gen_block b g) c = c
declared_coded ms r w n scope (loop_name t) c = c
declared_coded ms r w n scope (child m ps i) c = child_coded ms r w scope m i c

-- The body of a task or function stands in its own scope, all else where the site stands. (10.2 and 10.4)
abbrev pub statement_scope : ℕ → ℕ → CodeWord → ℕ
statement_scope n scope word.Initial = scope
statement_scope n scope word.Always = scope
statement_scope n scope word.Task = n
statement_scope n scope word.Function = n

abbrev pub scope_of : ℕ → ℕ → Declared → ℕ
scope_of n scope (code k s) = statement_scope n scope k
scope_of n scope _ = scope

-- Most sites make nothing.
abbrev pub is_coded : Declared → Bool
is_coded (variable t value) = is_some value
is_coded (code k s) = true
is_coded (drives d x e) = true
is_coded (gate g d x) = true
is_coded (child m ps i) = true
is_coded _ = false

-- Behind one with which there are too many statements and operators nothing is looked for. (own)
abbrev pub site_coded : SourceTree → Ready → ℕ → SiteTree → Coding → Coding
site_coded ms r unit s c =
    if not (is_coded s.declared) || is_full c then c
    else counted s.place (length c.added.stmts) (length c.added.exprs)
    (declared_coded ms r (surroundings_at r unit (scope_of s.number s.scope s.declared)) s.number s.scope s.declared c)

abbrev pub sites_coded : SourceTree → Ready → ℕ → List SiteTree → Coding → Coding
sites_coded ms r unit [] c = c
sites_coded ms r unit (s ∷ so) c = sites_coded ms r unit so (site_coded ms r unit s c)

-- The design of all that was made.
abbrev pub shape_of : List ObjectInfo → ℕ → Coding → Shape
shape_of os precision c = record {
  objects = os;
  exprs = c.added.exprs;
  drivers = c.drivers;
  codes = c.codes;
  bodies = c.bodies;
  waits = c.added.waits;
  shows = c.added.shows;
  stmts = c.added.stmts;
  precision = precision;
}

abbrev pub unless_later : Bool → Elaborated → Elaborated
unless_later true rest = later
unless_later false rest = rest

abbrev pub designed : Shape → Elaborated
designed d = if is_design d then made d else later

-- The second pass ends at the first instance that has a fault, or in which something is passed over.
abbrev pub has_ended : Coding → Bool
has_ended c = is_some c.fault || c.passed

abbrev pub instance_made : SourceTree → Ready → Placed → Coding → Coding
instance_made ms r p c =
    if is_unit r.precision p.home.unit then sites_coded ms r p.home.unit p.sites c else record c { passed = true }

abbrev pub instances_made : SourceTree → Ready → List Placed → Coding → Coding
instances_made ms r [] c = c
instances_made ms r (p ∷ ps) c = if has_ended c then c else instances_made ms r ps (instance_made ms r p c)

abbrev pub no_codes : Ready → Coding
no_codes r = record {
  added = only_values r;
  drivers = [];
  codes = [];
  bodies = [];
  fault = None;
  passed = false;
  count = 0;
}

abbrev pub is_taken : Ready → Bool
is_taken r = are_sound r.objects r.precision r.values

abbrev pub made_over : SourceTree → Ready → List Placed → Option Coding
made_over ms r ps = if is_taken r then Some (instances_made ms r ps (no_codes r)) else None

-- What comes of it.
abbrev pub refused_or : Option Fault → Elaborated → Elaborated
refused_or (Some fault) rest = refused fault
refused_or None rest = rest

abbrev pub finished : List ObjectInfo → ℕ → Coding → Elaborated
finished os precision c = refused_or c.fault (unless_later c.passed (designed (shape_of os precision c)))

abbrev pub finished_or_later : List ObjectInfo → ℕ → Option Coding → Elaborated
finished_or_later os precision None = later
finished_or_later os precision (Some c) = finished os precision c

-- The values of parameters are literals.
abbrev pub value_in : ExprKind → Option Vector
value_in (kind.Literal v) = Some v
value_in _ = None

abbrev pub values_from : List Vector → Nodes → Option (List Vector)
values_from vs [] = Some vs
values_from vs (n ∷ ns) = option_and_then (λ v. values_from (vs ++ v ∷ []) ns) (value_in n.kind)

abbrev pub all_ready : List ℕ → Walk → List Vector → Ready
all_ready top wk vs = record {
  top_name = top;
  precision = least_precision 17 wk.placed;
  names = wk.known.names;
  objects = wk.known.objects;
  values = map literal_node vs;
  routines = routines_of wk.placed;
  genvars = wk.known.genvars;
}

abbrev pub ready_made : SourceTree → Walk → Ready → Elaborated
ready_made ms wk r = finished_or_later r.objects r.precision (made_over ms r wk.placed)

abbrev pub values_made : SourceTree → List ℕ → Walk → Option (List Vector) → Elaborated
values_made ms top wk None = later
values_made ms top wk (Some vs) = ready_made ms wk (all_ready top wk vs)

abbrev pub second_pass : SourceTree → List ℕ → Walk → Elaborated
second_pass ms top wk = values_made ms top wk (values_from [] wk.known.exprs)

abbrev pub after_walk : SourceTree → List ℕ → Walked → Elaborated
after_walk ms top (W.walked wk) = second_pass ms top wk
after_walk ms top (W.refused fault) = refused fault
after_walk ms top W.later = later

abbrev pub from_top : SourceTree → Option ModuleTree → Elaborated
from_top ms None = later
from_top ms (Some top) = after_walk ms top.id.name (instances_of ms top)

-- The modules first, then the first pass over all instances, and then the second. `first` is where the source begins.
abbrev pub elaborated : Place → SourceTree → Elaborated
elaborated first ms = refused_or (modules_fault first ms) (from_top ms (top_of ms))
