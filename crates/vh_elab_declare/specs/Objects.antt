-- The objects of an instance, and their names: each site that is an object has its number. What depends on constants comes
-- later: until then each is one digit wide. (IEEE 1364-2005, 12.7 and 26.6)
use Rattle.std.specs.Prelude.{ℕ, ◌+◌, Bool, true, false, List, [], ◌∷◌, ◌++◌, if◌then◌else◌, ◌==◌, Option, Some, None, is_some, slice_get}
use Rattle.std.specs.Option.{option_and_then}
use Rattle.vh_base.specs.declared.faults.DesignFault.TheVariants.{N2}
use Rattle.vh_base.specs.declared.place.Place.{Place}
use Rattle.vh_ast.specs.declared.data_type.NetType as ast
use Rattle.vh_ast.specs.declared.data_type.NetType.TheVariants as net_word
use Rattle.vh_ast.specs.declared.port.Direction.{Direction}
use Rattle.vh_ast.specs.declared.port.Direction.TheVariants as goes
use Rattle.vh_ast.specs.declared.stmt.BlockWord.{BlockWord}
use Rattle.vh_ast.specs.declared.stmt.BlockWord.TheVariants as block
use Rattle.vh_ast.specs.Items.{ModuleTree}
use Rattle.vh_design_nodes.specs.declared.expr.Range.{Range}
use Rattle.vh_design_nodes.specs.declared.object.Detail.{Detail}
use Rattle.vh_design_nodes.specs.declared.object.Detail.TheVariants as detail
use Rattle.vh_design_nodes.specs.declared.object.Kind.{Kind}
use Rattle.vh_design_nodes.specs.declared.object.Kind.TheVariants as of
use Rattle.vh_design_nodes.specs.declared.object.NetType.{NetType}
use Rattle.vh_design_nodes.specs.declared.object.NetType.TheVariants as of_net
use Rattle.vh_design_nodes.specs.declared.object.ObjectInfo.{ObjectInfo}
use Rattle.vh_bind_scope.specs.declared.names.Meaning.{Meaning}
use Rattle.vh_bind_scope.specs.declared.names.Meaning.TheVariants as means
use Rattle.vh_bind_scope.specs.Names.{Names, meaning_in, declared, declared_anew}
use Rattle.vh_bind_least.specs.Least.{Fault, least}
use Rattle.vh_elab_sites.specs.declared.site.CodeWord.{CodeWord}
use Rattle.vh_elab_sites.specs.declared.site.CodeWord.TheVariants as word
use Rattle.vh_elab_sites.specs.Sites.{Declared, SiteTree, VarType, typed, joined, one_digit, integer_type, time_type, variable, words, named_event, constant, code, named_block, result, argument, net, wire, port, drives, gate, genvar, gen_block, loop_name, child}

-- What comes of some things in their order.
abbrev pub each : {S A : Type 0} → (A → S → S) → List A → S → S
each f [] st = st
each f (x ∷ xs) st = each f xs (f x st)

-- What kind each is of; some are no objects.
abbrev pub var_kind : VarType → Kind
var_kind (typed t) = of.Reg
var_kind (joined t p) = of.Reg
var_kind one_digit = of.Reg
var_kind integer_type = of.IntegerVar
var_kind time_type = of.TimeVar

abbrev pub code_kind : CodeWord → Kind
code_kind word.Initial = of.Initial
code_kind word.Always = of.Always
code_kind word.Task = of.Task
code_kind word.Function = of.Function

abbrev pub block_kind : BlockWord → Kind
block_kind block.Begin = of.NamedBegin
block_kind block.Fork = of.NamedFork

abbrev pub kind_of : Declared → Option Kind
kind_of (variable t value) = Some (var_kind t)
kind_of (words t r) = Some of.Memory
kind_of named_event = Some of.NamedEvent
kind_of (constant w t e) = Some of.Parameter
kind_of (code w s) = Some (code_kind w)
kind_of (named_block w) = Some (block_kind w)
kind_of (result t) = Some (var_kind t)
kind_of (argument d t) = Some (var_kind t)
kind_of (net n t) = Some of.Net
kind_of wire = Some of.Net
kind_of (port d i t) = Some of.Port
kind_of (drives d x e) = Some of.ContAssign
kind_of (gate g d x) = None
kind_of genvar = None
kind_of (gen_block b g) = Some of.GenScope
kind_of (loop_name t) = None
kind_of (child m ps i) = None

-- A task or function has the number of its body: so many stand before it.
abbrev pub is_routine : CodeWord → Bool
is_routine word.Initial = false
is_routine word.Always = false
is_routine word.Task = true
is_routine word.Function = true

abbrev pub has_body : Declared → Bool
has_body (variable t value) = false
has_body (words t r) = false
has_body named_event = false
has_body (constant w t e) = false
has_body (code w s) = is_routine w
has_body (named_block w) = false
has_body (result t) = false
has_body (argument d t) = false
has_body (net n t) = false
has_body wire = false
has_body (port d i t) = false
has_body (drives d x e) = false
has_body (gate g d x) = false
has_body genvar = false
has_body (gen_block b g) = false
has_body (loop_name t) = false
has_body (child m ps i) = false

-- The type of a net. (4.6)
abbrev pub net_type : ast.NetType → NetType
net_type net_word.Wire = of_net.Wire
net_type net_word.Tri = of_net.Tri
net_type net_word.Wand = of_net.Wand
net_type net_word.Triand = of_net.TriAnd
net_type net_word.Wor = of_net.Wor
net_type net_word.Trior = of_net.TriOr

abbrev pub is_output : Direction → Bool
is_output goes.Input = false
is_output goes.Output = true

abbrev pub code_detail : ℕ → CodeWord → Detail
code_detail bodies w = if is_routine w then detail.Routine bodies else detail.Plain

abbrev pub detail_of : ℕ → Declared → Detail
detail_of bodies (variable t value) = detail.Plain
detail_of bodies (words t r) = detail.Plain
detail_of bodies named_event = detail.Plain
detail_of bodies (constant w t e) = detail.Plain
detail_of bodies (code w s) = code_detail bodies w
detail_of bodies (named_block w) = detail.Plain
detail_of bodies (result t) = detail.Plain
detail_of bodies (argument d t) = detail.Plain
detail_of bodies (net n t) = detail.Net (net_type n)
detail_of bodies wire = detail.Net of_net.Wire
detail_of bodies (port d i t) = detail.Port (is_output d) i
detail_of bodies (drives d x e) = detail.Plain
detail_of bodies (gate g d x) = detail.Plain
detail_of bodies genvar = detail.Plain
detail_of bodies (gen_block b g) = detail.Plain
detail_of bodies (loop_name t) = detail.Plain
detail_of bodies (child m ps i) = detail.Plain

-- The objects so far, and the bodies of tasks and functions.
pub record Gathered : Type 0 where
  pub objects : List ObjectInfo
  pub bodies : ℕ

abbrev pub object_of : ℕ → SiteTree → Kind → ObjectInfo
object_of bodies s k = record {
  kind = k;
  name = s.name;
  parent = Some s.scope;
  width = 1;
  signed = false;
  words = 0;
  line = s.place.line;
  detail = detail_of bodies s.declared;
}

abbrev pub bodies_behind : ℕ → Declared → ℕ
bodies_behind bodies d = if has_body d then bodies + 1 else bodies

abbrev pub with_gathered : SiteTree → Option Kind → Gathered → Gathered
with_gathered s None m = m
with_gathered s (Some k) m = record {
  objects = m.objects ++ object_of m.bodies s k ∷ [];
  bodies = bodies_behind m.bodies s.declared;
}

abbrev pub made_site : SiteTree → Gathered → Gathered
made_site s m = with_gathered s (kind_of s.declared) m

-- An instance of a module under this name, in this scope: the top has none. (12.1.2)
abbrev pub instance_object : ModuleTree → List ℕ → Place → Option ℕ → ObjectInfo
instance_object m name place scope = record {
  kind = of.Module;
  name = name;
  parent = scope;
  width = 1;
  signed = false;
  words = 0;
  line = place.line;
  detail = detail.Module m.id.name;
}

-- The names of each scope: a construct, a continuous assignment, and a gate without a name have none; that of a port is that of
-- its net or variable; that of a wire which isn't declared comes with the second pass. (3.12; the latter is own)
abbrev pub is_named : Declared → Bool
is_named (variable t value) = true
is_named (words t r) = true
is_named named_event = true
is_named (constant w t e) = true
is_named (code w x) = is_routine w
is_named (named_block w) = true
is_named (result t) = true
is_named (argument d t) = true
is_named (net n t) = true
is_named wire = false
is_named (port d i t) = false
is_named (drives d x e) = false
is_named (gate g d x) = is_some x.id
is_named genvar = true
is_named (gen_block b g) = true
is_named (loop_name t) = true
is_named (child m ps i) = true

-- An instance's name stands for it once it has its number: until then it stands for no value.
abbrev pub meaning_of : Declared → ℕ → Range → Meaning
meaning_of (variable t value) n r = means.Object n r
meaning_of (words t r) n bounds = means.Object n bounds
meaning_of named_event n r = means.Object n r
meaning_of (constant w t e) n r = means.Object n r
meaning_of (code w s) n r = means.Object n r
meaning_of (named_block w) n r = means.Object n r
meaning_of (result t) n r = means.Result n r
meaning_of (argument d t) n r = means.Object n r
meaning_of (net x t) n r = means.Object n r
meaning_of wire n r = means.Object n r
meaning_of (port d i t) n r = means.Object n r
meaning_of (drives d x e) n r = means.Object n r
meaning_of (gate g d x) n r = means.Gate
meaning_of genvar n r = means.Genvar
meaning_of (gen_block b g) n r = means.Object n r
meaning_of (loop_name t) n r = means.Blocks
meaning_of (child m ps i) n r = means.Gate

-- Once the bounds of a site's digits are known its name stands for them; a name that its scope has twice goes on standing
-- for the first of the two.
abbrev pub is_object : ℕ → Option Meaning → Bool
is_object n (Some (means.Object id r)) = id == n
is_object n (Some (means.Result id r)) = id == n
is_object n (Some _) = false
is_object n None = false

abbrev pub with_bounds : SiteTree → Range → Names → Names
with_bounds s r ns =
    if is_object s.number (meaning_in ns s.scope s.name) then
    declared_anew s.scope s.name (meaning_of s.declared s.number r) ns else ns

abbrev pub lone_digit : Range
lone_digit = record { left = 0; right = 0 }

-- The names so far, and the least fault: a name that its scope has already is declared twice. (N2)
pub record Naming : Type 0 where
  pub names : Names
  pub fault : Option Fault

abbrev pub name_fault : SiteTree → Names → Option Fault
name_fault s ns = if is_some (meaning_in ns s.scope s.name) then Some (N2, s.place) else None

abbrev pub with_named : SiteTree → Naming → Naming
with_named s st = record {
  names = declared s.scope s.name (meaning_of s.declared s.number lone_digit) st.names;
  fault = least st.fault (name_fault s st.names);
}

abbrev pub named_site : SiteTree → Naming → Naming
named_site s st = if is_named s.declared then with_named s st else st

-- The names of wires, once the first pass is over. (4.5)
abbrev pub is_wire : Declared → Bool
is_wire (variable t value) = false
is_wire (words t r) = false
is_wire named_event = false
is_wire (constant w t e) = false
is_wire (code w x) = false
is_wire (named_block w) = false
is_wire (result t) = false
is_wire (argument d t) = false
is_wire (net n t) = false
is_wire wire = true
is_wire (port d i t) = false
is_wire (drives d x e) = false
is_wire (gate g d x) = false
is_wire genvar = false
is_wire (gen_block b g) = false
is_wire (loop_name t) = false
is_wire (child m ps i) = false

abbrev pub wire_named : SiteTree → Names → Names
wire_named s ns =
    if is_wire s.declared then declared s.scope s.name (meaning_of s.declared s.number lone_digit) ns else ns

abbrev pub wires_named : List SiteTree → Names → Names
wires_named so ns = each wire_named so ns

-- The scopes around a site, from the inside out, up to its module: as many as there are objects at most. (12.7)
abbrev pub is_module : Kind → Bool
is_module of.Module = true
is_module _ = false

abbrev pub parent_of : ObjectInfo → Option ℕ
parent_of o = if is_module o.kind then None else o.parent

abbrev pub parent_at : List ObjectInfo → ℕ → Option ℕ
parent_at os s = option_and_then parent_of (slice_get os s)

abbrev pub around_parent : (ℕ → List ℕ) → Option ℕ → List ℕ
around_parent rest None = []
around_parent rest (Some p) = rest p

abbrev pub around_from : List ObjectInfo → List ObjectInfo → ℕ → List ℕ
around_from [] os s = []
around_from (o ∷ more) os s = s ∷ around_parent (around_from more os) (parent_at os s)

abbrev pub around_in : List ObjectInfo → ℕ → List ℕ
around_in os s = around_from os os s
