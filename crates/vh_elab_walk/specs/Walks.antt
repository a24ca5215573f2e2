-- The instances of a source in walk order, with all that the first pass finds in them: an instance, then those in it, in the order
-- of the source. (IEEE 1364-2005, 12.1; the order is own)
use Rattle.std.specs.Prelude.{ℕ, zero, suc, ◌+◌, List, [], ◌∷◌, ◌++◌, length, ◌||◌, Bool, true, false, if◌then◌else◌, nat_le, nat_lt, Option, Some, None, Ok, Err}
use Rattle.vh_base.specs.declared.faults.DesignFault.TheVariants.{N1, N11}
use Rattle.vh_base.specs.declared.place.Place.{Place}
use Rattle.vh_ast.specs.declared.token.Id.{Id}
use Rattle.vh_ast.specs.Items.{ConnTree, InstTree, ModuleTree, SourceTree}
use Rattle.vh_bind_scope.specs.declared.names.Meaning.TheVariants as means
use Rattle.vh_bind_scope.specs.Names.{Names, declared_anew}
use Rattle.vh_bind.specs.Selects.{Outcome}
use Rattle.vh_bind_least.specs.Least.{Fault, least}
use Rattle.vh_elab_sites.specs.Sites as S
use Rattle.vh_elab_sites.specs.Sites.{Declared, SiteTree, variable, words, named_event, constant, code, named_block, result, argument, net, wire, port, drives, gate, genvar, gen_block, loop_name, child}
use Rattle.vh_elab_ports.specs.Ports.{ports_fault}
use Rattle.vh_elab_instances.specs.Instances.{module_sites}
use Rattle.vh_elab_declare.specs.Objects.{instance_object, lone_digit, wires_named}
use Rattle.vh_elab_declare.specs.Constants.{Checked, Given, Home, Known, most_objects, nothing_known, scope_at}
use Rattle.vh_elab_declare.specs.FirstPass.{checked}
use Rattle.vh_elab_modules.specs.Modules.{module_named}
use Rattle.vh_elab_unroll.specs.Constructs.{Unrolled, unrolled}
use Rattle.vh_elab_walk.specs.Overrides.{overrides}

-- An instance that is to be walked: its module, its name with its place, its scope, which the top hasn't, and what its parameters are given.
pub record Waiting : Type 0 where
  pub tree : ModuleTree
  pub name : List ℕ
  pub place : Place
  pub scope : Option ℕ
  pub given : Given

-- One that was walked.
pub record Placed : Type 0 where
  pub home : Home
  pub tree : ModuleTree
  pub sites : List SiteTree

-- The instances so far, in walk order, with what is known of their objects, and how many words their memories have.
pub record Walk : Type 0 where
  pub placed : List Placed
  pub known : Known
  pub words : ℕ

pub data Walked : Type 0 where
  walked : Walk → Walked
  refused : Fault → Walked
  later : Walked

-- The instances in one: each in its order, or the least fault of all of them. A module that isn't there is N1 at its name; what its
-- parameters are given is worked out where the item stands.
abbrev pub waiting_for : ℕ → InstTree → ModuleTree → Outcome Given → Outcome Waiting
waiting_for scope i x (Err fault) = Err fault
waiting_for scope i x (Ok given) =
    Ok (record { tree = x; name = i.id.name; place = i.id.place; scope = Some scope; given = given })

abbrev pub child_by : Home → Known → ℕ → Id → List ConnTree → InstTree → Option ModuleTree → Outcome Waiting
child_by h k scope m ps i None = Err (N1, m.place)
child_by h k scope m ps i (Some x) = waiting_for scope i x (overrides (scope_at h k scope) m.place x ps)

-- The children so far, and the least fault of all so far.
pub record Children : Type 0 where
  pub waiting : List Waiting
  pub fault : Option Fault

abbrev pub with_child : Children → Outcome Waiting → Children
with_child cs (Ok w) = record cs { waiting = cs.waiting ++ w ∷ [] }
with_child cs (Err fault) = record cs { fault = least cs.fault (Some fault) }

abbrev pub child_declared : SourceTree → Home → Known → ℕ → Declared → Children → Children
child_declared ms h k scope (variable t value) cs = cs
child_declared ms h k scope (words t r) cs = cs
child_declared ms h k scope named_event cs = cs
child_declared ms h k scope (S.constant w t e) cs = cs
child_declared ms h k scope (code w s) cs = cs
child_declared ms h k scope (named_block w) cs = cs
child_declared ms h k scope (result t) cs = cs
child_declared ms h k scope (argument d t) cs = cs
child_declared ms h k scope (net n t) cs = cs
child_declared ms h k scope wire cs = cs
child_declared ms h k scope (port d i t) cs = cs
child_declared ms h k scope (drives d x e) cs = cs
child_declared ms h k scope (gate g d x) cs = cs
child_declared ms h k scope genvar cs = cs
child_declared ms h k scope (gen_block b g) cs = cs
child_declared ms h k scope (loop_name t) cs = cs
child_declared ms h k scope (child m ps i) cs = with_child cs (child_by h k scope m ps i (module_named ms m.name))

abbrev pub children_from : SourceTree → Home → Known → List SiteTree → Children → Children
children_from ms h k [] cs = cs
children_from ms h k (s ∷ so) cs = children_from ms h k so (child_declared ms h k s.scope s.declared cs)

abbrev pub children_of : SourceTree → Home → Known → List SiteTree → Option Fault → Children
children_of ms h k so fault = children_from ms h k so (record { waiting = []; fault = fault })

-- The name that an instance's item declares stands for the instance from now on.
abbrev pub named_in : Option ℕ → List ℕ → ℕ → Names → Names
named_in None name n ns = ns
named_in (Some scope) name n ns = declared_anew scope name (means.Object n lone_digit) ns

abbrev pub with_instance : Waiting → Known → Known
with_instance w k = record k { names = named_in w.scope w.name (length k.objects) k.names }

-- The wires that an instance makes have their names from now on.
abbrev pub with_wires : List SiteTree → Known → Known
with_wires so k = record k { names = wires_named so k.names }

abbrev pub home_of : List ℕ → ℕ → Waiting → Home
home_of top n w = record {
  number = n;
  top_name = top;
  unit = w.tree.setting.unit;
  precision = w.tree.setting.precision;
  given = w.given;
}

-- What comes of an instance: the walk goes on with those that wait, or it ends.
pub data Going : Type 0 where
  on : List Waiting → Walk → Going
  ended : Walked → Going

-- What is passed over without a fault comes later.
abbrev pub gone_by : Option Fault → Bool → Going → Going
gone_by (Some fault) passed rest = ended (refused fault)
gone_by None true rest = ended later
gone_by None false rest = rest

-- It goes behind those so far, and those in it come before the others that wait.
abbrev pub with_placed : Home → ModuleTree → List SiteTree → Checked → List Placed → Walk
with_placed h m so c placed = record {
  placed = placed ++ record { home = h; tree = m; sites = so } ∷ [];
  known = with_wires so c.known;
  words = c.words;
}

abbrev pub children_walked : Home → ModuleTree → List SiteTree → Bool → Checked → List Waiting → List Placed → Children → Going
children_walked h m so passed c others placed cs =
    gone_by cs.fault passed (on (cs.waiting ++ others) (with_placed h m so c placed))

abbrev pub checked_walked : SourceTree → Home → ModuleTree → List SiteTree → List Waiting → Walk → Unrolled → Checked → Going
checked_walked ms h m so others wk u c =
    children_walked h m so (c.passed || u.passed) c others wk.placed
    (children_of ms h c.known so (least (ports_fault m) (least u.fault c.fault)))

abbrev pub sites_walked : SourceTree → Home → Waiting → List Waiting → Walk → Unrolled → List SiteTree → Going
sites_walked ms h w others wk u so =
    checked_walked ms h w.tree so others wk u
    (checked h (instance_object w.tree w.name w.place w.scope) so (with_instance w wk.known) wk.words)

abbrev pub unrolled_walked : SourceTree → Home → Waiting → List Waiting → Walk → Unrolled → Going
unrolled_walked ms h w others wk u =
    sites_walked ms h w others wk u (module_sites h.number w.tree u.choices).all

-- One object more than there may be, which is an instance. (N11)
abbrev pub unless_full : Place → ℕ → Going → Going
unless_full place n rest = if nat_le most_objects n then ended (refused (N11, place)) else rest

-- Generate constructs are worked out under numbers of their own, that of the module being 0.
abbrev pub one_walked : SourceTree → List ℕ → Waiting → List Waiting → Walk → Going
one_walked ms top w others wk =
    let h = home_of top (length wk.known.objects) w in
    unless_full w.place h.number (unrolled_walked ms h w others wk (unrolled (record h { number = 0 }) w.tree))

-- All of them: each instance is an object, and there are 100,000 objects at most, or a fault. (own)
abbrev pub going : (List Waiting → Walk → Walked) → Going → Walked
going rest (on others wk) = rest others wk
going rest (ended x) = x

unfoldable pub walk : ℕ → SourceTree → List ℕ → List Waiting → Walk → Walked
walk zero ms top waiting wk = later
walk (suc k) ms top [] wk = walked wk
walk (suc k) ms top (w ∷ others) wk = going (walk k ms top) (one_walked ms top w others wk)

abbrev pub most_instances : ℕ
most_instances = 100002

abbrev pub first_waiting : ModuleTree → Waiting
first_waiting m = record { tree = m; name = m.id.name; place = m.id.place; scope = None; given = [] }

abbrev pub no_walk : Walk
no_walk = record { placed = []; known = nothing_known; words = 0 }

abbrev pub instances_of : SourceTree → ModuleTree → Walked
instances_of ms top = walk most_instances ms top.id.name (first_waiting top ∷ []) no_walk

-- The simulation's precision is the least of the instances'. (own)
abbrev pub lesser_precision : ℕ → ℕ → ℕ
lesser_precision p q = if nat_lt q p then q else p

abbrev pub least_precision : ℕ → List Placed → ℕ
least_precision p [] = p
least_precision p (x ∷ xs) = least_precision (lesser_precision p x.home.precision) xs
