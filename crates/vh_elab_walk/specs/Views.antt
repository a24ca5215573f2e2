-- How contracts see what the code holds.
use Rattle.std.specs.Prelude.{◌≡◌, ℕ, List, map, reverse, Result, Ok, Err, Option}
use Rattle.std.specs.Borrow.{Bor}
use Rattle.vh_ast.specs.Items.{SourceTree}
use Rattle.vh_ast.specs.Views.{module_tree}
use Rattle.vh_elab_sites.specs.Views.{all_seen}
use Rattle.vh_elab_declare.specs.Views.{known_seen}
use Rattle.vh_elab_walk.specs.declared.overrides.Overriding as over
use Rattle.vh_elab_walk.specs.declared.walk.Children as inside
use Rattle.vh_elab_walk.specs.declared.walk.Going as go
use Rattle.vh_elab_walk.specs.declared.walk.Going.TheVariants as to
use Rattle.vh_elab_walk.specs.declared.walk.Modules as source
use Rattle.vh_elab_walk.specs.declared.walk.Placed as at
use Rattle.vh_elab_walk.specs.declared.walk.Waiting as next
use Rattle.vh_elab_walk.specs.declared.walk.Walk as so_far
use Rattle.vh_elab_walk.specs.declared.walk.Walked as end
use Rattle.vh_elab_walk.specs.declared.walk.Walked.TheVariants as comes
use Rattle.vh_logic.specs.Vector.{Vector}
use Rattle.vh_bind.specs.declared.fault.ElabFault.{ElabFault}
use Rattle.vh_bind.specs.declared.fault.ElabFault.TheVariants as faults
use Rattle.vh_elab_walk.specs.Overrides.{Overriding, taken_by}
use Rattle.vh_elab_walk.specs.Walks.{Children, Going, Placed, Waiting, Walk, Walked, on, ended, walked, refused, later}

abbrev pub names_seen : List (Bor (List ℕ)) → List (List ℕ)
names_seen names = map (λ b. b.now) names

abbrev pub overriding_seen : over.Overriding → Overriding
overriding_seen o = record { given = o.given; fault = o.fault }

-- The modules of a source, whose names are in their index.
abbrev pub source_seen : source.Modules → SourceTree
source_seen ms = map module_tree ms.ports.now

abbrev pub IsSource : source.Modules → Type 0
IsSource ms = ms.names.now ≡ map (λ m. m.id.name) (source_seen ms)

abbrev pub waiting_seen : next.Waiting → Waiting
waiting_seen w = record {
  tree = module_tree w.ports.now;
  name = w.name.now;
  place = w.place;
  scope = w.scope;
  given = w.given;
}

abbrev pub all_waiting : List next.Waiting → List Waiting
all_waiting ws = map waiting_seen ws

-- The last of a stack comes first.
abbrev pub stack_seen : List next.Waiting → List Waiting
stack_seen ws = reverse (all_waiting ws)

abbrev pub children_seen : inside.Children → Children
children_seen cs = record { waiting = all_waiting cs.waiting.items; fault = cs.fault }

abbrev pub placed_seen : at.Placed → Placed
placed_seen p = record {
  home = record {
    number = p.number;
    top_name = p.top_name.now;
    unit = p.unit;
    precision = p.precision;
    given = p.given;
  };
  tree = module_tree p.ports.now;
  sites = all_seen p.sites.items;
}

abbrev pub walk_seen : so_far.Walk → Walk
walk_seen wk = record {
  placed = map placed_seen wk.placed.items;
  known = known_seen wk.known;
  words = wk.words;
}

abbrev pub going_seen : go.Going → Going
going_seen (to.On ws wk) = on (stack_seen ws.items) (walk_seen wk)
going_seen (to.Refused fault) = ended (refused fault)
going_seen to.Later = ended later

abbrev pub walked_seen : end.Walked → Walked
walked_seen (comes.Walked wk) = walked (walk_seen wk)
walked_seen (comes.Refused fault) = refused fault
walked_seen comes.Later = later

-- A value that was asked for is taken. (Want of memory is free.)
abbrev pub TakesBy : {E : Type 0} → Option (List ℕ) → Result (Option Vector) ElabFault → Overriding → Result over.Overriding E → Type 0
TakesBy name (Ok v) old (Ok o) = overriding_seen o ≡ taken_by name (Ok v) old
TakesBy name (Err (faults.Refused f p)) old (Ok o) = overriding_seen o ≡ taken_by name (Err (f, p)) old
TakesBy name (Err faults.NoMemory) old (Ok o) = ⊥
TakesBy name value old (Err lacking) = Unit {0}
