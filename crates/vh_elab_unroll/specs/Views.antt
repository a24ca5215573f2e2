-- How contracts see what the code holds.
use Rattle.std.specs.Prelude.{◌≡◌, List, map, Option, Some, None, Result, Ok, Err}
use Rattle.std.specs.Borrow.{Bor}
use Rattle.std.specs.Option.{option_copied}
use Rattle.vh_logic.specs.Vector.{Vector}
use Rattle.vh_ast.specs.declared.expr.Expr.{Expr}
use Rattle.vh_ast.specs.declared.token.Id.{Id}
use Rattle.vh_ast.specs.Items.{ModuleTree}
use Rattle.vh_ast.specs.Views.{expr_tree, module_tree}
use Rattle.vh_bind.specs.declared.fault.ElabFault.{ElabFault}
use Rattle.vh_bind.specs.declared.fault.ElabFault.TheVariants as faults
use Rattle.vh_bind.specs.declared.scope.Genvar.{Genvar}
use Rattle.vh_elab_declare.specs.Constants.{Home, written}
use Rattle.vh_elab_declare.specs.Views.{known_seen}
use Rattle.vh_elab_sites.specs.Views.{choice_seen}
use Rattle.vh_elab_unroll.specs.declared.state.Instance as of
use Rattle.vh_elab_unroll.specs.declared.state.Unrolling as so_far
use Rattle.vh_elab_unroll.specs.declared.unroll.Looping.{Looping}
use Rattle.vh_elab_unroll.specs.declared.unroll.Unrolled as come
use Rattle.vh_elab_unroll.specs.Constructs.{Head, Unrolled, Unrolling, noted}

abbrev pub unrolling_seen : so_far.Unrolling → Unrolling
unrolling_seen u = record {
  known = known_seen u.known;
  choices = map choice_seen u.choices.items;
  blocks = u.blocks;
  fault = u.fault;
  passed = u.passed;
}

abbrev pub unrolled_seen : come.Unrolled → Unrolled
unrolled_seen u = record { choices = map choice_seen u.choices.items; fault = u.fault; passed = u.passed }

abbrev pub home_of : of.Instance → Home
home_of i =
    record { number = 0; top_name = i.top_name.now; unit = i.unit; precision = i.precision; given = i.given.now }

abbrev pub tree_of : of.Instance → ModuleTree
tree_of i = module_tree i.ports.now

abbrev pub turn_seen : Option (Bor Genvar) → List Genvar
turn_seen g = written (option_copied g)

abbrev pub head_seen : Looping → Id → Expr → Expr → Head
head_seen l id test step =
    record { at = l; id = id; test = expr_tree test; step = expr_tree step }

-- What a constant comes to is noted. (Want of memory is free.)
abbrev pub NotesBy : {E : Type 0} → Result (Option Vector) ElabFault → Unrolling → Result (Option Vector) E → Unrolling → Type 0
NotesBy (Ok v) old (Ok found) new = (found, new) ≡ noted old (Ok v)
NotesBy (Err (faults.Refused f p)) old (Ok found) new = (found, new) ≡ noted old (Err (f, p))
NotesBy (Err faults.NoMemory) old (Ok found) new = ⊥
NotesBy outcome old (Err refused) new = Unit {0}
