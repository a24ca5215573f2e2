-- What the generate constructs of an instance come to: conditions and bounds are worked out scope by scope from the outside in, since a
-- constant sees its own scope and those around it alone. (IEEE 1364-2005, 12.4)
use Rattle.std.specs.Prelude.{ℕ, zero, suc, ◌+◌, List, [], ◌∷◌, ◌++◌, length, Bool, true, false, not, ◌&&◌, if◌then◌else◌, bytes_eq, Option, Some, None, is_some, is_none, Ok, Err, nat_eq, nat_le, nat_lt, unwrap_or, ℤ, pos}
use Rattle.std.specs.Option.{option_map}
use Rattle.std.specs.List.{list_any}
use Rattle.vh_base.specs.declared.faults.DesignFault.{DesignFault}
use Rattle.vh_base.specs.declared.faults.DesignFault.TheVariants.{N1, N2, N4, N5, N11}
use Rattle.vh_base.specs.declared.place.Place.{Place}
use Rattle.vh_logic.specs.declared.digits.Digit.{Digit}
use Rattle.vh_logic.specs.declared.digits.Digit.TheVariants as digit
use Rattle.vh_logic.specs.Vector.{Vector}
use Rattle.vh_logic.specs.Number.{integer_of, known_number}
use Rattle.vh_logic.specs.Parts.{resized}
use Rattle.vh_logic.specs.Reduce.{truth_of}
use Rattle.vh_ast.specs.declared.token.Id.{Id}
use Rattle.vh_ast.specs.Declarations.{AssignedTree}
use Rattle.vh_ast.specs.Expressions.{ExprTree, place_of}
use Rattle.vh_ast.specs.Items.{ElseTree, no_else, else_gblock, GblockTree, one_item, item_block, Items, no_item, next_item, items, ItemTree, ItemFormTree, item, plain_item, generate_word, endgenerate_word, for_item, if_item, ModuleTree}
use Rattle.vh_design_nodes.specs.declared.object.Detail.TheVariants as detail
use Rattle.vh_design_nodes.specs.declared.object.Kind.TheVariants as of
use Rattle.vh_design_nodes.specs.declared.object.ObjectInfo.{ObjectInfo}
use Rattle.vh_bind_scope.specs.declared.names.Meaning.{Meaning}
use Rattle.vh_bind_scope.specs.declared.names.Meaning.TheVariants as means
use Rattle.vh_bind_scope.specs.declared.look_up.Declaration.{Declaration}
use Rattle.vh_bind_scope.specs.Names.{Names, meaning_in}
use Rattle.vh_bind_scope.specs.LookUp.{found}
use Rattle.vh_bind.specs.declared.scope.Genvar.{Genvar}
use Rattle.vh_bind.specs.Constants.{constant}
use Rattle.vh_bind.specs.Scopes.{Scope}
use Rattle.vh_bind.specs.Selects.{Outcome}
use Rattle.vh_bind_least.specs.Least.{Fault, least}
use Rattle.vh_elab_sites.specs.Blocks.{BlockName, BlockText, Choice, written, counted, neither, holds, fails, loop, turn, end_of_loop, block_place, is_lone, name_bytes, name_place, text_bytes}
use Rattle.vh_elab_instances.specs.Instances.{items_ids, scope_sites, seen_of}
use Rattle.vh_elab_declare.specs.Objects.{around_in, instance_object}
use Rattle.vh_elab_declare.specs.Constants.{Genvars, Home, Known, nothing_known, scope_at, with_genvar}
use Rattle.vh_elab_declare.specs.FirstPass.{settled_known}
use Rattle.vh_elab_unroll.specs.declared.unroll.Branch.{Branch}
use Rattle.vh_elab_unroll.specs.declared.unroll.Branch.TheVariants as branch
use Rattle.vh_elab_unroll.specs.declared.unroll.FirstTurn.{FirstTurn}
use Rattle.vh_elab_unroll.specs.declared.unroll.Looping.{Looping}
use Rattle.vh_elab_unroll.specs.declared.unroll.TheConstants.{MOST_TURNS}

-- What is known so far, under numbers of its own; what constructs come to so far; the least fault so far; whether something was passed
-- over; and how many blocks there are.
pub record Unrolling : Type 0 where
  pub known : Known
  pub choices : List Choice
  pub blocks : ℕ
  pub fault : Option Fault
  pub passed : Bool

abbrev pub with_fault : DesignFault → Place → Unrolling → Unrolling
with_fault f place u = record u { fault = least u.fault (Some (f, place)) }

abbrev pub with_choice : Choice → Unrolling → Unrolling
with_choice c u = record u { choices = u.choices ++ c ∷ [] }

-- Behind the 100,001st block nothing more is looked for: the first pass has a fault there. (own)
abbrev pub is_full : Unrolling → Bool
is_full u = nat_lt 100000 u.blocks

-- A constant of a scope, in the head of a loop with the value of its genvar; what has a fault, or needs what has no value, is noted.
abbrev pub scope_of : Home → Known → ℕ → List Genvar → Scope
scope_of h k scope gs = record (scope_at h k scope) { genvars = gs ++ (scope_at h k scope).genvars }

abbrev pub noted : Unrolling → Outcome (Option Vector) → Option Vector × Unrolling
noted u (Ok (Some v)) = (Some v, u)
noted u (Ok None) = (None, record u { passed = true })
noted u (Err fault) = (None, record u { fault = least u.fault (Some fault) })

abbrev pub value_of : Home → ℕ → List Genvar → ExprTree → Unrolling → Option Vector × Unrolling
value_of h scope gs e u = noted u (constant (scope_of h u.known scope gs) 0 e)

-- One with an x is N4 in a loop, whose genvar has 32 digits, signed. (12.4.1)
abbrev pub is_known : Vector → Bool
is_known v = is_some (known_number v.digits)

abbrev pub number_in : Vector → ℕ
number_in v = unwrap_or (known_number v.digits) 0

abbrev pub without_x : Place → Option Vector × Unrolling → Option Vector × Unrolling
without_x place (None, u) = (None, u)
without_x place (Some v, u) = if is_known v then (Some v, u) else (None, with_fault N4 place u)

-- The value of a genvar as an index: it has 32 digits, none of them x.
abbrev pub index_of : Vector → ℤ
index_of v = unwrap_or (integer_of v) (pos 0)

abbrev pub as_genvar : Option Vector × Unrolling → Option Vector × Unrolling
as_genvar (v, u) = (option_map (λ x. resized x 32 true) v, u)

abbrev pub genvar_value : Home → ℕ → List Genvar → ExprTree → Unrolling → Option Vector × Unrolling
genvar_value h scope gs e u = without_x (place_of e) (as_genvar (value_of h scope gs e u))

-- What a block is called; a construct without a name by its number in its scope, behind so many zeros that the scope declares no such
-- name. (12.4.3)
abbrev pub block_text : GblockTree → BlockText → BlockText
block_text (one_item place all) t = t
block_text (item_block place None all) t = t
block_text (item_block place (Some id) all) t = written id.name

abbrev pub most_zeros : ℕ
most_zeros = 1025

unfoldable pub free_text : ℕ → Names → ℕ → ℕ → ℕ → BlockText
free_text zero ns scope z n = counted most_zeros n
free_text (suc k) ns scope z n =
    if is_none (meaning_in ns scope (text_bytes (counted z n))) then counted z n
    else free_text k ns scope (z + 1) n

-- A block under the next number, with the names and the parameters of its own items. (12.4)
abbrev pub block_object : ℕ → BlockName → Place → ObjectInfo
block_object scope name place = record {
  kind = of.GenScope;
  name = name_bytes name;
  parent = Some scope;
  width = 1;
  signed = false;
  words = 0;
  line = place.line;
  detail = detail.Plain;
}

abbrev pub genvars_kept : ℕ → List Genvar → Genvars → Genvars
genvars_kept n [] all = all
genvars_kept n (g ∷ gs) all = genvars_kept n gs (with_genvar n g all)

abbrev pub with_genvars : ℕ → List Genvar → Known → Known
with_genvars n gs k = record k { genvars = genvars_kept n gs k.genvars }

abbrev pub with_ids : ℕ → List Id → Known → Known
with_ids n ids k = record k { names = seen_of n ids k.names }

abbrev pub opened_known : Home → ModuleTree → ℕ → Place → BlockName → List Genvar → Items → Known → Known
opened_known h m scope place name gs all k =
    let n = length k.objects in
    with_ids n (items_ids all)
    (settled_known h (block_object scope name place) (scope_sites m n (around_in k.objects scope) all).all
    (with_genvars n gs k))

abbrev pub opened : Home → ModuleTree → ℕ → Place → BlockName → List Genvar → Items → Unrolling → Unrolling
opened h m scope place name gs all u =
    record u { known = opened_known h m scope place name gs all u.known; blocks = u.blocks + 1 }

-- The genvar of a loop: its scope; another name is N1. The step assigns the same one: another genvar is N5. (12.4.1)
abbrev pub is_genvar : Meaning → Bool
is_genvar (means.Object n r) = false
is_genvar (means.Result n r) = false
is_genvar means.Genvar = true
is_genvar means.Blocks = false
is_genvar means.Gate = false

abbrev pub genvar_scope : Option Declaration → Option ℕ
genvar_scope None = None
genvar_scope (Some d) = if is_genvar d.meaning then Some d.scope else None

abbrev pub genvar_at : Known → ℕ → Id → Option ℕ
genvar_at k scope id = genvar_scope (found k.names (around_in k.objects scope) id.name)

abbrev pub with_start : Id → Option ℕ → Unrolling → Unrolling
with_start id None u = with_fault N1 id.place u
with_start id (Some s) u = u

abbrev pub with_step : Id → Id → Option ℕ → Unrolling → Unrolling
with_step start step None u = with_fault N1 step.place u
with_step start step (Some s) u = if bytes_eq start.name step.name then u else with_fault N5 step.place u

-- A condition holds where some digit of it is 1; where it has no value nothing in the construct is looked at. (12.4.2)
abbrev pub is_one : Digit → Bool
is_one digit.Zero = false
is_one digit.One = true
is_one digit.X = false
is_one digit.Z = false

abbrev pub is_true : Vector → Bool
is_true v = is_one (truth_of v)

-- The turns of a loop: as long as the test holds. A value that comes twice is N2 at the block, a block above 100,000 N11 at the `for`.
pub record Head : Type 0 where
  pub at : Looping
  pub id : Id
  pub test : ExprTree
  pub step : ExprTree

abbrev pub genvar_of : ℕ → Id → Vector → Genvar
genvar_of declaring id v = record { scope = declaring; name = id.name; value = v }

-- A block of a loop, by the value of its genvar.
abbrev pub Making : Type 0
Making = Genvar → Unrolling → Unrolling

-- Whether the loop goes on behind a turn, and the values of its genvar so far, as numbers.
pub record Turned : Type 0 where
  pub goes_on : Bool
  pub seen : List ℕ
  pub state : Unrolling

abbrev pub stopped : List ℕ → Unrolling → Turned
stopped seen u = record { goes_on = false; seen = seen; state = u }

-- A turn is chosen, behind which its block is made.
abbrev pub chosen_turn : Looping → List ℕ → Vector → Unrolling → Turned
chosen_turn l seen v u =
    if list_any (nat_eq (number_in v)) seen then stopped seen (with_fault N2 l.block_place u)
    else (if nat_le 100000 (length seen) then stopped seen (with_fault N11 l.place u)
    else record {
      goes_on = true;
      seen = seen ++ number_in v ∷ [];
      state = with_choice (turn (index_of v)) u;
    })

abbrev pub with_block : Making → Genvar → Turned → Turned
with_block block g t =
    record t { state = if t.goes_on then block g t.state else t.state }

abbrev pub held_turn : Looping → Making → List ℕ → Genvar → Unrolling → Turned
held_turn l block seen g u = with_block block g (chosen_turn l seen g.value u)

abbrev pub met_by : Option Vector × Unrolling → Bool × Unrolling
met_by (None, u) = (false, u)
met_by (Some t, u) = (is_true t, u)

abbrev pub is_met : Home → ℕ → ExprTree → Genvar → Unrolling → Bool × Unrolling
is_met h scope test g u = met_by (without_x (place_of test) (value_of h scope (g ∷ []) test u))

abbrev pub tested_turn : Looping → Making → List ℕ → Genvar → Bool × Unrolling → Turned
tested_turn l block seen g met =
    if met.0 then held_turn l block seen g met.1 else stopped seen met.1

abbrev pub one_turn : Home → Looping → ExprTree → Making → List ℕ → Genvar → Unrolling → Turned
one_turn h l test block seen g u = tested_turn l block seen g (is_met h l.scope test g u)

-- The next value of the genvar, where the loop goes on.
pub record Stepped : Type 0 where
  pub next : Option Vector
  pub seen : List ℕ
  pub state : Unrolling

abbrev pub stepped : List ℕ → Option Vector × Unrolling → Stepped
stepped seen v = record { next = v.0; seen = seen; state = v.1 }

abbrev pub next_value : Home → ℕ → ExprTree → Genvar → Bool → Unrolling → Option Vector × Unrolling
next_value h scope step g goes_on u =
    if goes_on then genvar_value h scope (g ∷ []) step u else (None, u)

abbrev pub behind_turn : Home → ℕ → ExprTree → Genvar → Turned → Stepped
behind_turn h scope step g t = stepped t.seen (next_value h scope step g t.goes_on t.state)

abbrev pub one_step : Home → Head → Making → List ℕ → Vector → Unrolling → Stepped
one_step h d block seen v u =
    let g = genvar_of d.at.declaring d.id v in
    if is_full u then stepped seen (None, u)
    else behind_turn h d.at.scope d.step g (one_turn h d.at d.test block seen g u)

-- From a value of the genvar on, or none.
abbrev pub with_next : (List ℕ → Vector → Unrolling → Unrolling) → Option Vector → List ℕ → Unrolling → Unrolling
with_next rest None seen u = u
with_next rest (Some v) seen u = rest seen v u

abbrev pub next_turn : (List ℕ → Vector → Unrolling → Unrolling) → Stepped → Unrolling
next_turn rest s = with_next rest s.next s.seen s.state

unfoldable pub turns : ℕ → Home → Head → Making → List ℕ → Vector → Unrolling → Unrolling
turns zero h d block seen v u = u
turns (suc k) h d block seen v u = next_turn (turns k h d block) (one_step h d block seen v u)

-- A loop begins where its genvar and its step are right, and its start has a value.
abbrev pub is_right : Id → Id → Option ℕ → Bool
is_right start step None = false
is_right start step (Some s) = bytes_eq start.name step.name

abbrev pub first_turn : Option ℕ → Bool → Option Vector → Option FirstTurn
first_turn own false v = None
first_turn None true v = None
first_turn (Some s) true None = None
first_turn (Some s) true (Some v) = Some (record { declaring = s; value = v })

abbrev pub begun_by : Option ℕ → Bool → Option Vector × Unrolling → Option FirstTurn × Unrolling
begun_by own right v = (first_turn own right v.0, v.1)

abbrev pub begun : Home → ℕ → AssignedTree → AssignedTree → Unrolling → Option FirstTurn × Unrolling
begun h scope start step u =
    let own = genvar_at u.known scope start.id in
    let other = genvar_at u.known scope step.id in
    begun_by own (is_right start.id step.id other)
    (genvar_value h scope [] start.value
    (with_start start.id own (with_step start.id step.id other u)))

abbrev pub with_turns : Home → ℕ → Place → Id → ExprTree → ExprTree → Place → Making
    → Option FirstTurn × Unrolling → Unrolling
with_turns h scope place id test step block_at block (None, u) = u
with_turns h scope place id test step block_at block (Some first, u) =
    turns MOST_TURNS h (record {
      at = record { scope = scope; place = place; declaring = first.declaring; block_place = block_at };
      id = id;
      test = test;
      step = step;
    }) block [] first.value u

abbrev pub looped : Home → ℕ → Place → AssignedTree → ExprTree → AssignedTree → Place → Making → Unrolling → Unrolling
looped h scope place start test step block_at block u =
    with_turns h scope place start.id test step.value block_at block (begun h scope start step u)

abbrev pub branched : BlockText → Option Vector × Unrolling → Branch × Unrolling
branched t (None, u) = (branch.Neither, with_choice neither u)
branched t (Some v, u) = if is_true v then (branch.Holds, with_choice (holds t) u) else (branch.Fails, u)

abbrev pub tested : Home → ℕ → ExprTree → BlockText → Unrolling → Branch × Unrolling
tested h scope test t u = branched t (value_of h scope [] test u)

abbrev pub by_first : (Unrolling → Unrolling) → Branch → Unrolling → Unrolling
by_first met branch.Holds u = met u
by_first met branch.Fails u = u
by_first met branch.Neither u = u

abbrev pub by_other : (Unrolling → Unrolling) → Branch → Unrolling → Unrolling
by_other unmet branch.Holds u = u
by_other unmet branch.Fails u = unmet u
by_other unmet branch.Neither u = u

-- A loop, between its name and its end.
abbrev pub loop_unrolled : Making → Home → ℕ → Place → AssignedTree → ExprTree → AssignedTree → Place → BlockText → Unrolling → Unrolling
loop_unrolled block h scope place start test step block_at t u =
    with_choice end_of_loop (looped h scope place start test step block_at block (with_choice (loop t) u))

-- K counts all constructs of the scope. (12.4.3)
abbrev pub counts : ItemFormTree → Bool
counts (plain_item form) = false
counts generate_word = false
counts endgenerate_word = false
counts (for_item start test step body) = true
counts (if_item test first other) = true

abbrev pub is_construct : ItemTree → Bool
is_construct (item place form) = counts form

abbrev pub number_behind : ℕ → ItemTree → ℕ
number_behind n i = if is_construct i then n + 1 else n

abbrev pub named_or : Option Id → BlockText → BlockText
named_or None t = t
named_or (Some id) t = written id.name

abbrev mutual
  -- The constructs of a scope, the first of which has this number.
  pub items_unrolled : Home → ModuleTree → ℕ → ℕ → Items → Unrolling → Unrolling
  items_unrolled h m scope n no_item u = u
  items_unrolled h m scope n (next_item i more) u =
      if is_full u then u
      else items_unrolled h m scope (number_behind n i) more
      (item_unrolled h m scope (free_text most_zeros u.known.names scope 0 n) i u)

  pub item_unrolled : Home → ModuleTree → ℕ → BlockText → ItemTree → Unrolling → Unrolling
  item_unrolled h m scope t (item place form) u = form_unrolled h m scope place t form u

  pub form_unrolled : Home → ModuleTree → ℕ → Place → BlockText → ItemFormTree → Unrolling → Unrolling
  form_unrolled h m scope place t (plain_item form) u = u
  form_unrolled h m scope place t generate_word u = u
  form_unrolled h m scope place t endgenerate_word u = u
  form_unrolled h m scope place t (for_item start test step body) u =
      loop_unrolled (turn_unrolled h m scope (block_text body t) body) h scope place start test step (block_place body)
      (block_text body t) u
  form_unrolled h m scope place t (if_item test first other) u =
      let taken = tested h scope test (block_text first t) u in
      by_other (λ x. else_unrolled h m scope t other x) taken.0
      (by_first (λ x. branch_unrolled h m scope t first x) taken.0 taken.1)

  pub else_unrolled : Home → ModuleTree → ℕ → BlockText → ElseTree → Unrolling → Unrolling
  else_unrolled h m scope t no_else u = with_choice neither u
  else_unrolled h m scope t (else_gblock g) u =
      branch_unrolled h m scope t g (with_choice (fails (block_text g t)) u)

  -- An `if` that stands without `begin` as a branch belongs to the same construct, and makes no block.
  pub branch_unrolled : Home → ModuleTree → ℕ → BlockText → GblockTree → Unrolling → Unrolling
  branch_unrolled h m scope t (one_item place all) u =
      if is_lone all then lone_unrolled h m scope t all u
      else items_unrolled h m (length u.known.objects) 1 all
      (opened h m scope place (record { word = t; index = None }) [] all u)
  branch_unrolled h m scope t (item_block place id all) u =
      items_unrolled h m (length u.known.objects) 1 all
      (opened h m scope (name_place place id) (record { word = named_or id t; index = None }) [] all u)

  pub lone_unrolled : Home → ModuleTree → ℕ → BlockText → Items → Unrolling → Unrolling
  lone_unrolled h m scope t no_item u = u
  lone_unrolled h m scope t (next_item i more) u = lone_unrolled h m scope t more (item_unrolled h m scope t i u)

  pub turn_unrolled : Home → ModuleTree → ℕ → BlockText → GblockTree → Genvar → Unrolling → Unrolling
  turn_unrolled h m scope t (one_item place all) g u =
      items_unrolled h m (length u.known.objects) 1 all
      (opened h m scope place (record { word = t; index = Some (index_of g.value) }) (g ∷ []) all u)
  turn_unrolled h m scope t (item_block place name all) g u =
      items_unrolled h m (length u.known.objects) 1 all
      (opened h m scope (name_place place name) (record { word = t; index = Some (index_of g.value) }) (g ∷ []) all u)

-- Those of a module, which is number 0 here.

abbrev pub module_known : Home → ModuleTree → Known
module_known h m =
    with_ids 0 (items_ids (items m.items))
    (settled_known h (instance_object m m.id.name m.id.place None) (scope_sites m 0 [] (items m.items)).all nothing_known)

pub record Unrolled : Type 0 where
  pub choices : List Choice
  pub fault : Option Fault
  pub passed : Bool

abbrev pub come_to : Unrolling → Unrolled
come_to u = record { choices = u.choices; fault = u.fault; passed = u.passed }

abbrev pub nothing_unrolled : Known → Unrolling
nothing_unrolled k = record { known = k; choices = []; blocks = 0; fault = None; passed = false }

abbrev pub unrolled : Home → ModuleTree → Unrolled
unrolled h m = come_to (items_unrolled h m 0 1 (items m.items) (nothing_unrolled (module_known h m)))
