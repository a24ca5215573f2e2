-- The sites of an instance of a module. (IEEE 1364-2005, 12.1 and 12.7)
use Rattle.std.specs.Prelude.{ℕ, zero, suc, ◌+◌, nat_lt, Bool, true, false, if◌then◌else◌, List, [], ◌∷◌, ◌++◌, map, Option, Some, None, unwrap_or, ℤ}
use Rattle.std.specs.Option.{option_map}
use Rattle.vh_base.specs.declared.place.Place.{Place}
use Rattle.vh_lex.specs.declared.setting.DefaultNet.{DefaultNet}
use Rattle.vh_lex.specs.declared.setting.DefaultNet.TheVariants as default_net
use Rattle.vh_ast.specs.declared.token.Id.{Id}
use Rattle.vh_ast.specs.Declarations.{DeclTree, reg, integer, time}
use Rattle.vh_ast.specs.Items.{ElseTree, no_else, else_gblock, GateTree, GblockTree, one_item, item_block, Items, no_item, next_item, items, ItemTree, ItemFormTree, ModuleTree, PlainTree, item, plain_item, generate_word, endgenerate_word, for_item, if_item, port, net, declaration, event, genvar, parameter, assign, gate, instance, process, task, function}
use Rattle.vh_bind_scope.specs.declared.names.Meaning.TheVariants as means
use Rattle.vh_bind_scope.specs.Names.{Names, declared}
use Rattle.vh_bind_scope.specs.LookUp.{found}
use Rattle.vh_elab_ports.specs.Ports.{header_directed}
use Rattle.vh_elab_instances.specs.declared.blocks.TheConstants.{MOST_NUMBERS, MOST_TURNS}
use Rattle.vh_elab_sites.specs.Blocks.{BlockName, BlockText, Choice, GenvarAt, neither, holds, fails, loop, turn, end_of_loop, block_place, is_lone, name_bytes, name_place, text_bytes}
use Rattle.vh_elab_sites.specs.Sites.{Sites, Around, gen_block, loop_name, own_item, pars_sites, plain_sites, ports_sites, scopes_of, with_site}

-- The names that a module's own items declare in its scope, wherever they stand: a wire has none of
-- these. (4.5)
abbrev pub decl_ids : DeclTree → List Id
decl_ids (reg place t vars) = map (λ v. v.id) vars
decl_ids (integer place inits) = map (λ i. i.id) inits
decl_ids (time place inits) = map (λ i. i.id) inits

abbrev pub written_id : Option Id → List Id
written_id None = []
written_id (Some id) = id ∷ []

abbrev pub gate_ids : List GateTree → List Id
gate_ids [] = []
gate_ids (g ∷ gs) = written_id g.id ++ gate_ids gs

abbrev pub plain_ids : PlainTree → List Id
plain_ids (port d p t ids) = ids
plain_ids (net n t wait nets) = map (λ n. n.id) nets
plain_ids (declaration d) = decl_ids d
plain_ids (event ids) = ids
plain_ids (genvar ids) = ids
plain_ids (parameter word t all) = map (λ a. a.id) all
plain_ids (assign wait sets) = []
plain_ids (gate g wait gates) = gate_ids gates
plain_ids (instance m parameters insts) = map (λ i. i.id) insts
plain_ids (process word s) = []
plain_ids (task t) = t.id ∷ []
plain_ids (function f) = f.id ∷ []

-- The name that is written of a generate block counts, taken or not. (own)
abbrev pub gblock_ids : GblockTree → List Id
gblock_ids (one_item place all) = []
gblock_ids (item_block place None all) = []
gblock_ids (item_block place (Some id) all) = id ∷ []

abbrev pub else_ids : ElseTree → List Id
else_ids no_else = []
else_ids (else_gblock g) = gblock_ids g

abbrev pub item_ids : ItemTree → List Id
item_ids (item place (plain_item form)) = plain_ids form
item_ids (item place generate_word) = []
item_ids (item place endgenerate_word) = []
item_ids (item place (for_item start test step body)) = gblock_ids body
item_ids (item place (if_item test block other)) = gblock_ids block ++ else_ids other

abbrev pub items_ids : Items → List Id
items_ids no_item = []
items_ids (next_item i is) = item_ids i ++ items_ids is

abbrev pub module_ids : ModuleTree → List Id
module_ids m =
    map (λ p. p.id) m.pars ++ (map (λ d. d.id) (header_directed m.ports)
    ++ items_ids (items m.items))

-- Names that are declared in a scope; what they stand for doesn't count.
abbrev pub seen_of : ℕ → List Id → Names → Names
seen_of scope [] ns = ns
seen_of scope (id ∷ ids) ns = seen_of scope ids (declared scope id.name means.Gate ns)

abbrev pub plain_name : BlockText → BlockName
plain_name t = record { word = t; index = None }

-- What is made, with what constructs come to that aren't reached yet.
pub record Making : Type 0 where
  pub sites : Sites
  pub left : List Choice

abbrev pub first_choice : List Choice → Choice
first_choice [] = end_of_loop
first_choice (c ∷ cs) = c

abbrev pub other_choices : List Choice → List Choice
other_choices [] = []
other_choices (c ∷ cs) = cs

-- The first choice is taken; sites are made.
abbrev pub taken : Making → Making
taken m = record m { left = other_choices m.left }

abbrev pub making : (Sites → Sites) → Making → Making
making f m = record m { sites = f m.sites }

-- Above so many numbers nothing is looked for: the first pass has a fault there. (own)
abbrev pub is_full : Making → Bool
is_full m = nat_lt MOST_NUMBERS m.sites.next

-- Where the items of a scope inside another one stand.
abbrev pub inside : ℕ → Around → Around
inside n st = record st { scope = n; around = st.scope ∷ st.around }

-- A genvar, by the scope that declares it.
abbrev pub declaring : Around → Names → List ℕ → ℕ
declaring st ns name =
    unwrap_or (option_map (λ d. d.scope) (found ns (scopes_of st) name)) st.scope

abbrev pub genvar_at : Around → Names → Option (Id × ℤ) → Option GenvarAt
genvar_at st ns None = None
genvar_at st ns (Some g) =
    Some (record { scope = declaring st ns g.0.name; name = g.0.name; value = g.1 })

-- A block is a scope, in which its items' names are declared. (12.4)
abbrev pub opened : List Id → ℕ → Sites → Sites
opened ids n so = record so { seen = seen_of n ids so.seen }

abbrev pub block_site : Around → Place → BlockName → Option (Id × ℤ) → List Id → Sites → Sites
block_site st place name g ids so =
    opened ids so.next
    (with_site st.scope (name_bytes name) place (gen_block name (genvar_at st so.seen g)) so)

abbrev pub entered : Around → Place → BlockName → Option (Id × ℤ) → Items → Making → Making
entered st place name g all m = making (block_site st place name g (items_ids all)) m

-- A turn of a loop, and whether there is one.
abbrev pub one_turn : (ℤ → Making → Making) → Choice → Making → Bool × Making
one_turn block neither m = (false, m)
one_turn block (holds t) m = (false, m)
one_turn block (fails t) m = (false, m)
one_turn block (loop t) m = (false, m)
one_turn block (turn v) m = if is_full m then (false, m) else (true, block v m)
one_turn block end_of_loop m = (false, m)

abbrev pub next_turn : (Making → Making) → Bool × Making → Making
next_turn rest (false, m) = m
next_turn rest (true, m) = rest m

-- The turns of a loop, of which there are so many at most.
unfoldable pub turns_made : ℕ → (ℤ → Making → Making) → Making → Making
turns_made zero block m = m
turns_made (suc k) block m =
    next_turn (turns_made k block) (one_turn block (first_choice m.left) (taken m))

-- Where a construct comes to a loop, to its first branch, or to the one behind `else`. (12.4)
abbrev pub by_loop : (BlockText → Making → Making) → Choice → Making → Making
by_loop f neither m = m
by_loop f (holds t) m = m
by_loop f (fails t) m = m
by_loop f (loop t) m = f t m
by_loop f (turn v) m = m
by_loop f end_of_loop m = m

-- Of two branches one is made, or none.
abbrev pub by_branch : (BlockText → Making → Making) → (BlockText → Making → Making) → Choice
    → Making → Making
by_branch first other neither m = m
by_branch first other (holds t) m = first t m
by_branch first other (fails t) m = other t m
by_branch first other (loop t) m = m
by_branch first other (turn v) m = m
by_branch first other end_of_loop m = m

-- A loop declares its name, also one without turns. (12.4.1)
abbrev pub loop_site : Around → Place → BlockText → Sites → Sites
loop_site st place t so = with_site st.scope (text_bytes t) place (loop_name t) so

abbrev pub in_loop : Around → Place → (BlockText → ℤ → Making → Making) → BlockText
    → Making → Making
in_loop st place block t m =
    turns_made MOST_TURNS (block t) (making (loop_site st place t) m)

abbrev pub turn_name : BlockText → ℤ → BlockName
turn_name t v = record { word = t; index = Some v }

-- Items, and what generate constructs come to.
abbrev mutual
  pub item_made : Around → ItemTree → Making → Making
  item_made st (item place form) m = form_made st place form m

  pub form_made : Around → Place → ItemFormTree → Making → Making
  form_made st place (plain_item form) m = making (plain_sites st place form) m
  form_made st place generate_word m = m
  form_made st place endgenerate_word m = m
  form_made st place (for_item start test step body) m =
      by_loop (in_loop st (block_place body) (turn_made st start.id body))
      (first_choice m.left) (taken m)
  form_made st place (if_item test block other) m =
      by_branch (branch_made st block) (else_made st other) (first_choice m.left) (taken m)

  pub turn_made : Around → Id → GblockTree → BlockText → ℤ → Making → Making
  turn_made st id (one_item place all) t v m =
      items_made (inside m.sites.next st) all
      (entered st place (turn_name t v) (Some (id, v)) all m)
  turn_made st id (item_block place name all) t v m =
      items_made (inside m.sites.next st) all
      (entered st (name_place place name) (turn_name t v) (Some (id, v)) all m)

  pub branch_made : Around → GblockTree → BlockText → Making → Making
  branch_made st (one_item place all) t m =
      if is_lone all then items_made st all m
      else items_made (inside m.sites.next st) all (entered st place (plain_name t) None all m)
  branch_made st (item_block place name all) t m =
      items_made (inside m.sites.next st) all
      (entered st (name_place place name) (plain_name t) None all m)

  pub else_made : Around → ElseTree → BlockText → Making → Making
  else_made st no_else t m = m
  else_made st (else_gblock g) t m = branch_made st g t m

  pub items_made : Around → Items → Making → Making
  items_made st no_item m = m
  items_made st (next_item i more) m = items_made st more (next_made st i m)

  pub next_made : Around → ItemTree → Making → Making
  next_made st (item place form) m = if is_full m then m else form_made st place form m

-- The sites of a module whose object has this number, where its generate constructs come to this:
-- its parameters, its ports and its items.
abbrev pub no_sites : ℕ → ModuleTree → Sites
no_sites base m = record { all = []; next = base + 1; seen = seen_of base (module_ids m) [] }

abbrev pub header_sites : ℕ → ModuleTree → Sites
header_sites base m =
    ports_sites m base (header_directed m.ports) (pars_sites base None m.pars (no_sites base m))

abbrev pub makes_wires : DefaultNet → Bool
makes_wires default_net.Wire = true
makes_wires default_net.Nothing = false

abbrev pub around_module : ℕ → ModuleTree → Around
around_module base m =
    record {
      tree = m;
      scope = base;
      wires = makes_wires m.setting.default_net;
      around = [];
    }

abbrev pub module_sites : ℕ → ModuleTree → List Choice → Sites
module_sites base m choices =
    (items_made (around_module base m) (items m.items)
    (record { sites = header_sites base m; left = choices })).sites

-- The sites of a scope's own items alone, without wires: of a module, around which no scope is,
-- those of its header too.
abbrev pub own_items : Around → Items → Sites → Sites
own_items st no_item so = so
own_items st (next_item i more) so = own_items st more (own_item st i so)

abbrev pub own_header : ModuleTree → ℕ → List ℕ → Sites → Sites
own_header m n [] so =
    ports_sites m n (header_directed m.ports) (pars_sites n None m.pars so)
own_header m n (s ∷ around) so = so

abbrev pub scope_sites : ModuleTree → ℕ → List ℕ → Items → Sites
scope_sites m n around all =
    own_items (record { tree = m; scope = n; wires = false; around = around }) all
    (own_header m n around (record { all = []; next = n + 1; seen = [] }))
