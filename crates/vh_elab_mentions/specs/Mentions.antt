-- The names in expressions and targets, in the order of the text; and the modules that a module has instances of.
-- (IEEE 1364-2005, 4.5 and 12.1.2)
use Rattle.std.specs.Prelude.{List, [], ◌∷◌, ◌++◌, Option, Some, None}
use Rattle.vh_ast.specs.declared.token.Id.{Id}
use Rattle.vh_ast.specs.Expressions.{ExprTree, expr, ExprFormTree, number, text, named, call, system, paren, concat, repeat, unary, chain, choice, Exprs, no_expr, one_expr, Links, no_link, one_link, NameTree, name, Steps, no_step, one_step, IndexTree, no_index, index, SelTree, no_sel, index_sel, both_sel, part_sel, PartTree, at, range, up, down}
use Rattle.vh_ast.specs.Statements.{LvPartTree, opened, target, closed, LvTree}
use Rattle.vh_ast.specs.Items.{ConnTree, ordered, by_name, PlainTree, port, net, declaration, event, genvar, parameter, assign, gate, instance, process, task, function, ItemTree, item, ItemFormTree, plain_item, generate_word, endgenerate_word, for_item, if_item, GblockTree, one_item, item_block, ElseTree, no_else, else_gblock, Items, no_item, next_item, items, ModuleTree}

abbrev pub Ids : Type 0
Ids = List Id

abbrev pub with_id : Id → Ids → Ids
with_id id ids = ids ++ id ∷ []

-- One after another.
abbrev pub each : {A : Type 0} → (A → Ids → Ids) → List A → Ids → Ids
each f [] ids = ids
each f (x ∷ xs) ids = each f xs (f x ids)

-- A name that is no path. (12.5)
abbrev pub own_id : IndexTree → Steps → Id → Ids → Ids
own_id no_index no_step id ids = with_id id ids
own_id no_index (one_step next i more) id ids = ids
own_id (index e) more id ids = ids

abbrev mutual
  -- The names in an expression, behind some others: those that stand alone or with a select. The name of what is called and
  -- the parts of a path aren't counted; what stands in brackets there is.
  pub expr_ids : ExprTree → Ids → Ids
  expr_ids (expr place form) ids = form_ids form ids

  pub form_ids : ExprFormTree → Ids → Ids
  form_ids (number n) ids = ids
  form_ids (text bytes) ids = ids
  form_ids (named n sel) ids = sel_ids sel (name_ids n ids)
  form_ids (call n es) ids = exprs_ids es (called_ids n ids)
  form_ids (system id es) ids = exprs_ids es ids
  form_ids (paren e) ids = expr_ids e ids
  form_ids (concat es) ids = exprs_ids es ids
  form_ids (repeat e es) ids = exprs_ids es (expr_ids e ids)
  form_ids (unary op e) ids = expr_ids e ids
  form_ids (chain e ls) ids = links_ids ls (expr_ids e ids)
  form_ids (choice t a b) ids = expr_ids b (expr_ids a (expr_ids t ids))

  pub exprs_ids : Exprs → Ids → Ids
  exprs_ids no_expr ids = ids
  exprs_ids (one_expr e es) ids = exprs_ids es (expr_ids e ids)

  pub links_ids : Links → Ids → Ids
  links_ids no_link ids = ids
  links_ids (one_link op e ls) ids = links_ids ls (expr_ids e ids)

  pub name_ids : NameTree → Ids → Ids
  name_ids (name id i more) ids = steps_ids more (index_ids i (own_id i more id ids))

  pub called_ids : NameTree → Ids → Ids
  called_ids (name id i more) ids = steps_ids more (index_ids i ids)

  pub steps_ids : Steps → Ids → Ids
  steps_ids no_step ids = ids
  steps_ids (one_step id i more) ids = steps_ids more (index_ids i ids)

  pub index_ids : IndexTree → Ids → Ids
  index_ids no_index ids = ids
  index_ids (index e) ids = expr_ids e ids

  pub sel_ids : SelTree → Ids → Ids
  sel_ids no_sel ids = ids
  sel_ids (index_sel bracket e) ids = expr_ids e ids
  sel_ids (both_sel bracket e last part) ids = part_ids part (expr_ids e ids)
  sel_ids (part_sel bracket part) ids = part_ids part ids

  pub part_ids : PartTree → Ids → Ids
  part_ids (at e) ids = expr_ids e ids
  part_ids (range left right) ids = expr_ids right (expr_ids left ids)
  part_ids (up base width) ids = expr_ids width (expr_ids base ids)
  part_ids (down base width) ids = expr_ids width (expr_ids base ids)

-- The names in a target. (A.8.5)
abbrev pub piece_ids : LvPartTree → Ids → Ids
piece_ids opened ids = ids
piece_ids (target n sel) ids = sel_ids sel (name_ids n ids)
piece_ids closed ids = ids

abbrev pub target_ids : LvTree → Ids → Ids
target_ids lv ids = each piece_ids lv.parts ids

-- Those in the terminals of a gate, and in connections. (7.1 and 12.3.5)
abbrev pub terminals_ids : List ExprTree → Ids → Ids
terminals_ids es ids = each expr_ids es ids

abbrev pub written_ids : Option ExprTree → Ids → Ids
written_ids None ids = ids
written_ids (Some e) ids = expr_ids e ids

abbrev pub conn_ids : ConnTree → Ids → Ids
conn_ids (ordered e) ids = written_ids e ids
conn_ids (by_name place id e) ids = written_ids e ids

abbrev pub conns_ids : List ConnTree → Ids → Ids
conns_ids conns ids = each conn_ids conns ids

-- The modules of which a module has instances, also in generate constructs, taken or not: one for each item. (12.1.2)
abbrev pub plain_modules : PlainTree → Ids → Ids
plain_modules (port d p t all) ids = ids
plain_modules (net n t wait nets) ids = ids
plain_modules (declaration d) ids = ids
plain_modules (event all) ids = ids
plain_modules (genvar all) ids = ids
plain_modules (parameter word t all) ids = ids
plain_modules (assign wait sets) ids = ids
plain_modules (gate g wait gates) ids = ids
plain_modules (instance m conns insts) ids = with_id m ids
plain_modules (process word s) ids = ids
plain_modules (task t) ids = ids
plain_modules (function f) ids = ids

abbrev mutual
  pub item_modules : ItemTree → Ids → Ids
  item_modules (item place form) ids = form_modules form ids

  pub form_modules : ItemFormTree → Ids → Ids
  form_modules (plain_item form) ids = plain_modules form ids
  form_modules generate_word ids = ids
  form_modules endgenerate_word ids = ids
  form_modules (for_item start test step body) ids = gblock_modules body ids
  form_modules (if_item test holds fails) ids = else_modules fails (gblock_modules holds ids)

  pub gblock_modules : GblockTree → Ids → Ids
  gblock_modules (one_item place all) ids = items_modules all ids
  gblock_modules (item_block place id all) ids = items_modules all ids

  pub else_modules : ElseTree → Ids → Ids
  else_modules no_else ids = ids
  else_modules (else_gblock g) ids = gblock_modules g ids

  pub items_modules : Items → Ids → Ids
  items_modules no_item ids = ids
  items_modules (next_item i more) ids = items_modules more (item_modules i ids)

abbrev pub instantiated : ModuleTree → Ids
instantiated m = items_modules (items m.items) []
