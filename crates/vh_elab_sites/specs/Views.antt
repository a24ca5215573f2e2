-- How contracts see what the code holds.
use Rattle.std.specs.Prelude.{ℕ, List, map, Option, Some, None, unwrap_or}
use Rattle.std.specs.Borrow.{Bor}
use Rattle.std.specs.Option.{option_map}
use Rattle.vh_ast.specs.Views.{conn_tree, delay_tree, expr_tree, gate_tree, inst_tree, lv_tree, module_tree, range_tree, stmt_tree, type_tree}
use Rattle.vh_elab_sites.specs.declared.entries.BlockText as gen
use Rattle.vh_elab_sites.specs.declared.entries.BlockText.TheVariants as gen_text
use Rattle.vh_elab_sites.specs.declared.entries.BlockName as gen_name
use Rattle.vh_elab_sites.specs.declared.entries.Choice as come
use Rattle.vh_elab_sites.specs.declared.entries.Choice.TheVariants as to_choice
use Rattle.vh_elab_sites.specs.declared.site.GenvarAt as genvar_of
use Rattle.vh_elab_ports.specs.declared.ports.Ports.{Ports}
use Rattle.vh_elab_ports.specs.Views.{data_type_seen}
use Rattle.vh_elab_sites.specs.declared.site.Declared as what
use Rattle.vh_elab_sites.specs.declared.site.Declared.TheVariants as it
use Rattle.vh_elab_sites.specs.declared.site.Driven as drive
use Rattle.vh_elab_sites.specs.declared.site.Driven.TheVariants as to
use Rattle.vh_elab_sites.specs.declared.site.Thing as thing
use Rattle.vh_elab_sites.specs.declared.site.Thing.TheVariants as a
use Rattle.vh_elab_sites.specs.declared.site.VarType as of
use Rattle.vh_elab_sites.specs.declared.site.VarType.TheVariants as has
use Rattle.vh_elab_sites.specs.declared.site.Site as at
use Rattle.vh_elab_sites.specs.declared.site.Listing.{Listing}
use Rattle.vh_elab_sites.specs.declared.items.Around as around_it
use Rattle.vh_elab_sites.specs.Blocks.{BlockName, BlockText, Choice, GenvarAt, written, counted, neither, holds, fails, loop, turn, end_of_loop}
use Rattle.vh_elab_sites.specs.Sites.{Declared, Driven, Home, SiteTree, Sites, Around, VarType, typed, joined, one_digit, integer_type, time_type, generated_name, net_of, target_of, variable, words, named_event, constant, code, named_block, result, argument, net, wire, port, drives, gate, genvar, gen_block, loop_name, child}

abbrev pub var_type_seen : of.VarType → VarType
var_type_seen (has.Typed t None) = typed (type_tree t.now)
var_type_seen (has.Typed t (Some p)) = joined (type_tree t.now) (type_tree p.now)
var_type_seen has.OneDigit = one_digit
var_type_seen has.Integer = integer_type
var_type_seen has.Time = time_type

abbrev pub block_text_seen : gen.BlockText → BlockText
block_text_seen (gen_text.Written t) = written t.now
block_text_seen (gen_text.Counted zeros n) = counted zeros n

abbrev pub block_name_seen : gen_name.BlockName → BlockName
block_name_seen b = record { word = block_text_seen b.word; index = b.index }

abbrev pub genvar_at_seen : genvar_of.GenvarAt → GenvarAt
genvar_at_seen g = record { scope = g.scope; name = g.name.now; value = g.value }

abbrev pub choice_seen : come.Choice → Choice
choice_seen to_choice.Neither = neither
choice_seen (to_choice.Holds t) = holds (block_text_seen t)
choice_seen (to_choice.Fails t) = fails (block_text_seen t)
choice_seen (to_choice.Loop t) = loop (block_text_seen t)
choice_seen (to_choice.Turn v) = turn v
choice_seen to_choice.End = end_of_loop

abbrev pub driven_seen : drive.Driven → Driven
driven_seen (to.Net n) = net_of n
driven_seen (to.Target lv) = target_of (lv_tree lv.now)

abbrev pub thing_seen : thing.Thing → VarType → Declared
thing_seen (a.Variable value) t = variable t (option_map (λ e. expr_tree e.now) value)
thing_seen a.Result t = result t
thing_seen (a.Argument d) t = argument d t
thing_seen (a.Net n) t = net n t
thing_seen (a.Port d i) t = port d i t

abbrev pub declared_seen : what.Declared → Declared
declared_seen (it.Typed x t) = thing_seen x (var_type_seen t)
declared_seen (it.Words t r) = words (type_tree t.now) (range_tree r.now)
declared_seen it.Event = named_event
declared_seen (it.Constant w t e) = constant w (data_type_seen t) (expr_tree e.now)
declared_seen (it.Code word s) = code word (stmt_tree s.now)
declared_seen (it.Block word) = named_block word
declared_seen (it.Drives d x e) = drives (option_map delay_tree d.now) (driven_seen x)
    (expr_tree e.now)
declared_seen (it.Gate w d g) = gate w (option_map delay_tree d.now) (gate_tree g.now)
declared_seen it.Genvar = genvar
declared_seen it.Wire = wire
declared_seen (it.GenBlock b g) = gen_block (block_name_seen b) (option_map genvar_at_seen g)
declared_seen (it.Loop t) = loop_name (block_text_seen t)
declared_seen (it.Child m ps i) = child m.now (map conn_tree ps.now) (inst_tree i.now)

-- The name of a generate block may be none that is written.
abbrev pub name_seen : List ℕ → Declared → List ℕ
name_seen name d = unwrap_or (generated_name d) name

abbrev pub site_seen : at.Site → SiteTree
site_seen s =
    record {
      number = s.number;
      scope = s.scope;
      name = name_seen s.name.now (declared_seen s.declared);
      place = s.place;
      declared = declared_seen s.declared;
    }

abbrev pub all_seen : List at.Site → List SiteTree
all_seen ss = map site_seen ss

abbrev pub sites_seen : Listing → Sites
sites_seen so = record { all = all_seen so.all.items; next = so.next; seen = so.seen }

-- The scope of a module, or another one.
abbrev pub home_seen : Option (Bor Ports) → Home
home_seen ports = option_map (λ p. module_tree p.now) ports

abbrev pub around_seen : around_it.Around → Around
around_seen st =
    record {
      tree = module_tree st.ports.now;
      scope = st.scope;
      wires = st.wires;
      around = st.around.now;
    }
