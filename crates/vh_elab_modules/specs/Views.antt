-- How contracts see what the code holds.
use Rattle.std.specs.Prelude.{◌≡◌, ℕ, List, map, true, false, slice_get, Option, Result, Ok, Err, Some, None}
use Rattle.vh_ast.specs.Items.{SourceTree}
use Rattle.vh_base.specs.declared.place.Place.{Place}
use Rattle.vh_elab_cycles.specs.Views.{edge_seen}
use Rattle.vh_bind_least.specs.Least.{Fault}
use Rattle.vh_elab_modules.specs.declared.graph.Holding.{Holding}
use Rattle.vh_elab_modules.specs.Modules.{is_one, modules_fault, top_of, tops}
use Rattle.vh_elab_modules.specs.Numbers.{Numbered}

abbrev pub holding_seen : Holding → Numbered
holding_seen h = (edge_seen h.edge, h.place)

abbrev pub holdings_seen : List Holding → List Numbered
holdings_seen hs = map holding_seen hs

-- The place of the one module that none instantiates.
abbrev pub IsOnlyTop : SourceTree → Option ℕ → Type 0
IsOnlyTop ms None = is_one (tops ms) ≡ false
IsOnlyTop ms (Some top) = (is_one (tops ms) ≡ true) × (slice_get ms top ≡ top_of ms)

-- The top, where the modules have no fault; else that. (Want of memory is free.)
abbrev pub IsTop : {E : Type 0} → Place → SourceTree → Result (Result ℕ Fault) E → Type 0
IsTop first ms (Ok (Ok top)) =
    (modules_fault first ms ≡ None) × (slice_get ms top ≡ top_of ms)
IsTop first ms (Ok (Err fault)) = modules_fault first ms ≡ Some fault
IsTop first ms (Err refused) = Unit {0}
