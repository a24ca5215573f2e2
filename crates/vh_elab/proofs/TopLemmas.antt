-- What comes of a source is what comes of its top.
use Rattle.std.proofs.Common.{◌≡◌, ℕ, Option, Result, Ok, Err, sym, subst}
use Rattle.std.specs.Prelude.{slice_get}
use Rattle.vh_base.specs.declared.faults.NoMemory.{NoMemory}
use Rattle.vh_base.specs.declared.place.Place.{Place}
use Rattle.vh_ast.specs.Items.{ModuleTree, SourceTree}
use Rattle.vh_bind_least.specs.Least.{Fault}
use Rattle.vh_elab_modules.specs.Modules.{top_of}
use Rattle.vh_elab_modules.specs.Views.{IsTop}
use Rattle.vh_elab.specs.declared.design.Elaboration.{Elaboration}
use Rattle.vh_elab.specs.Elaborated.{elaborated, from_top, refused_or}
use Rattle.vh_elab.specs.Views.{Elaborates}

pub below-top : (first : Place) (ms all : SourceTree) (top : ℕ) (found : Result ℕ Fault) (result : Result Elaboration NoMemory)
    → ms ≡ all → found ≡ Ok top → IsTop {E = NoMemory} first ms (Ok found)
    → Elaborates (from_top ms (slice_get ms top)) result → Elaborates (elaborated first all) result
below-top first ms all top (Ok n) result same is found made =
    let at : n ≡ top = cc in
    let P : SourceTree → Type 0 = λ x. Elaborates (elaborated first x) result in
    let Q : Option Fault → Type 0 = λ f. Elaborates (refused_or f (from_top ms (top_of ms))) result in
    let R : Option ModuleTree → Type 0 = λ t. Elaborates (from_top ms t) result in
    let T : ℕ → Type 0 = λ k. Elaborates (from_top ms (slice_get ms k)) result in
    subst P same (subst Q (sym found.0) (subst R found.1 (subst T (sym at) made)))
below-top first ms all top (Err fault) result same is found made = absurd (cc)
