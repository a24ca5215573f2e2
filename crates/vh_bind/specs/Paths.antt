-- What names and paths stand for. (IEEE 1364-2005, 12.5 to 12.7)
use Rattle.std.specs.Prelude.{ℕ, Bool, true, false, List, if◌then◌else◌, Option, Some, None, Ok, Err, ℤ}
use Rattle.vh_base.specs.declared.faults.DesignFault.TheVariants.{N1}
use Rattle.vh_base.specs.declared.place.Place.{Place}
use Rattle.vh_logic.specs.Vector.{Vector}
use Rattle.vh_logic.specs.Number.{integer_of}
use Rattle.vh_bind_scope.specs.declared.names.Meaning.{Meaning}
use Rattle.vh_bind_scope.specs.declared.names.Meaning.TheVariants as means
use Rattle.vh_bind_scope.specs.declared.look_up.Declaration.{Declaration}
use Rattle.vh_bind_scope.specs.LookUp.{found, scope_found, indexed}
use Rattle.vh_ast.specs.declared.token.Id.{Id}
use Rattle.vh_bind.specs.Scopes.{Scope}
use Rattle.vh_bind.specs.Selects.{Outcome, with_ok, with_some}

-- Is it the name of a loop of generate blocks? Only such a one has blocks by an index. (12.4.1)
abbrev pub is_blocks : Meaning → Bool
is_blocks (means.Object id range) = false
is_blocks (means.Result id range) = false
is_blocks means.Genvar = false
is_blocks means.Blocks = true
is_blocks means.Gate = false

-- What is there, or else the name's fault: every fault of a path stands at its first name.
abbrev pub meant : Place → Option Meaning → Outcome (Option Meaning)
meant place None = Err (N1, place)
meant place (Some m) = Ok (Some m)

abbrev pub declared_meant : Place → Option Declaration → Outcome (Option Meaning)
declared_meant place None = Err (N1, place)
declared_meant place (Some d) = Ok (Some d.meaning)

-- The block of a loop by an index: one that isn't known names none.
abbrev pub block_meant : Scope → Place → Declaration → List ℕ → Option ℤ → Outcome (Option Meaning)
block_meant s place d word None = Err (N1, place)
block_meant s place d word (Some i) = meant place (indexed s.names d word (Some i))

-- A part with an index behind it: its declaration is that of a loop. (12.4.1)
abbrev pub blocks_meant : Scope → Place → Option Declaration → List ℕ → Outcome (Option Vector) → Outcome (Option Meaning)
blocks_meant s place None word value = Err (N1, place)
blocks_meant s place (Some d) word value =
    if is_blocks d.meaning then
    with_ok value (λ v. with_some v (λ n. block_meant s place d word (integer_of n)))
    else Err (N1, place)

-- A name alone: in a call a function's name stands for the function, elsewhere for its result. (10.4.2)
abbrev pub alone_meant : Scope → Bool → Id → Outcome (Option Meaning)
alone_meant s call id =
    declared_meant id.place
    (if call then scope_found s.names s.around id.name else found s.names s.around id.name)
