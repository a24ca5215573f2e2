-- What names and paths stand for. (IEEE 1364-2005, 12.5 and 12.7)
use Rattle.std.specs.Prelude.{ℕ, List, [], ◌∷◌, ◌++◌, if◌then◌else◌, bytes_eq, Option, Some, None, ℤ}
use Rattle.std.specs.Option.{option_and_then}
use Rattle.std.specs.Fmt.{signed_decimal}
use Rattle.vh_bind_scope.specs.declared.names.Meaning.{Meaning}
use Rattle.vh_bind_scope.specs.declared.names.Meaning.TheVariants as means
use Rattle.vh_bind_scope.specs.declared.look_up.Declaration.{Declaration}
use Rattle.vh_bind_scope.specs.Names.{Names, meaning_in}

-- The declaration of a name in this scope, or else in those around it. (12.7)
abbrev pub found_or : ℕ → Option Meaning → Option Declaration → Option Declaration
found_or scope None rest = rest
found_or scope (Some m) rest = Some (record { scope = scope; meaning = m })

-- The innermost declaration of a name in scopes from the inside out. (12.7)
abbrev pub found : Names → List ℕ → List ℕ → Option Declaration
found ns [] name = None
found ns (s ∷ around) name = found_or s (meaning_in ns s name) (found ns around name)

-- In a call and before a dot a function's name stands for the function and not for its result. (own)
abbrev pub without_result : Option Meaning → Option Meaning
without_result None = None
without_result (Some (means.Object id range)) = Some (means.Object id range)
without_result (Some (means.Result id range)) = None
without_result (Some means.Genvar) = Some means.Genvar
without_result (Some means.Blocks) = Some means.Blocks
without_result (Some means.Gate) = Some means.Gate

-- The innermost declaration of such a name. (12.7)
abbrev pub scope_found : Names → List ℕ → List ℕ → Option Declaration
scope_found ns [] name = None
scope_found ns (s ∷ around) name =
    found_or s (without_result (meaning_in ns s name)) (scope_found ns around name)

-- What the block of a loop with this index is called: `NAME[i]`. (12.4.1)
abbrev pub block_name : List ℕ → ℤ → List ℕ
block_name name index = name ++ 91 ∷ (signed_decimal index ++ 93 ∷ [])

-- What a declared name stands for with the index behind it. (12.5)
abbrev pub block_of : Names → ℕ → Meaning → List ℕ → ℤ → Option Meaning
block_of ns scope (means.Object id range) name index = None
block_of ns scope (means.Result id range) name index = None
block_of ns scope means.Genvar name index = None
block_of ns scope means.Blocks name index = meaning_in ns scope (block_name name index)
block_of ns scope means.Gate name index = None

abbrev pub indexed : Names → Declaration → List ℕ → Option ℤ → Option Meaning
indexed ns d name None = Some d.meaning
indexed ns d name (Some index) = block_of ns d.scope d.meaning name index

-- The top, by its name. (12.5)
abbrev pub top_named : ℕ → List ℕ → List ℕ → Option Declaration
top_named id top name =
    if bytes_eq name top then
    Some (record { scope = id; meaning = means.Object id (record { left = 0; right = 0 }) })
    else None

-- The first part of a path: the innermost declaration of its name, or else the top. (12.5)
abbrev pub or_top : Option Declaration → Option Declaration → Option Declaration
or_top None top = top
or_top (Some d) top = Some d

abbrev pub first_found : Names → List ℕ → ℕ → List ℕ → List ℕ → Option Declaration
first_found ns around id top name = or_top (scope_found ns around name) (top_named id top name)

-- The object that is meant before a dot: only a scope has names inside it. (12.5)
abbrev pub object_meant : Meaning → Option ℕ
object_meant (means.Object id range) = Some id
object_meant (means.Result id range) = None
object_meant means.Genvar = None
object_meant means.Blocks = None
object_meant means.Gate = None

-- A further part of a path, in what the parts before it stand for. (12.5)
abbrev pub found_in : Names → List ℕ → ℕ → Option Declaration
found_in ns name scope = found_or scope (meaning_in ns scope name) None

abbrev pub found_inside : Names → Meaning → List ℕ → Option Declaration
found_inside ns before name = option_and_then (found_in ns name) (object_meant before)
