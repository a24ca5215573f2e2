-- The conditionals that are open (IEEE 1364-2005, 19.4).
use Rattle.std.specs.Prelude.{◌-◌, Bool, true, false, List, Option, Some, None, length, take, slice_get, slice_set}
use Rattle.vh_lex.specs.declared.conditional.Conditional.{Conditional}
use Rattle.vh_lex.specs.declared.conditional.Branch.{Branch}
use Rattle.vh_lex.specs.declared.conditional.Branch.TheVariants as branch

-- The innermost conditional that is open, and those without it
abbrev pub innermost : List Conditional → Option Conditional
innermost conditionals = slice_get conditionals (length conditionals - 1)

abbrev pub without_innermost : List Conditional → List Conditional
without_innermost conditionals = take (length conditionals - 1) conditionals

-- Another one in its place
abbrev pub with_innermost : Conditional → List Conditional → List Conditional
with_innermost c conditionals = slice_set conditionals (length conditionals - 1) c

-- Text is skipped where the branch of the innermost conditional is (19.4)
abbrev pub is_skipped : Branch → Bool
is_skipped branch.Sought = true
is_skipped branch.Read = false
is_skipped branch.Past = true

abbrev pub skips_in : Option Conditional → Bool
skips_in None = false
skips_in (Some c) = is_skipped c.branch

abbrev pub skips : List Conditional → Bool
skips conditionals = skips_in (innermost conditionals)
