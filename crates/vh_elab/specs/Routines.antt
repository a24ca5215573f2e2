-- The tasks and functions of all instances, by the numbers of their bodies, and their arguments. (IEEE 1364-2005, 10.2.1 and 10.4.1)
use Rattle.std.specs.Prelude.{ℕ, ◌+◌, Bool, true, false, List, [], ◌∷◌, ◌++◌, map, if◌then◌else◌, ◌==◌, Option, Some, None}
use Rattle.vh_bind.specs.declared.scope.Routine.{Routine}
use Rattle.vh_bind_stmt.specs.declared.surroundings.Argument.{Argument}
use Rattle.vh_elab_sites.specs.declared.site.CodeWord.{CodeWord}
use Rattle.vh_elab_sites.specs.declared.site.CodeWord.TheVariants as word
use Rattle.vh_elab_sites.specs.Sites as S
use Rattle.vh_elab_sites.specs.Sites.{Declared, SiteTree, variable, words, named_event, code, named_block, result, argument, net, wire, port, drives, gate, genvar, gen_block, loop_name, child}
use Rattle.vh_elab_declare.specs.Objects.{is_routine}
use Rattle.vh_elab_walk.specs.Walks.{Placed}

-- The arguments of a task or function stand directly behind it, in its scope, and the result of a function, which is the first.
abbrev pub argument_in : ℕ → Declared → List Argument
argument_in n (variable t value) = []
argument_in n (words t r) = []
argument_in n named_event = []
argument_in n (S.constant w t e) = []
argument_in n (code w s) = []
argument_in n (named_block w) = []
argument_in n (result t) = []
argument_in n (argument d t) = record { variable = n; direction = d } ∷ []
argument_in n (net x t) = []
argument_in n wire = []
argument_in n (port d i t) = []
argument_in n (drives d x e) = []
argument_in n (gate g d x) = []
argument_in n genvar = []
argument_in n (gen_block b g) = []
argument_in n (loop_name t) = []
argument_in n (child m ps i) = []

abbrev pub arguments_from : ℕ → List SiteTree → List Argument
arguments_from scope [] = []
arguments_from scope (s ∷ so) =
    if s.scope == scope then argument_in s.number s.declared ++ arguments_from scope so else []

abbrev pub is_function : CodeWord → Bool
is_function word.Initial = false
is_function word.Always = false
is_function word.Task = false
is_function word.Function = true

abbrev pub result_number : CodeWord → ℕ → Option ℕ
result_number w n = if is_function w then Some (n + 1) else None

abbrev pub routine_of : CodeWord → ℕ → List Argument → Routine
routine_of w n arguments =
    record { result = result_number w n; arguments = map (λ (a : Argument). a.direction) arguments }

pub record Routines : Type 0 where
  pub routines : List Routine
  pub arguments : List (List Argument)

abbrev pub with_routine : CodeWord → ℕ → List Argument → Routines → Routines
with_routine w n arguments rs = record {
  routines = rs.routines ++ routine_of w n arguments ∷ [];
  arguments = rs.arguments ++ arguments ∷ [];
}

abbrev pub routine_declared : ℕ → Declared → List SiteTree → Routines → Routines
routine_declared n (variable t value) so rs = rs
routine_declared n (words t r) so rs = rs
routine_declared n named_event so rs = rs
routine_declared n (S.constant w t e) so rs = rs
routine_declared n (code w s) so rs =
    if is_routine w then with_routine w n (arguments_from n so) rs else rs
routine_declared n (named_block w) so rs = rs
routine_declared n (result t) so rs = rs
routine_declared n (argument d t) so rs = rs
routine_declared n (net x t) so rs = rs
routine_declared n wire so rs = rs
routine_declared n (port d i t) so rs = rs
routine_declared n (drives d x e) so rs = rs
routine_declared n (gate g d x) so rs = rs
routine_declared n genvar so rs = rs
routine_declared n (gen_block b g) so rs = rs
routine_declared n (loop_name t) so rs = rs
routine_declared n (child m ps i) so rs = rs

abbrev pub routines_in : List SiteTree → Routines → Routines
routines_in [] rs = rs
routines_in (s ∷ so) rs = routines_in so (routine_declared s.number s.declared so rs)

abbrev pub no_routines : Routines
no_routines = record { routines = []; arguments = [] }

abbrev pub routines_from : List Placed → Routines → Routines
routines_from [] rs = rs
routines_from (p ∷ ps) rs = routines_from ps (routines_in p.sites rs)

abbrev pub routines_of : List Placed → Routines
routines_of ps = routines_from ps no_routines
