-- The table of user system tasks and functions. (IEEE 1364-2005, clauses 17 and 27.34, in this project's profile)
use Rattle.std.specs.Prelude.{ℕ, List, [], ◌∷◌, ◌++◌, map, Bool, ◌||◌, if◌then◌else◌, Option, position, codes, bytes_eq}
use Rattle.std.specs.List.{fold, list_any}
use Rattle.vh_base.specs.declared.orders.SystfEntry.{SystfEntry}

-- The names that are built in.
abbrev pub built_in_names : List (List ℕ)
built_in_names =
    codes "$display" ∷
    codes "$write" ∷
    codes "$strobe" ∷
    codes "$monitor" ∷
    codes "$finish" ∷
    codes "$stop" ∷
    codes "$time" ∷
    codes "$signed" ∷
    codes "$unsigned" ∷
    []

abbrev pub is_built_in : List ℕ → Bool
is_built_in name = list_any (bytes_eq name) built_in_names

-- The names of some registrations, in order.
abbrev pub names_of : List SystfEntry → List (List ℕ)
names_of table = map (λ e. e.name) table

-- The position_named of a name, where it is there.
abbrev pub position_of : List ℕ → List SystfEntry → Option ℕ
position_of name table = position (bytes_eq name) (names_of table)

-- Is it there?
abbrev pub has_name : List ℕ → List SystfEntry → Bool
has_name name table = list_any (bytes_eq name) (names_of table)

-- The table with one registration more: nothing is added where its name is built in or there already.
abbrev pub with_entry : List SystfEntry → SystfEntry → List SystfEntry
with_entry table e = if is_built_in e.name || has_name e.name table then table else table ++ e ∷ []

-- The table of some registrations: the first of each name that is not built in.
abbrev pub table_of : List SystfEntry → List SystfEntry
table_of entries = fold with_entry [] entries
