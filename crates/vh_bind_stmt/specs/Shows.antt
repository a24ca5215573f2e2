-- System tasks that are built in: which arguments they take, and what display calls show. (IEEE 1364-2005, 17.1 and
-- 17.4)
use Rattle.std.specs.Prelude.{ℕ, ◌+◌, ◌*◌, ◌-◌, ◌==◌, List, [], ◌∷◌, ◌++◌, Bool, true, false, ◌||◌, ◌&&◌, nat_le, bytes_eq, codes, if◌then◌else◌, Option, Some, None, unwrap_or}
use Rattle.std.specs.Option.{option_map, option_and_then}
use Rattle.vh_base.specs.declared.place.Place.{Place}
use Rattle.vh_bind_stmt.specs.declared.shows.Columns.{Columns}
use Rattle.vh_bind_stmt.specs.declared.shows.Columns.TheVariants as columns
use Rattle.vh_bind_stmt.specs.declared.shows.Scanned.{Scanned}
use Rattle.vh_design_code.specs.declared.show.ShowArg.{ShowArg}
use Rattle.vh_design_code.specs.declared.show.ShowArg.TheVariants as arg
use Rattle.vh_design_code.specs.declared.show.ShowTask.{ShowTask}
use Rattle.vh_design_code.specs.declared.show.ShowTask.TheVariants as task
use Rattle.vh_ast.specs.Expressions.{ExprTree, expr, ExprFormTree, number, text, named, call, system, paren, concat, repeat, unary, chain, choice}
use Rattle.vh_bind.specs.declared.scope.Mode.TheVariants as mode
use Rattle.vh_bind.specs.Steps.{Step, ◌>>=◌, pure, needing}
use Rattle.vh_bind.specs.Scopes.{Scope}
use Rattle.vh_bind.specs.Constants.{bound}

-- The display tasks, by their names. (17.1)
abbrev pub show_task : List ℕ → Option ShowTask
show_task name =
    if bytes_eq name (codes "$display") then Some task.Display else
    (if bytes_eq name (codes "$write") then Some task.Write else
    (if bytes_eq name (codes "$strobe") then Some task.Strobe else
    (if bytes_eq name (codes "$monitor") then Some task.Monitor else None)))

-- A letter in either case. (17.1.1.1)
abbrev pub is_letter : ℕ → ℕ → Bool
is_letter small b = b == small || b + 32 == small

-- The letters of conversions that show an argument. (Table 17-1)
abbrev pub wants_argument : ℕ → Bool
wants_argument b =
    is_letter 98 b || is_letter 111 b || is_letter 104 b || is_letter 100 b || is_letter 99 b || is_letter 115 b
    || is_letter 116 b

abbrev pub is_digit : ℕ → Bool
is_digit b = nat_le 48 b && nat_le b 57

-- A digit behind `%`: of columns there are from 1 to 999, written without a 0 before them. (own)
abbrev pub with_digit : Columns → ℕ → Option Columns
with_digit columns.Outside b = Some columns.Outside
with_digit columns.Bare b = Some (if b == 48 then columns.Least else columns.SoMany (b - 48))
with_digit columns.Least b = None
with_digit (columns.SoMany n) b =
    if nat_le (10 * n + (b - 48)) 999 then Some (columns.SoMany (10 * n + (b - 48))) else None

-- Does the conversion with this letter show an argument? None where it is wrong: `%%` has no digits. (17.1.1)
abbrev pub percent : Columns → Option Bool
percent columns.Outside = None
percent columns.Bare = Some false
percent columns.Least = None
percent (columns.SoMany n) = None

abbrev pub at_letter : Columns → ℕ → Option Bool
at_letter p b =
    if wants_argument b then Some true
    else (if is_letter 109 b then Some false else (if b == 37 then percent p else None))

-- A byte of a format: what stands behind a `%` then, and whether it shows an argument.
abbrev pub scanned : Bool → Columns → Scanned
scanned shows p = record { columns = p; shows = shows }

abbrev pub in_conversion : Columns → ℕ → Option Scanned
in_conversion p b =
    if is_digit b then option_map (scanned false) (with_digit p b)
    else option_map (λ shows. scanned shows columns.Outside) (at_letter p b)

abbrev pub scan_byte : Columns → ℕ → Option Scanned
scan_byte columns.Outside b = Some (scanned false (if b == 37 then columns.Bare else columns.Outside))
scan_byte columns.Bare b = in_conversion columns.Bare b
scan_byte columns.Least b = in_conversion columns.Least b
scan_byte (columns.SoMany n) b = in_conversion (columns.SoMany n) b

-- How many arguments a format shows, with those so far; none where it is wrong. (17.1.1)
abbrev pub ended : Columns → ℕ → Option ℕ
ended columns.Outside count = Some count
ended columns.Bare count = None
ended columns.Least count = None
ended (columns.SoMany n) count = None

abbrev pub one_more : Bool → ℕ → ℕ
one_more true count = count + 1
one_more false count = count

abbrev pub shows_from : Columns → ℕ → List ℕ → Option ℕ
shows_from p count [] = ended p count
shows_from p count (b ∷ bs) = option_and_then (λ s. shows_from s.columns (one_more s.shows count) bs) (scan_byte p b)

abbrev pub shows_of : List ℕ → Option ℕ
shows_of format = shows_from columns.Outside 0 format

-- A string, where the argument is one.
abbrev pub text_of : ExprTree → Option (List ℕ)
text_of (expr place (number n)) = None
text_of (expr place (text bytes)) = Some bytes
text_of (expr place (named n sel)) = None
text_of (expr place (call n es)) = None
text_of (expr place (system id es)) = None
text_of (expr place (paren e)) = None
text_of (expr place (concat es)) = None
text_of (expr place (repeat e es)) = None
text_of (expr place (unary op e)) = None
text_of (expr place (chain e ls)) = None
text_of (expr place (choice t a b)) = None

-- How many arguments are to come for conversions behind one; none where it is wrong. (17.1)
abbrev pub wanted_by : Option (List ℕ) → Option ℕ
wanted_by None = Some 0
wanted_by (Some format) = shows_of format

abbrev pub wanted_behind : ℕ → Option ExprTree → Option ℕ
wanted_behind wanted None = if wanted == 0 then Some 0 else None
wanted_behind wanted (Some e) = if wanted == 0 then wanted_by (text_of e) else Some (wanted - 1)

abbrev pub fits_behind : Option ℕ → (ℕ → Bool) → Bool
fits_behind None rest = false
fits_behind (Some k) rest = rest k

-- Do arguments fit the formats among them, of which so many are to come? (17.1.1)
abbrev pub arguments_fit : ℕ → List (Option ExprTree) → Bool
arguments_fit wanted [] = wanted == 0
arguments_fit wanted (a ∷ more) = fits_behind (wanted_behind wanted a) (λ k. arguments_fit k more)

-- An argument behind some: a string that no conversion waits for is a format. (17.1)
abbrev pub with_show : List ShowArg → ShowArg → List ShowArg
with_show all a = all ++ a ∷ []

abbrev pub value_bound : Scope → List ShowArg → ExprTree → Step (Option (List ShowArg))
value_bound s all e = bound mode.Value s e >>= (λ n. pure (option_map (λ x. with_show all (arg.Value x)) n))

abbrev pub format_or_value : Scope → List ShowArg → ExprTree → Option (List ℕ) → Step (Option (List ShowArg))
format_or_value s all e None = value_bound s all e
format_or_value s all e (Some format) = pure (Some (with_show all (arg.Format format)))

abbrev pub expr_bound : Scope → List ShowArg → ℕ → ExprTree → Step (Option (List ShowArg))
expr_bound s all wanted e = if wanted == 0 then format_or_value s all e (text_of e) else value_bound s all e

abbrev pub argument_bound : Scope → List ShowArg → ℕ → Option ExprTree → Step (Option (List ShowArg))
argument_bound s all wanted None = pure (Some (with_show all arg.Empty))
argument_bound s all wanted (Some e) = expr_bound s all wanted e

abbrev pub arguments_bound : Scope → ℕ → List ShowArg → List (Option ExprTree) → Step (Option (List ShowArg))
arguments_bound s wanted all [] = pure (Some all)
arguments_bound s wanted all (a ∷ more) =
    argument_bound s all wanted a >>= (λ us.
    needing us (λ vs. arguments_bound s (unwrap_or (wanted_behind wanted a) 0) vs more))

-- `$finish` and `$stop` take one number, or nothing. (17.4)
abbrev pub is_number : Option ExprTree → Bool
is_number None = false
is_number (Some (expr place (number n))) = true
is_number (Some (expr place (text bytes))) = false
is_number (Some (expr place (named n sel))) = false
is_number (Some (expr place (call n es))) = false
is_number (Some (expr place (system id es))) = false
is_number (Some (expr place (paren e))) = false
is_number (Some (expr place (concat es))) = false
is_number (Some (expr place (repeat e es))) = false
is_number (Some (expr place (unary op e))) = false
is_number (Some (expr place (chain e ls))) = false
is_number (Some (expr place (choice t a b))) = false

abbrev pub takes_number : List (Option ExprTree) → Bool
takes_number [] = true
takes_number (a ∷ []) = is_number a
takes_number (a ∷ b ∷ more) = false
