-- Lemmas on `specs/Constants.antt` of vh_bind: names where a value is wanted, and the arguments of calls.
use Rattle.std.proofs.Common.{◌≡◌, ◌∙◌, ◌<◌, ◌≤◌, ◌+◌, ◌++◌, ◌∷◌, [], ℕ, suc, Bool, true, false, List, length, get_or, drop, Option, Some, None, Result, Ok, Err, refl, sym, ap, arith}
use Rattle.std.specs.Prelude.{map, is_some, if◌then◌else◌, nat_lt, IfSome}
use Rattle.std.proofs.lemmas.List.{at_drop_more}
use Rattle.std.specs.Cmp.Derive.{both_true}
use Rattle.vh_design_nodes.proofs.FitsLemmas.{and_left, and_right}
use Rattle.vh_base.specs.declared.faults.DesignFault.TheVariants.{N10}
use Rattle.vh_base.specs.declared.place.Place.{Place}
use Rattle.vh_ast.specs.declared.routine.TaskDirection.{TaskDirection}
use Rattle.vh_ast.specs.declared.token.Id.{Id}
use Rattle.vh_design_nodes.specs.Fits.{all_before}
use Rattle.vh_bind_expr.specs.declared.functions.Side.{Side}
use Rattle.vh_bind_expr.specs.declared.functions.Side.TheVariants as side
use Rattle.vh_bind_expr.specs.Rows.{argument_bound, is_on, side_bound}
use Rattle.vh_ast.specs.declared.name.Name.{Name}
use Rattle.vh_ast.specs.declared.name.Step.{Step as NameStep}
use Rattle.vh_ast.specs.declared.expr.Expr.{Expr}
use Rattle.vh_ast.specs.Expressions.{name, exprs, Exprs, one_expr}
use Rattle.vh_ast.specs.Views.{expr_tree, name_tree, index_by}
use Rattle.vh_bind.specs.declared.scope.Mode.TheVariants as mode
use Rattle.vh_bind.specs.Steps.{Fault, Nodes, Step, ◌>>=◌, and_then, pure, refused}
use Rattle.vh_bind.specs.Scopes.{Scope}
use Rattle.vh_bind.specs.Objects.{goes_so}
use Rattle.vh_bind.specs.Nodes.{IsSound}
use Rattle.vh_bind.specs.Constants.{argument_row, with_number, with_numbers, count_of, name_meant, name_read, path_outcome, time_pushed}
use Rattle.vh_bind.proofs.NodesLemmas.{all_before-later}
use Rattle.vh_bind.proofs.PathsLemmas.{steps_seen}
use Rattle.vh_bind.proofs.FoldsLemmas.{Bound, numbers-below}

longer : (s : Scope) (id : Id) (i : Option Expr) (all : List (NameStep Expr)) → (is_some i ≡ false → all ≡ [] → ⊥)
    → name_read s (name id (index_by expr_tree i) (steps_seen all))
    ≡ path_outcome s (name_meant s false (name id (index_by expr_tree i) (steps_seen all)))
longer s id None [] h = absurd (h refl refl)
longer s id None (x ∷ all) h = refl
longer s id (Some e) all h = refl

pub read-path : (s : Scope) (n : Name Expr) → (is_some n.first.index ≡ false → n.more ≡ [] → ⊥)
    → name_read s (name_tree n) ≡ path_outcome s (name_meant s false (name_tree n))
read-path s n h = longer s n.first.id n.first.index n.more h

-- As many arguments as are written.
pub counted : (all : List Expr) → count_of (exprs (map expr_tree all)) ≡ length all
counted [] = refl
counted (e ∷ all) = ap suc (counted all)

-- `$time` with an argument, and any other name.
pub time-argument : (b : Bool) (s : Scope) (place : Place) (all : List Expr) (ns : Nodes) → (all ≡ [] → ⊥)
    → (if b then time_pushed s place (exprs (map expr_tree all)) else refused N10 place) ns ≡ Err (N10, place)
time-argument b s place [] ns h = absurd (h refl)
time-argument true s place (e ∷ all) ns h = refl
time-argument false s place (e ∷ all) ns h = refl

-- One argument of a call, which counts or not, and what is left behind it.
arguments-one : (F : ℕ → Option (List ℕ) → Exprs → Step (Option (List ℕ))) (goes : ℕ → Bool) (row : Expr → Step (Option ℕ))
    → ((i : ℕ) (nums : Option (List ℕ)) (e : Expr) (es : Exprs)
    → F i nums (one_expr (expr_tree e) es) ≡ (argument_row (goes i) nums (row e) >>= (λ js. F (i + 1) js es)))
    → (parts : List Expr) (i : ℕ) (d : Expr) (nums : Option (List ℕ)) (ns : Nodes) (b : Bool) → i < length parts → goes i ≡ b
    → F i nums (exprs (map expr_tree (drop i parts))) ns
    ≡ (argument_row b nums (row (get_or parts i d)) >>= (λ js. F (i + 1) js (exprs (map expr_tree (drop (i + 1) parts))))) ns
arguments-one F goes row opens parts i d nums ns b inside so =
    let rest = exprs (map expr_tree (drop (i + 1) parts)) in
    at_drop_more (λ xs. F i nums (exprs (map expr_tree xs)) ns) parts i d inside
    ∙ ap (λ (p : Step (Option (List ℕ))). p ns) (opens i nums (get_or parts i d) rest)
    ∙ ap (λ (c : Bool). (argument_row c nums (row (get_or parts i d)) >>= (λ js. F (i + 1) js rest)) ns) so

side-opens : (s : Scope) (x : Side) (ds : List TaskDirection) (i : ℕ) (nums : Option (List ℕ)) (e : Expr) (es : Exprs)
    → side_bound s x ds i nums (one_expr (expr_tree e) es)
    ≡ (argument_row (goes_so (is_on x) ds i) nums (argument_bound s x (expr_tree e)) >>= (λ js. side_bound s x ds (i + 1) js es))
side-opens s side.Given ds i nums e es = refl
side-opens s side.Taken ds i nums e es = refl

-- It counts: it is bound; or it doesn't.
row-counts : (row : Step (Option ℕ)) (more : Option (List ℕ) → Step (Option (List ℕ))) (nums nums' : Option (List ℕ)) (ns ns' : Nodes)
    (a : Option ℕ) → row ns ≡ Ok (a, ns') → nums' ≡ with_number nums a
    → (argument_row true nums row >>= more) ns ≡ more nums' ns'
row-counts row more nums nums' ns ns' a one same =
    ap (λ (r : Result (Option ℕ × Nodes) Fault). and_then (and_then r (λ b. pure (with_number nums b))) more) one
    ∙ ap (λ (n : Option (List ℕ)). more n ns') (sym same)

-- The arguments of one side so far, with those that are left, are those of the call.
pub record SideSoFar (s : Scope) (x : Side) (ds : List TaskDirection) (start : Nodes) (parts : List Expr) (i : ℕ) (nums : Option (List ℕ)) (ns : Nodes) : Type 0 where
  pub step : side_bound s x ds i nums (exprs (map expr_tree (drop i parts))) ns ≡ side_bound s x ds 0 (Some []) (exprs (map expr_tree parts)) start
  pub sound : IsSound mode.Value s ns
  pub below : IfSome nums (λ es. all_before (length ns) es ≡ true)
  pub grows : length start ≤ length ns

pub side-counts : (s : Scope) (x : Side) (ds : List TaskDirection) (start : Nodes) (parts : List Expr) (i : ℕ) (d e : Expr) (nums nums' : Option (List ℕ))
    (ns ns' : Nodes) (a : Option ℕ) → SideSoFar s x ds start parts i nums ns → i < length parts → e ≡ get_or parts i d → goes_so (is_on x) ds i ≡ true
    → nums' ≡ with_number nums a → Bound mode.Value s (argument_bound s x (expr_tree e)) ns a ns' → SideSoFar s x ds start parts (i + 1) nums' ns'
side-counts s x ds start parts i d e nums nums' ns ns' a before inside is so same b =
    let rest = exprs (map expr_tree (drop (i + 1) parts)) in
    let one = ap (λ (y : Expr). argument_bound s x (expr_tree y) ns) (sym is) ∙ b.step in
    let counts = row-counts (argument_bound s x (expr_tree (get_or parts i d))) (λ js. side_bound s x ds (i + 1) js rest) nums nums' ns ns' a one same in
    let opened = arguments-one (side_bound s x ds) (goes_so (is_on x) ds) (λ e. argument_bound s x (expr_tree e)) (side-opens s x ds) parts i d nums ns true inside so in
    record {
      step = sym counts ∙ sym opened ∙ before.step;
      sound = b.sound;
      below = numbers-below nums nums' a (length ns) (length ns') before.below b.grows b.below same;
      grows = omega (arith, before.grows, b.grows);
    }

pub side-skips : (s : Scope) (x : Side) (ds : List TaskDirection) (start : Nodes) (parts : List Expr) (i : ℕ) (d : Expr) (nums : Option (List ℕ))
    (ns : Nodes) → SideSoFar s x ds start parts i nums ns → i < length parts → goes_so (is_on x) ds i ≡ false
    → SideSoFar s x ds start parts (i + 1) nums ns
side-skips s x ds start parts i d nums ns before inside so =
    let opened = arguments-one (side_bound s x ds) (goes_so (is_on x) ds) (λ e. argument_bound s x (expr_tree e)) (side-opens s x ds) parts i d nums ns false inside so in
    record { step = sym opened ∙ before.step; sound = before.sound; below = before.below; grows = before.grows }

-- Numbers stay below those of the nodes, where there are more of these.
pub later-below : (o : Option (List ℕ)) (m k : ℕ) → IfSome o (λ ns. all_before m ns ≡ true) → m ≤ k → IfSome o (λ ns. all_before k ns ≡ true)
later-below None m k below up = tt
later-below (Some ns) m k below up = all_before-later m k ns below up

both-before : (k : ℕ) (ns ms : List ℕ) → all_before k ns ≡ true → all_before k ms ≡ true → all_before k (ns ++ ms) ≡ true
both-before k [] ms h g = g
both-before k (n ∷ ns) ms h g =
    both_true (and_left (nat_lt n k) (all_before k ns) h) (both-before k ns ms (and_right (nat_lt n k) (all_before k ns) h) g)

pub joined-below : (o given taken : Option (List ℕ)) (m k : ℕ) → IfSome given (λ ns. all_before m ns ≡ true) → m ≤ k
    → IfSome taken (λ ns. all_before k ns ≡ true) → o ≡ with_numbers given taken → IfSome o (λ ns. all_before k ns ≡ true)
joined-below o given taken m k first up last is = rw is (by given taken first last)
  where
    by : (x y : Option (List ℕ)) → IfSome x (λ ns. all_before m ns ≡ true) → IfSome y (λ ns. all_before k ns ≡ true)
        → IfSome (with_numbers x y) (λ ns. all_before k ns ≡ true)
    by None y h g = tt
    by (Some ns) None h g = tt
    by (Some ns) (Some ms) h g = both-before k ns ms (all_before-later m k ns h up) g
