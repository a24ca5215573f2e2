-- Lemmas on the lists of `specs/Constants.antt`: one entry, or one operand, and what is left behind it.
use Rattle.std.proofs.Common.{◌≡◌, ◌∙◌, ◌<◌, ◌≤◌, ◌+◌, ◌∷◌, [], ℕ, true, List, length, get_or, drop, Option, Some, None, Result, Ok, Err, IfSome, refl, sym, ap, arith}
use Rattle.std.specs.Prelude.{map, is_some}
use Rattle.std.proofs.lemmas.List.{at_drop_more}
use Rattle.vh_base.specs.declared.faults.DesignFault.TheVariants.{N4}
use Rattle.vh_design_nodes.specs.Fits.{all_before}
use Rattle.vh_ast.specs.declared.token.Id.{Id}
use Rattle.vh_ast.specs.declared.name.Name.{Name}
use Rattle.vh_ast.specs.declared.name.Step.{Step as NameStep}
use Rattle.vh_ast.specs.declared.expr.Expr.{Expr}
use Rattle.vh_ast.specs.declared.expr.Link.{Link}
use Rattle.vh_ast.specs.Expressions.{name, steps, exprs, links}
use Rattle.vh_ast.specs.Views.{expr_tree, link_tree, name_tree, index_by, step_by}
use Rattle.vh_bind.specs.declared.scope.Mode.{Mode}
use Rattle.vh_bind.specs.Steps.{Fault, Nodes, Step, and_then}
use Rattle.vh_bind.specs.Nodes.{IsSound}
use Rattle.vh_bind.specs.Scopes.{Scope}
use Rattle.vh_bind.specs.Constants.{bound, entry, entries_bound, links_bound, with_number, sole_bound, name_value, call_fault}
use Rattle.vh_bind.proofs.NodesLemmas.{all_before-later, all_before-push}

pub entries-step : (m : Mode) (s : Scope) (parts : List Expr) (i : ℕ) (d : Expr) (nums nums' : Option (List ℕ)) (ns ns' : Nodes) (a : Option ℕ)
    (target : Result (Option (List ℕ) × Nodes) Fault) → i < length parts
    → entries_bound m s nums (exprs (map expr_tree (drop i parts))) ns ≡ target
    → entry (expr_tree (get_or parts i d)) (bound m s (expr_tree (get_or parts i d))) ns ≡ Ok (a, ns')
    → nums' ≡ with_number nums a
    → entries_bound m s nums' (exprs (map expr_tree (drop (i + 1) parts))) ns' ≡ target
entries-step m s parts i d nums nums' ns ns' a target inside is one more =
    let rest = exprs (map expr_tree (drop (i + 1) parts)) in
    ap (λ (n : Option (List ℕ)). entries_bound m s n rest ns') more
    ∙ sym (ap (λ (r : Result (Option ℕ × Nodes) Fault). and_then r (λ b. entries_bound m s (with_number nums b) rest)) one)
    ∙ sym (at_drop_more (λ xs. entries_bound m s nums (exprs (map expr_tree xs)) ns) parts i d inside)
    ∙ is

pub links-step : (m : Mode) (s : Scope) (parts : List (Link Expr)) (i : ℕ) (d : Link Expr) (nums nums' : Option (List ℕ)) (ns ns' : Nodes) (a : Option ℕ)
    (target : Result (Option (List ℕ) × Nodes) Fault) → i < length parts
    → links_bound m s nums (links (map link_tree (drop i parts))) ns ≡ target
    → bound m s (expr_tree (get_or parts i d).operand) ns ≡ Ok (a, ns')
    → nums' ≡ with_number nums a
    → links_bound m s nums' (links (map link_tree (drop (i + 1) parts))) ns' ≡ target
links-step m s parts i d nums nums' ns ns' a target inside is one more =
    let rest = links (map link_tree (drop (i + 1) parts)) in
    ap (λ (n : Option (List ℕ)). links_bound m s n rest ns') more
    ∙ sym (ap (λ (r : Result (Option ℕ × Nodes) Fault). and_then r (λ b. links_bound m s (with_number nums b) rest)) one)
    ∙ sym (at_drop_more (λ xs. links_bound m s nums (links (map link_tree xs)) ns) parts i d inside)
    ∙ is

-- The numbers stay below those of the nodes.
pub numbers-below : (nums nums' : Option (List ℕ)) (a : Option ℕ) (m k : ℕ) → IfSome nums (λ ns. all_before m ns ≡ true)
    → m ≤ k → IfSome a (λ e. e < k) → nums' ≡ with_number nums a → IfSome nums' (λ ns. all_before k ns ≡ true)
numbers-below nums nums' a m k below up here more = rw more (by nums a below here)
  where
    by : (nums : Option (List ℕ)) (a : Option ℕ) → IfSome nums (λ ns. all_before m ns ≡ true) → IfSome a (λ e. e < k)
        → IfSome (with_number nums a) (λ ns. all_before k ns ≡ true)
    by None a below here = tt
    by (Some ns) None below here = tt
    by (Some ns) (Some e) below here = all_before-push k e ns (all_before-later m k ns below up) here

-- The entries so far, with those that are left, are those of the concatenation.
pub record EntriesSoFar (m : Mode) (s : Scope) (start : Nodes) (parts : List Expr) (i : ℕ) (nums : Option (List ℕ)) (ns : Nodes) : Type 0 where
  pub step : entries_bound m s nums (exprs (map expr_tree (drop i parts))) ns ≡ entries_bound m s (Some []) (exprs (map expr_tree parts)) start
  pub sound : IsSound m s ns
  pub below : IfSome nums (λ es. all_before (length ns) es ≡ true)
  pub grows : length start ≤ length ns

-- The operands so far, with those that are left, are those of the chain.
pub record LinksSoFar (m : Mode) (s : Scope) (start : Nodes) (parts : List (Link Expr)) (i : ℕ) (nums : Option (List ℕ)) (ns : Nodes) : Type 0 where
  pub step : links_bound m s nums (links (map link_tree (drop i parts))) ns ≡ links_bound m s (Some []) (links (map link_tree parts)) start
  pub sound : IsSound m s ns
  pub below : IfSome nums (λ es. all_before (length ns) es ≡ true)
  pub grows : length start ≤ length ns

-- What was bound, seen so: a step from some nodes to more, sound as before.
pub record Bound (m : Mode) (s : Scope) (row : Step (Option ℕ)) (ns : Nodes) (a : Option ℕ) (ns' : Nodes) : Type 0 where
  pub step : row ns ≡ Ok (a, ns')
  pub sound : IsSound m s ns'
  pub below : IfSome a (λ e. e < length ns')
  pub grows : length ns ≤ length ns'

pub entries-more : (m : Mode) (s : Scope) (start : Nodes) (parts : List Expr) (i : ℕ) (d e : Expr) (nums nums' : Option (List ℕ)) (ns ns' : Nodes)
    (a : Option ℕ) → EntriesSoFar m s start parts i nums ns → i < length parts → e ≡ get_or parts i d → nums' ≡ with_number nums a
    → Bound m s (entry (expr_tree e) (bound m s (expr_tree e))) ns a ns' → EntriesSoFar m s start parts (i + 1) nums' ns'
entries-more m s start parts i d e nums nums' ns ns' a before inside is more b =
    let one = ap (λ (x : Expr). entry (expr_tree x) (bound m s (expr_tree x)) ns) (sym is) ∙ b.step in
    record {
      step = entries-step m s parts i d nums nums' ns ns' a _ inside before.step one more;
      sound = b.sound;
      below = numbers-below nums nums' a (length ns) (length ns') before.below b.grows b.below more;
      grows = omega (arith, before.grows, b.grows);
    }

pub links-more : (m : Mode) (s : Scope) (start : Nodes) (parts : List (Link Expr)) (i : ℕ) (d l : Link Expr) (nums nums' : Option (List ℕ)) (ns ns' : Nodes)
    (a : Option ℕ) → LinksSoFar m s start parts i nums ns → i < length parts → l ≡ get_or parts i d → nums' ≡ with_number nums a
    → Bound m s (bound m s (expr_tree l.operand)) ns a ns' → LinksSoFar m s start parts (i + 1) nums' ns'
links-more m s start parts i d l nums nums' ns ns' a before inside is more b =
    let one = ap (λ (x : Link Expr). bound m s (expr_tree x.operand) ns) (sym is) ∙ b.step in
    record {
      step = links-step m s parts i d nums nums' ns ns' a _ inside before.step one more;
      sound = b.sound;
      below = numbers-below nums nums' a (length ns) (length ns') before.below b.grows b.below more;
      grows = omega (arith, before.grows, b.grows);
    }

-- Of no argument, or of more than one, none is the only one.
pub sole_none : (m : Mode) (s : Scope) (all : List Expr) → (length all ≡ 1 → ⊥) → sole_bound m s (exprs (map expr_tree all)) ≡ None
sole_none m s [] h = refl
sole_none m s (e ∷ []) h = absurd (h refl)
sole_none m s (e ∷ f ∷ all) h = refl

-- A name with an index, or with more than one part, is no constant.
indexed : (s : Scope) (id : Id) (i : Option Expr) (more : List (NameStep Expr)) → is_some i ≡ true
    → name_value s (name id (index_by expr_tree i) (steps (map (step_by expr_tree) more))) ≡ Err (N4, id.place)
indexed s id None more h = absurd (cc)
indexed s id (Some e) more h = refl

pub name_value-indexed : (s : Scope) (n : Name Expr) → is_some n.first.index ≡ true → name_value s (name_tree n) ≡ Err (N4, n.first.id.place)
name_value-indexed s n h = indexed s n.first.id n.first.index n.more h

call-indexed : (s : Scope) (id : Id) (i : Option Expr) (more : List (NameStep Expr)) → is_some i ≡ true
    → call_fault s (name id (index_by expr_tree i) (steps (map (step_by expr_tree) more))) ≡ N4
call-indexed s id None more h = absurd (cc)
call-indexed s id (Some e) more h = refl

pub call_fault-indexed : (s : Scope) (n : Name Expr) → is_some n.first.index ≡ true → call_fault s (name_tree n) ≡ N4
call_fault-indexed s n h = call-indexed s n.first.id n.first.index n.more h

call-longer : (s : Scope) (id : Id) (i : Option Expr) (more : List (NameStep Expr)) → (more ≡ [] → ⊥)
    → call_fault s (name id (index_by expr_tree i) (steps (map (step_by expr_tree) more))) ≡ N4
call-longer s id None [] h = absurd (h refl)
call-longer s id None (m ∷ more) h = refl
call-longer s id (Some e) more h = refl

pub call_fault-longer : (s : Scope) (n : Name Expr) → (n.more ≡ [] → ⊥) → call_fault s (name_tree n) ≡ N4
call_fault-longer s n h = call-longer s n.first.id n.first.index n.more h

longer : (s : Scope) (id : Id) (i : Option Expr) (more : List (NameStep Expr)) → (more ≡ [] → ⊥)
    → name_value s (name id (index_by expr_tree i) (steps (map (step_by expr_tree) more))) ≡ Err (N4, id.place)
longer s id None [] h = absurd (h refl)
longer s id None (m ∷ more) h = refl
longer s id (Some e) more h = refl

pub name_value-longer : (s : Scope) (n : Name Expr) → (n.more ≡ [] → ⊥) → name_value s (name_tree n) ≡ Err (N4, n.first.id.place)
name_value-longer s n h = longer s n.first.id n.first.index n.more h
