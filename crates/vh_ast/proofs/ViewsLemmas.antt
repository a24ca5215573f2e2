-- What the views are of trees with parts that may be absent, or that stand in lists of records. What a layer
-- of the code is seen as is compared with what its parts are seen as, part by part.
use Rattle.std.specs.Prelude.{◌≡◌, ◌↔◌, IsTrue, false, List, [], ◌∷◌, map, refl, Option, None, Some}
use Rattle.std.proofs.Common.{ap, ◌∙◌}
use Rattle.std.proofs.lemmas.Simd.{map-map}
use Rattle.vh_base.specs.declared.place.Place.{Place}
use Rattle.vh_ast.specs.declared.token.Id.{Id}
use Rattle.vh_ast.specs.declared.name.Step.{Step}
use Rattle.vh_ast.specs.declared.name.Name.{Name}
use Rattle.vh_ast.specs.declared.name.Part.{Part}
use Rattle.vh_ast.specs.declared.name.Part.TheVariants as part
use Rattle.vh_ast.specs.declared.name.Esel.{Esel}
use Rattle.vh_ast.specs.declared.name.Sel.{Sel}
use Rattle.vh_ast.specs.declared.name.Sel.TheVariants as sel
use Rattle.vh_ast.specs.declared.expr.Primary.TheVariants as prim
use Rattle.vh_ast.specs.declared.expr.Link.{Link}
use Rattle.vh_ast.specs.declared.expr.ExprForm.{ExprForm}
use Rattle.vh_ast.specs.declared.expr.ExprForm.TheVariants as form
use Rattle.vh_ast.specs.declared.expr.Expr.{Expr, roll-Expr, out-Expr, fold-roll-Expr, fold_out-Expr}
use Rattle.vh_ast.specs.declared.stmt.CaseWord.{CaseWord}
use Rattle.vh_ast.specs.declared.stmt.Citem.{Citem}
use Rattle.vh_ast.specs.declared.stmt.StmtForm.TheVariants as s
use Rattle.vh_ast.specs.declared.stmt.Stmt.{Stmt, roll-Stmt, fold-roll-Stmt}
use Rattle.vh_ast.specs.Expressions.{expr, named, call, chain, name, no_index, index, steps, exprs, links, place_of, chained}
use Rattle.vh_ast.specs.Statements.{stmt, case_stmt, citems}
use Rattle.vh_ast.specs.Views.{expr_tree, link_tree, name_tree, sel_tree, stmt_tree, citem_tree}

-- Two parts at once
both : {A B C : Type 0} (f : A → B → C) {a a' : A} {b b' : B} → a ≡ a' → b ≡ b' → f a b ≡ f a' b'
both f p q = λ i. f (p i) (q i)

-- A value that is made of two parts, part by part
by_parts : {X Y A B C : Type 0} (f : A → B → C) {l : X → Y → C} {g h : X → A} {g' h' : Y → B} →
    ((x : X) (y : Y) → l x y ≡ f (g x) (g' y)) → ((x : X) → g x ≡ h x) → ((y : Y) → g' y ≡ h' y) →
    (x : X) (y : Y) → l x y ≡ f (h x) (h' y)
by_parts f made p q x y = made x y ∙ both f (p x) (q y)

-- What is made of each of a list twice is made of it at once
map-both : {A B C : Type 0} (f : A → B) (g : B → C) (h : A → C) → ((a : A) → g (f a) ≡ h a) →
    (all : List A) → map g (map f all) ≡ map h all
map-both f g h same [] = refl
map-both f g h same (a ∷ all) = both (λ b more. b ∷ more) (same a) (map-both f g h same all)

-- Two functions that agree on each form of a value agree on it
by_option : {A B : Type 0} (g h : Option A → B) → g None ≡ h None →
    ((a : A) → g (Some a) ≡ h (Some a)) → (o : Option A) → g o ≡ h o
by_option g h absent there None = absent
by_option g h absent there (Some a) = there a

abbrev step_of : Id → Option Expr → Step Expr
step_of id o = record { id = id; index = o }

by_step : {B : Type 0} (g h : Step Expr → B) →
    ((id : Id) → g (step_of id None) ≡ h (step_of id None)) →
    ((id : Id) (e : Expr) → g (step_of id (Some e)) ≡ h (step_of id (Some e))) →
    (s : Step Expr) → g s ≡ h s
by_step g h absent there s =
    by_option (λ o. g (step_of s.id o)) (λ o. h (step_of s.id o)) (absent s.id) (there s.id) s.index

abbrev name_of : Id → Option Expr → List (Step Expr) → Name Expr
name_of id o more = record { first = step_of id o; more = more }

by_name : {B : Type 0} (g h : Name Expr → B) →
    ((id : Id) (more : List (Step Expr)) → g (name_of id None more) ≡ h (name_of id None more)) →
    ((id : Id) (e : Expr) (more : List (Step Expr)) →
    g (name_of id (Some e) more) ≡ h (name_of id (Some e) more)) →
    (n : Name Expr) → g n ≡ h n
by_name g h absent there n =
    by_step (λ s. g (record { first = s; more = n.more })) (λ s. h (record { first = s; more = n.more }))
    (λ id. absent id n.more) (λ id e. there id e n.more) n.first

by_part : {B : Type 0} (g h : Part Expr → B) →
    ((e : Expr) → g (part.Index e) ≡ h (part.Index e)) →
    ((a b : Expr) → g (part.Range a b) ≡ h (part.Range a b)) →
    ((a b : Expr) → g (part.Up a b) ≡ h (part.Up a b)) →
    ((a b : Expr) → g (part.Down a b) ≡ h (part.Down a b)) →
    (p : Part Expr) → g p ≡ h p
by_part g h at range up down (part.Index e) = at e
by_part g h at range up down (part.Range a b) = range a b
by_part g h at range up down (part.Up a b) = up a b
by_part g h at range up down (part.Down a b) = down a b

abbrev esel_of : Place → Part Expr → Esel Expr
esel_of at p = record { place = at; part = p }

abbrev both_of : Place → Expr → Place → Part Expr → Option (Sel Expr)
both_of place e at p = Some (sel.Both place e (esel_of at p))

abbrev part_of : Place → Part Expr → Option (Sel Expr)
part_of at p = Some (sel.Part (esel_of at p))

by_sel : {B : Type 0} (g h : Option (Sel Expr) → B) → g None ≡ h None →
    ((place : Place) (e : Expr) → g (Some (sel.Index place e)) ≡ h (Some (sel.Index place e))) →
    ((place : Place) (e : Expr) (at : Place) (p : Part Expr) →
    g (both_of place e at p) ≡ h (both_of place e at p)) →
    ((at : Place) (p : Part Expr) → g (part_of at p) ≡ h (part_of at p)) →
    (s : Option (Sel Expr)) → g s ≡ h s
by_sel g h absent one two last None = absent
by_sel g h absent one two last (Some (sel.Index place e)) = one place e
by_sel g h absent one two last (Some (sel.Both place e p)) = two place e p.place p.part
by_sel g h absent one two last (Some (sel.Part p)) = last p.place p.part

-- An expression of the code that stands there and is that
abbrev at_place : Place → ExprForm Expr → Expr
at_place place form = roll-Expr (record { place = place; form = form })

-- Where an expression of the code stands
pub place_of-expr_tree : (e : Expr) → place_of (expr_tree e) ≡ (out-Expr e).place
place_of-expr_tree e = rw fold_out-Expr refl

-- A name with a select behind it
pub expr_tree-Name : (place : Place) (n : Name Expr) (s : Option (Sel Expr)) →
    expr_tree (at_place place (form.Primary (prim.Name n s))) ≡ expr place (named (name_tree n) (sel_tree s))
expr_tree-Name place =
    by_parts (λ a b. expr place (named a b)) (λ n s. fold-roll-Expr _ _ _)
    (by_name _ _
    (λ id more. ap (λ l. name id no_index (steps l))
    (map-both _ _ _ (by_step _ _ (λ i. refl) (λ i e. refl)) more))
    (λ id e more. ap (λ l. name id (index (expr_tree e)) (steps l))
    (map-both _ _ _ (by_step _ _ (λ i. refl) (λ i e. refl)) more)))
    (by_sel _ _ refl (λ at e. refl)
    (λ at e last. by_part _ _ (λ a. refl) (λ a b. refl) (λ a b. refl) (λ a b. refl))
    (λ last. by_part _ _ (λ a. refl) (λ a b. refl) (λ a b. refl) (λ a b. refl)))

-- A call
pub expr_tree-Call : (place : Place) (n : Name Expr) (arguments : List Expr) →
    expr_tree (at_place place (form.Primary (prim.Call n arguments)))
    ≡ expr place (call (name_tree n) (exprs (map expr_tree arguments)))
expr_tree-Call place =
    by_parts (λ a b. expr place (call a (exprs b))) (λ n s. fold-roll-Expr _ _ _)
    (by_name _ _
    (λ id more. ap (λ l. name id no_index (steps l))
    (map-both _ _ _ (by_step _ _ (λ i. refl) (λ i e. refl)) more))
    (λ id e more. ap (λ l. name id (index (expr_tree e)) (steps l))
    (map-both _ _ _ (by_step _ _ (λ i. refl) (λ i e. refl)) more)))
    (λ all. refl)

-- A chain of the code
pub expr_tree-Chain : (place : Place) (first : Expr) (more : List (Link Expr)) →
    expr_tree (at_place place (form.Chain first more))
    ≡ expr place (chain (expr_tree first) (links (map link_tree more)))
expr_tree-Chain place first more = rw fold-roll-Expr (rw map-map refl)

-- One of at least one operator, with its first operand in a box
pub chained-some : (first boxed : Expr) (more : List (Link Expr)) → boxed ≡ first →
    (IsTrue false ↔ (more ≡ [])) →
    expr_tree (at_place (out-Expr first).place (form.Chain boxed more))
    ≡ chained (expr_tree first) (map link_tree more)
chained-some first boxed [] same empty = absurd (none (empty.1 refl))
  where
    none : IsTrue false → ⊥
    none e = cc
chained-some first boxed (l ∷ more) same empty =
    rw (expr_tree-Chain (out-Expr first).place boxed (l ∷ more), same, ← place_of-expr_tree first) refl

-- A statement by cases
pub stmt_tree-Case : (place : Place) (word : CaseWord) (value : Expr) (all : List (Citem Stmt)) →
    stmt_tree (roll-Stmt (record { place = place; form = s.Case word value all }))
    ≡ stmt place (case_stmt word (expr_tree value) (citems (map citem_tree all)))
stmt_tree-Case place word value all =
    fold-roll-Stmt _ _ _
    ∙ ap (λ l. stmt place (case_stmt word (expr_tree value) (citems l))) (map-both _ _ _ (λ c. refl) all)
