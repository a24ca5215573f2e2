-- Lemmas on `specs/Laws.antt`: what each rule means, from the test that keeps it.
use Rattle.std.proofs.Common.{◌≡◌, ℕ, Bool, true, ◌&&◌, nat_le, nat_lt, List, Option, Some, None, slice_index_or, refl}
use Rattle.std.specs.Cmp.Derive.{both_true}
use Rattle.std.specs.List.{list_all}
use Rattle.std.proofs.lemmas.Bool.{leb-true, ltb-true}
use Rattle.std.proofs.lemmas.List.Sums.{AllPass-from_list_all}
use Rattle.vh_design_nodes.specs.declared.expr.Access.{Access}
use Rattle.vh_design_nodes.specs.declared.expr.Access.TheVariants as access
use Rattle.vh_design_nodes.specs.declared.expr.ExprKind.{ExprKind}
use Rattle.vh_design_nodes.specs.declared.expr.ExprKind.TheVariants as kind
use Rattle.vh_design_nodes.specs.declared.expr.Select.{Select}
use Rattle.vh_design_nodes.specs.declared.expr.Select.TheVariants as select
use Rattle.vh_design_nodes.specs.declared.expr.Selected.{Selected}
use Rattle.vh_design_nodes.specs.declared.fits.TheConstants.{MOST_UNIT}
use Rattle.vh_design_nodes.specs.declared.object.ObjectInfo.{ObjectInfo}
use Rattle.vh_design_nodes.specs.Kinds.{is_variable, is_memory, is_function, is_system_function}
use Rattle.vh_design.specs.Laws.{with_address, select_exprs, selected_exprs, parts_of, Read, read_word, read_selected, reads_of, PartsComeBefore, ReadsFit, NodesAreMeasured, UnitsFit, ScopesComeBefore, DriversAreOfNets, PrecisionFits}
use Rattle.vh_design_nodes.proofs.FitsLemmas.{and_left, and_right, only, of_kind}
use Rattle.vh_design.proofs.ValidityLemmas.{node_kind, node_measured, object_scope, driver_net}
use Rattle.vh_design_nodes.specs.Fits.{has_kind, is_unit, all_before, fits_word, fits_select, fits_selected, fits_kind}

-- The expressions by which something is read or assigned to come before.
address_before : (os : List ObjectInfo) (e : ℕ) (access : Access) (o : ℕ) (word : Option ℕ) (parts : List ℕ)
    → fits_word os e access o word ≡ true → all_before e parts ≡ true → all_before e (with_address word parts) ≡ true
address_before os e access o None parts h rest = rest
address_before os e access o (Some at) parts h rest = both_true (and_right (has_kind is_memory os o) (nat_lt at e) h) rest

index_before : (e : ℕ) (s : Select) → fits_select e s ≡ true → all_before e (select_exprs s) ≡ true
index_before e select.Whole h = refl
index_before e (select.Bit range index) h = only (nat_lt index e) h
index_before e (select.Slice range lowest width) h = refl
index_before e (select.Indexed up range base width) h = only (nat_lt base e) h

pub selected_before : (os : List ObjectInfo) (e : ℕ) (access : Access) (s : Selected)
    → fits_selected os e access s ≡ true → all_before e (selected_exprs s) ≡ true
selected_before os e access s h =
    let word = fits_word os e access s.of.object s.of.word in
    address_before os e access s.of.object s.of.word (select_exprs s.select) (and_left word (fits_select e s.select) h)
    (index_before e s.select (and_right word (fits_select e s.select) h))

-- The expressions that an expression is made of come before it.
pub parts_before : (os : List ObjectInfo) (precision e : ℕ) (k : ExprKind)
    → fits_kind os precision e k ≡ true → all_before e (parts_of k) ≡ true
parts_before os precision e (kind.Literal v) h = refl
parts_before os precision e (kind.Selected s) h = selected_before os e access.Read s h
parts_before os precision e (kind.Unary op part) h = only (nat_lt part e) h
parts_before os precision e (kind.Arithmetic first rest) h = h
parts_before os precision e (kind.Shift first rest) h = h
parts_before os precision e (kind.Comparison first rest) h = h
parts_before os precision e (kind.Logic first rest) h = h
parts_before os precision e (kind.Choice condition left right) h =
    let both = and_left (nat_lt condition e && nat_lt left e) (nat_lt right e) h in
    both_true (and_left (nat_lt condition e) (nat_lt left e) both)
    (both_true (and_right (nat_lt condition e) (nat_lt left e) both)
    (only (nat_lt right e) (and_right (nat_lt condition e && nat_lt left e) (nat_lt right e) h)))
parts_before os precision e (kind.Join first rest) h = h
parts_before os precision e (kind.Repeat count part) h = only (nat_lt part e) h
parts_before os precision e (kind.WithSign part signed) h = only (nat_lt part e) h
parts_before os precision e (kind.Time unit) h = refl
parts_before os precision e (kind.Call function result arguments) h =
    and_right (has_kind is_function os function && has_kind is_variable os result) (all_before e arguments) h
parts_before os precision e (kind.SysCall o) h = refl

pub parts_come_before : PartsComeBefore
parts_come_before d e n valid at =
    let passes = parts_before d.objects d.precision e n.kind (node_kind d e n (valid.nodes.exprs e n at)) in
    let all = AllPass-from_list_all (λ p. nat_lt p e) (parts_of n.kind) passes in
    λ k p inside. ltb-true (slice_index_or (parts_of n.kind) k p) e (all k p inside)

-- The objects that it reads pass their tests.
abbrev pub passes : List ObjectInfo → Read → Bool
passes os r = has_kind r.test os r.object

word_passes : (os : List ObjectInfo) (e : ℕ) (access : Access) (o : ℕ) (word : Option ℕ)
    → fits_word os e access o word ≡ true → passes os (read_word access o word) ≡ true
word_passes os e access o None h = h
word_passes os e access o (Some at) h = and_left (has_kind is_memory os o) (nat_lt at e) h

pub selected_passes : (os : List ObjectInfo) (e : ℕ) (access : Access) (s : Selected)
    → fits_selected os e access s ≡ true → passes os (read_selected access s) ≡ true
selected_passes os e access s h =
    word_passes os e access s.of.object s.of.word
    (and_left (fits_word os e access s.of.object s.of.word) (fits_select e s.select) h)

reads_pass : (os : List ObjectInfo) (precision e : ℕ) (k : ExprKind)
    → fits_kind os precision e k ≡ true → list_all (passes os) (reads_of k) ≡ true
reads_pass os precision e (kind.Literal v) h = refl
reads_pass os precision e (kind.Selected s) h =
    only (passes os (read_selected access.Read s)) (selected_passes os e access.Read s h)
reads_pass os precision e (kind.Unary op part) h = refl
reads_pass os precision e (kind.Arithmetic first rest) h = refl
reads_pass os precision e (kind.Shift first rest) h = refl
reads_pass os precision e (kind.Comparison first rest) h = refl
reads_pass os precision e (kind.Logic first rest) h = refl
reads_pass os precision e (kind.Choice condition left right) h = refl
reads_pass os precision e (kind.Join first rest) h = refl
reads_pass os precision e (kind.Repeat count part) h = refl
reads_pass os precision e (kind.WithSign part signed) h = refl
reads_pass os precision e (kind.Time unit) h = refl
reads_pass os precision e (kind.Call function result arguments) h =
    let called = has_kind is_function os function in
    let held = has_kind is_variable os result in
    let both = and_left (called && held) (all_before e arguments) h in
    both_true (and_left called held both) (only held (and_right called held both))
reads_pass os precision e (kind.SysCall o) h = only (has_kind is_system_function os o) h

pub reads_fit : ReadsFit
reads_fit d e n valid at =
    let passed = reads_pass d.objects d.precision e n.kind (node_kind d e n (valid.nodes.exprs e n at)) in
    let all = AllPass-from_list_all (passes d.objects) (reads_of n.kind) passed in
    λ k r inside.
    let it = slice_index_or (reads_of n.kind) k r in
    of_kind d.objects it.test it.object (all k r inside)

pub nodes_are_measured : NodesAreMeasured
nodes_are_measured d e n valid at = node_measured d e n (valid.nodes.exprs e n at)

-- Its time unit.
pub units_fit : UnitsFit
units_fit d e n unit valid at is =
    let k = node_kind d e n (valid.nodes.exprs e n at) in
    let u : is_unit d.precision unit ≡ true = rw is at k in (
      leb-true unit MOST_UNIT (and_left (nat_le unit MOST_UNIT) (nat_le d.precision unit) u),
      leb-true d.precision unit (and_right (nat_le unit MOST_UNIT) (nat_le d.precision unit) u),
    )

-- Scopes, drivers and the precision.
pub scopes_come_before : ScopesComeBefore
scopes_come_before d o i valid at = object_scope d o i (valid.nodes.objects o i at)

pub drivers_are_of_nets : DriversAreOfNets
drivers_are_of_nets d x i valid at = driver_net d i (valid.nodes.drivers x i at)

pub precision_fits : PrecisionFits
precision_fits d valid = leb-true d.precision MOST_UNIT valid.nodes.precise
