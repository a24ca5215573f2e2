-- Lemmas on `specs/Validity.antt`: that each element passes a test of its number and itself, and what
-- the tests of a design's parts mean.
use Rattle.std.proofs.Common.{◌≡◌, ◌<◌, ◌≤◌, ◌+◌, ℕ, Bool, true, ◌&&◌, nat_eq, List, length, get_or, IfSome, Option, Some, None, slice_get, refl, subst, arith, below_more}
use Rattle.std.specs.Option.{option_and_then}
use Rattle.std.proofs.lemmas.Bool.{eqb-true, ltb-true}
use Rattle.std.proofs.lemmas.Option.{slice_get_read, slice_get_within}
use Rattle.vh_logic.specs.declared.vector.TheConstants.{MAX_WIDTH}
use Rattle.vh_design_nodes.specs.declared.driver.DriverInfo.{DriverInfo}
use Rattle.vh_design_nodes.specs.declared.expr.ExprNode.{ExprNode}
use Rattle.vh_design_nodes.specs.declared.object.Detail.{Detail}
use Rattle.vh_design_nodes.specs.declared.object.Detail.TheVariants as detail
use Rattle.vh_design_nodes.specs.declared.object.ObjectInfo.{ObjectInfo}
use Rattle.vh_design_code.specs.declared.code.Code.{Code}
use Rattle.vh_design_code.specs.declared.statement.StmtInfo.{StmtInfo}
use Rattle.vh_design_code.specs.Codes.{fits_statement}
use Rattle.vh_design_nodes.specs.Kinds.{is_net, is_scope}
use Rattle.vh_design.specs.Shape.{Shape}
use Rattle.vh_design_nodes.specs.Fits.{body_of, body_number, has_kind, is_width, before, same_sign, fits_kind, fits_node, fits_detail, fits_object, fits_driver, IsOfKind}
use Rattle.vh_design_nodes.proofs.FitsLemmas.{and_left, and_right, width_least, width_most, same, of_kind}
use Rattle.vh_design.specs.Validity.{body_at, AllFit, IsValid, IsMeasured}
use Rattle.vh_design_nodes.specs.Widths.{kind_width, kind_signed}

-- Each element below a number passes.
abbrev pub FitBelow : {T : Type 0} → (ℕ → T → Bool) → List T → ℕ → Type 0
FitBelow {T} test xs n = (k : ℕ) → k < n → (x : T) → slice_get xs k ≡ Some x → test k x ≡ true

-- What passes below a number, and at it, passes below the next one.
pub FitBelow-more : {T : Type 0} (test : ℕ → T → Bool) (xs : List T) (n : ℕ) (x : T)
    → FitBelow test xs n → n < length xs → x ≡ get_or xs n x → test n x ≡ true → FitBelow test xs (n + 1)
FitBelow-more {T} test xs n x below inside is passes =
    let there : slice_get xs n ≡ Some x = slice_get_read xs (length xs) n x refl inside is in
    let P : ℕ → Type 0 = λ k. (y : T) → slice_get xs k ≡ Some y → test k y ≡ true in
    below_more P n below (λ y at. cc (there, at, passes))

-- What passes below the length passes.
pub AllFit-below : {T : Type 0} (test : ℕ → T → Bool) (xs : List T) (n : ℕ)
    → FitBelow test xs n → length xs ≤ n → AllFit test xs
AllFit-below test xs n below past k x at =
    let inside : k < length xs = slice_get_within xs k x at in
    below k (omega arith) x at

-- What passes everywhere passes at each element.
pub AllFit-at : {T : Type 0} (test : ℕ → T → Bool) (xs : List T) (n : ℕ) (x : T)
    → AllFit test xs → n < length xs → x ≡ get_or xs n x → test n x ≡ true
AllFit-at test xs n x fits inside is = fits n x (slice_get_read xs (length xs) n x refl inside is)

-- An expression that passes: its parts and what it reads, and its width and sign.
pub node_kind : (d : Shape) (e : ℕ) (n : ExprNode)
    → fits_node d.exprs d.objects d.precision e n ≡ true → fits_kind d.objects d.precision e n.kind ≡ true
node_kind d e n h =
    let a = fits_kind d.objects d.precision e n.kind in
    let b = nat_eq n.width (kind_width d.exprs d.objects n.kind) in
    let c = is_width n.width in
    let s = same_sign n.signed (kind_signed d.exprs d.objects n.kind) in
    and_left a b (and_left (a && b) c (and_left ((a && b) && c) s h))

pub node_measured : (d : Shape) (e : ℕ) (n : ExprNode)
    → fits_node d.exprs d.objects d.precision e n ≡ true → IsMeasured d n
node_measured d e n h =
    let w = kind_width d.exprs d.objects n.kind in
    let s = kind_signed d.exprs d.objects n.kind in
    let a = fits_kind d.objects d.precision e n.kind in
    let b = nat_eq n.width w in
    let c = is_width n.width in
    let front = and_left ((a && b) && c) (same_sign n.signed s) h in
    let range = and_right (a && b) c front in
    record {
      width = eqb-true n.width w (and_right a b (and_left (a && b) c front));
      least = width_least n.width range;
      most = width_most n.width range;
      signed = same n.signed s (and_right ((a && b) && c) (same_sign n.signed s) h);
    }

-- An object that passes: its scope, its width and its detail.
scope_before : (o : ℕ) (scope : Option ℕ) → before o scope ≡ true → IfSome scope (λ p. p < o)
scope_before o None h = tt
scope_before o (Some p) h = ltb-true p o h

pub object_scope : (d : Shape) (o : ℕ) (i : ObjectInfo)
    → fits_object (length d.exprs) (length d.bodies) d.objects o i ≡ true → IfSome i.parent (λ p. p < o)
object_scope d o i h =
    let a = before o i.parent in
    let b = is_width i.width in
    scope_before o i.parent (and_left a b (and_left (a && b) (fits_detail (length d.exprs) (length d.bodies) d.objects i.detail) h))

object_width : (d : Shape) (o : ℕ) (i : ObjectInfo)
    → fits_object (length d.exprs) (length d.bodies) d.objects o i ≡ true → is_width i.width ≡ true
object_width d o i h =
    let a = before o i.parent in
    let b = is_width i.width in
    and_right a b (and_left (a && b) (fits_detail (length d.exprs) (length d.bodies) d.objects i.detail) h)

pub object_least : (d : Shape) (o : ℕ) (i : ObjectInfo)
    → fits_object (length d.exprs) (length d.bodies) d.objects o i ≡ true → 1 ≤ i.width
object_least d o i h = width_least i.width (object_width d o i h)

pub object_most : (d : Shape) (o : ℕ) (i : ObjectInfo)
    → fits_object (length d.exprs) (length d.bodies) d.objects o i ≡ true → i.width ≤ MAX_WIDTH
object_most d o i h = width_most i.width (object_width d o i h)

pub object_detail : (d : Shape) (o : ℕ) (i : ObjectInfo)
    → fits_object (length d.exprs) (length d.bodies) d.objects o i ≡ true → fits_detail (length d.exprs) (length d.bodies) d.objects i.detail ≡ true
object_detail d o i h =
    and_right (before o i.parent && is_width i.width) (fits_detail (length d.exprs) (length d.bodies) d.objects i.detail) h

-- A driver that passes: its net and its width.
pub driver_net : (d : Shape) (i : DriverInfo) → fits_driver d.objects i ≡ true → IsOfKind d.objects is_net i.object
driver_net d i h =
    of_kind d.objects is_net i.object (and_left (has_kind is_net d.objects i.object) (is_width i.width) h)

pub driver_least : (d : Shape) (i : DriverInfo) → fits_driver d.objects i ≡ true → 1 ≤ i.width
driver_least d i h = width_least i.width (and_right (has_kind is_net d.objects i.object) (is_width i.width) h)

pub driver_most : (d : Shape) (i : DriverInfo) → fits_driver d.objects i ≡ true → i.width ≤ MAX_WIDTH
driver_most d i h = width_most i.width (and_right (has_kind is_net d.objects i.object) (is_width i.width) h)

-- A statement that passes: its scope.
pub stmt_scope : (d : Shape) (i : StmtInfo) → fits_statement d.objects i ≡ true → IsOfKind d.objects is_scope i.scope
stmt_scope d i h = of_kind d.objects is_scope i.scope h

-- The number of an object's body is below the number of bodies.
body_below : (exprs bodies : ℕ) (os : List ObjectInfo) (it : Detail) (n : ℕ)
    → fits_detail exprs bodies os it ≡ true → body_of it ≡ Some n → n < bodies
body_below exprs bodies os detail.Plain n h is = absurd (cc)
body_below exprs bodies os (detail.Net type) n h is = absurd (cc)
body_below exprs bodies os (detail.Port output index) n h is = absurd (cc)
body_below exprs bodies os (detail.Module name) n h is = absurd (cc)
body_below exprs bodies os (detail.Memory lowest) n h is = absurd (cc)
body_below exprs bodies os (detail.Value e) n h is = absurd (cc)
body_below exprs bodies os (detail.Call systf result args) n h is = absurd (cc)
body_below exprs bodies os (detail.Routine body) n h is =
    let same : body ≡ n = cc in subst (λ (k : ℕ). k < bodies) same (ltb-true body bodies h)

some_body : (d : Shape) (t : ℕ) (o : Option ObjectInfo) (n : ℕ)
    → IsValid d → slice_get d.objects t ≡ o → option_and_then (λ (i : ObjectInfo). body_of i.detail) o ≡ Some n → n < length d.bodies
some_body d t None n valid at is = absurd (cc)
some_body d t (Some i) n valid at is =
    body_below (length d.exprs) (length d.bodies) d.objects i.detail n (object_detail d t i (valid.nodes.objects t i at)) is

pub body-inside : (d : Shape) (t n : ℕ) → IsValid d → body_number d.objects t ≡ Some n → n < length d.bodies
body-inside d t n valid is = some_body d t (slice_get d.objects t) n valid refl is

-- The body that was found.
pub body_at-found : (d : Shape) (t n : ℕ) (x : Code)
    → body_number d.objects t ≡ Some n → slice_get d.bodies n ≡ Some x → body_at d t ≡ Some x
body_at-found d t n x found at = rw found at
