-- Lemmas on `specs/Nodes.antt`: nodes that are sound, and one more of them.
use Rattle.std.proofs.Common.{◌≡◌, ◌∙◌, ◌<◌, ◌≤◌, ◌+◌, ◌*◌, ◌++◌, ℕ, zero, suc, Bool, true, false, ◌&&◌, nat_lt, ◌==◌, max, min, List, [], ◌∷◌, length, length-append, Option, Some, None, slice_get, unwrap_or, refl, sym, ap, arith}
use Rattle.std.specs.Prelude.{if◌then◌else◌}
use Rattle.std.specs.List.{list_all}
use Rattle.std.specs.Option.{option_map}
use Rattle.std.specs.Cmp.Derive.{both_true}
use Rattle.std.proofs.lemmas.Bool.{ltb-true, ltb-false, lt-ltb, eq-eqb}
use Rattle.std.proofs.lemmas.Option.{slice_get_within}
use Rattle.vh_logic.specs.declared.vector.TheConstants.{MAX_WIDTH}
use Rattle.vh_design_nodes.specs.declared.expr.ExprKind.{ExprKind}
use Rattle.vh_design_nodes.specs.declared.expr.ExprKind.TheVariants as kind
use Rattle.vh_design_nodes.specs.declared.expr.ExprNode.{ExprNode}
use Rattle.vh_design_nodes.specs.declared.object.ObjectInfo.{ObjectInfo}
use Rattle.vh_design_nodes.specs.Widths.{width_of, signed_of, widest, summed, all_signed, operands, is_reduction, kind_width, kind_signed}
use Rattle.vh_design_nodes.specs.Fits.{is_width, same_sign, all_before, fits_kind, fits_node}
use Rattle.vh_design_nodes.proofs.FitsLemmas.{and_left, and_right}
use Rattle.vh_design.specs.Validity.{AllFit}
use Rattle.vh_bind.specs.declared.nodes.TheConstants.{MOST_EXPRS}
use Rattle.vh_bind.specs.declared.operators.Operator.{Operator}
use Rattle.vh_bind.specs.declared.operators.Operator.TheVariants as operator
use Rattle.vh_bind.specs.Nodes.{as_arithmetic, as_shift, as_comparison, as_logic, with_link, links_by, chain_kind, AreSound}
use Rattle.vh_bind.specs.Steps.{Nodes}

-- A node of before is where it was.
kept_at : (ns : Nodes) (x : ExprNode) (e : ℕ) → e < length ns → slice_get (ns ++ x ∷ []) e ≡ slice_get ns e
kept_at [] x e inside = absurd (omega (arith, inside))
kept_at (n ∷ ns) x zero inside = refl
kept_at (n ∷ ns) x (suc e) inside = kept_at ns x e (omega (arith, inside))

new_at : (ns : Nodes) (x : ExprNode) → slice_get (ns ++ x ∷ []) (length ns) ≡ Some x
new_at [] x = refl
new_at (n ∷ ns) x = new_at ns x

-- So are its width and its sign.
width-kept : (ns : Nodes) (x : ExprNode) (e : ℕ) → e < length ns → width_of (ns ++ x ∷ []) e ≡ width_of ns e
width-kept ns x e inside = ap (λ (o : Option ExprNode). unwrap_or (option_map (λ n. n.width) o) 1) (kept_at ns x e inside)

signed-kept : (ns : Nodes) (x : ExprNode) (e : ℕ) → e < length ns → signed_of (ns ++ x ∷ []) e ≡ signed_of ns e
signed-kept ns x e inside =
    ap (λ (o : Option ExprNode). unwrap_or (option_map (λ n. n.signed) o) false) (kept_at ns x e inside)

pub below_so : (p e : ℕ) → p < e → nat_lt p e ≡ true
below_so p e lt = lt-ltb p e lt

inside_by : (p e m : ℕ) → nat_lt p e ≡ true → e ≤ m → p < m
inside_by p e m h up = let lt = ltb-true p e h in omega (arith, lt, up)

widest-kept : (ns : Nodes) (x : ExprNode) (e w : ℕ) (parts : List ℕ) → all_before e parts ≡ true → e ≤ length ns
    → widest (ns ++ x ∷ []) w parts ≡ widest ns w parts
widest-kept ns x e w [] h up = refl
widest-kept ns x e w (p ∷ ps) h up =
    let here = inside_by p e (length ns) (and_left (nat_lt p e) (all_before e ps) h) up in
    ap (λ (v : ℕ). widest (ns ++ x ∷ []) (max w v) ps) (width-kept ns x p here)
    ∙ widest-kept ns x e (max w (width_of ns p)) ps (and_right (nat_lt p e) (all_before e ps) h) up

summed-kept : (ns : Nodes) (x : ExprNode) (e w : ℕ) (parts : List ℕ) → all_before e parts ≡ true → e ≤ length ns
    → summed (ns ++ x ∷ []) w parts ≡ summed ns w parts
summed-kept ns x e w [] h up = refl
summed-kept ns x e w (p ∷ ps) h up =
    let here = inside_by p e (length ns) (and_left (nat_lt p e) (all_before e ps) h) up in
    ap (λ (v : ℕ). summed (ns ++ x ∷ []) (min (w + v) (MAX_WIDTH + 1)) ps) (width-kept ns x p here)
    ∙ summed-kept ns x e (min (w + width_of ns p) (MAX_WIDTH + 1)) ps (and_right (nat_lt p e) (all_before e ps) h) up

all_signed-kept : (ns : Nodes) (x : ExprNode) (e : ℕ) (parts : List ℕ) → all_before e parts ≡ true → e ≤ length ns
    → all_signed (ns ++ x ∷ []) parts ≡ all_signed ns parts
all_signed-kept ns x e [] h up = refl
all_signed-kept ns x e (p ∷ ps) h up =
    let here = inside_by p e (length ns) (and_left (nat_lt p e) (all_before e ps) h) up in
    ap (λ (b : Bool). b && all_signed (ns ++ x ∷ []) ps) (signed-kept ns x p here)
    ∙ ap (λ (b : Bool). signed_of ns p && b)
    (all_signed-kept ns x e ps (and_right (nat_lt p e) (all_before e ps) h) up)

-- What a kind's parts give is what they gave.
kind_width-kept : (os : List ObjectInfo) (p : ℕ) (ns : Nodes) (x : ExprNode) (e : ℕ) (k : ExprKind) → fits_kind os p e k ≡ true → e ≤ length ns
    → kind_width (ns ++ x ∷ []) os k ≡ kind_width ns os k
kind_width-kept os pr ns x e (kind.Literal v) h up = refl
kind_width-kept os pr ns x e (kind.Selected s) h up = refl
kind_width-kept os pr ns x e (kind.Unary op p) h up =
    ap (λ (w : ℕ). if is_reduction op then 1 else w) (width-kept ns x p (inside_by p e (length ns) h up))
kind_width-kept os pr ns x e (kind.Arithmetic first rest) h up =
    let here = inside_by first e (length ns) (and_left (nat_lt first e) (all_before e (operands rest)) h) up in
    ap (λ (w : ℕ). widest (ns ++ x ∷ []) w (operands rest)) (width-kept ns x first here)
    ∙ widest-kept ns x e (width_of ns first) (operands rest) (and_right (nat_lt first e) (all_before e (operands rest)) h) up
kind_width-kept os pr ns x e (kind.Shift first rest) h up =
    width-kept ns x first
    (inside_by first e (length ns) (and_left (nat_lt first e) (all_before e (operands rest)) h) up)
kind_width-kept os pr ns x e (kind.Comparison first rest) h up = refl
kind_width-kept os pr ns x e (kind.Logic first rest) h up = refl
kind_width-kept os pr ns x e (kind.Choice condition left right) h up =
    let both = and_left (nat_lt condition e && nat_lt left e) (nat_lt right e) h in
    let one = inside_by left e (length ns) (and_right (nat_lt condition e) (nat_lt left e) both) up in
    let other = inside_by right e (length ns) (and_right (nat_lt condition e && nat_lt left e) (nat_lt right e) h) up in
    ap (λ (w : ℕ). max w (width_of (ns ++ x ∷ []) right)) (width-kept ns x left one)
    ∙ ap (λ (w : ℕ). max (width_of ns left) w) (width-kept ns x right other)
kind_width-kept os pr ns x e (kind.Join first rest) h up =
    let here = inside_by first e (length ns) (and_left (nat_lt first e) (all_before e rest) h) up in
    ap (λ (w : ℕ). summed (ns ++ x ∷ []) w rest) (width-kept ns x first here)
    ∙ summed-kept ns x e (width_of ns first) rest (and_right (nat_lt first e) (all_before e rest) h) up
kind_width-kept os pr ns x e (kind.Repeat count p) h up =
    ap (λ (w : ℕ). min (count * w) (MAX_WIDTH + 1)) (width-kept ns x p (inside_by p e (length ns) h up))
kind_width-kept os pr ns x e (kind.WithSign p signed) h up = width-kept ns x p (inside_by p e (length ns) h up)
kind_width-kept os pr ns x e (kind.Time unit) h up = refl
kind_width-kept os pr ns x e (kind.Call function result arguments) h up = refl
kind_width-kept os pr ns x e (kind.SysCall o) h up = refl

kind_signed-kept : (os : List ObjectInfo) (p : ℕ) (ns : Nodes) (x : ExprNode) (e : ℕ) (k : ExprKind) → fits_kind os p e k ≡ true → e ≤ length ns
    → kind_signed (ns ++ x ∷ []) os k ≡ kind_signed ns os k
kind_signed-kept os pr ns x e (kind.Literal v) h up = refl
kind_signed-kept os pr ns x e (kind.Selected s) h up = refl
kind_signed-kept os pr ns x e (kind.Unary op p) h up =
    ap (λ (g : Bool). if is_reduction op then false else g) (signed-kept ns x p (inside_by p e (length ns) h up))
kind_signed-kept os pr ns x e (kind.Arithmetic first rest) h up =
    let here = inside_by first e (length ns) (and_left (nat_lt first e) (all_before e (operands rest)) h) up in
    ap (λ (g : Bool). g && all_signed (ns ++ x ∷ []) (operands rest)) (signed-kept ns x first here)
    ∙ ap (λ (g : Bool). signed_of ns first && g)
    (all_signed-kept ns x e (operands rest) (and_right (nat_lt first e) (all_before e (operands rest)) h) up)
kind_signed-kept os pr ns x e (kind.Shift first rest) h up =
    signed-kept ns x first
    (inside_by first e (length ns) (and_left (nat_lt first e) (all_before e (operands rest)) h) up)
kind_signed-kept os pr ns x e (kind.Comparison first rest) h up = refl
kind_signed-kept os pr ns x e (kind.Logic first rest) h up = refl
kind_signed-kept os pr ns x e (kind.Choice condition left right) h up =
    let both = and_left (nat_lt condition e && nat_lt left e) (nat_lt right e) h in
    let one = inside_by left e (length ns) (and_right (nat_lt condition e) (nat_lt left e) both) up in
    let other = inside_by right e (length ns) (and_right (nat_lt condition e && nat_lt left e) (nat_lt right e) h) up in
    ap (λ (g : Bool). g && signed_of (ns ++ x ∷ []) right) (signed-kept ns x left one)
    ∙ ap (λ (g : Bool). signed_of ns left && g) (signed-kept ns x right other)
kind_signed-kept os pr ns x e (kind.Join first rest) h up = refl
kind_signed-kept os pr ns x e (kind.Repeat count p) h up = refl
kind_signed-kept os pr ns x e (kind.WithSign p signed) h up = refl
kind_signed-kept os pr ns x e (kind.Time unit) h up = refl
kind_signed-kept os pr ns x e (kind.Call function result arguments) h up = refl
kind_signed-kept os pr ns x e (kind.SysCall o) h up = refl

-- A node that fits goes on fitting.
fits-kept : (os : List ObjectInfo) (pr : ℕ) (ns : Nodes) (x : ExprNode) (e : ℕ) (n : ExprNode) → e ≤ length ns
    → fits_node ns os pr e n ≡ true → fits_node (ns ++ x ∷ []) os pr e n ≡ true
fits-kept os pr ns x e n up h =
    let k = fits_kind os pr e n.kind in
    let w = n.width == kind_width ns os n.kind in
    let fits = and_left k w (and_left (k && w) (is_width n.width) (and_left (k && w && is_width n.width) (same_sign n.signed (kind_signed ns os n.kind)) h)) in
    rw (kind_width-kept os pr ns x e n.kind fits up, kind_signed-kept os pr ns x e n.kind fits up) h

same_sign-refl : (b : Bool) → same_sign b b ≡ true
same_sign-refl true = refl
same_sign-refl false = refl

-- The node of a kind.
abbrev made : List ObjectInfo → Nodes → ExprKind → ExprNode
made os ns k = record { kind = k; width = kind_width ns os k; signed = kind_signed ns os k }

-- One whose parts are there fits behind them.
fits-new : (os : List ObjectInfo) (pr : ℕ) (ns : Nodes) (k : ExprKind) → fits_kind os pr (length ns) k ≡ true
    → is_width (kind_width ns os k) ≡ true → fits_node ns os pr (length ns) (made os ns k) ≡ true
fits-new os pr ns k fits wide =
    both_true (both_true (both_true fits (eq-eqb (kind_width ns os k) (kind_width ns os k) refl)) wide)
    (same_sign-refl (kind_signed ns os k))

all_fit-push : (os : List ObjectInfo) (pr : ℕ) (ns : Nodes) (k : ExprKind) → AllFit (fits_node ns os pr) ns
    → fits_kind os pr (length ns) k ≡ true → is_width (kind_width ns os k) ≡ true
    → AllFit (fits_node (ns ++ made os ns k ∷ []) os pr) (ns ++ made os ns k ∷ [])
all_fit-push os pr ns k fit fits wide e n at = by (nat_lt e (length ns)) refl
  where
    by : (b : Bool) → nat_lt e (length ns) ≡ b → fits_node (ns ++ made os ns k ∷ []) os pr e n ≡ true
    by true is =
        let inside = ltb-true e (length ns) is in
        fits-kept os pr ns (made os ns k) e n (omega (arith, inside)) (fit e n (sym (kept_at ns (made os ns k) e inside) ∙ at))
    by false is =
        let x = made os ns k in
        let past = ltb-false e (length ns) is in
        let within = slice_get_within (ns ++ x ∷ []) e n at in
        let last : e ≡ length ns = omega (arith, within, past, length-append ns (x ∷ [])) in
        let there : Some x ≡ Some n =
        sym (new_at ns x) ∙ ap (λ (j : ℕ). slice_get (ns ++ x ∷ []) j) (sym last) ∙ at in
        let same : x ≡ n = cc in
        let whole = fits-kept os pr ns x (length ns) x (omega arith) (fits-new os pr ns k fits wide) in
        ap (λ (j : ℕ). fits_node (ns ++ x ∷ []) os pr j n) last
        ∙ ap (λ (m : ExprNode). fits_node (ns ++ x ∷ []) os pr (length ns) m) (sym same) ∙ whole

list_all-push : {A : Type 0} (test : A → Bool) (xs : List A) (x : A) → list_all test xs ≡ true → test x ≡ true
    → list_all test (xs ++ x ∷ []) ≡ true
list_all-push test [] x h g = both_true g refl
list_all-push test (y ∷ ys) x h g =
    both_true (and_left (test y) (list_all test ys) h) (list_all-push test ys x (and_right (test y) (list_all test ys) h) g)

-- Sound nodes, and one more.
pub sound-push : (os : List ObjectInfo) (pr : ℕ) (ns : Nodes) (k : ExprKind) → AreSound os pr ns
    → fits_kind os pr (length ns) k ≡ true → is_width (kind_width ns os k) ≡ true → length ns < MOST_EXPRS
    → AreSound os pr (ns ++ made os ns k ∷ [])
sound-push os pr ns k sound fits wide small = record {
  fit = all_fit-push os pr ns k sound.fit fits wide;
  small = omega (arith, small, length-append ns (made os ns k ∷ []));
}

-- Numbers that are below one are below a greater one.
pub all_before-later : (e m : ℕ) (parts : List ℕ) → all_before e parts ≡ true → e ≤ m → all_before m parts ≡ true
all_before-later e m [] h up = refl
all_before-later e m (p ∷ ps) h up =
    both_true (below_so p m (inside_by p e m (and_left (nat_lt p e) (all_before e ps) h) up))
    (all_before-later e m ps (and_right (nat_lt p e) (all_before e ps) h) up)

pub all_before-push : (e p : ℕ) (parts : List ℕ) → all_before e parts ≡ true → p < e → all_before e (parts ++ p ∷ []) ≡ true
all_before-push e p parts h lt = list_all-push (λ q. nat_lt q e) parts p h (below_so p e lt)

-- Those of a chain's links.
links_before : {Op : Type 0} (pick : Operator → Option Op) (e : ℕ) (os : List Operator) (es : List ℕ)
    → all_before e es ≡ true → all_before e (operands (links_by pick os es)) ≡ true
links_before pick e [] es h = refl
links_before pick e (o ∷ os) [] h = refl
links_before {Op} pick e (o ∷ os) (p ∷ es) h =
    by (pick o) (links_before pick e os es (and_right (nat_lt p e) (all_before e es) h))
  where
    by : (op : Option Op) → all_before e (operands (links_by pick os es)) ≡ true
        → all_before e (operands (with_link op p (links_by pick os es))) ≡ true
    by None rest = rest
    by (Some op) rest = both_true (and_left (nat_lt p e) (all_before e es) h) rest

pub chain_fits : (ob : List ObjectInfo) (pr : ℕ) (o : Operator) (os : List Operator) (first : ℕ) (rest : List ℕ) (e : ℕ) → first < e → all_before e rest ≡ true
    → fits_kind ob pr e (chain_kind o os first rest) ≡ true
chain_fits ob pr (operator.Arithmetic op) os first rest e lt h = both_true (below_so first e lt) (links_before as_arithmetic e os rest h)
chain_fits ob pr (operator.Shift op) os first rest e lt h = both_true (below_so first e lt) (links_before as_shift e os rest h)
chain_fits ob pr (operator.Comparison op) os first rest e lt h = both_true (below_so first e lt) (links_before as_comparison e os rest h)
chain_fits ob pr (operator.Logic op) os first rest e lt h = both_true (below_so first e lt) (links_before as_logic e os rest h)

-- A chain has as many links as it has operators with operands behind them.
pub links-no_operator : {Op : Type 0} (pick : Operator → Option Op) (os : List Operator) (es : List ℕ) → length os ≡ 0
    → links_by pick os es ≡ []
links-no_operator pick [] es h = refl
links-no_operator pick (o ∷ os) es h = absurd (omega (arith, h))

pub links-no_operand : {Op : Type 0} (pick : Operator → Option Op) (os : List Operator) (es : List ℕ) → length es ≡ 0
    → links_by pick os es ≡ []
links-no_operand pick [] es h = refl
links-no_operand pick (o ∷ os) [] h = refl
links-no_operand pick (o ∷ os) (e ∷ es) h = absurd (omega (arith, h))
