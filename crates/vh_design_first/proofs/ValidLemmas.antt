-- The design of registers and initial constructs keeps the rules of designs.
use Rattle.std.proofs.Common.{◌≡◌, ◌∙◌, ◌<◌, ◌≤◌, ◌+◌, ◌++◌, ◌==◌, ℕ, zero, suc, List, [], ◌∷◌, map, length, Bool, true, false, nat_lt, ◌&&◌, Option, Some, None, slice_get, get_or, refl, sym, ap, subst, arith}
use Rattle.std.proofs.lemmas.Bool.{ltb-true, lt-ltb, eq-eqb}
use Rattle.std.proofs.lemmas.List.{length-append}
use Rattle.std.specs.Cmp.Derive.{both_true}
use Rattle.std.specs.List.{flat_map, list_all}
use Rattle.vh_base.specs.declared.first.First.{First}
use Rattle.vh_base.specs.declared.first.FirstBit.{FirstBit}
use Rattle.vh_base.specs.declared.first.FirstBit.TheVariants as bit
use Rattle.vh_base.specs.declared.first.FirstCode.{FirstCode}
use Rattle.vh_base.specs.declared.first.FirstCode.TheVariants as step
use Rattle.vh_base.specs.First.{is_declared, are_declared}
use Rattle.vh_design_code.specs.Codes.{fits_instruction, fits_code, fits_show}
use Rattle.vh_design_code.specs.declared.code.Code.{Code}
use Rattle.vh_design_code.specs.declared.codes.Limits.{Limits}
use Rattle.vh_design_code.specs.declared.show.ShowCall.{ShowCall}
use Rattle.vh_design_code.specs.Operations.{fits_operation}
use Rattle.vh_design.specs.Shape.{Shape}
use Rattle.vh_design.specs.Validity.{AllFit, IsValid, limits_of}
use Rattle.vh_design_first.specs.Designs.{module_info, register_info, digit_nodes, digit_node, value_of, register, delay_node, delays_in, calls_in, call_of, operation_of, instructions_of, code_of, codes_of, steps_of, first_design}
use Rattle.vh_logic.specs.Planes.{digits_of}
use Rattle.vh_logic.specs.declared.digits.Digit.TheVariants as digit
use Rattle.vh_design_nodes.specs.Fits.{is_width}
use Rattle.vh_design_nodes.specs.declared.expr.Selected.{Selected}
use Rattle.vh_design_code.specs.Targets.{fits_targets}
use Rattle.vh_design_nodes.proofs.FitsLemmas.{and_left, and_right}
use Rattle.vh_design_nodes.specs.declared.expr.ExprNode.{ExprNode}
use Rattle.vh_design_nodes.specs.declared.object.ObjectInfo.{ObjectInfo}
use Rattle.vh_design_nodes.specs.Fits.{fits_object, fits_node}

-- Objects.
registers-fit : (exprs bodies o : ℕ) (os : List ObjectInfo) (names : List (List ℕ)) (k : ℕ) (x : ObjectInfo) → nat_lt 0 o ≡ true
    → slice_get (map register_info names) k ≡ Some x → fits_object exprs bodies os o x ≡ true
registers-fit exprs bodies o os [] k x above at = absurd (cc)
registers-fit exprs bodies o os (n ∷ ns) zero x above at =
    let same : register_info n ≡ x = cc in
    subst (λ (i : ObjectInfo). fits_object exprs bodies os o i ≡ true) same (both_true (both_true above (both_true refl refl)) refl)
registers-fit exprs bodies o os (n ∷ ns) (suc k) x above at = registers-fit exprs bodies o os ns k x above at

objects-fit : (exprs bodies : ℕ) (os : List ObjectInfo) (name : List ℕ) (names : List (List ℕ)) (o : ℕ) (x : ObjectInfo)
    → slice_get (module_info name ∷ map register_info names) o ≡ Some x → fits_object exprs bodies os o x ≡ true
objects-fit exprs bodies os name names zero x at =
    let same : module_info name ≡ x = cc in
    subst (λ (i : ObjectInfo). fits_object exprs bodies os 0 i ≡ true) same refl
objects-fit exprs bodies os name names (suc k) x at =
    registers-fit exprs bodies (suc k) os names k x (lt-ltb 0 (suc k) (omega arith)) at

-- Expressions.
delay-fits : (ns : List ExprNode) (os : List ObjectInfo) (e units : ℕ) → fits_node ns os 0 e (delay_node units) ≡ true
unfolding digits_of
delay-fits ns os e units = refl

delays-fit : (ns : List ExprNode) (os : List ObjectInfo) (e : ℕ) (cs : List FirstCode) (k : ℕ) (x : ExprNode)
    → slice_get (flat_map delays_in cs) k ≡ Some x → fits_node ns os 0 e x ≡ true
delays-fit ns os e [] k x at = absurd (cc)
delays-fit ns os e (step.Wait units ∷ cs) zero x at =
    let same : delay_node units ≡ x = cc in
    subst (λ (n : ExprNode). fits_node ns os 0 e n ≡ true) same (delay-fits ns os e units)
delays-fit ns os e (step.Wait units ∷ cs) (suc k) x at = delays-fit ns os e cs k x at
delays-fit ns os e (step.Assign reg b ∷ cs) k x at = delays-fit ns os e cs k x at
delays-fit ns os e (step.Show text ∷ cs) k x at = delays-fit ns os e cs k x at
delays-fit ns os e (step.Finish ∷ cs) k x at = delays-fit ns os e cs k x at

nodes-fit : (ns : List ExprNode) (os : List ObjectInfo) (cs : List FirstCode) (e : ℕ) (x : ExprNode)
    → slice_get (digit_nodes ++ flat_map delays_in cs) e ≡ Some x → fits_node ns os 0 e x ≡ true
nodes-fit ns os cs zero x at = let same : digit_node digit.Zero ≡ x = cc in subst (λ (n : ExprNode). fits_node ns os 0 0 n ≡ true) same refl
nodes-fit ns os cs (suc zero) x at = let same : digit_node digit.One ≡ x = cc in subst (λ (n : ExprNode). fits_node ns os 0 1 n ≡ true) same refl
nodes-fit ns os cs (suc (suc zero)) x at = let same : digit_node digit.X ≡ x = cc in subst (λ (n : ExprNode). fits_node ns os 0 2 n ≡ true) same refl
nodes-fit ns os cs (suc (suc (suc zero))) x at = let same : digit_node digit.Z ≡ x = cc in subst (λ (n : ExprNode). fits_node ns os 0 3 n ≡ true) same refl
nodes-fit ns os cs (suc (suc (suc (suc k)))) x at = delays-fit ns os (suc (suc (suc (suc k)))) cs k x at

-- Display calls.
calls-fit : (name : List ℕ) (names : List (List ℕ)) (exprs : ℕ) (cs : List FirstCode) (k : ℕ) (x : ShowCall)
    → slice_get (flat_map calls_in cs) k ≡ Some x → fits_show (module_info name ∷ map register_info names) exprs 0 x ≡ true
calls-fit name names exprs [] k x at = absurd (cc)
calls-fit name names exprs (step.Wait units ∷ cs) k x at = calls-fit name names exprs cs k x at
calls-fit name names exprs (step.Assign reg b ∷ cs) k x at = calls-fit name names exprs cs k x at
calls-fit name names exprs (step.Show text ∷ cs) zero x at =
    let same : call_of text ≡ x = cc in
    subst (λ (c : ShowCall). fits_show (module_info name ∷ map register_info names) exprs 0 c ≡ true) same refl
calls-fit name names exprs (step.Show text ∷ cs) (suc k) x at = calls-fit name names exprs cs k x at
calls-fit name names exprs (step.Finish ∷ cs) k x at = calls-fit name names exprs cs k x at

-- A register that is declared is there.
register-there : (names : List (List ℕ)) (reg : ℕ) → nat_lt reg (length names) ≡ true
    → slice_get (map register_info names) reg ≡ Some (register_info (get_or names reg []))
register-there [] reg below = absurd (let less = ltb-true reg 0 below in omega (arith, less))
register-there (n ∷ ns) zero below = refl
register-there (n ∷ ns) (suc reg) below =
    register-there ns reg (lt-ltb reg (length ns) (let less = ltb-true (suc reg) (suc (length ns)) below in omega (arith, less)))

-- It may be assigned to.
target-fits : (os : List ObjectInfo) (exprs reg : ℕ) (name : List ℕ) → slice_get os (reg + 1) ≡ Some (register_info name)
    → fits_targets os exprs (register reg ∷ []) ≡ true
target-fits os exprs reg name at = rw at (both_true (both_true (both_true (both_true refl refl) (both_true refl refl)) refl) (both_true refl refl))

-- A design with so many expressions and calls.
abbrev limits : ℕ → Limits
limits calls = record { waits = 0; shows = calls; stmts = 0; precision = 0 }

value-below : (b : FirstBit) (exprs : ℕ) → 4 ≤ exprs → nat_lt (value_of b) exprs ≡ true
value-below bit.Zero exprs most = lt-ltb 0 exprs (omega (arith, most))
value-below bit.One exprs most = lt-ltb 1 exprs (omega (arith, most))
value-below bit.X exprs most = lt-ltb 2 exprs (omega (arith, most))
value-below bit.Z exprs most = lt-ltb 3 exprs (omega (arith, most))

operation-fits : (name : List ℕ) (names : List (List ℕ)) (ns : List ExprNode) (calls places e k : ℕ) (c : FirstCode)
    → 4 ≤ length ns → e + length (delays_in c) ≤ length ns → k + length (calls_in c) ≤ calls → is_declared (length names) c ≡ true
    → fits_operation (module_info name ∷ map register_info names) ns [] (limits calls) places (operation_of e k c) ≡ true
operation-fits name names ns calls places e k (step.Wait units) some fits room declared =
    both_true (lt-ltb e (length ns) (omega (arith, fits))) refl
operation-fits name names ns calls places e k (step.Assign reg b) some fits room declared =
    let next : suc reg ≡ reg + 1 = omega arith in
    let os = module_info name ∷ map register_info names in
    both_true (value-below b (length ns) some)
    (target-fits os (length ns) reg (get_or names reg [])
    (ap (slice_get os) (sym next) ∙ register-there names reg declared))
operation-fits name names ns calls places e k (step.Show text) some fits room declared =
    lt-ltb k calls (omega (arith, room))
operation-fits name names ns calls places e k step.Finish some fits room declared = refl

-- An initial construct.
instructions-length : (e k place : ℕ) (cs : List FirstCode) → length (instructions_of e k place cs) ≡ length cs + 1
unfolding instructions_of
instructions-length e k place [] = refl
instructions-length e k place (c ∷ cs) =
    let rest = instructions-length (e + length (delays_in c)) (k + length (calls_in c)) (place + 1) cs in omega (arith, rest)

instructions-fit : (name : List ℕ) (names : List (List ℕ)) (ns : List ExprNode) (calls places e k place : ℕ) (cs : List FirstCode)
    → 4 ≤ length ns → e + length (flat_map delays_in cs) ≤ length ns → k + length (flat_map calls_in cs) ≤ calls → place + length cs < places
    → list_all (is_declared (length names)) cs ≡ true
    → list_all (fits_instruction (module_info name ∷ map register_info names) ns [] (limits calls) places 0) (instructions_of e k place cs) ≡ true
unfolding instructions_of
instructions-fit name names ns calls places e k place [] some fits room below declared = refl
instructions-fit name names ns calls places e k place (c ∷ cs) some fits room below declared =
    let delays = length-append (delays_in c) (flat_map delays_in cs) in
    let shows = length-append (calls_in c) (flat_map calls_in cs) in
    let here = operation-fits name names ns calls places e k c some (omega (arith, fits, delays)) (omega (arith, room, shows))
    (and_left (is_declared (length names) c) (list_all (is_declared (length names)) cs) declared) in
    let next = lt-ltb (place + 1) places (omega (arith, below)) in
    both_true (both_true (both_true (both_true here next) refl) refl)
    (instructions-fit name names ns calls places (e + length (delays_in c)) (k + length (calls_in c)) (place + 1) cs some
    (omega (arith, fits, delays)) (omega (arith, room, shows)) (omega (arith, below))
    (and_right (is_declared (length names) c) (list_all (is_declared (length names)) cs) declared))

code-fits : (name : List ℕ) (names : List (List ℕ)) (ns : List ExprNode) (calls e k : ℕ) (cs : List FirstCode)
    → 4 ≤ length ns → e + length (flat_map delays_in cs) ≤ length ns → k + length (flat_map calls_in cs) ≤ calls
    → list_all (is_declared (length names)) cs ≡ true
    → fits_code (module_info name ∷ map register_info names) ns [] (limits calls) (code_of e k cs) ≡ true
code-fits name names ns calls e k cs some fits room declared =
    let size = instructions-length e k 0 cs in
    both_true (both_true (lt-ltb 0 (length (instructions_of e k 0 cs)) (omega (arith, size)))
    (instructions-fit name names ns calls (length (instructions_of e k 0 cs)) e k 0 cs some fits room (omega (arith, size)) declared)) refl

-- All of them.
delays-append : (cs ds : List FirstCode) → length (flat_map delays_in (cs ++ ds)) ≡ length (flat_map delays_in cs) + length (flat_map delays_in ds)
delays-append [] ds = omega arith
delays-append (c ∷ cs) ds =
    let rest = delays-append cs ds in
    let one = length-append (delays_in c) (flat_map delays_in (cs ++ ds)) in let other = length-append (delays_in c) (flat_map delays_in cs) in
    omega (arith, rest, one, other)

calls-append : (cs ds : List FirstCode) → length (flat_map calls_in (cs ++ ds)) ≡ length (flat_map calls_in cs) + length (flat_map calls_in ds)
calls-append [] ds = omega arith
calls-append (c ∷ cs) ds =
    let rest = calls-append cs ds in
    let one = length-append (calls_in c) (flat_map calls_in (cs ++ ds)) in let other = length-append (calls_in c) (flat_map calls_in cs) in
    omega (arith, rest, one, other)

codes-fit : (name : List ℕ) (names : List (List ℕ)) (ns : List ExprNode) (calls e k : ℕ) (bs : List (List FirstCode))
    → 4 ≤ length ns → e + length (flat_map delays_in (flat_map (λ b. b) bs)) ≤ length ns
    → k + length (flat_map calls_in (flat_map (λ b. b) bs)) ≤ calls → list_all (list_all (is_declared (length names))) bs ≡ true
    → (j : ℕ) (x : Code) → slice_get (codes_of e k bs) j ≡ Some x
    → fits_code (module_info name ∷ map register_info names) ns [] (limits calls) x ≡ true
unfolding codes_of
codes-fit name names ns calls e k [] some fits room declared j x at = absurd (cc)
codes-fit name names ns calls e k (b ∷ bs) some fits room declared zero x at =
    let same : code_of e k b ≡ x = cc in
    let delays = delays-append b (flat_map (λ b. b) bs) in let shows = calls-append b (flat_map (λ b. b) bs) in
    subst (λ (c : Code). fits_code (module_info name ∷ map register_info names) ns [] (limits calls) c ≡ true) same
    (code-fits name names ns calls e k b some (omega (arith, fits, delays)) (omega (arith, room, shows))
    (and_left (list_all (is_declared (length names)) b) (list_all (list_all (is_declared (length names))) bs) declared))
codes-fit name names ns calls e k (b ∷ bs) some fits room declared (suc j) x at =
    let delays = delays-append b (flat_map (λ b. b) bs) in let shows = calls-append b (flat_map (λ b. b) bs) in
    codes-fit name names ns calls (e + length (flat_map delays_in b)) (k + length (flat_map calls_in b)) bs some
    (omega (arith, fits, delays)) (omega (arith, room, shows))
    (and_right (list_all (is_declared (length names)) b) (list_all (list_all (is_declared (length names))) bs) declared) j x at

-- The design.
pub valid : (f : First) → are_declared f ≡ true → IsValid (first_design f)
valid f declared =
    let ns = (first_design f).exprs in let calls = length (first_design f).shows in
    let size = length-append digit_nodes (flat_map delays_in (steps_of f)) in record {
      nodes = record {
        objects = objects-fit (length ns) 0 (first_design f).objects f.name f.regs;
        exprs = nodes-fit ns (first_design f).objects (steps_of f);
        drivers = λ k x at. absurd (cc);
        precise = refl;
      };
      names = record {
        waits = λ k x at. absurd (cc);
        shows = λ k x at. calls-fit f.name f.regs (length ns) (steps_of f) k x at;
        stmts = λ k x at. absurd (cc);
      };
      codes = codes-fit f.name f.regs ns calls 4 0 f.blocks (omega (arith, size)) (omega (arith, size)) (omega arith) declared;
      bodies = λ k x at. absurd (cc);
    }
