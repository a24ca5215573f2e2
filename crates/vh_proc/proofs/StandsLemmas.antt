-- What an instruction at which a process stands names is there.
use Rattle.std.proofs.Common.{◌≡◌, ◌&&◌, ℕ, zero, suc, Bool, true, List, [], ◌∷◌, length, Option, Some, None, slice_get, refl, subst}
use Rattle.std.specs.List.{list_all}
use Rattle.std.specs.Option.{option_and_then}
use Rattle.vh_design_nodes.proofs.FitsLemmas.{and_left, and_right}
use Rattle.vh_design_nodes.specs.Fits.{before, body_number}
use Rattle.vh_design_code.specs.declared.code.Code.{Code}
use Rattle.vh_design_code.specs.declared.code.Instruction.{Instruction}
use Rattle.vh_design_code.specs.Codes.{fits_instruction, fits_blocks}
use Rattle.vh_design_code.specs.Operations.{fits_goes, fits_operation}
use Rattle.vh_design.specs.Shape.{Shape}
use Rattle.vh_design.specs.Validity.{IsValid, CodeFits, limits_of}
use Rattle.vh_proc_thread.specs.declared.call.Call.{Call}
use Rattle.vh_proc_thread.specs.Control.{Control, code_of, instruction_of, standing, next_of}
use Rattle.vh_proc_turn.specs.Own.{Fits}

-- What all of a list pass, the one at a position passes.
passes-at : {X : Type 0} (test : X → Bool) (xs : List X) (k : ℕ) (x : X) → list_all test xs ≡ true → slice_get xs k ≡ Some x → test x ≡ true
passes-at test [] k x all at = absurd (cc)
passes-at {X} test (y ∷ ys) zero x all at =
    let same : y ≡ x = cc in subst (λ (z : X). test z ≡ true) same (and_left (test y) (list_all test ys) all)
passes-at test (y ∷ ys) (suc k) x all at = passes-at test ys k x (and_right (test y) (list_all test ys) all) at

-- An instruction of a code that may stand in the design.
abbrev Stands : Shape → Instruction → Type 0
Stands d i = Fits (λ positions. fits_operation d.objects d.exprs d.drivers (limits_of d) positions i.operation)

in-code : (d : Shape) (c : Code) (k : ℕ) (i : Instruction) → CodeFits d c → slice_get c.instructions k ≡ Some i → Stands d i
in-code d c k i fits at =
    let positions : ℕ = length c.instructions in
    let test : Instruction → Bool = fits_instruction d.objects d.exprs d.drivers (limits_of d) positions (length c.blocks) in
    let ops : Bool = fits_operation d.objects d.exprs d.drivers (limits_of d) positions i.operation in
    let all = and_right (fits_goes positions c.start) (list_all test c.instructions)
    (and_left (fits_goes positions c.start && list_all test c.instructions) (fits_blocks d.objects positions c.blocks) fits) in
    let one : test i ≡ true = passes-at test c.instructions k i all at in (
      positions,
      and_left ops (fits_goes positions i.next)
          (and_left (ops && fits_goes positions i.next) (before (limits_of d).stmts i.stmt)
          (and_left (ops && fits_goes positions i.next && before (limits_of d).stmts i.stmt) (before (length c.blocks) i.block) one)),
    )

-- The code that a call runs.
body-fits : (d : Shape) (n : Option ℕ) (c : Code) → IsValid d → option_and_then (λ k. slice_get d.bodies k) n ≡ Some c → CodeFits d c
body-fits d None c valid at = absurd (cc)
body-fits d (Some n) c valid at = valid.bodies n c at

code-fits : (d : Shape) (root : ℕ) (routine : Option ℕ) (c : Code) → IsValid d → code_of d root routine ≡ Some c → CodeFits d c
code-fits d root None c valid at = valid.codes root c at
code-fits d root (Some r) c valid at = body-fits d (body_number d.objects r) c valid at

instruction-stands : (d : Shape) (position : ℕ) (code : Option Code) (i : Instruction) → ((c : Code) → code ≡ Some c → CodeFits d c)
    → option_and_then (λ (k : Code). slice_get k.instructions position) code ≡ Some i → Stands d i
instruction-stands d position None i fits at = absurd (cc)
instruction-stands d position (Some c) i fits at = in-code d c position i (fits c refl) at

call-stands : (d : Shape) (root : ℕ) (call : Option Call) (i : Instruction) → IsValid d
    → option_and_then (instruction_of d root) call ≡ Some i → Stands d i
call-stands d root None i valid at = absurd (cc)
call-stands d root (Some c) i valid at =
    instruction-stands d c.position (code_of d root c.routine) i (λ k is. code-fits d root c.routine k valid is) at

pub stands : (d : Shape) (t : Control) (i : Instruction) → IsValid d → next_of d t ≡ Some i → Stands d i
stands d t i valid at = call-stands d t.root (slice_get (standing d t) 0) i valid at
