-- Which codes, waits, display calls and statements may stand in a design. (own: the rules say where numbers and
-- positions point, and which kinds of object may stand where after IEEE 1364-2005, clauses 9, 10, 17 and 26.6)
use Rattle.std.specs.Prelude.{ℕ, List, Bool, true, ◌||◌, ◌&&◌, nat_lt, length}
use Rattle.std.specs.List.{list_all, enumerate_from}
use Rattle.vh_design_nodes.specs.declared.driver.DriverInfo.{DriverInfo}
use Rattle.vh_design_nodes.specs.declared.expr.ExprNode.{ExprNode}
use Rattle.vh_design_nodes.specs.declared.object.ObjectInfo.{ObjectInfo}
use Rattle.vh_design_nodes.specs.Fits.{has_kind, is_width, is_unit, before}
use Rattle.vh_design_nodes.specs.Kinds.{is_vector, is_memory, is_event, is_scope, is_named_block}
use Rattle.vh_design_code.specs.declared.code.Block.{Block}
use Rattle.vh_design_code.specs.declared.code.Code.{Code}
use Rattle.vh_design_code.specs.declared.code.Instruction.{Instruction}
use Rattle.vh_design_code.specs.declared.codes.Limits.{Limits}
use Rattle.vh_design_code.specs.declared.show.ShowArg.{ShowArg}
use Rattle.vh_design_code.specs.declared.show.ShowArg.TheVariants as arg
use Rattle.vh_design_code.specs.declared.show.ShowCall.{ShowCall}
use Rattle.vh_design_code.specs.declared.statement.StmtInfo.{StmtInfo}
use Rattle.vh_design_code.specs.declared.wait.Term.{Term}
use Rattle.vh_design_code.specs.declared.wait.Term.TheVariants as term
use Rattle.vh_design_code.specs.declared.wait.WaitInfo.{WaitInfo}
use Rattle.vh_design_code.specs.Operations.{fits_goes, fits_operation}

-- An instruction of a code with so many positions and blocks.
abbrev pub fits_instruction : List ObjectInfo → List ExprNode → List DriverInfo → Limits → ℕ → ℕ → Instruction → Bool
fits_instruction os ns ds l positions blocks i =
    fits_operation os ns ds l positions i.operation && fits_goes positions i.next && before l.stmts i.stmt
    && before blocks i.block

-- A block of such a code, by its number: the one around it has a lesser number.
abbrev pub fits_block : List ObjectInfo → ℕ → ℕ → Block → Bool
fits_block os positions k b = has_kind is_named_block os b.object && before k b.around && fits_goes positions b.after

abbrev pub fits_blocks : List ObjectInfo → ℕ → List Block → Bool
fits_blocks os positions bs = list_all (λ b. fits_block os positions b.0 b.1) (enumerate_from 0 bs)

-- A code: it goes on at positions of its own, and what its instructions and blocks name is there.
abbrev pub fits_code : List ObjectInfo → List ExprNode → List DriverInfo → Limits → Code → Bool
fits_code os ns ds l c =
    let positions = length c.instructions in
    fits_goes positions c.start
    && list_all (fits_instruction os ns ds l positions (length c.blocks)) c.instructions
    && fits_blocks os positions c.blocks

-- What a wait may wait for, a row for each kind: a memory is waited for with all its words alone.
abbrev pub fits_term : List ObjectInfo → Term → Bool
fits_term os (term.Digits o low width edge) = has_kind is_vector os o && is_width width
fits_term os (term.Event o) = has_kind is_event os o
fits_term os (term.Reads o) = has_kind is_vector os o || has_kind is_memory os o

abbrev pub fits_wait : List ObjectInfo → WaitInfo → Bool
fits_wait os w = list_all (fits_term os) w.terms

-- An argument of a display call, a row for each kind.
abbrev pub fits_arg : ℕ → ShowArg → Bool
fits_arg exprs arg.Empty = true
fits_arg exprs (arg.Format text) = true
fits_arg exprs (arg.Value e) = nat_lt e exprs

-- A display call in a design of this precision.
abbrev pub fits_show : List ObjectInfo → ℕ → ℕ → ShowCall → Bool
fits_show os exprs precision s =
    has_kind is_scope os s.scope && is_unit precision s.unit && list_all (fits_arg exprs) s.args

-- A statement.
abbrev pub fits_statement : List ObjectInfo → StmtInfo → Bool
fits_statement os s = has_kind is_scope os s.scope
