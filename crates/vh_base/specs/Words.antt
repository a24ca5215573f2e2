-- The words for reasons and errors: a row for each.
use Rattle.std.specs.Prelude.{ℕ, List, codes}
use Rattle.vh_base.specs.declared.words.Code.{Code}
use Rattle.vh_base.specs.declared.words.Code.TheVariants as code
use Rattle.vh_base.specs.declared.words.Reason.{Reason}
use Rattle.vh_base.specs.declared.words.Reason.TheVariants as reason

-- The word of a reason (IEEE 1364-2005, 27.33 and Annex G).
abbrev pub reason_text : Reason → List ℕ
reason_text reason.CbValueChange = codes "cbValueChange"
reason_text reason.CbForce = codes "cbForce"
reason_text reason.CbRelease = codes "cbRelease"
reason_text reason.CbAtStartOfSimTime = codes "cbAtStartOfSimTime"
reason_text reason.CbAfterDelay = codes "cbAfterDelay"
reason_text reason.CbNextSimTime = codes "cbNextSimTime"
reason_text reason.CbReadWriteSynch = codes "cbReadWriteSynch"
reason_text reason.CbReadOnlySynch = codes "cbReadOnlySynch"
reason_text reason.CbEndOfCompile = codes "cbEndOfCompile"
reason_text reason.CbStartOfSimulation = codes "cbStartOfSimulation"
reason_text reason.CbEndOfSimulation = codes "cbEndOfSimulation"

-- The short name of an error (own).
abbrev pub code_name : Code → List ℕ
code_name code.E1 = codes "E1"
code_name code.E2 = codes "E2"
code_name code.E3 = codes "E3"
code_name code.E4 = codes "E4"
code_name code.E5 = codes "E5"
code_name code.E6 = codes "E6"
code_name code.E7 = codes "E7"
code_name code.E8 = codes "E8"
code_name code.E9 = codes "E9"
code_name code.E10 = codes "E10"
code_name code.E11 = codes "E11"
code_name code.E12 = codes "E12"
code_name code.E13 = codes "E13"
code_name code.E14 = codes "E14"
code_name code.E15 = codes "E15"
code_name code.E16 = codes "E16"
