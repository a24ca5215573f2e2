-- The words of orders: reading a script and printing a line share them. (own, after IEEE 1364-2005, clause 27)
use Rattle.std.specs.Prelude.{ℕ, List, codes}
use Rattle.vh_app_lines.specs.declared.routine.Routine.{Routine}
use Rattle.vh_app_lines.specs.declared.routine.Routine.TheVariants as routine

-- The word of an order, in the order of their list.
abbrev pub routine_text : Routine → List ℕ
routine_text routine.ByName = codes "by_name"
routine_text routine.ByIndex = codes "by_index"
routine_text routine.Handle = codes "handle"
routine_text routine.Iterate = codes "iterate"
routine_text routine.Scan = codes "scan"
routine_text routine.Free = codes "free"
routine_text routine.Compare = codes "compare"
routine_text routine.Get = codes "get"
routine_text routine.GetStr = codes "get_str"
routine_text routine.GetValue = codes "get_value"
routine_text routine.PutValue = codes "put_value"
routine_text routine.Cancel = codes "cancel"
routine_text routine.GetTime = codes "get_time"
routine_text routine.Register = codes "register"
routine_text routine.Remove = codes "remove"
routine_text routine.CbInfo = codes "cb_info"
routine_text routine.RegisterSystf = codes "register_systf"
routine_text routine.ChkError = codes "chk_error"
routine_text routine.Control = codes "control"
routine_text routine.Print = codes "print"
routine_text routine.SetData = codes "set_data"
routine_text routine.Pass = codes "pass"
routine_text routine.Return = codes "return"
