-- Which kinds of object may stand where. (IEEE 1364-2005, clauses 4, 5, 6, 10 and 26.6, in this project's
-- profile)
use Rattle.std.specs.Prelude.{ℕ, Bool, true, false, ◌||◌, ◌==◌}
use Rattle.vh_design_nodes.specs.declared.object.Kind.{Kind}
use Rattle.vh_design_nodes.specs.declared.object.Kind.TheVariants as of

-- The kinds by number, in the order of their list.
abbrev pub rank : Kind → ℕ
rank of.Module = 0
rank of.GenScope = 1
rank of.NamedBegin = 2
rank of.NamedFork = 3
rank of.Task = 4
rank of.Function = 5
rank of.Net = 6
rank of.Reg = 7
rank of.IntegerVar = 8
rank of.TimeVar = 9
rank of.Memory = 10
rank of.Parameter = 11
rank of.Port = 12
rank of.NamedEvent = 13
rank of.Initial = 14
rank of.Always = 15
rank of.ContAssign = 16
rank of.SysTaskCall = 17
rank of.SysFuncCall = 18
rank of.Constant = 19
rank of.Operation = 20

-- May an object of this kind be read or selected from as a whole vector? (4.3 and 5.2)
abbrev pub is_vector : Kind → Bool
is_vector of.Module = false
is_vector of.GenScope = false
is_vector of.NamedBegin = false
is_vector of.NamedFork = false
is_vector of.Task = false
is_vector of.Function = false
is_vector of.Net = true
is_vector of.Reg = true
is_vector of.IntegerVar = true
is_vector of.TimeVar = true
is_vector of.Memory = false
is_vector of.Parameter = true
is_vector of.Port = false
is_vector of.NamedEvent = false
is_vector of.Initial = false
is_vector of.Always = false
is_vector of.ContAssign = false
is_vector of.SysTaskCall = false
is_vector of.SysFuncCall = false
is_vector of.Constant = false
is_vector of.Operation = false

-- May it hold a function's result? (10.4)
abbrev pub is_variable : Kind → Bool
is_variable k = rank k == rank of.Reg || rank k == rank of.IntegerVar || rank k == rank of.TimeVar

-- Is it an array of words, of which an expression reads one by its address? (4.9)
abbrev pub is_memory : Kind → Bool
is_memory k = rank k == rank of.Memory

-- Is it a function of the design? (10.4)
abbrev pub is_function : Kind → Bool
is_function k = rank k == rank of.Function

-- Is it a call of a user system function? (26.6.19)
abbrev pub is_system_function : Kind → Bool
is_system_function k = rank k == rank of.SysFuncCall

-- May a driver change it? (6.1)
abbrev pub is_net : Kind → Bool
is_net k = rank k == rank of.Net

-- May it be forced? (9.3.2)
abbrev pub is_forcible : Kind → Bool
is_forcible k = is_net k || is_variable k

-- Is it a named event? (9.7.3)
abbrev pub is_event : Kind → Bool
is_event k = rank k == rank of.NamedEvent

-- Is it a named `begin` or `fork`? (9.8.3)
abbrev pub is_named_block : Kind → Bool
is_named_block k = rank k == rank of.NamedBegin || rank k == rank of.NamedFork

-- May a `disable` end it? (10.3)
abbrev pub is_disable_target : Kind → Bool
is_disable_target k = is_named_block k || rank k == rank of.Task

-- Is it a task or a function of the design? (10)
abbrev pub is_routine : Kind → Bool
is_routine k = rank k == rank of.Task || rank k == rank of.Function

-- Is it a call of a user system task? (26.6.19)
abbrev pub is_system_task : Kind → Bool
is_system_task k = rank k == rank of.SysTaskCall

-- Does it hold other objects by their names? (12.6)
abbrev pub is_scope : Kind → Bool
is_scope k = rank k == rank of.Module || rank k == rank of.GenScope || is_named_block k || is_routine k
