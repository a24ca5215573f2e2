use Rattle.std.proofs.Common.{◌≡◌, ◌++◌, [], drop}
use Rattle.vh_display.specs.Calls.{arguments_text, converted}
use Rattle.vh_display.proofs.call.push_arguments.Given as goal

-- What is there, before the text of the arguments that are left.
abbrev pub invariant-loop-arg : goal.invariant-loop-arg
invariant-loop-arg l =
    let show = converted l.d l.s l.ratio in
    l.out.items ++ arguments_text l.name show l.format (drop l.arg-index l.args)
    ≡ l.initial.out.items ++ arguments_text l.name show [] l.args
