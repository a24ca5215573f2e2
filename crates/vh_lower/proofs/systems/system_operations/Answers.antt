use Rattle.std.proofs.Common.{◌≡◌, Some, rules}
use Rattle.vh_bind_stmt.specs.Shows.{show_task}
use Rattle.vh_lower.proofs.systems.system_operations.Goals as goal

pub returns-in-Some : goal.returns-in-Some
returns-in-Some c =
    let is : show_task c.args.id.now.name ≡ Some c.in-Some.task = search rules in
    record {
      made = rw is (search rules);
      sound = search rules;
      same = search rules;
    }
