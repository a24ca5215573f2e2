use Rattle.std.proofs.Common.{◌≡◌, map, drop}
use Rattle.vh_ast.specs.Views.{conn_tree, module_tree}
use Rattle.vh_elab_ports.specs.Views.{ids_seen}
use Rattle.vh_elab.specs.Connected.{ports_coded}
use Rattle.vh_elab.specs.Views.{HasSound, IsSame, around_of, coding_of, ready_of}
use Rattle.vh_elab.proofs.connected.code_row.Given as goal

-- What is made of the ports so far, with those that are left, is what is made of all.
abbrev pub invariant-loop-number : goal.invariant-loop-number
invariant-loop-number l = record {
  coded : ports_coded (ready_of l.initial.coder) (around_of l.initial.coder) (module_tree l.ports) l.instance (map conn_tree l.conns)
      l.number (ids_seen (drop l.number l.ids)) (coding_of l.coder)
      ≡ ports_coded (ready_of l.initial.coder) (around_of l.initial.coder) (module_tree l.ports) l.instance (map conn_tree l.conns)
      0 (ids_seen l.ids) (coding_of l.initial.coder);
  sound : HasSound l.initial.coder (coding_of l.coder).added.exprs;
  same : IsSame l.initial.coder l.coder;
}
