use Rattle.std.proofs.Common.{◌≡◌, ◌∙◌, List, ℕ, sym, ap, subst, rules}
use Rattle.vh_proc_turn.specs.declared.process.Process.{Process}
use Rattle.vh_proc.specs.Disabled.{Stopped, stopped_of}
use Rattle.vh_proc.specs.Views.{nobody}
use Rattle.vh_proc.proofs.RunsLemmas.{EachRuns}
use Rattle.vh_proc.proofs.disable.stopped_of_all.Goals as goal

pub loop-p-init : goal.loop-p-init
loop-p-init c =
    let d = c.args.d.now in
    let is : c.into_iter-p-iterator.result ≡ c.args.all.now.entries = search rules in record {
      found = ap (λ (s : Stopped). stopped_of d c.args.target s c.into_iter-p-iterator.result) c.none-found.ensures.none
          ∙ ap (λ (es : List (ℕ × Process)). stopped_of d c.args.target nobody es) is;
      runs = subst (EachRuns d) (sym is) c.requires;
      all = c.none-found.ensures.all;
    }
