use Rattle.std.proofs.Common.{◌∙◌, ℕ, refl, sym, ap, subst}
use Rattle.vh_proc_thread.specs.Control.{Control, process_of}
use Rattle.vh_proc.proofs.FamiliesLemmas.{kept-more, process-notes}
use Rattle.vh_proc.proofs.LoopsLemmas.{one-more}
use Rattle.vh_proc.proofs.RunsLemmas.{EachRuns, runs-inserted}
use Rattle.vh_proc.proofs.threads.Threads.new.Goals as goal

pub loop-k-preserved : goal.loop-k-preserved
loop-k-preserved c = record {
  all = one-more c.args.d.now c.loop-k.k _ _ _ _ c.loop-k.invariant.all
      (c.in_ok-of_process.ensures.process ∙ ap (λ (p : ℕ). process_of c.args.d.now p) c.new.ensures) c.new-in-loop-k.ensures c.in_ok-keep.ensures;
  runs = subst (EachRuns c.args.d.now) (sym c.in_ok-keep.ensures)
      (runs-inserted c.args.d.now c.loop-k.all.entries c.loop-k.k _ c.loop-k.invariant.runs c.in_ok-of_process.ensures.runs);
  kept = kept-more _ _ c.loop-k.k c.loop-k.k c.loop-k.k c.loop-k.all.entries _ _ c.in_ok-own.ensures.joins
      (sym (ap (λ (t : Control). t.root) c.in_ok-of_process.ensures.process ∙ c.new.ensures)) refl c.in_ok-keep.ensures tt
      (process-notes _ c.args.d.now c.loop-k.k _ (c.in_ok-of_process.ensures.process ∙ ap (λ (p : ℕ). process_of c.args.d.now p) c.new.ensures)) c.loop-k.invariant.kept;
  long = c.in_ok-own.ensures.length;
}
