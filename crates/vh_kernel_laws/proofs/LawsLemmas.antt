-- Every path from a fresh state keeps the laws, and so does every run.
use Rattle.std.proofs.Common.{◌≡◌, ℕ, zero, suc, ◌+◌, ◌<◌, ◌%◌, List, [], ◌∷◌, ◌++◌, length, is_some, Bool, true, false, if◌then◌else◌, nat_lt, None, slice_get, refl, sym, ap, subst, inl, inr, arith}
use Rattle.std.proofs.Math.Nat.{mod-lt}
use Rattle.vh_callbacks.proofs.LawsLemmas.{sound_opening}
use Rattle.vh_orders.specs.declared.who.Body.{Body}
use Rattle.vh_handles.specs.Handles.{Handles, thing_at}
use Rattle.vh_kernel.specs.Outcome.{Move}
use Rattle.vh_kernel_choice.specs.declared.chooser.Chooser.{Chooser}
use Rattle.vh_kernel_choice.specs.declared.chooser.Chooser.TheVariants as chooser
use Rattle.vh_kernel_choice.specs.Choices.{drawn, chosen, chooser_after}
use Rattle.vh_kernel.specs.Run.{IsRun}
use Rattle.vh_kernel.specs.State.{State, startups}
use Rattle.vh_kernel.specs.declared.occurrence.Agendum.{Agendum}
use Rattle.vh_kernel.specs.declared.occurrence.Agendum.TheVariants as agendum
use Rattle.vh_base.specs.declared.words.Reason.TheVariants as reason
use Rattle.vh_kernel.specs.declared.control.Control.{Control}
use Rattle.vh_kernel.specs.Settle.{is_void, is_void_item, settled, settled_control, without_front}
use Rattle.vh_kernel.specs.Step.{choices_of, is_end, is_over}
use Rattle.vh_callbacks.specs.Callbacks.{IsSound}
use Rattle.vh_orders.specs.World.{World}
use Rattle.vh_kernel.proofs.StepLemmas.{some-choice, step-goes}
use Rattle.vh_kernel_laws.specs.Firing.{frames_in, frames_of}
use Rattle.vh_kernel_laws.specs.Laws.{IsFresh, all_need_none, PathsKeepLaws, RunsKeepLaws, OpensFresh}
use Rattle.vh_kernel_laws.specs.Paths.{IsPath}
use Rattle.vh_kernel_laws.proofs.FiringLemmas.{Keeps}
use Rattle.vh_kernel_laws.proofs.WatchingLemmas.{AllPlain, IsPlainState, items-plain, firing-law}
use Rattle.vh_kernel_laws.proofs.HandleLawLemmas.{handle-law}
use Rattle.vh_handles.specs.Laws.{NumbersRise}
use Rattle.vh_kernel_laws.proofs.SetsLemmas.{Falls}
use Rattle.vh_kernel_laws.proofs.Splits.{either}
use Rattle.vh_kernel_laws.proofs.Works.{view_of}

-- In a fresh state nothing stands and nothing is named.
fresh-keeps : (s : State) → IsFresh s → Keeps [] (view_of s)
fresh-keeps s fresh = record {
  sound = fresh.sound;
  climbs = subst (λ (h : Handles). NumbersRise 0 h.live) (sym fresh.none_given) tt;
  names = λ h c at. absurd (let none : thing_at h s.world.handles ≡ None = ap (λ (x : Handles). thing_at h x) fresh.none_given in cc);
  falls = subst (λ (xs : List _). Falls s.occurrence (frames_in xs s.world.frames)) (sym fresh.alone) tt;
  stands = λ i f at. absurd (let none : slice_get (frames_of s) i ≡ None = ap (λ (xs : List _). slice_get (frames_in xs s.world.frames) i) fresh.alone in cc);
  ahead = λ n above. record { undone = refl; unfired = λ c. refl };
}

fresh-plain : (s : State) → IsFresh s → IsPlainState s
fresh-plain s fresh = record { control = subst AllPlain (sym fresh.alone) tt; agenda = fresh.plain }

pub paths-keep-laws : PathsKeepLaws
paths-keep-laws s moves fresh path = record {
  firing = firing-law s moves path (fresh-keeps s fresh) (fresh-plain s fresh);
  handles = handle-law s moves path (fresh-keeps s fresh);
}

-- The choice of an order is one of those that there are.
drawn-low : (b : Bool) (n count : ℕ) → 0 < count → (if b then n % count else 0) < count
drawn-low true n count some = mod-lt n some
drawn-low false n count some = some

chosen-low : (order : Chooser) (count : ℕ) → 0 < count → chosen order count < count
chosen-low chooser.Fifo count some = some
chosen-low chooser.Lifo count some = omega arith
chosen-low (chooser.Seeded state) count some = drawn-low (nat_lt 1 count) (drawn state) count some

run-path : (order : Chooser) (s : State) (moves : List Move) → 0 < choices_of s → IsRun order s moves → IsPath s moves
run-path order s [] some run = tt
run-path order s (m ∷ moves) some run =
    let below : chosen order (choices_of s) < choices_of s = chosen-low order (choices_of s) some in (
      record { choice = chosen order (choices_of s); below = below; step = run.0 },
      elim (either (is_end m.0)) [
        | inl over ↦ subst (λ (ms : List Move). IsPath m.1 ms) (sym (run.1 over)) tt
        | inr going ↦
            run-path (chooser_after order (choices_of s)) m.1 moves
            (step-goes s m.1 (chosen order (choices_of s)) run.0.given m.0 below run.0.makes going) run.2
      ],
    )

pub runs-keep-laws : RunsKeepLaws
runs-keep-laws s fresh order moves run =
    paths-keep-laws s moves fresh (run-path order s moves (some-choice s fresh.going) run)

-- Nothing on the agenda of an opening stands for an entry of the event queue.
opening-plain : (k n : ℕ) → all_need_none (startups k n ++ agendum.Occurrence reason.CbEndOfCompile ∷ agendum.Occurrence reason.CbStartOfSimulation ∷ [])
opening-plain k zero = (refl, (refl, tt))
opening-plain k (suc n) = (tt, opening-plain (k + 1) n)

either-items : (b : Bool) (xs ys : List Agendum) → all_need_none xs → all_need_none ys → all_need_none (if b then xs else ys)
either-items true xs ys first second = first
either-items false xs ys first second = second

settled-items : (s : State) → all_need_none s.agenda → all_need_none (settled s).agenda
settled-items s plain =
    either-items (is_some (slice_get (settled_control s) 0)) s.agenda (without_front (is_void_item s.world.callbacks) s.agenda) plain
    (items-plain s.world.callbacks s.agenda plain)

pub opens-fresh : OpensFresh
opens-fresh d scripts s opens =
    let P : State → Type 0 = IsFresh in
    subst P (sym opens.settles) (record {
      going = ap (λ (w : World). is_over w.phase) opens.is.world;
      plain = settled-items opens.before
          (subst all_need_none (sym opens.is.agenda) (opening-plain 1 (length scripts)));
      alone = ap (λ (cs : List Control). without_front (is_void opens.before.world.callbacks) cs) opens.is.control;
      none_given = ap (λ (w : World). w.handles) opens.is.world;
      sound = subst (λ (w : World). IsSound w.callbacks) (sym opens.is.world) (sound_opening Body);
    })
