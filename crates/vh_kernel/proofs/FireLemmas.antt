-- A frame that stays on top of control while it fires.
use Rattle.std.proofs.Common.{◌≡◌, ◌∙◌, ℕ, List, [], ◌∷◌, drop, Option, Some, None, slice_get, sym, ap}
use Rattle.vh_callbacks.specs.Callbacks.{info_of, body_of}
use Rattle.vh_dispatch.specs.Frames.{top_set, without_in_top}
use Rattle.vh_kernel.specs.declared.control.Control.{Control}
use Rattle.vh_kernel.specs.declared.control.Control.TheVariants as top
use Rattle.vh_kernel.specs.declared.label.Label.TheVariants as label
use Rattle.vh_kernel.specs.declared.occurrence.Told.{Told}
use Rattle.vh_kernel.specs.Outcome.{Move}
use Rattle.vh_kernel.specs.State.{State, without_top, with_frames}
use Rattle.vh_kernel.specs.Step.{frame_of, called, called_for, fire_move, top_move}
use Rattle.vh_orders.specs.Orders.{Given}

frame-is : (o : Option Control) (f : Told) → Some f ≡ frame_of o → o ≡ Some (top.Frame f)
frame-is None f is = absurd (cc)
frame-is (Some (top.Process p)) f is = absurd (cc)
frame-is (Some (top.Pending o)) f is = absurd (cc)
frame-is (Some (top.Frame t)) f is = ap (λ (x : Told). Some (top.Frame x)) (one (sym is))
  where
    one : {x y : Told} → ◌≡◌ {A = Option Told} (Some x) (Some y) → x ≡ y
    one h = cc
frame-is (Some (top.Activation a)) f is = absurd (cc)
frame-is (Some (top.Leave c)) f is = absurd (cc)

-- What is taken off and put on again.
on-again : {X : Type 0} (xs : List X) (x : X) → slice_get xs 0 ≡ Some x → x ∷ drop 1 xs ≡ xs
on-again [] x at = absurd (cc)
on-again (y ∷ ys) x at = ap (λ z. z ∷ ys) (one (sym at))
  where
    one : {X : Type 0} {a b : X} → ◌≡◌ {A = Option X} (Some a) (Some b) → a ≡ b
    one h = cc

moves-there : (s : State) (f : Told) (k : ℕ) (g : Given) → Some f ≡ frame_of (slice_get s.control 0)
    → top_move (slice_get s.control 0) s k g ≡ fire_move (slice_get (top_set s.world.frames) k) f (without_top s)
moves-there s f k g is = ap (λ (o : Option Control). top_move o s k g) (frame-is (slice_get s.control 0) f is)

pub fires-there : (s : State) (f : Told) (k c : ℕ) (g : Given) → Some f ≡ frame_of (slice_get s.control 0) → slice_get (top_set s.world.frames) k ≡ Some c
    → top_move (slice_get s.control 0) s k g
    ≡ (label.Fire f.number c, called_for (frame_of (slice_get s.control 0)) c (with_frames (without_in_top c s.world.frames) s))
fires-there s f k c g is chosen =
    let left : State = with_frames (without_in_top c s.world.frames) s in
    let there : top.Frame f ∷ drop 1 s.control ≡ s.control = on-again s.control (top.Frame f) (frame-is (slice_get s.control 0) f is) in
    moves-there s f k g is ∙ ap (λ (o : Option ℕ). fire_move o f (without_top s)) chosen
    ∙ ap fired (ap (λ (cs : List Control). called (info_of c s.world.callbacks) (body_of c s.world.callbacks) c f.what (record left { control = cs })) there)
    ∙ ap fired (ap (λ (o : Option Told). called_for o c left) is)
  where
    fired : State → Move
    fired t = (label.Fire f.number c, t)
