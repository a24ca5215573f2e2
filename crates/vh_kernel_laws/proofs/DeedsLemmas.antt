-- Which labels free a handle, and which remove a callback.
use Rattle.std.proofs.Common.{◌≡◌, ℕ, Option, Some, None, refl, ap}
use Rattle.std.specs.Prelude.{⊤}
use Rattle.vh_base.specs.declared.orders.Answer.{Answer}
use Rattle.vh_base.specs.declared.orders.Answer.TheVariants as answer
use Rattle.vh_base.specs.declared.orders.Order.{Order}
use Rattle.vh_base.specs.declared.orders.Order.TheVariants as order
use Rattle.vh_handles.specs.declared.handles.Thing.{Thing}
use Rattle.vh_handles.specs.declared.handles.Thing.TheVariants as thing
use Rattle.vh_handles.specs.Handles.{thing_at}
use Rattle.vh_kernel.specs.declared.label.Label.{Label}
use Rattle.vh_kernel.specs.declared.label.Label.TheVariants as label
use Rattle.vh_kernel.specs.State.{State}
use Rattle.vh_orders.specs.declared.who.Who.{Who}
use Rattle.vh_orders.specs.World.{World}
use Rattle.vh_kernel_laws.specs.Deeds.{freed_by, callback_at, removed_by, removes}
use Rattle.vh_orders.proofs.OrdersLemmas.{FreesNone}

no-answer : {A : Type 0} (h : ℕ) → None ≡ Some h → A
no-answer h is = absurd (cc)

-- Only an order that is answered a number frees a handle,
abbrev pub NoNumber : Answer → Type 0
NoNumber (answer.Number n) = ⊥
NoNumber _ = ⊤

pub no-number-frees : (o : Order) (a : Answer) → NoNumber a → freed_by o a ≡ None
no-number-frees (order.Free x) answer.Done other = refl
no-number-frees (order.Free x) answer.Null other = refl
no-number-frees (order.Free x) (answer.Handle n) other = refl
no-number-frees (order.Free x) (answer.Number n) other = absurd other
no-number-frees (order.Free x) (answer.Text text) other = refl
no-number-frees (order.Free x) (answer.Refused c) other = refl
no-number-frees (order.Remove x) answer.Done other = refl
no-number-frees (order.Remove x) answer.Null other = refl
no-number-frees (order.Remove x) (answer.Handle n) other = refl
no-number-frees (order.Remove x) (answer.Number n) other = absurd other
no-number-frees (order.Remove x) (answer.Text text) other = refl
no-number-frees (order.Remove x) (answer.Refused c) other = refl
no-number-frees (order.ByName text scope) a other = refl
no-number-frees (order.ByIndex x n) a other = refl
no-number-frees (order.Handle r x) a other = refl
no-number-frees (order.Iterate r x) a other = refl
no-number-frees (order.Scan x) a other = refl
no-number-frees (order.Compare x y) a other = refl
no-number-frees (order.Get property x) a other = refl
no-number-frees (order.GetStr property x) a other = refl
no-number-frees (order.GetValue x format) a other = refl
no-number-frees (order.PutValue x format text mode time event) a other = refl
no-number-frees (order.Cancel x) a other = refl
no-number-frees order.GetTime a other = refl
no-number-frees (order.Register r x time body n) a other = refl
no-number-frees (order.CbInfo x) a other = refl
no-number-frees (order.RegisterSystf kind text n calltf compiletf) a other = refl
no-number-frees order.ChkError a other = refl
no-number-frees (order.Control stop) a other = refl
no-number-frees (order.Print text) a other = refl
no-number-frees (order.SetData n) a other = refl
no-number-frees order.Pass a other = refl
no-number-frees order.Return a other = refl

-- And of these a `free` and a removal alone.
pub number-frees-none : (o : Order) (n : ℕ) → FreesNone o → freed_by o (answer.Number n) ≡ None
number-frees-none (order.Free x) k none = absurd none
number-frees-none (order.Remove x) k none = absurd none
number-frees-none (order.ByName text scope) k none = refl
number-frees-none (order.ByIndex x n) k none = refl
number-frees-none (order.Handle r x) k none = refl
number-frees-none (order.Iterate r x) k none = refl
number-frees-none (order.Scan x) k none = refl
number-frees-none (order.Compare x y) k none = refl
number-frees-none (order.Get property x) k none = refl
number-frees-none (order.GetStr property x) k none = refl
number-frees-none (order.GetValue x format) k none = refl
number-frees-none (order.PutValue x format text mode time event) k none = refl
number-frees-none (order.Cancel x) k none = refl
number-frees-none order.GetTime k none = refl
number-frees-none (order.Register r x time body n) k none = refl
number-frees-none (order.CbInfo x) k none = refl
number-frees-none (order.RegisterSystf kind text n calltf compiletf) k none = refl
number-frees-none order.ChkError k none = refl
number-frees-none (order.Control stop) k none = refl
number-frees-none (order.Print text) k none = refl
number-frees-none (order.SetData n) k none = refl
number-frees-none order.Pass k none = refl
number-frees-none order.Return k none = refl

-- A label that removes a callback frees a handle that names it.
named-callback : (t : Option Thing) (c : ℕ) → callback_at t ≡ Some c → t ≡ Some (thing.Callback c)
named-callback None c is = no-answer c is
named-callback (Some (thing.Object o)) c is = no-answer c is
named-callback (Some (thing.Iterator r from at count)) c is = no-answer c is
named-callback (Some (thing.Callback d)) c is = cc
named-callback (Some (thing.Event serial)) c is = no-answer c is

pub record FreesOf (l : Label) (c : ℕ) (s : State) : Type 0 where
  pub who : Who
  pub handle : ℕ
  pub number : ℕ
  pub is : l ≡ label.Do who (order.Remove (Some handle)) (answer.Number number)
  pub names : thing_at handle s.world.handles ≡ Some (thing.Callback c)

removing-remove : (who : Who) (x : Option ℕ) (a : Answer) (c : ℕ) (s : State) → removed_by (order.Remove x) a s.world ≡ Some c
    → FreesOf (label.Do who (order.Remove x) a) c s
removing-remove who None answer.Done c s is = no-answer c is
removing-remove who None answer.Null c s is = no-answer c is
removing-remove who None (answer.Handle n) c s is = no-answer c is
removing-remove who None (answer.Number n) c s is = no-answer c is
removing-remove who None (answer.Text text) c s is = no-answer c is
removing-remove who None (answer.Refused code) c s is = no-answer c is
removing-remove who (Some h) answer.Done c s is = no-answer c is
removing-remove who (Some h) answer.Null c s is = no-answer c is
removing-remove who (Some h) (answer.Handle n) c s is = no-answer c is
removing-remove who (Some h) (answer.Number n) c s is =
    record { who = who; handle = h; number = n; is = refl; names = named-callback (thing_at h s.world.handles) c is }
removing-remove who (Some h) (answer.Text text) c s is = no-answer c is
removing-remove who (Some h) (answer.Refused code) c s is = no-answer c is

removing-order : (who : Who) (o : Order) (a : Answer) (c : ℕ) (s : State) → removed_by o a s.world ≡ Some c → FreesOf (label.Do who o a) c s
removing-order who (order.Remove x) a c s is = removing-remove who x a c s is
removing-order who (order.ByName text scope) a c s is = no-answer c is
removing-order who (order.ByIndex x n) a c s is = no-answer c is
removing-order who (order.Handle r x) a c s is = no-answer c is
removing-order who (order.Iterate r x) a c s is = no-answer c is
removing-order who (order.Scan x) a c s is = no-answer c is
removing-order who (order.Free x) a c s is = no-answer c is
removing-order who (order.Compare x y) a c s is = no-answer c is
removing-order who (order.Get property x) a c s is = no-answer c is
removing-order who (order.GetStr property x) a c s is = no-answer c is
removing-order who (order.GetValue x format) a c s is = no-answer c is
removing-order who (order.PutValue x format text mode time event) a c s is = no-answer c is
removing-order who (order.Cancel x) a c s is = no-answer c is
removing-order who order.GetTime a c s is = no-answer c is
removing-order who (order.Register r x time body n) a c s is = no-answer c is
removing-order who (order.CbInfo x) a c s is = no-answer c is
removing-order who (order.RegisterSystf kind text n calltf compiletf) a c s is = no-answer c is
removing-order who order.ChkError a c s is = no-answer c is
removing-order who (order.Control stop) a c s is = no-answer c is
removing-order who (order.Print text) a c s is = no-answer c is
removing-order who (order.SetData n) a c s is = no-answer c is
removing-order who order.Pass a c s is = no-answer c is
removing-order who order.Return a c s is = no-answer c is

pub removing-frees : (l : Label) (c : ℕ) (s : State) → removes l s ≡ Some c → FreesOf l c s
removing-frees (label.Startup k) c s is = no-answer c is
removing-frees (label.Do who o a) c s is = removing-order who o a c s is
removing-frees (label.Pass who) c s is = no-answer c is
removing-frees (label.Ret who) c s is = no-answer c is
removing-frees (label.Occ n reason object) c s is = no-answer c is
removing-frees (label.Fire n d) c s is = no-answer c is
removing-frees (label.Done n) c s is = no-answer c is
removing-frees (label.Activate region) c s is = no-answer c is
removing-frees (label.Advance time) c s is = no-answer c is
removing-frees (label.Pick serial shown) c s is = no-answer c is
removing-frees (label.Stmt process shown) c s is = no-answer c is
removing-frees (label.Finish cause) c s is = no-answer c is
removing-frees (label.End ending) c s is = no-answer c is

-- And an answered removal of a handle that names a callback removes that.
pub removal-removes : (who : Who) (h c n : ℕ) (s : State) → thing_at h s.world.handles ≡ Some (thing.Callback c)
    → removes (label.Do who (order.Remove (Some h)) (answer.Number n)) s ≡ Some c
removal-removes who h c n s names = ap callback_at names
