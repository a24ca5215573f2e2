-- What a label frees and removes, by the state before it: a row for each label, order and answer that does. (IEEE 1364-2005,
-- 27.5 and 27.34; that a removal frees the handle is own)
use Rattle.std.specs.Prelude.{ℕ, Option, Some, None}
use Rattle.vh_base.specs.declared.orders.Answer.{Answer}
use Rattle.vh_base.specs.declared.orders.Answer.TheVariants as answer
use Rattle.vh_base.specs.declared.orders.Order.{Order}
use Rattle.vh_base.specs.declared.orders.Order.TheVariants as order
use Rattle.vh_handles.specs.declared.handles.Thing.{Thing}
use Rattle.vh_handles.specs.declared.handles.Thing.TheVariants as thing
use Rattle.vh_handles.specs.Handles.{thing_at}
use Rattle.vh_kernel.specs.declared.label.Label.{Label}
use Rattle.vh_kernel.specs.declared.label.Label.TheVariants as label
use Rattle.vh_kernel.specs.State.{State}
use Rattle.vh_orders.specs.World.{World}

-- The handle that an order frees: that of an answered `free`, and that of an answered removal.
abbrev pub freed_by : Order → Answer → Option ℕ
freed_by (order.Free h) (answer.Number n) = h
freed_by (order.Remove h) (answer.Number n) = h
freed_by _ _ = None

abbrev pub frees : Label → Option ℕ
frees (label.Do who o a) = freed_by o a
frees _ = None

-- The callback that an order removes: that which the handle of an answered removal names.
abbrev pub callback_at : Option Thing → Option ℕ
callback_at (Some (thing.Callback c)) = Some c
callback_at _ = None

abbrev pub removed_by : Order → Answer → World → Option ℕ
removed_by (order.Remove (Some h)) (answer.Number n) w = callback_at (thing_at h w.handles)
removed_by _ _ w = None

abbrev pub removes : Label → State → Option ℕ
removes (label.Do who o a) s = removed_by o a s.world
removes _ s = None
