-- What an application is at: a startup or a procedure that runs. (IEEE 1364-2005, 27.33, in this project's
-- profile)
use Rattle.std.specs.Prelude.{ℕ, ◌+◌, min, Some, None}
use Rattle.vh_base.specs.declared.orders.Answer.{Answer}
use Rattle.vh_base.specs.declared.orders.Answer.TheVariants as answer
use Rattle.vh_base.specs.declared.orders.Seen.{Seen}
use Rattle.vh_base.specs.declared.words.Reason.TheVariants as reason
use Rattle.vh_app.specs.declared.point.Point.{Point}
use Rattle.vh_callbacks.specs.declared.registration.Registration.{Registration}
use Rattle.vh_orders.specs.declared.who.Who.{Who}
use Rattle.vh_kernel.specs.Occurrences.{Occurrence}

-- Who gives its orders, by the script of this number from 0; how far it is; and what it sees.
pub record Activation : Type 0 where
  pub who : Who
  pub script : ℕ
  pub at : Point
  pub seen : Seen

-- What a callback's activation sees at first, and what a startup sees: it has no callback.
abbrev pub first_seen : Registration → Occurrence → ℕ → Seen
first_seen r o time = record {
  reason = r.reason;
  time = time;
  object = r.object_handle;
  me = Some r.me;
  value = o.value;
  index = o.index;
  user_data = r.user_data;
  step = 0;
  last = answer.Null;
}

abbrev pub startup_seen : ℕ → Seen
startup_seen time = record {
  reason = reason.CbEndOfCompile;
  time = time;
  object = None;
  me = None;
  value = None;
  index = None;
  user_data = 0;
  step = 0;
  last = answer.Null;
}

-- The count of steps stays at 2^32-1.
abbrev pub one_more : ℕ → ℕ
one_more step = min (step + 1) 4294967295

-- After an order it has seen one step more, and its answer; after a pass one step more.
abbrev pub after_answer : Answer → Activation → Activation
after_answer given a = record a { seen = record a.seen { step = one_more a.seen.step; last = given } }

abbrev pub after_pass : Activation → Activation
after_pass a = record a { seen = record a.seen { step = one_more a.seen.step } }
