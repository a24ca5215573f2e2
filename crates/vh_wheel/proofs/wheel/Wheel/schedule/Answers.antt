use Rattle.std.proofs.Common.{ℕ, ◌≡◌, ◌≤◌, ◌<◌, ◌^◌, ◌++◌, ◌∷◌, [], length, ap, arith, subst, sym, refl, Result, Ok, Err, IfOk}
use Rattle.vh_base.specs.declared.faults.NoMemory.{NoMemory}
use Rattle.vh_wheel.specs.declared.node.Node.{Node}
use Rattle.vh_wheel.specs.Schedule.{Schedule, Schedules}
use Rattle.vh_wheel.specs.Views.{bucket_from, schedule_in, HasPosition}
use Rattle.vh_wheel.proofs.TimesLemmas.{level-range}
use Rattle.vh_wheel.proofs.SchedulesLemmas.{schedules-held, schedules-put, schedules-add, moves-put, moves-more, few-nodes}
use Rattle.vh_wheel.proofs.wheel.Wheel.schedule.Goals as goal

-- The position of the node
placed : (t b v : ℕ) (s : Schedule) (q : ℕ) → q ≡ s.present → s.present ≤ t → t < 2 ^ 64 → b ≡ bucket_from 7 q t
    → HasPosition q (record { time = t; payload = v; bucket = b })
placed t b v s q seen later fits is = record { later = omega (arith, seen, later); fits = fits; bucket = is }

pub add-requires-clause-few : goal.add-requires-clause-few
add-requires-clause-few c =
    few-nodes c.self.inside.present 2147483648 c.self.inside.buckets c.args.self.now c.self.view_is (c.in_default.ensures.none refl) c.requires.few

pub returns-in-Some-clause-scheduled : goal.returns-in-Some-clause-scheduled
returns-in-Some-clause-scheduled c =
    let n : Node = record { time = c.args.time; payload = c.args.payload; bucket = c.bucket_of-bucket.result } in
    schedules-put c.self.inside.present c.in-Some.free n c.self.inside.buckets c.put.new.self c.args.self.now c.self.view_is
    c.in-Some.ensures.some.0 c.in-Some.ensures.some.1 (λ e. omega (arith, e, c.bucket_of-bucket.ensures.range)) c.put.ensures

pub returns-in-Some-clause-moves : goal.returns-in-Some-clause-moves
returns-in-Some-clause-moves c =
    let n : Node = record { time = c.args.time; payload = c.args.payload; bucket = c.bucket_of-bucket.result } in
    moves-put c.self.inside.present c.in-Some.free n c.self.inside.buckets c.put.new.self c.args.self.now c.self.view_is
    c.in-Some.ensures.some.0 c.in-Some.ensures.some.1 c.self.invariant
    (placed c.args.time c.bucket_of-bucket.result c.args.payload c.args.self.now c.self.inside.present (ap (λ (s : Schedule). s.present) c.self.view_is)
    c.requires.later (omega arith) c.bucket_of-bucket.ensures.value)
    c.bucket_of-bucket.ensures.range c.put.ensures

-- Where there was room for one more
in_room : {Q : ℕ → Type 0} (r : Result ℕ NoMemory) → ((x : ℕ) → r ≡ Ok x → Q x) → IfOk r Q
in_room (Ok x) h = h x refl
in_room (Err e) h = tt

pub returns-clause-scheduled : goal.returns-clause-scheduled
returns-clause-scheduled c =
    let n : Node = record { time = c.args.time; payload = c.args.payload; bucket = c.bucket_of-bucket.result } in
    in_room c.add.result (λ x is.
    let number : x ≡ length c.self.inside.buckets = subst (λ r. IfOk r (λ y. y ≡ length c.self.inside.buckets)) is c.add.ensures.number in
    let added = subst (λ r. IfOk r (λ y. c.add.new.self ≡ c.self.inside.buckets ++ n ∷ [])) is c.add.ensures.added in
    subst (λ y. Schedules y (record { time = c.args.time; payload = c.args.payload }) c.args.self.now (schedule_in c.add.new.self c.self.inside.present)) (sym number)
    (schedules-add c.self.inside.present n c.self.inside.buckets c.add.new.self c.args.self.now c.self.view_is
    (λ e. omega (arith, e, c.bucket_of-bucket.ensures.range)) added))

pub returns-clause-moves : goal.returns-clause-moves
returns-clause-moves c =
    let n : Node = record { time = c.args.time; payload = c.args.payload; bucket = c.bucket_of-bucket.result } in
    in_room c.add.result (λ x is.
    let added = subst (λ r. IfOk r (λ y. c.add.new.self ≡ c.self.inside.buckets ++ n ∷ [])) is c.add.ensures.added in
    moves-more c.self.inside.present n c.self.inside.buckets c.add.new.self c.args.self.now c.self.view_is c.self.invariant
    (placed c.args.time c.bucket_of-bucket.result c.args.payload c.args.self.now c.self.inside.present (ap (λ (s : Schedule). s.present) c.self.view_is)
    c.requires.later (omega arith) c.bucket_of-bucket.ensures.value)
    c.bucket_of-bucket.ensures.range added)

pub returns-in-Some-clause-held : goal.returns-in-Some-clause-held
returns-in-Some-clause-held c =
    schedules-held c.in-Some.free (record { time = c.args.time; payload = c.args.payload }) c.args.self.now (schedule_in c.put.new.self c.self.inside.present)
    (returns-in-Some-clause-scheduled c)

pub returns-in-Some-clause-left : goal.returns-in-Some-clause-left
returns-in-Some-clause-left c = omega (arith, level-range 7 c.args.self.now.present c.args.time)

pub returns-clause-left : goal.returns-clause-left
returns-clause-left c = omega (arith, level-range 7 c.args.self.now.present c.args.time)

pub returns-clause-held : goal.returns-clause-held
returns-clause-held c =
    in_room c.add.result (λ x is.
    schedules-held x (record { time = c.args.time; payload = c.args.payload }) c.args.self.now (schedule_in c.add.new.self c.self.inside.present)
    (subst (λ (r : Result ℕ NoMemory). IfOk r (λ y. Schedules y (record { time = c.args.time; payload = c.args.payload }) c.args.self.now
    (schedule_in c.add.new.self c.self.inside.present))) is (returns-clause-scheduled c)))
