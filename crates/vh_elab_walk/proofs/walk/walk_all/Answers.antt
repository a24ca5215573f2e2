use Rattle.std.proofs.Common.{rules, ◌≡◌, ◌∙◌, ◌+◌, ◌-◌, ◌∷◌, zero, suc, [], sym, ap, arith}
use Rattle.std.proofs.lemmas.List.{nil_from_length}
use Rattle.vh_elab_walk.specs.Walks.{most_instances, one_walked, on, ended, refused, later}
use Rattle.vh_elab_walk.specs.Views.{going_seen, source_seen, stack_seen, waiting_seen, walk_seen}
use Rattle.vh_elab_walk.proofs.WalkLemmas.{stack_popped, walk_over, walk_on, walk_ends, walk_spent}
use Rattle.vh_elab_walk.proofs.walk.walk_all.Goals as goal

pub returns-in_default : goal.returns-in_default
returns-in_default c =
    let i = c.loop-instance._instance in
    let more : most_instances - i ≡ suc (most_instances - (i + 1)) = omega (arith, c.loop-instance-test.true) in
    let none : c.loop-instance.waiting.items ≡ [] =
    nil_from_length c.loop-instance.waiting.items (omega (arith, c.in_default.ensures.cases.0, c.loop-instance.waiting.ok.0)) in
    sym (walk_over (most_instances - i) (most_instances - (i + 1)) (source_seen c.args.modules) c.args.top_name.now
    (stack_seen c.loop-instance.waiting.items) (walk_seen c.loop-instance.walk) more (ap stack_seen none))
    ∙ c.loop-instance.invariant

pub returns-in-Refused : goal.returns-in-Refused
returns-in-Refused c =
    let i = c.loop-instance._instance in
    let more : most_instances - i ≡ suc (most_instances - (i + 1)) = omega (arith, c.loop-instance-test.true) in
    let goes : ended (refused c.in-Refused.fault) ≡ one_walked (source_seen c.args.modules) c.args.top_name.now (waiting_seen c.in-Some.next) (stack_seen c.pop.new.self.items) (walk_seen c.loop-instance.walk) = search rules in
    sym (walk_ends (most_instances - i) (most_instances - (i + 1)) (source_seen c.args.modules) c.args.top_name.now
    (stack_seen c.loop-instance.waiting.items) (waiting_seen c.in-Some.next) (stack_seen c.pop.new.self.items) (walk_seen c.loop-instance.walk) (refused c.in-Refused.fault) more
    (stack_popped c.loop-instance.waiting.items c.pop.new.self.items c.in-Some.next c.in-Some.ensures.items) goes)
    ∙ c.loop-instance.invariant

pub returns-in-Later : goal.returns-in-Later
returns-in-Later c =
    let i = c.loop-instance._instance in
    let more : most_instances - i ≡ suc (most_instances - (i + 1)) = omega (arith, c.loop-instance-test.true) in
    let goes : ended later ≡ one_walked (source_seen c.args.modules) c.args.top_name.now (waiting_seen c.in-Some.next) (stack_seen c.pop.new.self.items) (walk_seen c.loop-instance.walk) = search rules in
    sym (walk_ends (most_instances - i) (most_instances - (i + 1)) (source_seen c.args.modules) c.args.top_name.now
    (stack_seen c.loop-instance.waiting.items) (waiting_seen c.in-Some.next) (stack_seen c.pop.new.self.items) (walk_seen c.loop-instance.walk) later more
    (stack_popped c.loop-instance.waiting.items c.pop.new.self.items c.in-Some.next c.in-Some.ensures.items) goes)
    ∙ c.loop-instance.invariant

pub loop-instance-preserved : goal.loop-instance-preserved
loop-instance-preserved c =
    let i = c.loop-instance._instance in
    let more : most_instances - i ≡ suc (most_instances - (i + 1)) = omega (arith, c.loop-instance-test.true) in
    let goes : on (stack_seen c.in-On.others.items) (walk_seen c.in-On.so_far) ≡ one_walked (source_seen c.args.modules) c.args.top_name.now (waiting_seen c.in-Some.next) (stack_seen c.pop.new.self.items) (walk_seen c.loop-instance.walk) = search rules in
    sym (walk_on (most_instances - i) (most_instances - (i + 1)) (source_seen c.args.modules) c.args.top_name.now
    (stack_seen c.loop-instance.waiting.items) (waiting_seen c.in-Some.next) (stack_seen c.pop.new.self.items) (stack_seen c.in-On.others.items)
    (walk_seen c.loop-instance.walk) (walk_seen c.in-On.so_far) more
    (stack_popped c.loop-instance.waiting.items c.pop.new.self.items c.in-Some.next c.in-Some.ensures.items) goes)
    ∙ c.loop-instance.invariant

pub returns : goal.returns
returns c =
    let i = c.loop-instance._instance in
    let none : most_instances - i ≡ zero = omega (arith, c.loop-instance-test.false) in
    sym (walk_spent (most_instances - i) (source_seen c.args.modules) c.args.top_name.now (stack_seen c.loop-instance.waiting.items) (walk_seen c.loop-instance.walk) none)
    ∙ c.loop-instance.invariant
