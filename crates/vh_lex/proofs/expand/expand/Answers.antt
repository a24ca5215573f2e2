use Rattle.std.proofs.Common.{[], ◌∷◌, length, length-append, ap, ◌∙◌, arith}
use Rattle.vh_lex.specs.Spelling.{expanded, most_levels}
use Rattle.vh_lex.specs.Uses.{around_seen, finish, frames_seen}
use Rattle.vh_lex.proofs.UsesLemmas.{frames-length, deep-stops, count-stops, use-begins, text-stops}
use Rattle.vh_lex.proofs.expand.expand.Goals as goal

pub returns-then-len-ge-LEVEL_LIMIT : goal.returns-then-len-ge-LEVEL_LIMIT
returns-then-len-ge-LEVEL_LIMIT c =
    deep-stops _ (around_seen c.args.around.now) (length c.loop-next.frames.items) c.loop-next.next.now c.loop-next.made (finish (around_seen c.args.around.now) (frames_seen c.loop-next.frames.items))
    (omega arith) c.loop-next.invariant.0

pub returns-in-Err : goal.returns-in-Err
returns-in-Err c =
    count-stops _ (around_seen c.args.around.now) (length c.loop-next.frames.items) c.loop-next.next.now c.loop-next.made c.count_use.new.self c.count_use.new.self
    (finish (around_seen c.args.around.now) (frames_seen c.loop-next.frames.items)) c.in-Err.halt (omega arith) c.loop-next.invariant.0 c.in-Err.ensures.value

pub loop-next-preserved : goal.loop-next-preserved
loop-next-preserved c =
    let b = use-begins (expanded most_levels (around_seen c.args.around.now) c.args.text.now c.args.made.now) (around_seen c.args.around.now) c.loop-next.frames.items c.push.new.self.items c.loop-next.next
    c.loop-next.made c.count_use.new.self (omega arith) c.loop-next.invariant.0 c.in_default.ensures.value c.in_ok-push.ensures.items in
    let p = rw c.in-Ok-Some.field-0-is at c.in-Ok-Some.ensures.paused in
    let n = frames-length c.read_on.new.frames.items in
    let l = ap length c.in_ok-push.ensures.items ∙ length-append c.loop-next.frames.items (c.loop-next.next ∷ []) in
    let w = c.read_on.ensures.within in
    (rw n at (b ∙ p), omega arith)

pub returns-in-Ok-None : goal.returns-in-Ok-None
returns-in-Ok-None c =
    let b = use-begins (expanded most_levels (around_seen c.args.around.now) c.args.text.now c.args.made.now) (around_seen c.args.around.now) c.loop-next.frames.items c.push.new.self.items c.loop-next.next
    c.loop-next.made c.count_use.new.self (omega arith) c.loop-next.invariant.0 c.in_default.ensures.value c.in_ok-push.ensures.items in
    let p = rw c.in-Ok-None.field-0-is at c.in-Ok-None.ensures.paused in
    b ∙ p

pub returns-in-Err-read_on : goal.returns-in-Err-read_on
returns-in-Err-read_on c =
    let b = use-begins (expanded most_levels (around_seen c.args.around.now) c.args.text.now c.args.made.now) (around_seen c.args.around.now) c.loop-next.frames.items c.push.new.self.items c.loop-next.next
    c.loop-next.made c.count_use.new.self (omega arith) c.loop-next.invariant.0 c.in_default.ensures.value c.in_ok-push.ensures.items in
    text-stops _ (around_seen c.args.around.now) (frames_seen c.push.new.self.items) (frames_seen c.read_on.new.frames.items) c.count_use.new.self c.read_on.new.made c.read_on.new.made c.in-Err-read_on.halt b c.in-Err-read_on.ensures.paused
