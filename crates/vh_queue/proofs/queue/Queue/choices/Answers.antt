use Rattle.std.proofs.Common.{◌≡◌, ◌∙◌, ◌+◌, ℕ, Bool, cond, ap, arith}
use Rattle.vh_queue.proofs.QueuesLemmas.{counts-of, choices-starts, choices-ready, choices-fit}
use Rattle.vh_queue.proofs.queue.Queue.choices.Goals as goal

pub returns-then-self-gt0 : goal.returns-then-self-gt0
returns-then-self-gt0 c =
    let i = c.self.inside in
    choices-starts c.args.self.now i.starts i.ready
    (counts-of i.next i.time i.starts i.ready i.horizons i.entries i.index c.args.self.now c.self.invariant c.self.view_is) c.if-self-gt0.true

pub returns : goal.returns
returns c =
    let i = c.self.inside in
    ap (λ (n : ℕ). i.ready + n) (c.one_if.ensures ∙ ap (λ (b : Bool). cond b 1 0) c.is_some.ensures)
    ∙ choices-ready c.args.self.now i.starts i.ready c.first_update.result
    (counts-of i.next i.time i.starts i.ready i.horizons i.entries i.index c.args.self.now c.self.invariant c.self.view_is)
    c.if-self-gt0.false c.first_update.ensures

pub overflow_add-result : goal.overflow_add-result
overflow_add-result c =
    let i = c.self.inside in
    let one : c.one_if.result ≡ cond c.is_some.result 1 0 = c.one_if.ensures in
    let fits = choices-fit i.next i.time i.starts i.ready i.horizons i.entries i.index c.is_some.result c.self.invariant in
    omega (arith, one, fits)
