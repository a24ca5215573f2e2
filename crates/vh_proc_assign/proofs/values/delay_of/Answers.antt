use Rattle.std.proofs.Common.{◌<◌, ◌≤◌, ◌*◌, ◌^◌, ℕ, sym, subst, arith, rules}
use Rattle.std.proofs.Math.Nat.{pow-le-pow_right, mul-le-mul_left}
use Rattle.vh_proc_assign.proofs.values.delay_of.Goals as goal

pub returns-clause-most : goal.returns-clause-most
returns-clause-most c =
    let scale : c.from-2.result ≤ 17 = search (rules, arith) in
    let small : c.pow.result ≤ 10 ^ 17 = subst (λ (n : ℕ). n ≤ 10 ^ 17) (sym c.pow.ensures) (pow-le-pow_right (omega arith) scale) in
    let most : c.from.result * c.pow.result ≤ c.from.result * 10 ^ 17 = mul-le-mul_left c.from.result small in
    let units : c.from.result < 2 ^ 64 = search (rules, arith) in
    omega (arith, most, units)
