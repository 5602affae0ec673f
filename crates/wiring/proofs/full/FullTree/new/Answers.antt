use Rattle.std.proofs.Common.{◌^◌, ◌≤◌, arith}
use native.Mathlib.Nat.{pow-le-pow_right}
use Rattle.std.proofs.lemmas.Nat.{one_shl}
use Rattle.wiring.proofs.full.FullTree.new.Goals as goal

pub invariant_of-result : goal.invariant_of-result
invariant_of-result c =
    let l = c.args.levels in
    let few : l ≤ 5 = omega arith in
    let s = one_shl l 16 (omega arith) in
    let low : 2 ^ 1 ≤ 2 ^ l = pow-le-pow_right {n = 2} (omega arith) {i = 1} {j = l} (omega arith) in
    let high : 2 ^ l ≤ 2 ^ 5 = pow-le-pow_right {n = 2} (omega arith) {i = l} {j = 5} few in
    record { some = omega arith; few = omega arith }
