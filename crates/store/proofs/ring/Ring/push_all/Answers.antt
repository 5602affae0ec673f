use Rattle.std.proofs.Common.{List, ◌++◌, ℕ, ◌+◌, ◌≤◌, length, ap, ◌∙◌, arith}
use Rattle.store.specs.Rings.{around, waiting}
use Rattle.store.proofs.Around.{length-around, next_place, waiting_more}
use Rattle.store.proofs.ring.Ring.push_all.Goals as goal

pub invariant_of-self : goal.invariant_of-self
invariant_of-self c =
    let r = c.self.inside in
    let n = waiting r.taken r.added in
    omega (arith, length-around r.words r.taken n, ap length c.self.view_is)

pub returns : goal.returns
returns c =
    let r = c.self.inside in
    let n = waiting r.taken r.added in
    let few : n + length c.args.words.now ≤ 64 = omega (arith, length-around r.words r.taken n, ap length c.self.view_is) in
    ap (around _ r.taken) (waiting_more r.taken r.added (length c.args.words.now) (omega arith) (omega arith) few) ∙
    (c.copy_round.ensures r.taken n (next_place r.taken r.added (omega arith) (omega arith)) few ∙ ap (λ (ws : List ℕ). ws ++ c.args.words.now) c.self.view_is)
