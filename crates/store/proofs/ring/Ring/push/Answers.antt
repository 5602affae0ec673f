use Rattle.std.proofs.Common.{List, [], ◌∷◌, ◌++◌, ℕ, ◌<◌, length, ap, ◌∙◌, arith}
use Rattle.store.specs.Rings.{around, waiting}
use Rattle.store.proofs.Around.{length-around, next_place, waiting_more, around_push}
use Rattle.store.proofs.ring.Ring.push.Goals as goal

pub returns : goal.returns
returns c =
    let r = c.self.inside in
    let n = waiting r.taken r.added in
    let few : n < 64 = omega (arith, length-around r.words r.taken n, ap length c.self.view_is) in
    ap (around _ r.taken) (waiting_more r.taken r.added 1 (omega arith) (omega arith) (omega arith)) ∙
    (around_push r.words r.taken n _ c.args.word (search arith) (next_place r.taken r.added (omega arith) (omega arith)) few ∙ ap (λ (ws : List ℕ). ws ++ c.args.word ∷ []) c.self.view_is)
