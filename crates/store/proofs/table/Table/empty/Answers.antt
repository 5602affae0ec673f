use Rattle.std.proofs.Common.{rules, arith, ◌≡◌, get_or, sym, ◌∙◌}
use Rattle.std.proofs.lemmas.List.{same_lists, get_or-replicate}
use Rattle.network.specs.Cards.{blank}
use Rattle.store.proofs.table.Table.empty.Goals as goal

pub returns : goal.returns
returns c = same_lists _ _ c.from_fn.ensures.items.long (λ i d below.
    let called = (c.from_fn.ensures.items.at i d (omega arith)).2 in
    let fresh : get_or c.from_fn.result i d ≡ blank = search rules in
    fresh ∙ sym (get_or-replicate 31 i blank d (omega arith)))
