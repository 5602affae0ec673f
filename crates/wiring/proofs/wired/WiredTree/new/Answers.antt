use Rattle.std.proofs.Common.{drop, replicate, refl, arith, rules}
use Rattle.std.proofs.lemmas.List.{take-replicate, length-take}
use Rattle.wiring.specs.Shapes.{Lawful}
use Rattle.wiring.specs.Tables.{Sized, listed_cards}
use Rattle.wiring.specs.Linked.{unlinked}
use Rattle.wiring.specs.Wireds.{listed_shape}
use Rattle.wiring.proofs.Judging.{tree_sound, tree_lawful}
use Rattle.wiring.proofs.Linking.{padded}
use Rattle.wiring.proofs.wired.WiredTree.new.Goals as goal

pub link_all-requires-clause-bare : goal.link_all-requires-clause-bare
link_all-requires-clause-bare c = take-replicate (listed_cards c.args.table.now) 31 unlinked (omega arith)

pub returns-in_err-link_all-clause-laws : goal.returns-in_err-link_all-clause-laws
returns-in_err-link_all-clause-laws c =
    let t = c.args.table.now in
    let sized : Sized t = search rules in
    let broken = λ (h : Lawful (listed_shape t)). c.in_err-link_all.ensures.err.1 (tree_sound t (listed_shape t) sized (record { lists = record { cards = refl; daughters = λ b c. refl }; lawful = h })) in
    search rules

-- the links with those of no card after them
pub invariant_of-result : goal.invariant_of-result
invariant_of-result c =
    let t = c.args.table.now in
    let tree = padded t c.link_all.new.cards (drop (listed_cards t) (replicate 31 unlinked)) (omega (arith, c.link_all.auto.cards, length-take (listed_cards t) (replicate 31 unlinked))) c.in_ok-link_all.ensures.ok in
    record { lawful = tree.lawful }

pub returns : goal.returns
returns c =
    let t = c.args.table.now in
    let sized : Sized t = search rules in
    let tree = padded t c.link_all.new.cards (drop (listed_cards t) (replicate 31 unlinked)) (omega (arith, c.link_all.auto.cards, length-take (listed_cards t) (replicate 31 unlinked))) c.in_ok-link_all.ensures.ok in
    let sound = tree_sound t _ sized tree in
    record { told = (sized, sound, tree.lists); laws = (sound.ranges, tree_lawful t _ sized tree) }
