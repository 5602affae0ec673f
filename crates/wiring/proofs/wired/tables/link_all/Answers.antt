use Rattle.std.proofs.Common.{◌≡◌, ◌+◌, ◌*◌, length, inl, inr, refl, arith, rules}
use Rattle.wiring.proofs.Linking.{linked_none, left_barred, right_barred, pair_within, pair_rest, pair_linked, table_end, all_named, all_linked}
use Rattle.wiring.proofs.wired.tables.link_all.Goals as goal

pub loop-entries-init : goal.loop-entries-init
loop-entries-init c = record {
  pairs = search rules;
  within = search rules;
  rest = search rules;
  linked = let none : c.into_iter-entries-iterator.result.b.start ≡ 0 = search rules in rw (none, c.requires.bare) (linked_none c.args.table.now);
}

pub returns-in_err-link : goal.returns-in_err-link
returns-in_err-link c =
    let barred = left_barred c.args.table.now c.loop-entries.cards c.in-Some.card c.in-Some.entries.now c.next.new.self.a.rest.now (search rules) (search rules) (search rules)
    (rw c.named.ensures at c.in_err-link.ensures.err.1) in
    search rules

pub returns-in_err-link-2 : goal.returns-in_err-link-2
returns-in_err-link-2 c =
    let barred = right_barred c.args.table.now c.loop-entries.cards c.in-Some.card c.in-Some.entries.now c.next.new.self.a.rest.now (search rules) (search rules) (search rules)
    c.link.new.cards (rw c.named.ensures at c.in_ok-link.ensures.ok) (rw c.named-in-loop-entries.ensures at c.in_err-link-2.ensures.err.1) in
    search rules

pub loop-entries-preserved : goal.loop-entries-preserved
loop-entries-preserved c =
    let next : c.next.new.self.b.start ≡ c.in-Some.card + 1 = search rules in
    let within = pair_within c.args.table.now c.loop-entries.cards c.in-Some.card c.in-Some.entries.now c.next.new.self.a.rest.now (search rules) (search rules) (search rules) in
    record {
      pairs = search rules;
      within = omega (arith, next, within);
      rest = rw next (pair_rest c.args.table.now c.loop-entries.cards c.in-Some.card c.in-Some.entries.now c.next.new.self.a.rest.now (search rules) (search rules) (search rules));
      linked = rw next
          (pair_linked c.args.table.now c.loop-entries.cards c.in-Some.card c.in-Some.entries.now c.next.new.self.a.rest.now (search rules) (search rules) (search rules)
          c.link.new.cards (rw c.named.ensures at c.in_ok-link.ensures.ok) c.link-in-loop-entries.new.cards (rw c.named-in-loop-entries.ensures at c.in_ok-link-2.ensures.ok));
    }

pub returns-then-all_have_parents : goal.returns-then-all_have_parents
returns-then-all_have_parents c =
    let end : 2 * c.loop-entries.entries-iterator.b.start ≡ length c.args.table.now =
    elim c.in-None.ensures.steps [ inl (u, s) ↦ table_end c.args.table.now _ _ c.requires.size c.loop-entries.invariant.rest c.loop-entries.invariant.within (omega (arith, s.1.0)) | inr (u, s) ↦ absurd (omega (arith, s.0, c.requires.size)) ] in
    record { ok = all_linked c.args.table.now c.loop-entries.cards c.requires.size (rw end at c.loop-entries.invariant.linked) (search rules); err = tt }

pub returns-else-all_have_parents : goal.returns-else-all_have_parents
returns-else-all_have_parents c =
    let end : 2 * c.loop-entries.entries-iterator.b.start ≡ length c.args.table.now =
    elim c.in-None.ensures.steps [ inl (u, s) ↦ table_end c.args.table.now _ _ c.requires.size c.loop-entries.invariant.rest c.loop-entries.invariant.within (omega (arith, s.1.0)) | inr (u, s) ↦ absurd (omega (arith, s.0, c.requires.size)) ] in
    let named = all_named c.args.table.now c.loop-entries.cards c.requires.size (rw end at c.loop-entries.invariant.linked) in
    record { ok = tt; err = (refl, λ sound. search rules) }
