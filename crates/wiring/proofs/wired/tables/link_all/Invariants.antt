use Rattle.std.proofs.Common.{◌≡◌, ◌*◌, ◌≤◌, length, drop}
use Rattle.wiring.proofs.Linking.{LinkedUpTo}
use Rattle.wiring.proofs.wired.tables.link_all.Given as goal

-- two entries for each card so far are linked, and the rest are to come
abbrev pub invariant-loop-entries : goal.invariant-loop-entries
invariant-loop-entries l =
    record {
      pairs : l.entries-iterator.a.size ≡ 2;
      within : 2 * l.entries-iterator.b.start ≤ length l.table;
      rest : l.entries-iterator.a.rest.now ≡ drop (2 * l.entries-iterator.b.start) l.table;
      linked : LinkedUpTo l.table l.cards (2 * l.entries-iterator.b.start);
    }
