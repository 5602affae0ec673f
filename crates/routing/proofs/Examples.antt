-- The worked routes, each by computing.
use Rattle.std.proofs.Common.{◌≡◌, ℕ, ◌+◌, ◌<◌, ◌≤◌, true, List, [], ◌∷◌, length, Some, Ok, Err, refl, arith, rules}
use Rattle.refusal.specs.declared.send.RouteFault.TheVariants.{EndsGoingUp, AboveRoot, NoDaughter}
use Rattle.refusal.specs.declared.order.OrderFault.TheVariants.{TooLong}
use Rattle.packet.specs.declared.sides.Side.{Side}
use Rattle.packet.specs.declared.sides.Side.TheVariants.{Right}
use Rattle.packet.specs.Routes.{route_in, route_room, bits_from, route_bits, has_one, ups_of, after_turn, before_stop, read_bits, read_route}
use Rattle.packet.specs.Heads.{mode_of, head_word}
use Rattle.routing.specs.declared.walks.Walk.{Walk}
use Rattle.wiring.specs.Shapes.{Shape, Lawful, full_shape}
use Rattle.routing.specs.Walks.{climb, descend, walk_of}
use Rattle.routing.specs.Subtrees.{covers_in, covers, count_below, subtree_size, hops_a_word}
use Rattle.routing.specs.Orders.{all_there, mode_for, Ordered}
use Rattle.routing.specs.Worked.{HopsAre, AllHold, worked, full}
use Rattle.routing.proofs.Computed.{every_below, lowest_test, tested}

full_lawful : (n : ℕ) → 1 ≤ n → n ≤ 31 → Lawful (full_shape n)
full_lawful n a b = search rules

abbrev walked : ℕ → ℕ → ℕ → ℕ → Walk
walked u t a b = record { turn = u; terminus = t; ups = a; descents = b }

module _ (s : Shape) (L : Lawful s) (c d : ℕ) (cs : List ℕ) where
  made_by : (h n : ℕ) (w : Walk) → all_there s (c ∷ d ∷ cs) ≡ true → walk_of s c (route_in h) ≡ Ok w → lowest_test s d cs w.terminus ≡ true →
      lowest_test s c (w.terminus ∷ []) w.turn ≡ true → h ≡ head_word (mode_for (d ∷ cs)) (route_in h) → hops_a_word s (mode_of h) w ≡ n →
      Ordered s c (d ∷ cs) (Ok h) × HopsAre s c h n
  made_by h n w there leads low turn head hops = (
    (
      there,
      record {
        terminus = w.terminus;
        lowest = tested s L d cs w.terminus low;
        leads = record { walk = w; leads = leads; ends = refl; turns = tested s L c (w.terminus ∷ []) w.turn turn; head = head };
      },
    ),
    record { walk = w; leads = leads; hops = hops },
  )

  far_by : (t u a : ℕ) (ss : List Side) → all_there s (c ∷ d ∷ cs) ≡ true → lowest_test s d cs t ≡ true → lowest_test s c (t ∷ []) u ≡ true →
      climb s a c ≡ Some u → descend s ss u ≡ Ok t → route_room < a + length ss → Ordered s c (d ∷ cs) (Err TooLong)
  far_by t u a ss there low turn up down far = (
    there,
    record {
      terminus = t;
      lowest = tested s L d cs t low;
      far = record { ups = a; sides = ss; way = record { turn = u; turns = tested s L c (t ∷ []) u turn; climbs = up; descends = down }; far = far };
    },
  )

three : Lawful (full 3)
three = full_lawful 7 (omega arith) (omega arith)

five : Lawful (full 5)
five = full_lawful 31 (omega arith) (omega arith)

pub all_hold : AllHold worked
unfolding bits_from route_bits has_one ups_of after_turn before_stop read_bits read_route climb descend covers_in covers count_below subtree_size every_below lowest_test
all_hold = (
  made_by (full 3) three 3 5 (6 ∷ []) 0xA00001B0 7 (walked 0 2 2 1) refl refl refl refl refl refl,
  (
    made_by (full 3) three 3 3 [] 0x80000080 2 (walked 3 3 0 0) refl refl refl refl refl refl,
    (
      made_by (full 3) three 3 4 [] 0x80000160 4 (walked 1 4 1 1) refl refl refl refl refl refl,
      (
        made_by (full 3) three 3 1 (4 ∷ []) 0xA0000140 5 (walked 1 1 1 0) refl refl refl refl refl refl,
        (
          (EndsGoingUp 3, refl, refl),
          (
            (AboveRoot, refl, refl),
            (
              (NoDaughter 3, refl, refl),
              (
                made_by (full 5) five 15 14 [] 0x800001EF 9 (walked 0 14 4 3) refl refl refl refl refl refl,
                (
                  (TooLong, far_by (full 5) five 15 30 [] 30 0 4 (Right ∷ Right ∷ Right ∷ Right ∷ []) refl refl refl refl refl (omega arith), refl),
                  tt,
                ),
              ),
            ),
          ),
        ),
      ),
    ),
  ),
)
