-- Runs: the calls made on a tree since it was set up, and what they have granted.
use Rattle.std.specs.Prelude.{◌≡◌, ℕ, ◌+◌, cond, List, [], ◌∷◌, ◌++◌, Ok, Err, Result, ◌==◌}
use Rattle.wiring.specs.Shapes.{Shape}
use Rattle.station.specs.declared.hold.Station.{Station}
use Rattle.station.specs.declared.hold.Input.{Input}
use Rattle.station.specs.Plans.{Verdicts}
use Rattle.network.specs.Cards.{State, empty}
use Rattle.network.specs.Sends.{send_step}
use Rattle.network.specs.Fires.{fire_step}
use Rattle.network.specs.Takes.{take_step}
use Rattle.network.specs.Arrivals.{Parcel}

pub data Call : Type 0 where
  send : ℕ → List ℕ → Call
  fire : ℕ → Station → Input → Call
  take : ℕ → Call
  owed : Call

-- a run so far: the tree, the granted sends in order, the number of granted fires, and the words that granted takes returned at each card
pub record Run : Type 0 where
  pub tree : State
  pub sends : List Parcel
  pub fires : ℕ
  pub taken : ℕ → List ℕ

-- the tree as it was set up
abbrev pub start : Run
start = record { tree = empty; sends = []; fires = 0; taken = λ d. [] }

-- one entry for a granted call, and none for a refused one
abbrev pub if_granted : {A F B : Type 0} → Result A F → B → List B
if_granted (Ok a) b = b ∷ []
if_granted (Err f) b = []

abbrev pub one_if : {A F : Type 0} → Result A F → ℕ
one_if (Ok a) = 1
one_if (Err f) = 0

abbrev pub word_of : {F : Type 0} → Result ℕ F → List ℕ
word_of (Ok w) = w ∷ []
word_of (Err f) = []

-- the run after one more call
unfoldable pub onward : Shape → Verdicts → Run → Call → Run
onward s v r (send c p) =
    let a = send_step s r.tree c p in
    record { tree = a.next; sends = r.sends ++ if_granted a.answer (c, p); fires = r.fires; taken = r.taken }
onward s v r (fire c t i) =
    let a = fire_step s v r.tree c t i in
    record { tree = a.next; sends = r.sends; fires = r.fires + one_if a.answer; taken = r.taken }
onward s v r (take c) =
    let a = take_step s r.tree c in
    record { tree = a.next; sends = r.sends; fires = r.fires; taken = λ d. r.taken d ++ cond (d == c) (word_of a.answer) [] }
onward s v r owed = r

unfoldable pub run_from : Shape → Verdicts → Run → List Call → Run
run_from s v r [] = r
run_from s v r (k ∷ ks) = run_from s v (onward s v r k) ks

-- the run of a list of calls, in the order in which they were made
unfoldable pub run : Shape → Verdicts → List Call → Run
run s v ks = run_from s v start ks

-- the tree after one call on the tree x
abbrev pub next : Shape → Verdicts → State → Call → State
next s v x (send c p) = (send_step s x c p).next
next s v x (fire c t i) = (fire_step s v x c t i).next
next s v x (take c) = (take_step s x c).next
next s v x owed = x

-- the calls lead to this tree
abbrev pub Reached : Shape → Verdicts → List Call → State → Type 0
Reached s v ks x = (run s v ks).tree ≡ x
