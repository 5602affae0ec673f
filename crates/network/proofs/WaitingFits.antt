-- A waiting word fits its station: a fire where a word waits is never refused for want of one, and so merge takes the word's kind.
use Rattle.std.proofs.Common.{◌≡◌, ℕ, Bool, true, false, cond, not, ◌&&◌, leb, ◌≢◌, List, [], ◌∷◌, ◌++◌, length, Some, None, Err, Result, sym, refl, ap, ◌∙◌, inl, inr, arith, lt-ltb}
use Rattle.network.proofs.Basics.{first_fits}
use Rattle.refusal.specs.declared.drive.FireFault.{FireFault}
use Rattle.refusal.specs.declared.drive.FireFault.TheVariants.{HeldByOther, InboxFull, LinkOccupied, NothingWaits}
use Rattle.packet.specs.Words.{kind_of}
use Rattle.packet.specs.Packets.{is_head, is_head_word}
use Rattle.packet.specs.declared.words.Kind.{Kind}
use Rattle.packet.specs.declared.words.Kind.TheVariants.{Body, Head, Tail, Unused}
use Rattle.wiring.specs.Shapes.{Shape}
use Rattle.station.specs.Holds.{merge, merge_free, merge_held, merge_later}
use Rattle.station.specs.Plans.{Verdicts, planned}
use Rattle.station.specs.declared.channel.Channel.{Channel}
use Rattle.station.specs.declared.hold.Hold.{Hold}
use Rattle.station.specs.declared.hold.Hold.TheVariants.{Accepting, Dropping, Free, Held}
use Rattle.station.specs.declared.hold.Input.{Input}
use Rattle.station.specs.declared.hold.Station.{Station}
use Rattle.network.specs.Cards.{State, inbox_room, oldest}
use Rattle.network.specs.Fires.{Fired, and_then, carry, fire_step, hold_at, passing, waiting_at}
use Rattle.network.specs.Nodes.{Node, card_of, target}
use Rattle.network.specs.Runs.{run}
use Rattle.network.specs.Trees.{Before, Orderly, OrderlyLaw, held_for}
use Rattle.network.proofs.Channels.{Rooted, rooted}
use Rattle.network.proofs.Flow.{Flow, admits, all_clear, fits, is_empty, refusal, refusal_at, refusal_by}
use Rattle.network.proofs.History.{past}
use Rattle.network.proofs.HistoryLaws.{Good, run_good}
use Rattle.network.proofs.Inputs.{same_input_self}
use Rattle.network.proofs.Match.{Beside, Matches}
use Rattle.network.proofs.Simulate.{fire_beside, follows}
use Rattle.network.proofs.UnderWay.{delivers, outs_of}
use Rattle.network.proofs.Writes.{waiting_is}

-- merge, by the word's kind
merge_for : (d : Hold Input) (i : Input) (w : ℕ) → held_for d ≡ Some i → merge d i w ≡ merge_later (kind_of w)
merge_for d i w e = ways d e
  where
    by : (j : Input) → Some j ≡ Some i → merge_held j i (kind_of w) ≡ merge_later (kind_of w)
    by j e = let z : j ≡ i = cc in rw (z, same_input_self i)

    ways : (d : Hold Input) → held_for d ≡ Some i → merge d i w ≡ merge_later (kind_of w)
    ways Free e = absurd (grind arith)
    ways (Held j h) e = by j e
    ways (Dropping j h) e = by j e
    ways (Accepting j h) e = by j e

free_head : (k : Kind) → merge_free k ≢ Err NothingWaits → is_head k ≡ true
free_head Body n = absurd (n refl)
free_head Tail n = absurd (n refl)
free_head Head n = refl
free_head Unused n = absurd (n refl)

later_body : (k : Kind) → merge_later k ≢ Err NothingWaits → is_head k ≡ false
later_body Body n = refl
later_body Tail n = refl
later_body Head n = absurd (n refl)
later_body Unused n = refl

-- the network refuses a word that fits for other reasons only
else_refused : (f a b c : Bool) → f ≡ true → cond (not f) (Some NothingWaits) (cond a (Some HeldByOther) (cond b (Some LinkOccupied) (cond c (Some InboxFull) None))) ≢ Some NothingWaits
else_refused true true b c g e = grind arith
else_refused true false true c g e = grind arith
else_refused true false false true g e = grind arith
else_refused true false false false g e = grind arith
else_refused false a b c g e = grind arith

module _ (W : Shape) (L : Rooted W) (P : Verdicts) (x : State) (y : Flow) (M : Matches W P x y) (G : Good W y) where
  not_for_want : (o : Channel) (w : ℕ) → waiting_at x o ≡ Some w → refusal W P y o ≢ Some NothingWaits
  unfolding refusal refusal_by refusal_at
  not_for_want o w e r = ways (y.chan o) refl (sym (ap oldest (M.chan o)) ∙ sym (waiting_is x o) ∙ e) r
    where
      ways : (l : List ℕ) → y.chan o ≡ l → oldest l ≡ Some w → refusal_by W P y o (y.chan o) ≡ Some NothingWaits → ⊥
      ways [] f e r = grind arith
      ways (v ∷ ws) f e r =
          let g : fits (y.passed o) v ≡ true = first_fits (y.passed o) (y.chan o) v ws f (G.shaped o) in
          let z : refusal_by W P y o (v ∷ ws) ≡ Some NothingWaits = sym (ap (refusal_by W P y o) f) ∙ r in
          let s : Node = target W o in
          let q : List ℕ = y.passed o in
          else_refused (fits q v) (not (admits (y.source s) o)) (not (all_clear y.chan (outs_of W s (q ++ (v ∷ []))))) (not (is_empty (delivers P s q v)) && leb inbox_room (length (y.inbox (card_of s)))) g z

  -- a fire where a word waits
  module _ (c : ℕ) (t : Station) (i : Input) (w : ℕ) (B : Before W x c t i w) where
    waits_not : (fire_step W P x c t i).answer ≢ Err NothingWaits
    waits_not e = ways (fire_beside W L P x y M G c t i B.channel B.there B.from).0 e
      where
        ways : {out : Fired} → Beside W P x y B.channel out → out.answer ≡ Err NothingWaits → ⊥
        ways (inl (n, x', q, r, m)) e = let z = sym (ap (λ (a : Fired). a.answer) q) ∙ e in grind arith
        ways (inr (f, q, r)) e =
            let z : Err f ≡ Err NothingWaits = sym (ap (λ (a : Fired). a.answer) q) ∙ e in
            let u : f ≡ NothingWaits = cc in
            not_for_want B.channel w B.oldest (r ∙ ap Some u)

    merges_not : merge (hold_at x c t) i w ≢ Err NothingWaits
    merges_not e =
        let z : fire_step W P x c t i ≡ passing W P x c t i B.channel w = rw (lt-ltb c W.cards B.there, B.from, B.oldest) in
        let out : Result (Unit {0}) FireFault → Fired = λ m. and_then x m (λ _. carry x c t i B.channel w (planned W P c t (hold_at x c t) w)) in
        waits_not (ap (λ (a : Fired). a.answer) z ∙ ap (λ (m : Result (Unit {0}) FireFault). (out m).answer) e)

    free_fits : hold_at x c t ≡ Free → is_head_word w ≡ true
    unfolding is_head_word
    free_fits e = free_head (kind_of w) (λ r. merges_not (ap (λ (d : Hold Input). merge d i w) e ∙ r))

    held_fits : held_for (hold_at x c t) ≡ Some i → is_head_word w ≡ false
    unfolding is_head_word
    held_fits e = later_body (kind_of w) (λ r. merges_not (merge_for (hold_at x c t) i w e ∙ r))

  pub orderly : Orderly W P x
  orderly = record { free = free_fits; held = held_fits; waits = waits_not }

pub orderly_law : OrderlyLaw
orderly_law W S P ks =
    let L = rooted W S in
    let H = follows W L P ks in
    orderly W L P (run W P ks).tree (past W P H.events).flow H.same.match (run_good W L P H.events)
