-- Hops owed, queues and inboxes keep to their bounds.
use Rattle.std.proofs.Common.{◌≡◌, ℕ, ◌+◌, ◌*◌, ◌<◌, ◌≤◌, List, length, Some, None, Option, ap, arith}
use Rattle.wiring.specs.Shapes.{Shape, most_cards}
use Rattle.station.specs.Plans.{Verdicts}
use Rattle.station.specs.declared.channel.Channel.{Channel}
use Rattle.station.specs.declared.channel.Channel.TheVariants.{DownLink, Queued, TurnLink, UpLink}
use Rattle.network.specs.Cards.{State, card_at, queue_room}
use Rattle.network.specs.Nodes.{number, target}
use Rattle.network.specs.Owed.{head_by, hold_of, holds, hops_owed, on_link, owed_in, reads}
use Rattle.network.specs.Runs.{run}
use Rattle.network.specs.Sums.{sum_channels}
use Rattle.network.specs.Trees.{Bounded, Bounds, most_owed}
use Rattle.network.proofs.AheadBound.{ahead_most, owed_most, sum_to_most}
use Rattle.network.proofs.Channels.{Rooted, rooted}
use Rattle.network.proofs.Flow.{Flow}
use Rattle.network.proofs.History.{past}
use Rattle.network.proofs.Match.{Matches}
use Rattle.network.proofs.Ranks.{target-known}
use Rattle.network.proofs.RoomKept.{Roomy, run_room}
use Rattle.network.proofs.Simulate.{follows}

link_one : (l : Option ℕ) → length (on_link l) ≤ 1
unfolding on_link
link_one None = omega arith
link_one (Some w) = omega arith

module _ (W : Shape) (L : Rooted W) (x : State) where
  -- each word owes at most two hops for each card that there may be
  channel_most : (o : Channel) → number o < W.cards → owed_in W x o ≤ length (reads x o) * (2 * most_cards)
  unfolding owed_in
  channel_most o h =
      owed_most W (2 * W.cards) (2 * most_cards) (target W o)
      (λ g. let t = ahead_most W L (target W o) g (target-known W L o h) in let f = L.few in omega arith)
      (head_by W (target W o) o (hold_of x (target W o))) (reads x o)

  queue_most : (c : ℕ) → c < W.cards → length (card_at x c).queue ≤ queue_room → owed_in W x (Queued c) ≤ queue_room * (2 * most_cards)
  unfolding reads holds number
  queue_most c h r = let t = channel_most (Queued c) h in omega arith

  links_most : (c : ℕ) → c < W.cards → owed_in W x (UpLink c) + owed_in W x (TurnLink c) + owed_in W x (DownLink c) ≤ 3 * (2 * most_cards)
  unfolding reads holds number
  links_most c h =
      let a = channel_most (UpLink c) h in
      let b = channel_most (TurnLink c) h in
      let d = channel_most (DownLink c) h in
      omega (arith, link_one (card_at x c).up_link, link_one (card_at x c).turn_link, link_one (card_at x c).down_link)

  pub all_most : ((c : ℕ) → length (card_at x c).queue ≤ queue_room) → hops_owed W x ≤ most_owed
  unfolding hops_owed sum_channels
  all_most r =
      let t = sum_to_most W.cards ((queue_room + 3) * (2 * most_cards)) (λ c. owed_in W x (Queued c) + owed_in W x (UpLink c) + owed_in W x (TurnLink c) + owed_in W x (DownLink c))
      (λ c h. let q = queue_most c h (r c) in let l = links_most c h in omega arith) in
      let f = L.few in
      omega arith

  pub bounded : (P : Verdicts) (y : Flow) → Matches W P x y → Roomy y → Bounded W x
  unfolding reads holds number
  bounded P y M R = record { owed = all_most queues; queues = queues; inboxes = λ c. let t = R.inboxes c in let u = ap (λ (l : List ℕ). length l) (M.inbox c) in omega arith }
    where
      queues : (c : ℕ) → length (card_at x c).queue ≤ queue_room
      queues c =
          let t = R.queues c in
          let u : length (card_at x c).queue ≡ length (y.chan (Queued c)) = ap (λ (l : List ℕ). length l) (M.chan (Queued c)) in
          omega arith

pub bounds : Bounds
bounds =
    record {
      fits = omega arith;
      holds = λ W S P ks.
          let L = rooted W S in
          let H = follows W L P ks in
          bounded W L (run W P ks).tree P (past W P H.events).flow H.same.match (run_room W L P H.events);
    }
