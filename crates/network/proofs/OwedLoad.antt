-- Hops owed, read off the state, are the load of the network with history.
use Rattle.std.proofs.Common.{◌≡◌, ℕ, zero, suc, ◌+◌, ◌*◌, Bool, true, false, cond, not, ◌⊎◌, List, [], ◌∷◌, ◌++◌, Some, None, Option, sym, refl, ap, ◌∙◌, ap₂, inl, inr, arith}
use Rattle.std.proofs.lemmas.Option.{same_Some}
use mathlib.Core.Path.{fun_ext}
use Rattle.std.proofs.lemmas.Bool.{and_parts, not-true, false_from_ne_true}
use Rattle.packet.proofs.Moving.{head_not_tail}
use Rattle.packet.specs.Routes.{advance, stops}
use Rattle.packet.specs.Packets.{is_head_word, is_tail_word}
use Rattle.wiring.specs.Shapes.{Shape}
use Rattle.licence.specs.declared.verdict.Verdict.{Verdict}
use Rattle.licence.specs.declared.verdict.Verdict.TheVariants.{Class, Refuse}
use Rattle.station.specs.Plans.{Verdicts, accepted}
use Rattle.station.specs.declared.channel.Channel.{Channel}
use Rattle.station.specs.declared.channel.Channel.TheVariants.{DownLink, Queued, TurnLink, UpLink}
use Rattle.station.specs.declared.hold.Hold.{Hold}
use Rattle.station.specs.declared.hold.Hold.TheVariants.{Accepting, Dropping, Free, Held}
use Rattle.station.specs.declared.hold.Input.{Input}
use Rattle.network.specs.Cards.{State, oldest}
use Rattle.network.specs.Nodes.{Node, down, input_of, outs, same_channel, target, up}
use Rattle.network.specs.Owed.{ahead, by_head, head_by, hold_of, hops_owed, is_channel, owed_for, owed_in}
use Rattle.network.specs.Sums.{sum_channels, sum_over}
use Rattle.network.proofs.Basics.{sum_to_same, next_end, next_not}
use Rattle.network.proofs.Channels.{channel_discrete, same_channel_is, same_channel_self}
use Rattle.network.proofs.Flow.{Flow, fits, load, shape}
use Rattle.network.proofs.History.{one}
use Rattle.network.proofs.Match.{Matches}
use Rattle.network.proofs.UnderWay.{along, moved, next, outs_of, waiting, weight}
use Rattle.network.proofs.StationParts.{of_verdict}
use Rattle.network.proofs.Phases.{phase}
use Rattle.network.proofs.HistoryLaws.{Good}
use Rattle.network.proofs.Stands.{map_hold, stands, stands_by}

-- the weight of a word goes by its packet's head
weight-ahead : (W : Shape) (k : ℕ) (s : Node) (h : ℕ) (q : List ℕ) → weight one W k s (h ∷ q) ≡ ahead W k s h
unfolding weight ahead outs_of moved
weight-ahead W zero s h q = refl
weight-ahead W (suc k) s h q =
    ap (λ (n : ℕ). 1 + n) (ap (sum_over (outs W s h)) (fun_ext (λ o. weight-ahead W k (target W o) (advance h) q)))

-- the words that wait at a station, by the last head
abbrev GoesBy : List ℕ → Option ℕ → Type 0
GoesBy q g = (q ≡ []) ⊎ (g ≡ oldest q)

owed_along : (W : Shape) (k : ℕ) (s : Node) (ws q : List ℕ) (g : Option ℕ) → shape q ws ≡ true → GoesBy q g → along (weight one W k s) q ws ≡ owed_for W k s g ws
unfolding along owed_for shape fits by_head
owed_along W k s [] q g f r = refl
owed_along W k s (w ∷ ws) [] g f r =
    let h : is_head_word w ≡ true = (and_parts _ _ f).0 in
    let n : next [] w ≡ w ∷ [] = next_not [] w (head_not_tail w h) in
    let t = owed_along W k s ws (w ∷ []) (Some w) (sym (ap (λ (q : List ℕ). shape q ws) n) ∙ (and_parts (is_head_word w) _ f).1) (inr refl) in
    let u = weight-ahead W k s w [] in
    rw (n, h) (omega arith)
owed_along W k s (w ∷ ws) (h ∷ q) g f r =
    let nh : is_head_word w ≡ false = not-true (is_head_word w) (and_parts _ _ f).0 in
    let gh : g ≡ Some h = by r in
    let t = owed_along W k s ws (next (h ∷ q) w) g (and_parts (not (is_head_word w)) _ f).1 (later (is_tail_word w) refl) in
    let u = weight-ahead W k s h (q ++ (w ∷ [])) in
    let v : by_head W k s g ≡ ahead W k s h = rw gh in
    rw nh (omega arith)
  where
    by : GoesBy (h ∷ q) g → g ≡ Some h
    by (inl e) = absurd (grind arith)
    by (inr e) = e

    later : (b : Bool) → is_tail_word w ≡ b → GoesBy (next (h ∷ q) w) g
    later true e = inl (next_end (h ∷ q) w e)
    later false e = inr (by r ∙ sym (ap oldest (next_not (h ∷ q) w e)))

-- the head for which a station is held, by channels
unfoldable head_on : Channel → Hold (Option Channel) → Option ℕ
head_on o Free = None
head_on o (Held k h) = cond (is_channel o k) (Some h) None
head_on o (Dropping k h) = cond (is_channel o k) (Some h) None
head_on o (Accepting k h) = cond (is_channel o k) (Some h) None

head_on_lem : (W : Shape) (s : Node) (o : Channel) (d : Hold Input) → head_by W s o d ≡ head_on o (map_hold (input_of W s) d)
unfolding head_by head_on map_hold
head_on_lem W s o Free = refl
head_on_lem W s o (Held i h) = refl
head_on_lem W s o (Dropping i h) = refl
head_on_lem W s o (Accepting i h) = refl

phase-head : (P : Verdicts) (s : Node) (o j : Channel) (q : List ℕ) → head_on o (map_hold Some (phase P s j q)) ≡ cond (is_channel o (Some j)) (oldest q) None
unfolding phase head_on map_hold of_verdict
phase-head P s o j [] = either (is_channel o (Some j))
  where
    either : (b : Bool) → ◌≡◌ {A = Option ℕ} None (cond b None None)
    either true = refl
    either false = refl
phase-head P (up c) o j (h ∷ q) = refl
phase-head P (down c) o j (h ∷ []) = refl
phase-head P (down c) o j (h ∷ k ∷ q) = ways (stops h) (accepted P c h k)
  where
    ways : (b : Bool) (v : Verdict) → head_on o (map_hold Some (cond b (of_verdict j h v) (Held j h))) ≡ cond (is_channel o (Some j)) (Some h) None
    ways true Refuse = refl
    ways true (Class v) = refl
    ways false v = refl

module _ (W : Shape) (P : Verdicts) (x : State) (y : Flow) (M : Matches W P x y) (G : Good W y) where
  -- a word goes by the head of the packet under way
  head_is : (o : Channel) → head_by W (target W o) o (hold_of x (target W o)) ≡ oldest (y.passed o)
  unfolding stands stands_by is_channel head_on map_hold
  head_is o = head_on_lem W s o (hold_of x s) ∙ ap (head_on o) (M.hold s) ∙ ways (y.source s) refl
    where
      s : Node
      s = target W o

      ways : (k : Option Channel) → y.source (target W o) ≡ k → head_on o (map_hold Some (stands_by P (target W o) y.passed k)) ≡ oldest (y.passed o)
      ways None e = sym (ap oldest (G.inv.quiet o (λ p. grind arith)))
      ways (Some j) e =
          phase-head P (target W o) o j (y.passed j)
          ∙ elim (channel_discrete j o) [
            | yes p ↦ rw (ap (λ (k : Channel). same_channel k o) p ∙ same_channel_self o) (ap (λ (o : Channel). oldest (y.passed o)) p)
            | no n ↦ rw (false_from_ne_true _ (λ e. n (same_channel_is j o e))) (sym (ap oldest (G.inv.quiet o (λ r. n (same_Some _ _ (sym e ∙ r))))))
          ]

  pub owed_in_lem : (o : Channel) → owed_in W x o ≡ waiting one W (2 * W.cards) (target W o) (y.passed o) (y.chan o)
  unfolding owed_in waiting
  owed_in_lem o =
      ap₂ (λ (g : Option ℕ) (l : List ℕ). owed_for W (2 * W.cards) (target W o) g l) (head_is o) (M.chan o)
      ∙ sym (owed_along W (2 * W.cards) (target W o) (y.chan o) (y.passed o) (oldest (y.passed o)) (G.shaped o) (inr refl))

  pub owed_load : hops_owed W x ≡ load one W y
  unfolding hops_owed load sum_channels
  owed_load =
      sum_to_same W.cards _ _
      (λ c l. omega (arith, owed_in_lem (Queued c), owed_in_lem (UpLink c), owed_in_lem (TurnLink c), owed_in_lem (DownLink c)))
