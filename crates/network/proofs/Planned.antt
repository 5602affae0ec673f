-- What a plan says, part by part: its links, its word, what is kept, and how the station stands then.
use Rattle.std.proofs.Common.{◌≡◌, ℕ, ◌<◌, Bool, true, false, cond, List, [], ◌∷◌, ◌++◌, Some, None, Ok, Option, Result, refl, ap, ◌∙◌, append-nil, arith, eq-eqb, ne_eqb}
use native.Mathlib.Decide.{ℕ_discrete}
use Rattle.refusal.specs.declared.drive.FireFault.{FireFault}
use Rattle.packet.specs.Heads.{floods}
use Rattle.packet.specs.Routes.{advance, side_of, stops, top_bit}
use Rattle.packet.specs.Words.{kind_of}
use Rattle.packet.specs.Packets.{is_head, is_tail, is_tail_word}
use Rattle.packet.specs.declared.sides.Side.TheVariants.{Left, Right}
use Rattle.packet.specs.declared.words.Kind.{Kind}
use Rattle.packet.specs.declared.words.Kind.TheVariants.{Body, Head, Tail, Unused}
use Rattle.wiring.specs.Shapes.{Shape}
use Rattle.licence.specs.declared.verdict.Verdict.{Verdict}
use Rattle.licence.specs.declared.verdict.Verdict.TheVariants.{Class, Refuse}
use Rattle.station.specs.Holds.{after, after_held, merge, merge_free, merge_held, merge_later, unless_tail}
use Rattle.station.specs.Plans.{Verdicts, accepted, down_by, fork_to, judged, judged_by, planned, up_by}
use Rattle.station.specs.declared.channel.Channel.{Channel}
use Rattle.station.specs.declared.channel.Channel.TheVariants.{TurnLink, UpLink}
use Rattle.station.specs.declared.hold.Here.{Here}
use Rattle.station.specs.declared.hold.Here.TheVariants.{Dropped, Kept, Onward}
use Rattle.station.specs.declared.hold.Hold.{Hold}
use Rattle.station.specs.declared.hold.Hold.TheVariants.{Accepting, Dropping, Free, Held}
use Rattle.station.specs.declared.hold.Input.{Input}
use Rattle.station.specs.declared.plan.Plan.{Plan}
use Rattle.network.specs.Nodes.{Node, above, card_of, down, down_link_to, outs, station_of, up, up_link_of}
use Rattle.network.proofs.Channels.{Rooted}
use Rattle.network.proofs.UnderWay.{mark}
use Rattle.network.proofs.StationParts.{delivers_by, hold_after, leaves_by, of_verdict, on_word, outs_by}
use Rattle.network.proofs.Stands.{held_for}

-- the links of a plan of card c
unfoldable pub links_of : ℕ → Plan ℕ → List Channel
links_of c p = cond p.up (UpLink c ∷ []) [] ++ (cond p.turn (TurnLink c ∷ []) [] ++ (down_link_to p.left ++ down_link_to p.right))

-- the word that enters the inbox, if one does
unfoldable pub kept_words : Here → List ℕ
kept_words Onward = []
kept_words Dropped = []
kept_words (Kept w) = w ∷ []

module _ (W : Shape) (L : Rooted W) where
  up_links : (c : ℕ) (b : Bool) (w : ℕ) → c < W.cards → links_of c (up_by c b w) ≡ cond b (up_link_of c (above W c)) (TurnLink c ∷ [])
  unfolding links_of up_link_of down_link_to
  up_links c false w h = refl
  up_links c true w h =
      elim (ℕ_discrete c 0) [
        | yes z ↦ rw (eq-eqb c 0 z) (rw z (rw L.root refl))
        | no n ↦ let (p, q) = L.others c (omega arith) h in rw (ne_eqb c 0 n, q)
      ]

  down_links : (c h w : ℕ) (e : Here) → links_of c (down_by W c h w e) ≡ outs W (down c) h
  unfolding links_of outs down_link_to
  down_links c h w e = ways (stops h) (floods h) (top_bit h)
    where
      ways : (a b t : Bool) →
          links_of c (cond a (cond b (fork_to (W.daughter Left c) (W.daughter Right c) w e) (fork_to None None w e)) (cond t (fork_to None (W.daughter Right c) w e) (fork_to (W.daughter Left c) None w e))) ≡
          cond a (cond b (down_link_to (W.daughter Left c) ++ down_link_to (W.daughter Right c)) []) (down_link_to (W.daughter (side_of t) c))
      ways true true t = refl
      ways true false t = refl
      ways false b true = refl
      ways false b false = append-nil (down_link_to (W.daughter Left c))

  down_word : (c h w : ℕ) (e : Here) → ((down_by W c h w e).word ≡ w) × ((down_by W c h w e).here ≡ e)
  down_word c h w e = ways (stops h) (floods h) (top_bit h)
    where
      plan : Bool → Bool → Bool → Plan ℕ
      plan a b t = cond a (cond b (fork_to (W.daughter Left c) (W.daughter Right c) w e) (fork_to None None w e)) (cond t (fork_to None (W.daughter Right c) w e) (fork_to (W.daughter Left c) None w e))

      ways : (a b t : Bool) → ((plan a b t).word ≡ w) × ((plan a b t).here ≡ e)
      ways true true t = (refl, refl)
      ways true false t = (refl, refl)
      ways false b true = (refl, refl)
      ways false b false = (refl, refl)

  abbrev plan : Verdicts → Node → Hold Input → ℕ → Plan ℕ
  plan P s d w = planned W P (card_of s) (station_of s) d w

  pub plan_links : (P : Verdicts) (s : Node) (d : Hold Input) (w : ℕ) → card_of s < W.cards → links_of (card_of s) (plan P s d w) ≡ outs_by W s d w
  unfolding card_of station_of outs_by outs
  plan_links P (up c) Free w h = up_links c (top_bit w) (advance w) h
  plan_links P (up c) (Held i g) w h = up_links c (top_bit g) w h
  plan_links P (up c) (Dropping i g) w h = up_links c (top_bit g) w h
  plan_links P (up c) (Accepting i g) w h = up_links c (top_bit g) w h
  plan_links P (down c) Free w h = down_links c w (advance w) Onward
  plan_links P (down c) (Held i g) w h = down_links c g w (judged P c g w)
  plan_links P (down c) (Dropping i g) w h = down_links c g w Dropped
  plan_links P (down c) (Accepting i g) w h = down_links c g w (Kept w)

  pub plan_word : (P : Verdicts) (s : Node) (d : Hold Input) (w : ℕ) → (plan P s d w).word ≡ leaves_by d w
  unfolding card_of station_of leaves_by
  plan_word P (up c) Free w = refl
  plan_word P (up c) (Held i g) w = refl
  plan_word P (up c) (Dropping i g) w = refl
  plan_word P (up c) (Accepting i g) w = refl
  plan_word P (down c) Free w = (down_word c w (advance w) Onward).0
  plan_word P (down c) (Held i g) w = (down_word c g w (judged P c g w)).0
  plan_word P (down c) (Dropping i g) w = (down_word c g w Dropped).0
  plan_word P (down c) (Accepting i g) w = (down_word c g w (Kept w)).0

  pub plan-kept : (P : Verdicts) (s : Node) (d : Hold Input) (w : ℕ) → kept_words (plan P s d w).here ≡ delivers_by P s d w
  unfolding card_of station_of kept_words delivers_by mark
  plan-kept P (up c) Free w = refl
  plan-kept P (up c) (Held i g) w = refl
  plan-kept P (up c) (Dropping i g) w = refl
  plan-kept P (up c) (Accepting i g) w = refl
  plan-kept P (down c) Free w = ap kept_words (down_word c w (advance w) Onward).1
  plan-kept P (down c) (Held i g) w = ap kept_words (down_word c g w (judged P c g w)).1 ∙ ways (stops g) (accepted P c g w)
    where
      ways : (b : Bool) (v : Verdict) → kept_words (cond b (judged_by v w) Onward) ≡ cond b (mark w v) []
      ways true Refuse = refl
      ways true (Class v) = refl
      ways false v = refl
  plan-kept P (down c) (Dropping i g) w = ap kept_words (down_word c g w Dropped).1
  plan-kept P (down c) (Accepting i g) w = ap kept_words (down_word c g w (Kept w)).1

  tail_free : (k : Kind) (d : Hold Input) → unless_tail k d ≡ cond (is_tail k) Free d
  tail_free Body d = refl
  tail_free Tail d = refl
  tail_free Head d = refl
  tail_free Unused d = refl

  pub plan_after : (P : Verdicts) (s : Node) (i : Input) (d : Hold Input) (w : ℕ) → after d i w (plan P s d w).here ≡ hold_after P s i d w
  unfolding card_of station_of hold_after on_word of_verdict is_tail_word
  plan_after P (up c) i Free w = tail_free (kind_of w) _
  plan_after P (up c) i (Held j g) w = tail_free (kind_of w) _
  plan_after P (up c) i (Dropping j g) w = tail_free (kind_of w) _
  plan_after P (up c) i (Accepting j g) w = tail_free (kind_of w) _
  plan_after P (down c) i Free w = tail_free (kind_of w) _
  plan_after P (down c) i (Held j g) w =
      tail_free (kind_of w) _ ∙ ap (cond (is_tail (kind_of w)) Free) (ap (after_held j g) (down_word c g w (judged P c g w)).1 ∙ ways (stops g) (accepted P c g w))
    where
      ways : (b : Bool) (v : Verdict) → after_held j g (cond b (judged_by v w) Onward) ≡ cond b (of_verdict j g v) (Held j g)
      ways true Refuse = refl
      ways true (Class v) = refl
      ways false v = refl
  plan_after P (down c) i (Dropping j g) w = tail_free (kind_of w) _
  plan_after P (down c) i (Accepting j g) w = tail_free (kind_of w) _

-- merge by the input for which the station is held
unfoldable pub merge_by : Option Input → Input → Kind → Result (Unit {0}) FireFault
merge_by None i k = merge_free k
merge_by (Some j) i k = merge_held j i k

pub merge_by_lem : (d : Hold Input) (i : Input) (w : ℕ) → merge d i w ≡ merge_by (held_for d) i (kind_of w)
unfolding merge_by held_for
merge_by_lem Free i w = refl
merge_by_lem (Held j h) i w = refl
merge_by_lem (Dropping j h) i w = refl
merge_by_lem (Accepting j h) i w = refl

pub merge-head : (k : Kind) → is_head k ≡ true → merge_free k ≡ Ok tt
merge-head Body e = absurd (grind arith)
merge-head Tail e = absurd (grind arith)
merge-head Head e = refl
merge-head Unused e = absurd (grind arith)

pub merge-later : (k : Kind) → is_head k ≡ false → merge_later k ≡ Ok tt
merge-later Body e = refl
merge-later Tail e = refl
merge-later Head e = absurd (grind arith)
merge-later Unused e = refl
