-- The path of a sent packet has the route at an end on exactly the cards that the packet reaches.
use Rattle.std.proofs.Common.{◌≡◌, ℕ, zero, suc, ◌*◌, ◌<◌, Bool, true, false, cond, ◌||◌, eqb, List, [], ◌∷◌, length, Some, None, Ok, Err, Option, Result, sym, refl, ap, ◌∙◌, subst, arith, eq-eqb, eqb-true}
use Rattle.std.proofs.lemmas.Option.{some_pair_parts}
use Rattle.network.proofs.TripWeights.{further_is}
use Rattle.refusal.specs.declared.send.PacketFault.{PacketFault}
use Rattle.packet.proofs.Moving.{floods-kept, stops-kept}
use Rattle.packet.specs.Heads.{floods, mode_of}
use Rattle.packet.specs.Routes.{advance, side_of, stops, top_bit}
use Rattle.packet.specs.declared.heads.Mode.TheVariants.{Flood, Target}
use Rattle.packet.specs.declared.sides.Side.{Side}
use Rattle.wiring.specs.Shapes.{Shape}
use Rattle.routing.proofs.Subtree.{covers_self, covers_up}
use Rattle.routing.proofs.Ways.{way_down}
use Rattle.routing.specs.Subtrees.{covers}
use Rattle.routing.specs.Walks.{descend, from_daughter}
use Rattle.station.specs.declared.channel.Channel.{Channel}
use Rattle.station.specs.declared.channel.Channel.TheVariants.{DownLink, TurnLink, UpLink}
use Rattle.network.specs.Arrivals.{reaches, reaches_by, reaches_from}
use Rattle.network.specs.Cards.{card_at}
use Rattle.network.specs.Nodes.{Node, above, card_or_zero, down, target, up}
use Rattle.network.specs.Paths.{EndsAt, Passes, PathReaches, Step, begins, climbs, descends, goes, spreads, turns}
use Rattle.network.specs.Sends.{Way, send_way, sent_answer}
use Rattle.network.proofs.Channels.{Rooted, rooted}
use Rattle.network.proofs.Sendings.{Reads, reads-trip, sends_is}
use Rattle.network.proofs.Trip.{further, go_on, trip}

module _ (W : Shape) (L : Rooted W) where
  -- one station less
  further_back : (m : Option (ℕ × ℕ)) (n t : ℕ) → further m ≡ Some (n, t) → (k : ℕ) × (m ≡ Some (k, t))
  further_back m n t e = let (k, q, z) = further_is m n t e in (k, z)

  go_on_back : (f : ℕ → Option (ℕ × ℕ)) (o : Option ℕ) (n t : ℕ) → go_on f o ≡ Some (n, t) → (d : ℕ) × (o ≡ Some d) × (k : ℕ) × (f d ≡ Some (k, t))
  unfolding go_on
  go_on_back f None n t e = absurd (grind arith)
  go_on_back f (Some d) n t e = let (k, z) = further_back (f d) n t e in (d, refl, k, z)

  -- what a trip does at its first station
  up_on : (k c g n t p : ℕ) → top_bit g ≡ true → above W c ≡ Some p → trip W (suc k) (up c) g ≡ Some (n, t) → (m : ℕ) × (trip W k (up p) (advance g) ≡ Some (m, t))
  unfolding trip go_on
  up_on k c g n t p b a e = further_back _ n t (sym (rw (b, a)) ∙ e)

  turn_on : (k c g n t : ℕ) → top_bit g ≡ false → trip W (suc k) (up c) g ≡ Some (n, t) → (m : ℕ) × (trip W k (down c) (advance g) ≡ Some (m, t))
  unfolding trip
  turn_on k c g n t b e = further_back _ n t (sym (rw b) ∙ e)

  down_on : (k c g n t d : ℕ) → stops g ≡ false → W.daughter (side_of (top_bit g)) c ≡ Some d → trip W (suc k) (down c) g ≡ Some (n, t) → (m : ℕ) × (trip W k (down d) (advance g) ≡ Some (m, t))
  unfolding trip go_on
  down_on k c g n t d b a e = further_back _ n t (sym (rw (b, a)) ∙ e)

  stop_on : (k c g n t : ℕ) → stops g ≡ true → trip W k (down c) g ≡ Some (n, t) → c ≡ t
  unfolding trip
  stop_on zero c g n t b e = absurd (grind arith)
  stop_on (suc k) c g n t b e =
      let z : ◌≡◌ {A = Option (ℕ × ℕ)} (Some (0, c)) (Some (n, t)) = sym (rw b) ∙ e in
      (some_pair_parts _ _ _ _ z).1

  -- where the channels lead
  to_parent : (d p : ℕ) → above W d ≡ Some p → target W (UpLink d) ≡ up p
  unfolding target card_or_zero
  to_parent d p a = rw a

  to_own : (d : ℕ) → target W (TurnLink d) ≡ down d
  unfolding target
  to_own d = refl

  to_daughter : (d : ℕ) → target W (DownLink d) ≡ down d
  unfolding target
  to_daughter d = refl

  -- there is a path to the terminus
  module _ (c h : ℕ) where
    abbrev Gets : ℕ → ℕ → Type 0
    Gets f d = (g : ℕ) × Passes W c h (down d) g × (stops g ≡ true) × (floods g ≡ floods f)

    gets_on : (f d : ℕ) → Gets (advance f) d → Gets f d
    gets_on f d (g, p, s, e) = (g, p, s, e ∙ floods-kept f)

    to_end : (k : ℕ) (n : Node) (g m t : ℕ) → Passes W c h n g → trip W k n g ≡ Some (m, t) → Gets g t
    unfolding trip
    to_end zero n g m t p e = absurd (grind arith)
    to_end (suc k) (up d) g m t p e = ways (top_bit g) refl (λ n m q z. to_end k n (advance g) m t q z) e
      where
        ways : (b : Bool) → top_bit g ≡ b → ((n : Node) (m : ℕ) → Passes W c h n (advance g) → trip W k n (advance g) ≡ Some (m, t) → Gets (advance g) t) →
            cond b (go_on (λ p. trip W k (up p) (advance g)) (above W d)) (further (trip W k (down d) (advance g))) ≡ Some (m, t) → Gets g t
        ways true b rec z =
            let (u, a, n, y) = go_on_back _ (above W d) m t z in
            gets_on g t (rec (up u) n (subst (λ (v : Node). Passes W c h v (advance g)) (to_parent d u a) (goes (up d) g (UpLink d) p (climbs d u g b a))) y)
        ways false b rec z =
            let (n, y) = further_back _ m t z in
            gets_on g t (rec (down d) n (subst (λ (v : Node). Passes W c h v (advance g)) (to_own d) (goes (up d) g (TurnLink d) p (turns d g b))) y)
    to_end (suc k) (down d) g m t p e = ways (stops g) refl (λ n m q z. to_end k n (advance g) m t q z) e
      where
        ways : (b : Bool) → stops g ≡ b → ((n : Node) (m : ℕ) → Passes W c h n (advance g) → trip W k n (advance g) ≡ Some (m, t) → Gets (advance g) t) →
            cond b (Some (0, d)) (go_on (λ d. trip W k (down d) (advance g)) (W.daughter (side_of (top_bit g)) d)) ≡ Some (m, t) → Gets g t
        ways true b rec z = (g, subst (λ (v : ℕ). Passes W c h (down v) g) (stop_on (suc k) d g m t b e) p, b, refl)
        ways false b rec z =
            let (u, a, n, y) = go_on_back _ (W.daughter (side_of (top_bit g)) d) m t z in
            gets_on g t (rec (down u) n (subst (λ (v : Node). Passes W c h v (advance g)) (to_daughter u) (goes (down d) g (DownLink u) p (descends d u g b a))) y)

    -- and from there on where it floods
    floods_down : (ss : List Side) (d e g : ℕ) → Passes W c h (down d) g → stops g ≡ true → floods g ≡ true → descend W ss d ≡ Ok e → EndsAt W c h e
    unfolding descend
    floods_down [] d e g p s f z = let y : d ≡ e = cc in (g, subst (λ (v : ℕ). Passes W c h (down v) g) y p, s)
    floods_down (b ∷ ss) d e g p s f z = ways (W.daughter b d) refl z (λ u q y. floods_down ss u e (advance g) q (stops-kept g s) (floods-kept g ∙ f) y)
      where
        ways : (o : Option ℕ) → W.daughter b d ≡ o → from_daughter d (descend W ss) o ≡ Ok e → ((u : ℕ) → Passes W c h (down u) (advance g) → descend W ss u ≡ Ok e → EndsAt W c h e) → EndsAt W c h e
        ways None a y rec = absurd (grind arith)
        ways (Some u) a y rec = rec u (subst (λ (v : Node). Passes W c h v (advance g)) (to_daughter u) (goes (down d) g (DownLink u) p (spreads b d u g s f a))) y

  -- a station of the path stands before the terminus, or in its subtree where the packet floods
  module _ (h t : ℕ) where
    data On : Node → ℕ → Type 0 where
      ahead : (n : Node) (g k m : ℕ) → floods g ≡ floods h → trip W k n g ≡ Some (m, t) → On n g
      inside : (e g : ℕ) → stops g ≡ true → floods h ≡ true → covers W t e ≡ true → On (down e) g

    kept : (g : ℕ) → floods g ≡ floods h → floods (advance g) ≡ floods h
    kept g f = floods-kept g ∙ f

    daughter_in : (b : Side) (d e : ℕ) → W.daughter b d ≡ Some e → covers W t d ≡ true → covers W t e ≡ true
    daughter_in b d e a i = covers_up W L.lawful t e d b (L.lawful.told b d e a) ∙ ways (eqb t e) (covers W t d) i
      where
        ways : (x y : Bool) → y ≡ true → (x || y) ≡ true
        ways true y z = refl
        ways false y z = z

    up_step : (d p g : ℕ) → top_bit g ≡ true → above W d ≡ Some p → On (up d) g → On (target W (UpLink d)) (advance g)
    unfolding trip
    up_step d p g b a (ahead _ _ zero m f e) = absurd (grind arith)
    up_step d p g b a (ahead _ _ (suc k) m f e) =
        let (n, z) = up_on k d g m t p b a e in
        subst (λ (v : Node). On v (advance g)) (sym (to_parent d p a)) (ahead (up p) (advance g) k n (kept g f) z)

    turn_step : (d g : ℕ) → top_bit g ≡ false → On (up d) g → On (target W (TurnLink d)) (advance g)
    unfolding trip
    turn_step d g b (ahead _ _ zero m f e) = absurd (grind arith)
    turn_step d g b (ahead _ _ (suc k) m f e) =
        let (n, z) = turn_on k d g m t b e in
        subst (λ (v : Node). On v (advance g)) (sym (to_own d)) (ahead (down d) (advance g) k n (kept g f) z)

    down_step : (d e g : ℕ) → stops g ≡ false → W.daughter (side_of (top_bit g)) d ≡ Some e → On (down d) g → On (target W (DownLink e)) (advance g)
    unfolding trip
    down_step d u g b a (ahead _ _ zero m f e) = absurd (grind arith)
    down_step d u g b a (ahead _ _ (suc k) m f e) =
        let (n, z) = down_on k d g m t u b a e in
        subst (λ (v : Node). On v (advance g)) (sym (to_daughter u)) (ahead (down u) (advance g) k n (kept g f) z)
    down_step d u g b a (inside _ _ s f i) = absurd (let z : true ≡ false = sym s ∙ b in grind arith)

    spread_step : (b : Side) (d e g : ℕ) → stops g ≡ true → floods g ≡ true → W.daughter b d ≡ Some e → On (down d) g → On (target W (DownLink e)) (advance g)
    spread_step b d u g s l a (ahead _ _ k m f e) =
        let z = stop_on k d g m t s e in
        let i : covers W t d ≡ true = ap (covers W t) z ∙ covers_self W L.lawful t in
        subst (λ (v : Node). On v (advance g)) (sym (to_daughter u)) (inside u (advance g) (stops-kept g s) (sym f ∙ l) (daughter_in b d u a i))
    spread_step b d u g s l a (inside _ _ s' f i) =
        subst (λ (v : Node). On v (advance g)) (sym (to_daughter u)) (inside u (advance g) (stops-kept g s) f (daughter_in b d u a i))

    step_on : (n : Node) (g : ℕ) (o : Channel) → Step W n g o → On n g → On (target W o) (advance g)
    step_on _ _ _ (climbs d p g b a) i = up_step d p g b a i
    step_on _ _ _ (turns d g b) i = turn_step d g b i
    step_on _ _ _ (descends d e g b a) i = down_step d e g b a i
    step_on _ _ _ (spreads b d e g s l a) i = spread_step b d e g s l a i

    passes_on : (c k m : ℕ) → trip W k (up c) h ≡ Some (m, t) → (n : Node) (g : ℕ) → Passes W c h n g → On n g
    passes_on c k m e _ _ begins = ahead (up c) h k m refl e
    passes_on c k m e _ _ (goes n g o p st) = step_on n g o st (passes_on c k m e n g p)

    -- where the route is at an end, the card is reached
    stops_in : (d g : ℕ) → stops g ≡ true → On (down d) g → reaches_from W (cond (floods h) Flood Target) t d ≡ true
    stops_in d g s (ahead _ _ k m f e) = ways (floods h) (stop_on k d g m t s e)
      where
        ways : (b : Bool) → d ≡ t → reaches_from W (cond b Flood Target) t d ≡ true
        ways true z = ap (covers W t) z ∙ covers_self W L.lawful t
        ways false z = eq-eqb t d (sym z)
    stops_in d g s (inside _ _ s' f i) = rw f i

  module _ (c h : ℕ) (hc : c < W.cards) (r : Reads W L c h) where
    reaches_is : (d : ℕ) → reaches W c h d ≡ reaches_from W (cond (floods h) Flood Target) r.terminus d
    unfolding reaches reaches_by floods
    reaches_is d = ap (reaches_by W (mode_of h) d) r.walked

    pub reached-ends : (d : ℕ) → reaches W c h d ≡ true → EndsAt W c h d
    reached-ends d e =
        let (g, p, s, f) = to_end c h (2 * W.cards) (up c) h _ r.terminus begins (reads-trip W L c h hc r) in
        ways (floods h) refl (sym (reaches_is d) ∙ e) g p s f
      where
        ways : (b : Bool) → floods h ≡ b → reaches_from W (cond b Flood Target) r.terminus d ≡ true →
            (g : ℕ) → Passes W c h (down r.terminus) g → stops g ≡ true → floods g ≡ floods h → EndsAt W c h d
        ways true b z g p s f = let (ss, y) = way_down W L.lawful r.terminus d z in floods_down c h ss r.terminus d g p s (f ∙ b) y
        ways false b z g p s f = (g, subst (λ (v : ℕ). Passes W c h (down v) g) (eqb-true r.terminus d z) p, s)

    pub ends-reached : (d : ℕ) → EndsAt W c h d → reaches W c h d ≡ true
    ends-reached d (g, p, s) = reaches_is d ∙ stops_in h r.terminus d g s (passes_on h r.terminus c (2 * W.cards) _ (reads-trip W L c h hc r) (down d) g p)

pub path_reaches : PathReaches
path_reaches W L x c h ws a d = ways (send_way W (length (card_at x c).queue) c (h ∷ ws)) refl a
  where
    ways : (w : Result Way PacketFault) → send_way W (length (card_at x c).queue) c (h ∷ ws) ≡ w → sent_answer w ≡ Ok tt →
        (reaches W c h d ≡ true → EndsAt W c h d) × (EndsAt W c h d → reaches W c h d ≡ true)
    ways (Err f) e z = absurd (grind arith)
    ways (Ok w) e z =
        let s = sends_is W (rooted W L) (length (card_at x c).queue) c (h ∷ ws) w e in
        let r = s.route h ws refl in
        (reached-ends W (rooted W L) c h s.known r d, ends-reached W (rooted W L) c h s.known r d)
