-- The list of cards: what is read after a write.
use Rattle.std.proofs.Common.{◌≡◌, ℕ, ◌<◌, ◌≢◌, List, [], ◌∷◌, ◌++◌, length, Some, None, Option, sym, refl, ap, ◌∙◌, arith, length-set, get_or-set_other, get_or-set_same}
use Rattle.std.specs.List.{AllByRecursion}
use mathlib.Core.Path.{fun_ext}
use native.Mathlib.Decide.{ℕ_discrete}
use Rattle.station.specs.declared.channel.Channel.{Channel}
use Rattle.station.specs.declared.channel.Channel.TheVariants.{DownLink, Queued, TurnLink, UpLink}
use Rattle.station.specs.declared.hold.Hold.{Hold}
use Rattle.station.specs.declared.hold.Input.{Input}
use Rattle.network.specs.Cards.{Card, State, blank, card_at, oldest, on_card, with_down, with_down_link, with_inbox, with_queue, with_turn_link, with_up, with_up_link}
use Rattle.network.specs.Nodes.{Node, card_of, down, number, up}
use Rattle.network.specs.Owed.{hold_in, hold_of, holds, on_link, reads}
use Rattle.network.proofs.Basics.{put_other, put_same}
use Rattle.network.proofs.Channels.{channel_discrete}
use Rattle.network.proofs.Conserve.{Distinct}
use Rattle.network.proofs.Flow.{push_all}
use Rattle.network.proofs.UnderWay.{put}
use Rattle.network.proofs.Outputs.{all_map, all_map₂}

-- one card changed
unfoldable pub change : State → ℕ → (Card → Card) → State
change x c f = on_card x c f

abbrev pub inbox_at : State → ℕ → List ℕ
inbox_at x c = (card_at x c).inbox

pub change-length : (x : State) (c : ℕ) (f : Card → Card) → length (change x c f) ≡ length x
unfolding change
change-length x c f = length-set x c (f (card_at x c))

pub change_same : (x : State) (c : ℕ) (f : Card → Card) → c < length x → card_at (change x c f) c ≡ f (card_at x c)
unfolding change
change_same x c f h = get_or-set_same x c (f (card_at x c)) blank h

pub change_other : (x : State) (c d : ℕ) (f : Card → Card) → d ≢ c → card_at (change x c f) d ≡ card_at x d
unfolding change
change_other x c d f n = get_or-set_other x c d (f (card_at x c)) blank n

-- a part of a card that a change leaves alone
pub change-part : {A : Type 0} (g : Card → A) (x : State) (c d : ℕ) (f : Card → Card) → c < length x → (d ≡ c → (k : Card) → g (f k) ≡ g k) → g (card_at (change x c f) d) ≡ g (card_at x d)
change-part g x c d f h e =
    elim (ℕ_discrete d c) [
      | yes p ↦ rw (p, change_same x c f h) (e p (card_at x c))
      | no n ↦ ap g (change_other x c d f n)
    ]

-- the card with the words l in its channel; a link takes the first alone
unfoldable pub filled : Channel → List ℕ → Card → Card
filled (Queued c) l k = with_queue l k
filled (UpLink c) l k = with_up_link (oldest l) k
filled (TurnLink c) l k = with_turn_link (oldest l) k
filled (DownLink c) l k = with_down_link (oldest l) k

unfoldable pub pour : State → Channel → List ℕ → State
pour x o l = change x (number o) (filled o l)

-- the word w written to all these links
unfoldable pub write_all : State → List Channel → ℕ → State
write_all x [] w = x
write_all x (o ∷ os) w = write_all (pour x o (w ∷ [])) os w

-- what a channel keeps of the words poured into it
unfoldable pub keeps : Channel → List ℕ → List ℕ
keeps (Queued c) l = l
keeps (UpLink c) l = on_link (oldest l)
keeps (TurnLink c) l = on_link (oldest l)
keeps (DownLink c) l = on_link (oldest l)

filled_same : (o : Channel) (l : List ℕ) (k : Card) → holds o (filled o l k) ≡ keeps o l
unfolding holds filled keeps
filled_same (Queued c) l k = refl
filled_same (UpLink c) l k = refl
filled_same (TurnLink c) l k = refl
filled_same (DownLink c) l k = refl

filled_other : (o p : Channel) (l : List ℕ) (k : Card) → number p ≡ number o → p ≢ o → holds p (filled o l k) ≡ holds p k
unfolding holds filled number
filled_other (Queued c) (Queued d) l k e n = absurd (n (ap Queued e))
filled_other (Queued c) (UpLink d) l k e n = refl
filled_other (Queued c) (TurnLink d) l k e n = refl
filled_other (Queued c) (DownLink d) l k e n = refl
filled_other (UpLink c) (Queued d) l k e n = refl
filled_other (UpLink c) (UpLink d) l k e n = absurd (n (ap UpLink e))
filled_other (UpLink c) (TurnLink d) l k e n = refl
filled_other (UpLink c) (DownLink d) l k e n = refl
filled_other (TurnLink c) (Queued d) l k e n = refl
filled_other (TurnLink c) (UpLink d) l k e n = refl
filled_other (TurnLink c) (TurnLink d) l k e n = absurd (n (ap TurnLink e))
filled_other (TurnLink c) (DownLink d) l k e n = refl
filled_other (DownLink c) (Queued d) l k e n = refl
filled_other (DownLink c) (UpLink d) l k e n = refl
filled_other (DownLink c) (TurnLink d) l k e n = refl
filled_other (DownLink c) (DownLink d) l k e n = absurd (n (ap DownLink e))

pub keeps-one : (o : Channel) (w : ℕ) → keeps o (w ∷ []) ≡ w ∷ []
unfolding keeps on_link
keeps-one (Queued c) w = refl
keeps-one (UpLink c) w = refl
keeps-one (TurnLink c) w = refl
keeps-one (DownLink c) w = refl

link_rest : (l : Option ℕ) (w : ℕ) (ws : List ℕ) → on_link l ≡ w ∷ ws → on_link (oldest ws) ≡ ws
unfolding on_link
link_rest None w ws e = absurd (grind arith)
link_rest (Some v) w ws e = let z : [] ≡ ws = cc in rw (← z)

keeps-rest : (o : Channel) (k : Card) (w : ℕ) (ws : List ℕ) → holds o k ≡ w ∷ ws → keeps o ws ≡ ws
unfolding keeps holds
keeps-rest (Queued c) k w ws e = refl
keeps-rest (UpLink c) k w ws e = link_rest k.up_link w ws e
keeps-rest (TurnLink c) k w ws e = link_rest k.turn_link w ws e
keeps-rest (DownLink c) k w ws e = link_rest k.down_link w ws e

-- reading after pouring
pub pour_same : (x : State) (o : Channel) (l : List ℕ) → number o < length x → reads (pour x o l) o ≡ keeps o l
unfolding reads pour
pour_same x o l h = ap (holds o) (change_same x (number o) (filled o l) h) ∙ filled_same o l (card_at x (number o))

pub pour_other : (x : State) (o p : Channel) (l : List ℕ) → number o < length x → p ≢ o → reads (pour x o l) p ≡ reads x p
unfolding reads pour
pour_other x o p l h n = change-part (holds p) x (number o) (number p) (filled o l) h (λ e k. filled_other o p l k e n)

pub pour-rest : (x : State) (o : Channel) (w : ℕ) (ws : List ℕ) → number o < length x → reads x o ≡ w ∷ ws → reads (pour x o ws) o ≡ ws
unfolding reads
pour-rest x o w ws h e = pour_same x o ws h ∙ keeps-rest o (card_at x (number o)) w ws e

pub pour-length : (x : State) (o : Channel) (l : List ℕ) → length (pour x o l) ≡ length x
unfolding pour
pour-length x o l = change-length x (number o) (filled o l)

pub pour_hold : (x : State) (o : Channel) (l : List ℕ) (s : Node) → number o < length x → hold_of (pour x o l) s ≡ hold_of x s
unfolding hold_of pour hold_in filled
pour_hold x o l s h = change-part (hold_in s) x (number o) (card_of s) (filled o l) h (λ e k. same s o k)
  where
    same : (s : Node) (o : Channel) (k : Card) → hold_in s (filled o l k) ≡ hold_in s k
    same (up c) (Queued d) k = refl
    same (up c) (UpLink d) k = refl
    same (up c) (TurnLink d) k = refl
    same (up c) (DownLink d) k = refl
    same (down c) (Queued d) k = refl
    same (down c) (UpLink d) k = refl
    same (down c) (TurnLink d) k = refl
    same (down c) (DownLink d) k = refl

pub pour_inbox : (x : State) (o : Channel) (l : List ℕ) (c : ℕ) → number o < length x → inbox_at (pour x o l) c ≡ inbox_at x c
unfolding pour filled
pour_inbox x o l c h = change-part (λ k. k.inbox) x (number o) c (filled o l) h (λ e k. same o k)
  where
    same : (o : Channel) (k : Card) → (filled o l k).inbox ≡ k.inbox
    same (Queued d) k = refl
    same (UpLink d) k = refl
    same (TurnLink d) k = refl
    same (DownLink d) k = refl

-- writing to free links
pub writes : (os : List Channel) (x : State) (w : ℕ) → Distinct os → AllByRecursion (λ o. (number o < length x) × (reads x o ≡ [])) os → (p : Channel) → reads (write_all x os w) p ≡ push_all os w (reads x) p
unfolding write_all push_all
writes [] x w d a p = refl
writes (o ∷ os) x w d a p =
    let y : State = pour x o (w ∷ []) in
    let same : (q : Channel) → reads y q ≡ put channel_discrete (reads x) o (reads x o ++ (w ∷ [])) q = λ q.
    elim (channel_discrete q o) [
      | yes e ↦ rw (e, put_same channel_discrete (reads x) o (reads x o ++ (w ∷ [])), pour_same x o (w ∷ []) a.0.0, keeps-one o w, a.0.1)
      | no n ↦ pour_other x o q (w ∷ []) a.0.0 n ∙ sym (put_other channel_discrete (reads x) o (reads x o ++ (w ∷ [])) q n)
    ] in
    let later : AllByRecursion (λ o. (number o < length y) × (reads y o ≡ [])) os =
    all_map₂ _ _ _ (λ q n m. (rw (pour-length x o (w ∷ [])) m.0, pour_other x o q (w ∷ []) a.0.0 n ∙ m.1)) os d.0 a.1 in
    writes os y w d.1 later p ∙ ap (λ (f : Channel → List ℕ). push_all os w f p) (fun_ext same)

pub writes_keep : (os : List Channel) (x : State) (w : ℕ) → AllByRecursion (λ o. number o < length x) os →
    (length (write_all x os w) ≡ length x) × ((s : Node) → hold_of (write_all x os w) s ≡ hold_of x s) × ((c : ℕ) → inbox_at (write_all x os w) c ≡ inbox_at x c)
unfolding write_all
writes_keep [] x w a = (refl, λ s. refl, λ c. refl)
writes_keep (o ∷ os) x w a =
    let l = pour-length x o (w ∷ []) in
    let r = writes_keep os (pour x o (w ∷ [])) w (all_map _ _ (λ q m. rw l m) os a.1) in
    (r.0 ∙ l, λ s. r.1 s ∙ pour_hold x o (w ∷ []) s a.0, λ c. r.2 c ∙ pour_inbox x o (w ∷ []) c a.0)

-- the card with its station standing so
unfoldable pub standing : Node → Hold Input → Card → Card
standing (up c) d k = with_up d k
standing (down c) d k = with_down d k

unfoldable pub stand : State → Node → Hold Input → State
stand x s d = change x (card_of s) (standing s d)

-- reading after a station has moved
module _ (x : State) (s : Node) (d : Hold Input) (h : card_of s < length x) where
  pub stand-length : length (stand x s d) ≡ length x
  unfolding stand
  stand-length = change-length x (card_of s) (standing s d)

  pub stand-reads : (o : Channel) → reads (stand x s d) o ≡ reads x o
  unfolding reads stand standing holds
  stand-reads o = change-part (holds o) x (card_of s) (number o) (standing s d) h (λ e k. same s o k)
    where
      same : (s : Node) (o : Channel) (k : Card) → holds o (standing s d k) ≡ holds o k
      same (up c) (Queued d) k = refl
      same (up c) (UpLink d) k = refl
      same (up c) (TurnLink d) k = refl
      same (up c) (DownLink d) k = refl
      same (down c) (Queued d) k = refl
      same (down c) (UpLink d) k = refl
      same (down c) (TurnLink d) k = refl
      same (down c) (DownLink d) k = refl

  pub stand_same : hold_of (stand x s d) s ≡ d
  unfolding hold_of stand standing hold_in
  stand_same = ap (hold_in s) (change_same x (card_of s) (standing s d) h) ∙ same s (card_at x (card_of s))
    where
      same : (s : Node) (k : Card) → hold_in s (standing s d k) ≡ d
      same (up c) k = refl
      same (down c) k = refl

  pub stand_other : (t : Node) → t ≢ s → hold_of (stand x s d) t ≡ hold_of x t
  unfolding hold_of stand standing hold_in card_of
  stand_other t n = change-part (hold_in t) x (card_of s) (card_of t) (standing s d) h (λ e k. same t s e n k)
    where
      same : (t s : Node) → card_of t ≡ card_of s → t ≢ s → (k : Card) → hold_in t (standing s d k) ≡ hold_in t k
      same (up c) (up e) p n k = absurd (n (ap up p))
      same (up c) (down e) p n k = refl
      same (down c) (up e) p n k = refl
      same (down c) (down e) p n k = absurd (n (ap down p))

  pub stand_inbox : (c : ℕ) → inbox_at (stand x s d) c ≡ inbox_at x c
  unfolding stand standing
  stand_inbox c = change-part (λ k. k.inbox) x (card_of s) c (standing s d) h (λ e k. same s k)
    where
      same : (s : Node) (k : Card) → (standing s d k).inbox ≡ k.inbox
      same (up c) k = refl
      same (down c) k = refl

unfoldable pub boxed : State → ℕ → List ℕ → State
boxed x c l = change x c (with_inbox l)

-- reading after an inbox is set
module _ (x : State) (c : ℕ) (l : List ℕ) (h : c < length x) where
  pub boxed-length : length (boxed x c l) ≡ length x
  unfolding boxed
  boxed-length = change-length x c (with_inbox l)

  pub boxed-reads : (o : Channel) → reads (boxed x c l) o ≡ reads x o
  unfolding reads boxed holds
  boxed-reads o = change-part (holds o) x c (number o) (with_inbox l) h (λ e k. same o k)
    where
      same : (o : Channel) (k : Card) → holds o (with_inbox l k) ≡ holds o k
      same (Queued d) k = refl
      same (UpLink d) k = refl
      same (TurnLink d) k = refl
      same (DownLink d) k = refl

  pub boxed_hold : (s : Node) → hold_of (boxed x c l) s ≡ hold_of x s
  unfolding hold_of boxed hold_in
  boxed_hold s = change-part (hold_in s) x c (card_of s) (with_inbox l) h (λ e k. same s k)
    where
      same : (s : Node) (k : Card) → hold_in s (with_inbox l k) ≡ hold_in s k
      same (up c) k = refl
      same (down c) k = refl

  pub boxed_inbox : (d : ℕ) → inbox_at (boxed x c l) d ≡ put ℕ_discrete (λ c. inbox_at x c) c l d
  unfolding boxed
  boxed_inbox d =
      elim (ℕ_discrete d c) [
        | yes e ↦ rw e (ap (λ (k : Card). k.inbox) (change_same x c (with_inbox l) h) ∙ sym (put_same ℕ_discrete (λ c. inbox_at x c) c l))
        | no n ↦ ap (λ (k : Card). k.inbox) (change_other x c d (with_inbox l) n) ∙ sym (put_other ℕ_discrete (λ c. inbox_at x c) c l d n)
      ]
