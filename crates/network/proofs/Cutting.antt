-- Words in which every packet is ended are a list of whole arrivals.
use Rattle.std.proofs.Common.{◌≡◌, ℕ, ◌+◌, Bool, true, false, cond, not, ◌&&◌, List, [], ◌∷◌, ◌++◌, sym, refl, ap, ◌∙◌, append_assoc, append-nil, arith}
use Rattle.network.proofs.Basics.{next_end, next_not}
use Rattle.std.proofs.lemmas.Bool.{and_from}
use Rattle.packet.specs.Packets.{is_tail_word}
use Rattle.network.specs.Arrivals.{all_whole, is_whole}
use Rattle.network.specs.Sums.{count, joined, same_words, sum_over}
use Rattle.network.proofs.History.{last_tail, whole_as}
use Rattle.network.proofs.UnderWay.{along, next, rest}

-- the words cut after each tail, q those before the first word
unfoldable pub parcels : List ℕ → List ℕ → List (List ℕ)
parcels q [] = []
parcels q (w ∷ ws) = cond (is_tail_word w) ((q ++ (w ∷ [])) ∷ parcels [] ws) (parcels (q ++ (w ∷ [])) ws)

pub joined_all : (ws q : List ℕ) → rest q ws ≡ [] → joined (parcels q ws) ≡ q ++ ws
unfolding parcels joined rest
joined_all [] q e = sym e ∙ sym (append-nil q)
joined_all (w ∷ ws) q e = ways (is_tail_word w) refl (λ q f. joined_all ws q f)
  where
    ways : (b : Bool) → is_tail_word w ≡ b → ((q : List ℕ) → rest q ws ≡ [] → joined (parcels q ws) ≡ q ++ ws) →
        joined (cond b ((q ++ (w ∷ [])) ∷ parcels [] ws) (parcels (q ++ (w ∷ [])) ws)) ≡ q ++ (w ∷ ws)
    ways true t rec = ap (λ (l : List ℕ). (q ++ (w ∷ [])) ++ l) (rec [] (sym (ap (λ (q : List ℕ). rest q ws) (next_end q w t)) ∙ e)) ∙ append_assoc q (w ∷ []) ws
    ways false t rec = rec (q ++ (w ∷ [])) (sym (ap (λ (q : List ℕ). rest q ws) (next_not q w t)) ∙ e) ∙ append_assoc q (w ∷ []) ws

-- no tail among the words
unfoldable pub no_tail : List ℕ → Bool
no_tail [] = true
no_tail (w ∷ ws) = not (is_tail_word w) && no_tail ws

no_more : (q : List ℕ) (w : ℕ) → no_tail q ≡ true → is_tail_word w ≡ false → no_tail (q ++ (w ∷ [])) ≡ true
unfolding no_tail
no_more [] w n t = rw t
no_more (v ∷ q) w n t = ways (is_tail_word v) n (λ m. no_more q w m t)
  where
    ways : (b : Bool) → not b && no_tail q ≡ true → (no_tail q ≡ true → no_tail (q ++ (w ∷ [])) ≡ true) → not b && no_tail (q ++ (w ∷ [])) ≡ true
    ways true n rec = n
    ways false n rec = rec n

ends-one : (q : List ℕ) (w : ℕ) → no_tail q ≡ true → is_tail_word w ≡ true → is_whole (q ++ (w ∷ [])) ≡ true
unfolding no_tail is_whole
ends-one [] w n t = t
ends-one (v ∷ []) w n t = ways (is_tail_word v) n
  where
    ways : (b : Bool) → not b && true ≡ true → not b && is_tail_word w ≡ true
    ways true n = n
    ways false n = t
ends-one (v ∷ u ∷ q) w n t = ways (is_tail_word v) n (λ m. ends-one (u ∷ q) w m t)
  where
    ways : (b : Bool) → not b && no_tail (u ∷ q) ≡ true → (no_tail (u ∷ q) ≡ true → is_whole ((u ∷ q) ++ (w ∷ [])) ≡ true) → not b && is_whole ((u ∷ q) ++ (w ∷ [])) ≡ true
    ways true n rec = n
    ways false n rec = rec n

pub whole_all : (ws q : List ℕ) → no_tail q ≡ true → all_whole (parcels q ws) ≡ true
unfolding parcels all_whole no_tail
whole_all [] q n = refl
whole_all (w ∷ ws) q n = ways (is_tail_word w) refl (λ q n. whole_all ws q n)
  where
    ways : (b : Bool) → is_tail_word w ≡ b → ((q : List ℕ) → no_tail q ≡ true → all_whole (parcels q ws) ≡ true) →
        all_whole (cond b ((q ++ (w ∷ [])) ∷ parcels [] ws) (parcels (q ++ (w ∷ [])) ws)) ≡ true
    ways true t rec = and_from _ _ (ends-one q w n t) (rec [] refl)
    ways false t rec = rec (q ++ (w ∷ [])) (no_more q w n t)

pub last_tail_lem : (q : List ℕ) (w : ℕ) → last_tail (q ++ (w ∷ [])) ≡ is_tail_word w
unfolding last_tail
last_tail_lem [] w = refl
last_tail_lem (v ∷ []) w = refl
last_tail_lem (v ∷ u ∷ q) w = last_tail_lem (u ∷ q) w

pub count_all : (l ws q : List ℕ) → count (λ a. same_words a l) (parcels q ws) ≡ along (whole_as l) q ws
unfolding parcels count along whole_as sum_over
count_all l [] q = refl
count_all l (w ∷ ws) q = ways (is_tail_word w) refl (λ q. count_all l ws q)
  where
    ways : (b : Bool) → is_tail_word w ≡ b → ((q : List ℕ) → count (λ a. same_words a l) (parcels q ws) ≡ along (whole_as l) q ws) →
        count (λ a. same_words a l) (cond b ((q ++ (w ∷ [])) ∷ parcels [] ws) (parcels (q ++ (w ∷ [])) ws)) ≡ cond (last_tail (q ++ (w ∷ [])) && same_words (q ++ (w ∷ [])) l) 1 0 + along (whole_as l) (next q w) ws
    ways true t rec = rw (next_end q w t, last_tail_lem q w, t) (ap (λ (n : ℕ). cond (same_words (q ++ (w ∷ [])) l) 1 0 + n) (rec []))
    ways false t rec = rw (next_not q w t, last_tail_lem q w, t) (let r = rec (q ++ (w ∷ [])) in omega arith)
