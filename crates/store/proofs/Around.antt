-- Words round a ring of 64 places.
use Rattle.std.proofs.Common.{rules, ◌≡◌, ℕ, zero, suc, ◌+◌, ◌-◌, ◌%◌, ◌^◌, ◌<◌, ◌≤◌, ◌≢◌, inl, inr, List, [], ◌∷◌, ◌++◌, length, get_or, set, Some, refl, sym, ap, ◌∙◌, add-zero, arith, get_or-set_other, get_or-set_same, length-append, append_assoc}
use lib.Lanes.{put_chunk}
use borrow.Rule.Slice.PartMut.{put_mid}
use Rattle.std.proofs.lemmas.Bool.{cases_lt}
use Rattle.std.proofs.lemmas.List.{places, same_lists, get_or_default, get_or_append_left, get_or-append_right}
use Rattle.std.proofs.lemmas.Simd.{put_chunk_is, get_or-put_chunk_below, get_or-put_chunk_at, get_or-put_chunk_above}
use Rattle.network.specs.Cards.{oldest, younger}
use Rattle.store.specs.Rings.{around, waiting}

pub length-around : (ws : List ℕ) (f n : ℕ) → length (around ws f n) ≡ n
length-around ws f zero = refl
length-around ws f (suc n) = ap suc (length-around ws (f + 1) n)

get_or-around : (ws : List ℕ) (f n i d : ℕ) → i < n → get_or (around ws f n) i d ≡ get_or ws ((f + i) % 64) 0
get_or-around ws f zero i d l = absurd (omega arith)
get_or-around ws f (suc n) zero d l = rw add-zero refl
get_or-around ws f (suc n) (suc i) d l =
    let e : f + 1 + i ≡ f + suc i = omega arith in
    get_or-around ws (f + 1) n i d (omega arith) ∙ ap (λ (j : ℕ). get_or ws (j % 64) 0) e

-- only the place in the ring counts
pub around_same : (ws : List ℕ) (f g n : ℕ) → f % 64 ≡ g % 64 → around ws f n ≡ around ws g n
around_same ws f g zero e = refl
around_same ws f g (suc n) e =
    let h : (f + 1) % 64 ≡ (g + 1) % 64 = omega arith in
    rw e (ap (λ t. get_or ws (g % 64) 0 ∷ t) (around_same ws (f + 1) (g + 1) n h))

-- words that stayed, and others behind them
around_behind : (ws vs xs : List ℕ) (f n : ℕ) → ((i : ℕ) → i < n → get_or vs ((f + i) % 64) 0 ≡ get_or ws ((f + i) % 64) 0) →
    ((i : ℕ) → i < length xs → get_or vs ((f + n + i) % 64) 0 ≡ get_or xs i 0) → around vs f (n + length xs) ≡ around ws f n ++ xs
around_behind ws vs xs f n stayed written =
    let a = length-around ws f n in
    let b = length-around vs f (n + length xs) in
    same_lists _ _ (omega (arith, length-append (around ws f n) xs)) (λ i d l.
    get_or-around vs f (n + length xs) i d (omega arith) ∙ elim (cases_lt i n) [
      | inl h ↦ stayed i h ∙ (sym (get_or-around ws f n i d h) ∙ sym (get_or_append_left (around ws f n) xs d i (omega arith)))
      | inr h ↦
          let e : f + i ≡ f + n + (i - n) = omega arith in
          ap (λ (j : ℕ). get_or vs (j % 64) 0) e ∙ (written (i - n) (omega arith) ∙
          (get_or_default xs (i - n) 0 d (omega arith) ∙ sym (get_or-append_right (around ws f n) xs n i d a h)))
    ])

pub around_push : (ws : List ℕ) (f n p w : ℕ) → length ws ≡ 64 → (f + n) % 64 ≡ p → n < 64 → around (set ws p w) f (n + 1) ≡ around ws f n ++ w ∷ []
around_push ws f n p w l at h =
    around_behind ws (set ws p w) (w ∷ []) f n
    (λ i b. let ne : (f + i) % 64 ≢ p = omega arith in rw get_or-set_other refl)
    (λ i b. let z : i ≡ 0 = omega arith in let lt : p < length ws = omega arith in rw (z, add-zero, at, get_or-set_same) refl)

-- words copied in from the next place on
pub around_copied : (ws xs : List ℕ) (f n p k : ℕ) → length ws ≡ 64 → (f + n) % 64 ≡ p → n + length xs ≤ 64 → p + length xs ≤ 64 → k ≡ length xs →
    around (put_mid p k ws xs) f (n + length xs) ≡ around ws f n ++ xs
around_copied ws xs f n p k l at few fits same =
    let c = put_chunk_is p ws xs (omega arith) in
    let e : put_mid p k ws xs ≡ put_chunk p ws xs = rw same (sym c) in
    rw e (around_behind ws (put_chunk p ws xs) xs f n
    (λ i b. elim (cases_lt ((f + i) % 64) p) [
      | inl h ↦ get_or-put_chunk_below p ws xs ((f + i) % 64) 0 h
      | inr h ↦ get_or-put_chunk_above p ws xs ((f + i) % 64) 0 (omega arith)
    ])
    (λ i b.
    let z : (f + n + i) % 64 ≡ p + i = omega arith in
    ap (λ (j : ℕ). get_or (put_chunk p ws xs) j 0) z ∙ get_or-put_chunk_at p ws xs i 0 b (omega arith)))

-- words copied in up to the last place, and the others from the first one on
pub around_copied_round : (ws xs front back : List ℕ) (f n p : ℕ) → length ws ≡ 64 → (f + n) % 64 ≡ p → n + length xs ≤ 64 → xs ≡ front ++ back → p + length front ≡ 64 →
    around (put_mid 0 (length back) (put_mid p (64 - p) ws front) back) f (n + length xs) ≡ around ws f n ++ xs
around_copied_round ws xs front back f n p l at few split end =
    let vs : List ℕ = put_mid p (64 - p) ws front in
    let m : length vs ≡ 64 = search (rules, places) in
    let s : length xs ≡ length front + length back = ap length split ∙ length-append front back in
    let a = around_copied ws front f n p (64 - p) l at (omega arith) (omega arith) (omega arith) in
    let b = around_copied vs back f (n + length front) 0 (length back) m (omega arith) (omega arith) (omega arith) refl in
    let e : n + length xs ≡ n + length front + length back = omega arith in
    rw (e, split) (b ∙ (ap (λ (t : List ℕ). t ++ back) a ∙ append_assoc (around ws f n) front back))

pub next_place : (t a : ℕ) → t < 2 ^ 32 → a < 2 ^ 32 → (t + waiting t a) % 64 ≡ a % 64
next_place t a l k = omega arith

pub waiting_more : (t a m : ℕ) → t < 2 ^ 32 → a < 2 ^ 32 → waiting t a + m ≤ 64 → waiting t ((a + m) % 2 ^ 32) ≡ waiting t a + m
waiting_more t a m l k h = omega arith

-- without the oldest word the ring starts at the next place
younger_from : (ws : List ℕ) (f g n m : ℕ) → g % 64 ≡ (f + 1) % 64 → n ≡ m + 1 → around ws g m ≡ younger (around ws f n)
younger_from ws f g zero m e h = absurd (omega arith)
younger_from ws f g (suc n) m e h = let z : m ≡ n = omega arith in rw z (around_same ws g (f + 1) n e)

pub younger_next : (ws : List ℕ) (t a : ℕ) → t < 2 ^ 32 → a < 2 ^ 32 → t ≢ a →
    around ws ((t + 1) % 2 ^ 32) (waiting ((t + 1) % 2 ^ 32) a) ≡ younger (around ws t (waiting t a))
younger_next ws t a l k ne =
    younger_from ws t ((t + 1) % 2 ^ 32) (waiting t a) (waiting ((t + 1) % 2 ^ 32) a) (omega arith) (omega arith)

-- a ring with an oldest word is not empty
pub some_oldest : (ws : List ℕ) (t a w : ℕ) → t < 2 ^ 32 → a < 2 ^ 32 → oldest (around ws t (waiting t a)) ≡ Some w → t ≢ a
some_oldest ws t a w l k e = by _ e (length-around ws t (waiting t a))
  where
    by : (vs : List ℕ) → oldest vs ≡ Some w → length vs ≡ waiting t a → t ≢ a
    by [] e n = grind arith
    by (v ∷ vs) e n = omega arith

-- an empty ring has no younger words
pub younger_none : (ws : List ℕ) (t a : ℕ) → t < 2 ^ 32 → t ≡ a → around ws t (waiting t a) ≡ younger (around ws t (waiting t a))
younger_none ws t a l e = let z : waiting t a ≡ 0 = omega arith in rw z refl
