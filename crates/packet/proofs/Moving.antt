-- A route moved up by one bit, over any width.
use Rattle.std.proofs.Common.{◌≡◌, ℕ, zero, suc, ◌+◌, ◌-◌, ◌*◌, ◌/◌, ◌%◌, ◌^◌, Bool, true, false, not, eqb, List, [], ◌∷◌, ◌++◌, sym, refl, ap, ◌∙◌, ap₂, mod-lt, mul-add, one-add, arith, shr-shr, eq-eqb, ne_eqb, eqb-true}
use native.Mathlib.Nat.{two-pow-succ, zero-mod}
use lib.Pow.{mod-mod-pow}
use Rattle.std.proofs.lemmas.Nat.{pow_pos, shr_split, shr_high, mod_low}
use Rattle.packet.specs.declared.words.Kind.{Kind}
use Rattle.packet.specs.declared.words.Kind.TheVariants.{Body, Tail, Head, Unused}
use Rattle.packet.specs.Words.{kind_of, kind_numbered}
use Rattle.packet.specs.Packets.{is_head, is_tail, is_head_word, is_tail_word}
use Rattle.packet.specs.Routes.{route_width, bits_from, route_bits, low_bits, top_bit, shifted, advance, stops, has_one, ups_of, after_turn, before_stop}
use Rattle.packet.specs.Heads.{floods, stamped}
use Rattle.packet.proofs.Bits.{bits_same, bits_last, has_one_lem}
use Rattle.packet.proofs.Reading.{one_zero, before_zero}

-- the low bits, doubled
doubled : (k n : ℕ) → (2 * n) % 2 ^ suc k ≡ 2 * (n % 2 ^ k)
doubled k n =
    let e = shr_split n k in
    let p = two-pow-succ k in
    let l = mod-lt n (pow_pos k) in
    let d : n / 2 ^ k * 2 ^ suc k ≡ n / 2 ^ k * 2 ^ k + n / 2 ^ k * 2 ^ k = ap (λ (x : ℕ). n / 2 ^ k * x) p ∙ mul-add (n / 2 ^ k) (2 ^ k) (2 ^ k) in
    let s : 2 * n ≡ n / 2 ^ k * 2 ^ suc k + 2 * (n % 2 ^ k) = omega arith in
    ap (λ (x : ℕ). x % 2 ^ suc k) s ∙ mod_low (n / 2 ^ k) (suc k) (2 * (n % 2 ^ k)) (omega arith)

-- a shifted number: its low bits and the bits above them
shifted_low : (k n : ℕ) → shifted k n % 2 ^ k ≡ (2 * n) % 2 ^ k
unfolding shifted
shifted_low k n = mod_low (n / 2 ^ k) k ((2 * n) % 2 ^ k) (mod-lt (2 * n) (pow_pos k))

shifted_high : (k j n : ℕ) → shifted k n / 2 ^ (k + j) ≡ n / 2 ^ (k + j)
unfolding shifted
shifted_high k j n =
    sym (shr-shr (shifted k n) k j) ∙ (ap (λ (x : ℕ). x / 2 ^ j) (shr_high (n / 2 ^ k) k ((2 * n) % 2 ^ k) (mod-lt (2 * n) (pow_pos k))) ∙ shr-shr n k j)

-- the bits below the highest move up, and a 0 enters below them
pub bits_shifted : (k n : ℕ) → bits_from (suc k) (shifted (suc k) n) ≡ bits_from k n ++ (false ∷ [])
bits_shifted k n =
    let h : (2 * n) / 2 ≡ n = omega arith in
    let z : (2 * n) / 1 % 2 ≡ 0 = omega arith in
    bits_same (suc k) (shifted (suc k) n) (2 * n) (shifted_low (suc k) n) ∙
    (bits_last k (2 * n) ∙ ap₂ (λ (m b : ℕ). bits_from k m ++ (eqb b 1 ∷ [])) h z)

pub route_top : (h : ℕ) → route_bits h ≡ top_bit h ∷ low_bits h
unfolding route_bits top_bit low_bits bits_from
route_top h = refl

pub moved_bits : (h : ℕ) → route_bits (advance h) ≡ low_bits h ++ (false ∷ [])
unfolding route_bits low_bits advance
moved_bits h = bits_shifted (route_width - 1) h

-- no 1 below the highest bit
double_zero : (n : ℕ) → eqb (2 * n) 0 ≡ eqb n 0
double_zero zero = refl
double_zero (suc n) = ne_eqb (2 * suc n) 0 (λ e. omega arith) ∙ sym (ne_eqb (suc n) 0 (λ e. omega arith))

pub none_below : (k n : ℕ) → eqb ((2 * n) % 2 ^ suc k) 0 ≡ eqb (n % 2 ^ k) 0
none_below k n = ap (λ (x : ℕ). eqb x 0) (doubled k n) ∙ double_zero (n % 2 ^ k)

pub low_stops : (h : ℕ) (b : Bool) → stops h ≡ b → has_one (low_bits h) ≡ not b
unfolding stops low_bits
low_stops h b e = has_one_lem k h ∙ ap not (sym (none_below k h) ∙ e)
  where
    k : ℕ
    k = route_width - 1

none_kept : (k n : ℕ) → (2 * n) % 2 ^ suc k ≡ 0 → (2 * shifted (suc k) n) % 2 ^ suc k ≡ 0
none_kept k n e =
    let m : ℕ = shifted (suc k) n in
    let z : m % 2 ^ (1 + k) ≡ 0 = rw (one-add k) (shifted_low (suc k) n ∙ e) in
    let l : m % 2 ^ k ≡ 0 = sym (mod-mod-pow m 1 k) ∙ (ap (λ (x : ℕ). x % 2 ^ k) z ∙ zero-mod (2 ^ k)) in
    doubled k m ∙ ap (λ (x : ℕ). 2 * x) l

pub stops-kept : (h : ℕ) → stops h ≡ true → stops (advance h) ≡ true
unfolding stops advance
stops-kept h e =
    let z = eqb-true ((2 * h) % 2 ^ route_width) 0 e in
    eq-eqb ((2 * shifted route_width h) % 2 ^ route_width) 0 (none_kept (route_width - 1) h z)

-- the bits above the route stay
pub floods-kept : (h : ℕ) → floods (advance h) ≡ floods h
unfolding floods advance
floods-kept h = ap (λ (x : ℕ). eqb (x % 2) 1) (shifted_high route_width (29 - route_width) h)

kind_kept : (h : ℕ) → kind_of (advance h) ≡ kind_of h
unfolding advance
kind_kept h = ap (λ (x : ℕ). kind_numbered (x % 4)) (shifted_high route_width (30 - route_width) h)

pub head-kept : (h : ℕ) → is_head_word (advance h) ≡ is_head_word h
unfolding is_head_word
head-kept h = ap is_head (kind_kept h)

pub tail_kept : (h : ℕ) → is_tail_word (advance h) ≡ is_tail_word h
unfolding is_tail_word
tail_kept h = ap is_tail (kind_kept h)

-- a word has one kind
pub head_not_tail : (w : ℕ) → is_head_word w ≡ true → is_tail_word w ≡ false
unfolding is_head_word is_tail_word
head_not_tail w e = one_kind (kind_of w) e
  where
    one_kind : (k : Kind) → is_head k ≡ true → is_tail k ≡ false
    one_kind Body e = refl
    one_kind Tail e = absurd (grind arith)
    one_kind Head e = refl
    one_kind Unused e = refl

-- a class is written below the kind
stamp_kind : (w v : ℕ) → kind_of (stamped w v) ≡ kind_of w
stamp_kind w v =
    let e : stamped w v / 2 ^ 30 ≡ w / 2 ^ 30 = omega arith in
    ap (λ (x : ℕ). kind_numbered (x % 4)) e

pub stamp_tail : (w v : ℕ) → is_tail_word (stamped w v) ≡ is_tail_word w
unfolding is_tail_word
stamp_tail w v = ap is_tail (stamp_kind w v)

pub stamp_head : (w v : ℕ) → is_head_word (stamped w v) ≡ is_head_word w
unfolding is_head_word
stamp_head w v = ap is_head (stamp_kind w v)

-- a 0 after the last bit changes nothing else either
pub ups_pad : (bs : List Bool) → ups_of (bs ++ (false ∷ [])) ≡ ups_of bs
unfolding ups_of
ups_pad [] = refl
ups_pad (true ∷ bs) = ap suc (ups_pad bs)
ups_pad (false ∷ bs) = refl

pub turn_one_pad : (bs : List Bool) → has_one (after_turn (bs ++ (false ∷ []))) ≡ has_one (after_turn bs)
unfolding after_turn
turn_one_pad [] = refl
turn_one_pad (true ∷ bs) = turn_one_pad bs
turn_one_pad (false ∷ bs) = one_zero bs

pub turn_stop_pad : (bs : List Bool) → before_stop (after_turn (bs ++ (false ∷ []))) ≡ before_stop (after_turn bs)
unfolding after_turn
turn_stop_pad [] = refl
turn_stop_pad (true ∷ bs) = turn_stop_pad bs
turn_stop_pad (false ∷ bs) = before_zero bs
