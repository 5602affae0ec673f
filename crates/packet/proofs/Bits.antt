-- The bits of a number, over any width.
use Rattle.std.proofs.Common.{◌≡◌, ℕ, zero, suc, ◌+◌, ◌*◌, ◌/◌, ◌%◌, ◌^◌, ◌<◌, Bool, true, false, not, ◌||◌, eqb, List, [], ◌∷◌, ◌++◌, sym, refl, ap, ◌∙◌, ap₂, one-add, arith, shr-shr, ne_eqb, eqb-true}
use native.Mathlib.Nat.{mod-mod}
use borrow.Author.Tests.{eqb-false}
use lib.Pow.{field, mod-mod-pow, mod-pow-add}
use Rattle.std.proofs.lemmas.Nat.{pow_pos}
use Rattle.packet.specs.Words.{bit}
use Rattle.packet.specs.Routes.{bits_from, has_one}

-- the highest bit, and the bits below it
pub split_top : (n k : ℕ) → n % 2 ^ suc k ≡ (n / 2 ^ k % 2) * 2 ^ k + n % 2 ^ k
split_top n k = rw (← one-add k) (mod-pow-add n 1 k)

pub top_same : (m n k : ℕ) → m % 2 ^ suc k ≡ n % 2 ^ suc k → (m / 2 ^ k % 2 ≡ n / 2 ^ k % 2) × (m % 2 ^ k ≡ n % 2 ^ k)
top_same m n k e =
    let f : m % 2 ^ (1 + k) ≡ n % 2 ^ (1 + k) = rw one-add e in (
      sym (field m 1 k) ∙ (ap (λ (x : ℕ). x / 2 ^ k) f ∙ field n 1 k),
      sym (mod-mod-pow m 1 k) ∙ (ap (λ (x : ℕ). x % 2 ^ k) f ∙ mod-mod-pow n 1 k),
    )

-- numbers with the same low bits
pub bits_same : (k m n : ℕ) → m % 2 ^ k ≡ n % 2 ^ k → bits_from k m ≡ bits_from k n
unfolding bits_from
bits_same zero m n e = refl
bits_same (suc k) m n e =
    let (t, l) = top_same m n k e in
    ap₂ (λ (b : ℕ) (bs : List Bool). eqb b 1 ∷ bs) t (bits_same k m n l)

pub bits_low : (k n : ℕ) → bits_from k (n % 2 ^ k) ≡ bits_from k n
bits_low k n = bits_same k (n % 2 ^ k) n (mod-mod n (2 ^ k))

-- the lowest bit
pub bits_last : (k n : ℕ) → bits_from (suc k) n ≡ bits_from k (n / 2) ++ (bit 0 n ∷ [])
unfolding bits_from
bits_last zero n = refl
bits_last (suc k) n =
    let e : n / 2 ^ suc k ≡ n / 2 / 2 ^ k = rw (← one-add k) (sym (shr-shr n 1 k)) in
    ap₂ (λ (b : ℕ) (bs : List Bool). eqb (b % 2) 1 ∷ bs) e (bits_last k n)

off : (b : ℕ) → b < 2 → eqb b 1 ≡ false → b ≡ 0
off b l e = let f = eqb-false b 1 e in omega arith

-- there is a 1 among the bits of any number but 0
pub has_one_lem : (k n : ℕ) → has_one (bits_from k n) ≡ not (eqb (n % 2 ^ k) 0)
unfolding bits_from has_one
has_one_lem zero n = let e : n % 1 ≡ 0 = omega arith in rw e
has_one_lem (suc k) n = ways (bit k n) refl (has_one_lem k n)
  where
    ways : (b : Bool) → bit k n ≡ b → has_one (bits_from k n) ≡ not (eqb (n % 2 ^ k) 0) → (bit k n || has_one (bits_from k n)) ≡ not (eqb (n % 2 ^ suc k) 0)
    ways true e ih =
        let o = eqb-true (n / 2 ^ k % 2) 1 e in
        let s = split_top n k in
        let p = pow_pos k in
        let t : n % 2 ^ suc k ≡ 1 * 2 ^ k + n % 2 ^ k = s ∙ ap (λ (x : ℕ). x * 2 ^ k + n % 2 ^ k) o in
        rw (e, ne_eqb (n % 2 ^ suc k) 0 (λ z. omega arith))
    ways false e ih =
        let o = off (n / 2 ^ k % 2) (omega arith) e in
        let s = split_top n k in
        let t : n % 2 ^ suc k ≡ n % 2 ^ k = s ∙ (ap (λ (x : ℕ). x * 2 ^ k + n % 2 ^ k) o ∙ omega arith) in
        rw (e, t) ih
