-- The check of a packet's kinds, by head, bodies and tail.
use Rattle.std.proofs.Common.{◌≡◌, ℕ, suc, ◌+◌, ◌-◌, ◌/◌, ◌%◌, ◌^◌, ◌≤◌, Bool, true, false, cond, not, eqb, List, [], ◌∷◌, ◌++◌, length, get_or, take, drop, Some, None, Option, sym, refl, ap, ◌∙◌, ap₂, arith, add-zero, eq-eqb, eqb-true, ne_eqb, length-append, length-drop}
use Rattle.std.specs.Int.RustNames.{bit_or}
use Rattle.std.specs.List.{position, position_from, between, fold}
use Rattle.std.proofs.lemmas.Iterator.Adapters.{position_from-zero}
use Rattle.std.proofs.lemmas.List.{take_more, take_all, get_or-drop, length-take-le}
use Rattle.std.proofs.lemmas.Nat.{or_shr, or_mod, le_or_l, le_or_r}
use Rattle.packet.specs.declared.words.Kind.{Kind}
use Rattle.packet.specs.declared.words.Kind.TheVariants.{Body, Tail, Head, Unused}
use Rattle.packet.specs.Words.{kind_of}
use Rattle.packet.specs.Packets.{is_head, right_kind, later_fault, kind_fault}

abbrev is_body : ℕ → Bool
is_body w = right_kind false (kind_of w)

abbrev is_other : ℕ → Bool
is_other w = not (is_body w)

-- a word is a body where its two highest bits are 0
numbered : (b c d : Bool) → right_kind false (cond b Body (cond c Tail (cond d Head Unused))) ≡ b
numbered true c d = refl
numbered false true d = refl
numbered false false true = refl
numbered false false false = refl

body_bits : (w : ℕ) → is_body w ≡ eqb (w / 2 ^ 30 % 4) 0
body_bits w = numbered (eqb (w / 2 ^ 30 % 4) 0) (eqb (w / 2 ^ 30 % 4) 1) (eqb (w / 2 ^ 30 % 4) 2)

both_bodies : (v w : ℕ) → is_body (bit_or v w) ≡ true → (is_body v ≡ true) × (is_body w ≡ true)
both_bodies v w e =
    let a = v / 2 ^ 30 % 4 in
    let b = w / 2 ^ 30 % 4 in
    let s : bit_or v w / 2 ^ 30 % 4 ≡ bit_or a b = ap (λ (x : ℕ). x % 4) (or_shr v w 30) ∙ or_mod (v / 2 ^ 30) (w / 2 ^ 30) 2 in
    let z = eqb-true (bit_or v w / 2 ^ 30 % 4) 0 (sym (body_bits (bit_or v w)) ∙ e) in
    let l = le_or_l a b in
    let r = le_or_r a b in
    (body_bits v ∙ eq-eqb a 0 (omega arith), body_bits w ∙ eq-eqb b 0 (omega arith))

gathered : (v : ℕ) (ws : List ℕ) → is_body (fold bit_or v ws) ≡ true → (is_body v ≡ true) × ((n : ℕ) → position_from is_other n ws ≡ None)
gathered v [] e = (e, λ n. refl)
gathered v (w ∷ ws) e =
    let (p, q) = gathered (bit_or v w) ws e in
    let (x, y) = both_bodies v w p in
    (x, λ n. rw y (q (n + 1)))

-- words are bodies where all their bits together are those of a body
pub all_bodies : (ws : List ℕ) → kind_of (fold bit_or 0 ws) ≡ Body → None ≡ position is_other ws
all_bodies ws e = sym (position_from-zero is_other ws ∙ (gathered 0 ws (ap (right_kind false) e)).1 0)

-- the fault after the head: of a body, where place n has body n - 1, or of the tail at place l
abbrev later_at : Option ℕ → ℕ → Kind → Option ℕ
later_at (Some i) l k = Some (i + 1)
later_at None l k = cond (right_kind true k) None (Some l)

later_split : (n : ℕ) (ws : List ℕ) (t : ℕ) → later_fault (n + 1) (ws ++ t ∷ []) ≡ later_at (position_from is_other n ws) (n + 1 + length ws) (kind_of t)
unfolding later_fault
later_split n [] t = rw (add-zero (n + 1)) refl
later_split n (w ∷ ws) t =
    let z : eqb (length (ws ++ t ∷ [])) 0 ≡ false = ne_eqb (length (ws ++ t ∷ [])) 0 (λ z. omega (arith, length-append ws (t ∷ []))) in
    let s : n + 1 + suc (length ws) ≡ n + 1 + 1 + length ws = omega arith in
    rw (z, s) (by (is_body w) _ _ _ (later_split (n + 1) ws t))
  where
    by : (b : Bool) (r o : Option ℕ) (l : ℕ) → r ≡ later_at o l (kind_of t) → cond b r (Some (n + 1)) ≡ later_at (cond (not b) (Some n) o) l (kind_of t)
    by true r o l e = e
    by false r o l e = refl

pub kinds_found : (ws : List ℕ) → 2 ≤ length ws →
    kind_fault (get_or ws 0 0) (drop 1 ws) ≡ cond (is_head (kind_of (get_or ws 0 0))) (later_at (position is_other (between 1 (length ws - 1) ws)) (length ws - 1) (kind_of (get_or ws (length ws - 1) 0))) (Some 0)
unfolding kind_fault
kinds_found ws two =
    let l = length ws - 1 in
    let t = get_or ws l 0 in
    let bs : List ℕ = take (l - 1) (drop 1 ws) in
    let d = length-drop 1 ws in
    let m = length-take-le (l - 1) (drop 1 ws) (omega arith) in
    let g : get_or (drop 1 ws) (l - 1) 0 ≡ t = get_or-drop 1 ws (l - 1) 0 ∙ ap (λ (i : ℕ). get_or ws i 0) (omega arith) in
    let e : drop 1 ws ≡ bs ++ t ∷ [] =
    sym (take_all (l - 1 + 1) (drop 1 ws) (omega arith)) ∙ (take_more (drop 1 ws) (l - 1) 0 (omega arith) ∙ ap (λ (x : ℕ). bs ++ x ∷ []) g) in
    let f = ap₂ (λ (o : Option ℕ) (i : ℕ). later_at o i (kind_of t)) (sym (position_from-zero is_other bs)) (omega arith) in
    ap (λ (o : Option ℕ). cond (is_head (kind_of (get_or ws 0 0))) o (Some 0)) (ap (later_fault 1) e ∙ (later_split 0 bs t ∙ f))
