-- The words of a send line, one by one.
use Rattle.std.proofs.Common.{◌≡◌, ℕ, ◌^◌, ◌<◌, ◌≤◌, false, List, [], ◌∷◌, ◌++◌, length, Some, None, Option, refl, arith, append_assoc}
use Rattle.std.specs.Option.{option_and_then, option_map}
use Rattle.std.proofs.lemmas.Bool.Decides.{nat_tests}
use Rattle.text.specs.Fields.{none_left}
use Rattle.text.specs.Number.{hex_word_of}
use Rattle.command.specs.Names.{free_bits, free_word_of}
use Rattle.command.specs.Packets.{none_of, later_words, word_kinded}
use Rattle.command.specs.Lines.{words_of}

pub never : {X : Type 0} {A : Type 0} (x : X) → None ≡ Some x → A
never x e = let z : ◌≡◌ {A = ℕ} 0 1 = cc in absurd (omega arith)

small_bits : (n w : ℕ) → free_bits n ≡ Some w → w < 2 ^ 30
small_bits n w e = grind (arith, nat_tests)

small_after : (o : Option ℕ) (w : ℕ) → option_and_then free_bits o ≡ Some w → w < 2 ^ 30
small_after None w e = never w e
small_after (Some n) w e = small_bits n w e

-- a word has 30 bits, and its field a digit
pub free_word_small : (f : List ℕ) (w : ℕ) → free_word_of f ≡ Some w → w < 2 ^ 30
free_word_small f w e = small_after (hex_word_of f) w e

pub free_word_long : (f : List ℕ) (w : ℕ) → free_word_of f ≡ Some w → 1 ≤ length f
free_word_long [] w e = never w e
free_word_long (b ∷ f) w e = omega arith

-- the words so far, and those of the fields to come
abbrev pub onward : List ℕ → List (List ℕ) → Option (List ℕ)
onward done fs = option_map (λ ws. done ++ later_words ws) (words_of fs)

-- there are words as long as there are fields
some_words : (o : Option ℕ) (p : Option (List ℕ)) (ws : List ℕ) → option_and_then (λ w. option_map (λ vs. w ∷ vs) p) o ≡ Some ws → none_of ws ≡ false
some_words None p ws e = never ws e
some_words (Some w) None ws e = never ws e
some_words (Some w) (Some vs) ws e = let same : w ∷ vs ≡ ws = cc in rw (← same) refl

same_end : (fs : List (List ℕ)) (ws : List ℕ) → words_of fs ≡ Some ws → none_of ws ≡ none_left fs
same_end [] ws e = let same : [] ≡ ws = cc in rw (← same) refl
same_end (f ∷ fs) ws e = some_words (free_word_of f) (words_of fs) ws e

one_more : (done : List ℕ) (w : ℕ) (fs : List (List ℕ)) (o : Option (List ℕ)) → words_of fs ≡ o →
    option_map (λ ws. (done ++ (word_kinded (none_left fs) w ∷ [])) ++ later_words ws) o ≡ option_map (λ ws. done ++ later_words ws) (option_map (λ ws. w ∷ ws) o)
one_more done w fs None e = refl
one_more done w fs (Some ws) e =
    let last = same_end fs ws e in
    rw (append_assoc, last) refl

-- a word is put at the end, a tail if no field follows it
pub onward_more : (done : List ℕ) (f : List ℕ) (fs : List (List ℕ)) (w : ℕ) → free_word_of f ≡ Some w → onward (done ++ (word_kinded (none_left fs) w ∷ [])) fs ≡ onward done (f ∷ fs)
onward_more done f fs w e = rw e (one_more done w fs (words_of fs) refl)
