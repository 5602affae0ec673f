-- Sums and counts.
use Rattle.std.specs.Prelude.{ℕ, zero, suc, ◌+◌, Bool, true, false, cond, ◌&&◌, List, [], ◌∷◌, ◌++◌, ◌==◌}
use Rattle.station.specs.declared.channel.Channel.{Channel}
use Rattle.station.specs.declared.channel.Channel.TheVariants.{Queued, UpLink, TurnLink, DownLink}

-- over the numbers below n
unfoldable pub sum_to : ℕ → (ℕ → ℕ) → ℕ
sum_to zero f = 0
sum_to (suc n) f = sum_to n f + f n

-- over all channels of n cards
unfoldable pub sum_channels : ℕ → (Channel → ℕ) → ℕ
sum_channels n f = sum_to n (λ c. f (Queued c) + f (UpLink c) + f (TurnLink c) + f (DownLink c))

-- over a list
unfoldable pub sum_over : {A : Type 0} → List A → (A → ℕ) → ℕ
sum_over [] f = 0
sum_over (a ∷ xs) f = f a + sum_over xs f

-- how many of a list pass the test
unfoldable pub count : {A : Type 0} → (A → Bool) → List A → ℕ
count f xs = sum_over xs (λ a. cond (f a) 1 0)

-- the same words
unfoldable pub same_words : List ℕ → List ℕ → Bool
same_words [] [] = true
same_words [] (y ∷ ys) = false
same_words (x ∷ xs) [] = false
same_words (x ∷ xs) (y ∷ ys) = x == y && same_words xs ys

-- lists of words, one after the other
unfoldable pub joined : List (List ℕ) → List ℕ
joined [] = []
joined (l ∷ ls) = l ++ joined ls
