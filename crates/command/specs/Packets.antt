-- The packet that a send line spells.
use Rattle.std.specs.Prelude.{ℕ, ◌+◌, ◌^◌, Bool, true, false, cond, List, [], ◌∷◌}
use Rattle.packet.specs.declared.heads.Mode.{Mode}
use Rattle.packet.specs.Heads.{head_word}

-- whether there is no word
abbrev pub none_of : List ℕ → Bool
none_of [] = true
none_of (w ∷ ws) = false

-- a word by its 30 free bits: a tail has kind 1, a body kind 0
abbrev pub word_kinded : Bool → ℕ → ℕ
word_kinded tail w = cond tail (2 ^ 30 + w) w

-- the words after the head: the last one is the tail, all others are bodies
abbrev pub later_words : List ℕ → List ℕ
later_words [] = []
later_words (w ∷ ws) = word_kinded (none_of ws) w ∷ later_words ws

-- a head, the key word, and the words after it
abbrev pub packet_of : Mode → ℕ → ℕ → List ℕ → List ℕ
packet_of mode route key ws = head_word mode route ∷ later_words (key ∷ ws)
