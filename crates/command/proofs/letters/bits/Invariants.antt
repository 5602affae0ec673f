use Rattle.std.proofs.Common.{◌≡◌, ◌+◌, ◌*◌, ◌<◌, ◌≤◌, drop}
use Rattle.command.specs.Letters.{letters_from}
use Rattle.command.proofs.letters.bits.Given as goal

-- the letters to come write the rest of the number, and it stays below 512
abbrev pub invariant-loop-letter : goal.invariant-loop-letter
invariant-loop-letter l = record {
  rest : letters_from l.weight l.bits (drop l.letter-index l.letters) ≡ letters_from 256 0 l.letters;
  room : l.bits + 2 * l.weight ≤ 512;
  below : l.bits < 512;
}
