use Rattle.text.proofs.ReadBack.{hex_word_back}
use Rattle.text.proofs.number.hex_word.Goals as goal

pub returns-clause-back : goal.returns-clause-back
returns-clause-back c = hex_word_back
