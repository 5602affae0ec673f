use Rattle.text.proofs.ReadBack.{hex_byte_back}
use Rattle.text.proofs.number.hex_byte.Goals as goal

pub returns-clause-back : goal.returns-clause-back
returns-clause-back c = hex_byte_back
