use Rattle.std.proofs.Common.{◌≡◌, drop}
use Rattle.command.specs.Inputs.{kept_with_all}
use Rattle.command.proofs.line_buffer.LineBuffer.keep.Given as goal

-- the bytes to come make of what is kept what all of them make of what was kept
abbrev pub invariant-loop-byte : goal.invariant-loop-byte
invariant-loop-byte l = kept_with_all l.self (drop l.byte-index l.bytes) ≡ kept_with_all l.fn.self l.bytes
