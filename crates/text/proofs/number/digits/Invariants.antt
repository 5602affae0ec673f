use Rattle.std.proofs.Common.{◌≡◌, ◌^◌, ◌<◌, drop}
use Rattle.text.specs.Number.{number_from}
use Rattle.text.proofs.number.digits.Given as goal

abbrev pub invariant-loop-b : goal.invariant-loop-b
invariant-loop-b l = (number_from l.base l.n (drop l.b-index l.field) ≡ number_from l.base 0 l.field) × (l.n < l.base ^ l.b-index)
