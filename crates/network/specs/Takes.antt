-- A take: the oldest word of an inbox.
use Rattle.std.specs.Prelude.{ℕ, cond, Some, None, Ok, Err, Option, Result, nat_lt}
use Rattle.refusal.specs.declared.drive.TakeFault.{TakeFault}
use Rattle.refusal.specs.declared.drive.TakeFault.TheVariants.{NoReader, InboxEmpty}
use Rattle.wiring.specs.Shapes.{Shape}
use Rattle.network.specs.Cards.{State, card_at, on_card, with_inbox, oldest, younger}

pub record Taken : Type 0 where
  pub answer : Result ℕ TakeFault
  pub next : State

abbrev pub taken_by : State → ℕ → Option ℕ → Taken
taken_by x c None = record { answer = Err InboxEmpty; next = x }
taken_by x c (Some w) = record { answer = Ok w; next = on_card x c (with_inbox (younger (card_at x c).inbox)) }

-- take: at card c
abbrev pub take_step : Shape → State → ℕ → Taken
take_step s x c = cond (nat_lt c s.cards) (taken_by x c (oldest (card_at x c).inbox)) (record { answer = Err NoReader; next = x })
