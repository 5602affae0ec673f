-- The card of a channel.
use Rattle.std.specs.Prelude.{ℕ}
use Rattle.station.specs.declared.channel.Channel.{Channel}
use Rattle.station.specs.declared.channel.Channel.TheVariants.{Queued, UpLink, TurnLink, DownLink}

abbrev pub channel_card : Channel → ℕ
channel_card (Queued c) = c
channel_card (UpLink c) = c
channel_card (TurnLink c) = c
channel_card (DownLink c) = c
