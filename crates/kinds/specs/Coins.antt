-- The two keys of a coin: which they are, and when two are equal; and the coins of one currency.
use Rattle.std.specs.Prelude.{Bool, ◌&&◌, ◌==◌}
use Rattle.kinds.specs.declared.coin.Signature.{Signature}
use Rattle.kinds.specs.declared.coin.Channel.{Channel}
use Rattle.kinds.specs.declared.coin.Coin.{Coin}
use Rattle.kinds.specs.declared.coin.OfCurrency.{OfCurrency}

-- each part is the same
abbrev pub same_signature : Signature → Signature → Bool
same_signature a b = a.currency == b.currency && (a.value == b.value && a.issue == b.issue)

abbrev pub same_channel : Channel → Channel → Bool
same_channel a b = a.number == b.number

-- a coin's currency, value and issue as a key
abbrev pub signature_of : Coin → Signature
signature_of coin = record { currency = coin.currency; value = coin.value; issue = coin.issue }

-- a coin's channel as a key
abbrev pub channel_of : Coin → Channel
channel_of coin = record { number = coin.channel }

-- a coin has the wanted currency
abbrev pub of_currency : OfCurrency → Coin → Bool
of_currency wanted coin = coin.currency == wanted.number
