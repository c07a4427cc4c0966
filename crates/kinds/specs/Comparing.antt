-- When two whole records are alike: every field is the same.
use Rattle.std.specs.Prelude.{Bool, ◌&&◌, ◌==◌}
use Rattle.kinds.specs.Currencies.{same_letters}
use Rattle.kinds.specs.declared.currency.Currency.{Currency}
use Rattle.kinds.specs.declared.coin.Coin.{Coin}

abbrev pub alike_currencies : Currency → Currency → Bool
alike_currencies a b =
    a.number == b.number && (a.minor_unit == b.minor_unit && same_letters a.letters b.letters)

abbrev pub alike_coins : Coin → Coin → Bool
alike_coins a b =
    a.currency == b.currency
    && (a.value == b.value
    && (a.issue == b.issue && (a.channel == b.channel && a.bag_size == b.bag_size)))
