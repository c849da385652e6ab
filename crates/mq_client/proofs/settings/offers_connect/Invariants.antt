use Rattle.std.proofs.Common.{◌≡◌, false, drop}
use Rattle.mq_client.specs.Settling.{offers_still}
use Rattle.mq_client.proofs.settings.offers_connect.Given as goal

-- what the settings from here on say is what all say
abbrev pub invariant-loop-pair : goal.invariant-loop-pair
invariant-loop-pair l = offers_still false l.pairs ≡ offers_still l.offered (drop l.pair-index l.pairs)
