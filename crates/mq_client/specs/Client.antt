-- What a client stands for.
use Rattle.std.specs.Prelude.{◌≡◌}
use Rattle.mq_client.specs.declared.client.Client.{Client}
use Rattle.mq_client.specs.declared.client.Protocol.{Protocol}
use Rattle.mq_client.specs.declared.client.Protocol.TheVariants as protocol
use Rattle.mq_client.specs.declared.reading.Reading.TheVariants as reading
use Rattle.mq_client.specs.declared.http2.Phase.TheVariants as phase
use Rattle.mq_client.specs.State.{State, Http1, Http2}
use Rattle.mq_client.specs.Standing.{IsHttp1}
use Rattle.mq_client.specs.Talking.{IsHttp2}

abbrev pub IsIn : Protocol → State → Type 0
IsIn (protocol.Http1 one) (Http1 s) = IsHttp1 one s
IsIn (protocol.Http1 one) (Http2 s) = ⊥
IsIn (protocol.Http2 two) (Http1 s) = ⊥
IsIn (protocol.Http2 two) (Http2 s) = IsHttp2 two s

abbrev pub HasNoMore : Protocol → Type 0
HasNoMore (protocol.Http1 one) = one.reading ≡ reading.Spent
HasNoMore (protocol.Http2 two) = two.phase ≡ phase.Spent

-- the bytes came, the events were told, and what was put was written so far
abbrev pub StandsFor : Client → State → Type 0
StandsFor client s = IsIn client.protocol s

-- memory ran out in a read
abbrev pub IsSpent : Client → Type 0
IsSpent client = HasNoMore client.protocol
