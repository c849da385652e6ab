use Rattle.std.proofs.Common.{ℕ, List, ◌++◌, Result, Ok, Err, IfOk, refl, subst}
use Rattle.mq_wire.specs.declared.NoMemory.{NoMemory}
use Rattle.mq_client.specs.declared.client.Protocol.{Protocol}
use Rattle.mq_client.specs.declared.client.Protocol.TheVariants as protocol
use Rattle.mq_client.specs.declared.event.ClientEvent.{ClientEvent}
use Rattle.mq_client.specs.declared.http1.Http1.{Http1}
use Rattle.mq_client.specs.declared.http2.Http2.{Http2}
use Rattle.mq_client.specs.Client.{IsIn}
use Rattle.mq_client.specs.Exchange.{Exchange, exchange_fed}
use Rattle.mq_client.specs.Standing.{IsHttp1}
use Rattle.mq_client.specs.State as state
use Rattle.mq_client.specs.State.{State, Reads}
use Rattle.mq_client.specs.Talk.{Talk, ReadsFrames}
use Rattle.mq_client.specs.Talking.{IsHttp2}
use Rattle.mq_client.proofs.Stages.{reading_brings}
use Rattle.mq_client.proofs.client.Client.feed.Goals as goal

-- a read in each protocol is one of the client
abbrev Leads : State → List ℕ → Protocol → List ClientEvent → Type 0
Leads s piece p events = (t : State) × Reads s piece events t × IsIn p t

over_1 : (old new : Http1) (piece : List ℕ) (r : Result (List ClientEvent) NoMemory) (s : State) → IsIn (protocol.Http1 old) s
    → ((x : Exchange) → IsHttp1 old x → IfOk r (λ events. IsHttp1 new (exchange_fed x piece events))) → IfOk r (Leads s piece (protocol.Http1 new))
over_1 old new piece (Ok events) (state.Http1 x) is reads =
    let read = reads x is in
    (state.Http1 (exchange_fed x piece events), (reading_brings new.reading (x.came ++ piece) (x.told ++ events) read.reading, refl), read)
over_1 old new piece (Err refused) (state.Http1 x) is reads = tt
over_1 old new piece r (state.Http2 x) is reads = absurd is

over_2 : (old new : Http2) (piece : List ℕ) (r : Result (List ClientEvent) NoMemory) (s : State) → IsIn (protocol.Http2 old) s
    → ((x : Talk) → IsHttp2 old x → IfOk r (λ events. (t : Talk) × ReadsFrames x piece events t × IsHttp2 new t)) → IfOk r (Leads s piece (protocol.Http2 new))
over_2 old new piece r (state.Http1 x) is reads = absurd is
over_2 old new piece (Ok events) (state.Http2 x) is reads =
    let read = reads x is in
    (state.Http2 read.0, (read.0, read.1, refl), read.2)
over_2 old new piece (Err refused) (state.Http2 x) is reads = tt

pub returns-in-Http1-clause-reads : goal.returns-in-Http1-clause-reads
returns-in-Http1-clause-reads c = λ s is.
    over_1 c.in-Http1.one c.feed.new.self c.args.piece.now c.feed.result s (subst (λ (p : Protocol). IsIn p s) c.in-Http1.is is) c.feed.ensures.stands

pub returns-in-Http2-clause-reads : goal.returns-in-Http2-clause-reads
returns-in-Http2-clause-reads c = λ s is.
    over_2 c.in-Http2.two c.feed-in-Http2.new.self c.args.piece.now c.feed-in-Http2.result s (subst (λ (p : Protocol). IsIn p s) c.in-Http2.is is) c.feed-in-Http2.ensures.reads
