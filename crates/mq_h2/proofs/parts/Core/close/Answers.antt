use Rattle.std.proofs.Common.{sym, subst}
use Rattle.mq_streams.specs.History.{has_finished}
use Rattle.mq_streams.specs.Stand.{StandFor}
use Rattle.mq_streams.specs.declared.streams.Streams.{Streams}
use Rattle.mq_h2.specs.Acts.{ending_text}
use Rattle.mq_h2.proofs.Rooms.{ready_ended, ending_short}
use Rattle.mq_h2.proofs.parts.Core.close.Goals as goal

pub returns-clause-acts : goal.returns-clause-acts
returns-clause-acts c = λ s is lives.
    let a = c.args in
    let puts = c.ask_no_more.ensures.puts s is lives in
    let stand : StandFor c.ask_no_more.new.self.streams s.history = subst (λ (x : Streams). StandFor x s.history) (sym puts.puts.streams) is.serves.streams in
    ready_ended a.self.now c.ask_no_more.new.self s a.stream (ending_text (has_finished a.stream s.history) a.stream) is puts (ending_short (has_finished a.stream s.history) a.stream)
    c.drop_stream.new.self (c.drop_stream.ensures s.history stand lives)
