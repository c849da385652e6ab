use Rattle.std.proofs.Common.{rules, ◌≡◌, ◌==◌, not, List, sym, subst}
use Rattle.std.specs.Prelude.{filter}
use Rattle.std.proofs.lemmas.Fn.{filter_same}
use Rattle.mq_machine.specs.State.{Stream}
use Rattle.mq_front.specs.declared.data.DataStream.{DataStream}
use Rattle.mq_front.specs.Streams.{AreStreams}
use Rattle.mq_front.proofs.Tables.{kept}
use Rattle.mq_front.proofs.http2.Http2.forget.Goals as goal

pub returns : goal.returns
returns c = λ h streams is.
    let items = c.args.self.now.streams.items in
    let left : c.retain.new.self.items ≡ filter (λ (d : DataStream). not (d.id == c.args.stream)) items = filter_same _ _ _ (λ x b f' k. search rules) _ _ c.retain.ensures.filtered in
    let P : List DataStream → Type 0 = λ ds. AreStreams ds (filter (λ (s : Stream). not (s.id == c.args.stream)) streams) in
    record { core = is.core; streams_are = subst P (sym left) (kept items streams c.args.stream is.streams_are) }
