use Rattle.std.proofs.Common.{◌∷◌}
use Rattle.mq_streams.specs.History.{Consumed}
use Rattle.mq_client.specs.Session.{Session, with_history}
use Rattle.mq_client.specs.Frames.{updates_once}
use Rattle.mq_client.proofs.Goings.{goes_on}
use Rattle.mq_client.proofs.parts.Parts.take_data.Goals as goal

pub returns : goal.returns
returns c = λ s goes within.
    let a = c.args in
    let mid : Session = with_history (Consumed a.stream a.length ∷ s.history) s in
    let stand = c.consumed.ensures s.history goes.decodes.serves.streams within in
    let first = c.in_ok-give_back.ensures mid (goes_on a.self.now s goes c.consumed.new.self _ stand goes.decodes.serves.live) in
    c.give_back-2.ensures (updates_once mid) first
