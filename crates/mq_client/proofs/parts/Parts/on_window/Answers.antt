use Rattle.std.proofs.Common.{false, refl, sym, subst, append-nil}
use Rattle.mq_streams.specs.Answers.{after_grant}
use Rattle.mq_streams.specs.declared.answers.Granted.{Granted}
use Rattle.mq_streams.specs.declared.answers.Granted.TheVariants as granted
use Rattle.mq_client.specs.Session.{Session, with_history}
use Rattle.mq_client.specs.Frames.{on_window}
use Rattle.mq_client.specs.Talking.{Comes}
use Rattle.mq_client.proofs.Goings.{goes_on}
use Rattle.mq_client.proofs.parts.Parts.on_window.Goals as goal

pub returns-in_ok-send_waiting-in-Taken : goal.returns-in_ok-send_waiting-in-Taken
returns-in_ok-send_waiting-in-Taken c = λ s goes.
    let a = c.args in
    let came = c.in-Taken.ensures s.history goes.decodes.serves.streams in
    let mid : Session = with_history (after_grant granted.Taken a.stream a.grow s.history) s in
    let sent = c.in_ok-send_waiting-in-Taken.ensures.ok mid (goes_on a.self.now s goes c.grant.new.self _ came.1 goes.decodes.serves.live) in
    subst (λ (k : Granted). Comes (on_window k a.stream a.grow s) a.events.now.items a.events.now.items false c.send_waiting.new.self) came.0
    (record { added = sym (append-nil a.events.now.items); over_is = refl; leads = sent })
