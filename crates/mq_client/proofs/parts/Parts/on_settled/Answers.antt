use Rattle.std.proofs.Common.{false, refl, sym, subst, append-nil}
use Rattle.mq_client.specs.Session.{Stage}
use Rattle.mq_client.specs.Frames.{on_settled}
use Rattle.mq_client.specs.Talking.{Comes}
use Rattle.mq_client.proofs.Goings.{open_stage}
use Rattle.mq_client.proofs.parts.Parts.on_settled.Goals as goal

pub returns-in_ok-send_waiting-in-Open : goal.returns-in_ok-send_waiting-in-Open
returns-in_ok-send_waiting-in-Open c = λ s goes.
    let a = c.args in
    let at = open_stage a.self.now.stage s.stage c.in-Open.field-0 c.in-Open.is goes.decodes.stage_is in
    subst (λ (st : Stage). Comes (on_settled st a.offered s) a.events.now.items a.events.now.items false c.send_waiting.new.self) (sym at.1)
    (record { added = sym (append-nil a.events.now.items); over_is = refl; leads = c.in_ok-send_waiting-in-Open.ensures.ok s goes })
