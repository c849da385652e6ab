use Rattle.std.proofs.Common.{◌≡◌, ℕ, Bool, true, cond, [], List, ◌++◌, IfOk, sym, ap, subst, ◌∙◌}
use Rattle.mq_frame.specs.declared.frame.Frame.TheVariants.{Settings}
use Rattle.mq_streams.specs.History.{History}
use Rattle.mq_client.specs.Settling.{shifts, offers_connect}
use Rattle.mq_client.specs.Session.{Session, with_history, puts_frame}
use Rattle.mq_client.specs.Frames.{breaks, on_settled, on_settings}
use Rattle.mq_client.specs.Talking.{Comes}
use Rattle.mq_client.proofs.Goings.{goes_put}
use Rattle.mq_client.proofs.parts.Parts.on_settings.Goals as goal

pub returns : goal.returns
returns c = λ s goes.
    let a = c.args in
    let pairs = a.pairs.now in
    let h : History = (shifts pairs s.history).0 in
    let shifted = c.shift.ensures s goes in
    let holds : (shifts pairs s.history).1 ≡ true = sym shifted.0 ∙ c.if-not-shift.false in
    let mid : Session = puts_frame (Settings true []) (with_history h s) in
    let put = c.in_ok-put.ensures.ok ∙ ap (λ (b : List ℕ). c.shift.new.self.owed ++ b) c.acknowledgement_text.ensures in
    let settled = c.on_settled.ensures mid (goes_put c.shift.new.self (with_history h s) shifted.1 c.put.new.self _ put) in
    let offered = subst (λ (b : Bool). IfOk c.on_settled.result (λ over. Comes (on_settled s.stage b mid) a.events.now.items c.on_settled.new.events.items over c.on_settled.new.self))
    c.offers_connect.ensures settled in
    let all = subst (λ (b : Bool). IfOk c.on_settled.result (λ over. Comes (cond b (on_settled s.stage (offers_connect pairs) mid) (breaks 3 (with_history h s)))
    a.events.now.items c.on_settled.new.events.items over c.on_settled.new.self)) (sym holds) offered in
    subst (λ (k : Bool). IfOk c.on_settled.result (λ over. Comes (on_settings k pairs s) a.events.now.items c.on_settled.new.events.items over c.on_settled.new.self))
    (sym c.if-ack.false) all
