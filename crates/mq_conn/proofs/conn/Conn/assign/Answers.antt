use Rattle.std.proofs.Common.{List, subst, ap, ◌∙◌}
use Rattle.mq_addr.specs.declared.entry.Given.{Given}
use Rattle.mq_machine.specs.Done.{value}
use Rattle.mq_machine.specs.Words.{assign_value}
use Rattle.mq_conn.specs.declared.conn.Tunnel.{Tunnel}
use Rattle.mq_conn.specs.Frames.{IsPlaceOf}
use Rattle.mq_conn.specs.Queues.{a_value}
use Rattle.mq_conn.proofs.Valuing.{assigns_at}
use Rattle.mq_conn.proofs.conn.Conn.assign.Goals as goal

pub returns : goal.returns
returns c =
    let old = c.args.self.now in
    let live = c.in-Some.ensures in
    let place = c.in-Some-place_of.ensures in
    let P : List Tunnel → Type 0 = λ ts. IsPlaceOf ts c.in-Some.id c.in-Some-place_of.place place.0 in
    let at = subst P c.as_slice.ensures.value place.1 in
    let e = c.in_ok-wait_at.ensures in
    let told = ap (λ (bytes : List _). a_value bytes) c.in_ok-capsule.ensures ∙ ap (λ (list : List Given). value 1 (assign_value list)) c.as_slice-2.ensures in
    assigns_at old c.wait_at.new.self c.args.stream c.in-Some.id c.in-Some-place_of.place c.args.list c.args.at c.in_ok-capsule.capsule live.0 place.0 e.0 live.1 live.2 at e.1 told e.2
