use Rattle.std.proofs.Common.{◌≡◌, Option, sym, ap, ◌∙◌, subst}
use Rattle.std.specs.Option.{unwrap_or}
use Rattle.mq_machine.specs.Done.{closed}
use Rattle.mq_machine.specs.Lawful.{IsLoose}
use Rattle.mq_machine.specs.Settle.{settle}
use Rattle.mq_machine.specs.State as machine
use Rattle.mq_conn.specs.Conns.{Stands}
use Rattle.mq_conn.proofs.conn.Conn.close_so.Goals as goal

pub returns-in-Some : goal.returns-in-Some
returns-in-Some c = λ s t st none conn on.
    let r = c.in-Some.ensures s st none conn in
    let reason = c.args.why in
    let same : r.0 ≡ t = ap (λ (o : Option machine.Tunnel). unwrap_or o t) (sym r.1 ∙ on) in
    let P : machine.Tunnel → Type 0 = λ u. (c.in-Some.note ≡ (closed s u reason).0) × (IsLoose (closed s u reason).1 → Stands c.settle.new.self (settle (closed s u reason).1)) in
    subst P same (r.2, λ loose. c.settle.ensures (closed s r.0 reason).1 r.3 loose)
