use Rattle.std.proofs.Common.{List, sym, subst}
use Rattle.mq_talk.specs.declared.note.From.{From}
use Rattle.mq_talk.specs.declared.note.Note.{Note}
use Rattle.mq_conn.specs.declared.conn.Tunnel.{Tunnel}
use Rattle.mq_conn.specs.Frames.{Delivers, HasNone, IsPlaceOf, QueuesAt}
use Rattle.mq_conn.proofs.Framing.{comes_from, delivers_in, delivers_port, gone}
use Rattle.mq_conn.proofs.conn.Conn.deliver.Goals as goal

pub returns-in_default : goal.returns-in_default
returns-in_default c =
    let P : List Tunnel → Type 0 = λ ts. HasNone ts c.args.tunnel in
    let Q : Note → Type 0 = λ said. Delivers c.args.self.now c.args.self.now c.args.from c.args.n c.args.tunnel c.args.packet said in
    subst Q (sym c.gone.ensures) (gone c.args.self.now c.args.tunnel c.args.from c.args.n c.args.packet (subst P c.as_slice.ensures.value c.in_default.ensures))

pub returns-in-Port : goal.returns-in-Port
returns-in-Port c =
    let old = c.args.self.now in
    let e = c.in-Some.ensures in
    let P : List Tunnel → Type 0 = λ ts. IsPlaceOf ts c.args.tunnel c.in-Some.place e.0 in
    let F : From → Type 0 = λ from. QueuesAt old c.queue.new.self c.in-Some.place c.args.tunnel from c.args.n c.args.packet c.queue.result in
    let G : From → Type 0 = λ from. Delivers old c.queue.new.self from c.args.n c.args.tunnel c.args.packet c.queue.result in
    subst G (sym c.in-Port.is) (delivers_port old c.queue.new.self c.args.tunnel c.in-Some.place c.in-Port.field-0 c.args.n e.0 c.args.packet c.queue.result (subst P c.as_slice.ensures.value e.1) (subst F c.in-Port.is c.queue.ensures))

pub returns-in-Tunnel : goal.returns-in-Tunnel
returns-in-Tunnel c =
    let old = c.args.self.now in
    let e = c.in-Some.ensures in
    let P : List Tunnel → Type 0 = λ ts. IsPlaceOf ts c.args.tunnel c.in-Some.place e.0 in
    delivers_in old c.come_in.new.self c.args.tunnel c.in-Some.place c.args.n e.0 c.args.from c.args.packet c.come_in.result (subst P c.as_slice.ensures.value e.1) (comes_from c.args.from c.in-Tunnel.is) c.come_in.ensures
