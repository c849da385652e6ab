use Rattle.std.proofs.Common.{Bool, sym, subst}
use Rattle.std.specs.Prelude.{MatchBool, ◌≡◌}
use Rattle.mq_addr.specs.declared.kind.Kind.TheVariants as kind
use Rattle.mq_talk.specs.declared.note.Note.{Note}
use Rattle.mq_machine.specs.State.{kind_of}
use Rattle.mq_conn.specs.declared.conn.Tunnel.{Tunnel}
use Rattle.mq_conn.specs.Frames.{ComesInAt}
use Rattle.mq_conn.proofs.Framing.{comes_gone, comes_on}
use Rattle.mq_conn.proofs.conn.Conn.come_in.Goals as goal

pub returns-then-is_for_ip : goal.returns-then-is_for_ip
returns-then-is_for_ip c =
    let old = c.args.self.now in
    let P : Tunnel → Bool → Type 0 = λ t b. MatchBool b (kind_of t.goal ≡ kind.Ip) (kind_of t.goal ≡ kind.Udp) in
    comes_on old c.go_on.new.self c.args.tunnel c.args.place c.args.n c.args.from c.args.packet c.go_on.result (λ t at. subst (P t) c.if-is_for_ip.true (c.is_for_ip.ensures t at.at)) c.go_on.ensures

pub returns : goal.returns
returns c =
    let old = c.args.self.now in
    let P : Tunnel → Bool → Type 0 = λ t b. MatchBool b (kind_of t.goal ≡ kind.Ip) (kind_of t.goal ≡ kind.Udp) in
    let Q : Note → Type 0 = λ said. ComesInAt old old c.args.place c.args.tunnel c.args.from c.args.n c.args.packet said in
    subst Q (sym c.gone.ensures) (comes_gone old c.args.tunnel c.args.place c.args.n c.args.from c.args.packet (λ t at. subst (P t) c.if-is_for_ip.false (c.is_for_ip.ensures t at.at)))
