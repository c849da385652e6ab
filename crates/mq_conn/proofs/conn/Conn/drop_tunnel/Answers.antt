use Rattle.std.proofs.Common.{rules, ◌≡◌, ◌==◌, not}
use Rattle.std.specs.Prelude.{filter}
use Rattle.std.proofs.lemmas.Fn.{filter_same}
use Rattle.mq_conn.specs.declared.conn.Tunnel.{Tunnel}
use Rattle.mq_conn.proofs.Standing.{dropped}
use Rattle.mq_conn.proofs.conn.Conn.drop_tunnel.Goals as goal

pub returns : goal.returns
returns c = λ s st.
    let old = c.args.self.now in
    let left : c.retain.new.self.items ≡ filter (λ (t : Tunnel). not (t.id == c.args.id)) old.tunnels.items = filter_same _ _ _ (λ x b f' k. search rules) _ _ c.retain.ensures.filtered in
    dropped old s c.args.id c.retain.new.self left c.retain.ensures.bound c.retain.ensures.capacity st
