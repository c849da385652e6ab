use Rattle.std.proofs.Common.{Some, length, sym, ap, ◌∙◌}
use Rattle.std.proofs.lemmas.Bool.{ltb-true}
use Rattle.std.proofs.lemmas.Option.{slice_get-get_or}
use Rattle.mq_conn.specs.declared.conn.Tunnel.{Tunnel}
use Rattle.mq_conn.proofs.Valuing.{waits_or}
use Rattle.mq_conn.proofs.conn.Conn.wait_at.Goals as goal

pub returns-in-Some : goal.returns-in-Some
returns-in-Some c =
    let old = c.args.self.now in
    let t = c.in-Some.tunnel.now in
    let at = slice_get-get_or old.tunnels.items c.args.place t (ltb-true c.args.place (length old.tunnels.items) (sym c.in-Some.ensures.item.0)) ∙ ap (λ (u : Tunnel). Some u) (sym c.in-Some.ensures.item.1) in
    waits_or old c.args.place t c.push_value.new.self c.args.capsule c.push_value.result at c.push_value.ensures.ok c.push_value.ensures.err
