use Rattle.std.proofs.Common.{List, drop, sym, ap, ◌∙◌}
use Rattle.std.specs.Prelude.{slice_get}
use Rattle.mq_conn.specs.declared.conn.Tunnel.{Tunnel}
use Rattle.mq_conn.proofs.Hearing.{closes_ending, first_is}
use Rattle.mq_conn.proofs.conn.Conn.closed_ending.Goals as goal

pub returns : goal.returns
returns c = λ ending.
    let items = c.args.self.now.tunnels.items in
    let t = c.in-Some.tunnel.now in
    let is = first_is items t (ap (λ (ts : List Tunnel). slice_get ts 0) (sym c.deref.ensures.value) ∙ sym c.in-Some.ensures.value) in
    closes_ending c.args.self.now c.close_so.new.self t (drop 1 items) c.close_so.result ending is c.close_so.ensures
