use Rattle.std.proofs.Common.{◌≡◌, Some, ℕ, slice_get, refl, sym, ap, ◌∙◌}
use Rattle.std.specs.Vec.{with_item}
use Rattle.std.proofs.lemmas.Option.{slice_get-get_or}
use Rattle.mq_conn.specs.declared.conn.Conn.{Conn}
use Rattle.mq_conn.specs.declared.conn.Tunnel.{Tunnel}
use Rattle.mq_conn.proofs.Places.{past_end}
use Rattle.mq_conn.proofs.Framing.{took_at}
use Rattle.mq_conn.proofs.conn.Conn.took.Goals as goal

pub returns-in_default : goal.returns-in_default
returns-in_default c = λ t w rest at waits. past_end c.args.self.now.tunnels.items c.args.place t c.in_default.ensures.item.3 at

pub returns : goal.returns
returns c =
    let old = c.args.self.now in
    let u = c.in-Some.tunnel.now in
    let at : slice_get old.tunnels.items c.args.place ≡ Some u = slice_get-get_or old.tunnels.items c.args.place u c.in-Some.ensures.item.3.0 ∙ ap (λ (v : Tunnel). Some v) (sym c.in-Some.ensures.item.1) in
    let P : ℕ → Conn = λ n. record old { tunnels = with_item old.tunnels c.args.place (record u { waiting = c.took_of.new.waiting }); next_tunnel = n } in
    took_at old _ c.args.place c.args.count u c.took_of.new.waiting c.took_of.result at c.took_of.ensures refl (ap P c.next_number-self.ensures)
