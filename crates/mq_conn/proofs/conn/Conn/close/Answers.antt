use Rattle.std.proofs.Common.{◌≡◌, ◌==◌, ℕ, Some, List, sym, ap, subst, ◌∙◌}
use Rattle.std.specs.Prelude.{find}
use Rattle.mq_talk.specs.declared.note.Note.TheVariants as note
use Rattle.mq_machine.specs.Done.{closing, without, without_tunnel}
use Rattle.mq_machine.specs.Putting.{putting}
use Rattle.mq_machine.specs.State as machine
use Rattle.mq_machine.specs.State.{tunnel_on}
use Rattle.mq_conn.specs.Conns.{Stands, tunnel_is}
use Rattle.mq_conn.proofs.Standing.{found_stream, tunnels_are}
use Rattle.mq_conn.proofs.conn.Conn.close.Goals as goal

pub returns : goal.returns
returns c = λ s st none conn.
    let id = c.args.stream in
    let reason = c.args.why in
    let u = c.in_ok-tunnel.tunnel.now in
    let t : machine.Tunnel = tunnel_is u in
    let on : tunnel_on s id ≡ Some t = ap (λ (ts : List machine.Tunnel). find (λ (v : machine.Tunnel). v.stream == id) ts) (tunnels_are c.args.self.now s st) ∙ c.in_ok-tunnel.ensures in
    let same : t.stream ≡ id = found_stream id s.tunnels t on in
    let x = without_tunnel u.id (without id s) in
    let mid = c.drop_tunnel.ensures (without id s) (c.forget.ensures s none st) in
    let done = c.close_front.ensures x t mid same (sym c.is_begun-begun.ensures) conn in
    let P : ℕ → Type 0 = λ k. Stands c.close_front.new.self (putting (without_tunnel u.id (without k s)) (closing s.front t reason)) in
    (t, on, ap (λ (n : ℕ). note.Closed u.id reason n) c.len-left.ensures.is, subst P (sym same) done)
