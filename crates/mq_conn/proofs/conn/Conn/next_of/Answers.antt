use Rattle.std.proofs.Common.{◌≡◌, Some, slice_get, ◌∙◌, sym, ap, arith}
use Rattle.std.proofs.lemmas.Option.{slice_get-get_or}
use Rattle.mq_conn.specs.declared.conn.Tunnel.{Tunnel}
use Rattle.mq_conn.specs.Conns.{tunnel_is}
use Rattle.mq_conn.proofs.Places.{before_end}
use Rattle.mq_conn.proofs.Framing.{next_at, next_none, off_its_side, on_its_side, passes_more}
use Rattle.mq_conn.proofs.conn.Conn.next_of.Goals as goal
use Rattle.mq_conn.proofs.conn.Conn.next_of.Goals.{else-is_late-late-via-then-is_late-late+else-can_frame_at, else-is_late-late-via-else-is_late-late}

pub returns-then-can_frame_at : goal.returns-then-can_frame_at
returns-then-can_frame_at c =
    let old = c.args.self.now in
    let u = c.index.result.now in
    let at : slice_get old.tunnels.items c.loop-place.place ≡ Some u = slice_get-get_or old.tunnels.items c.loop-place.place u (omega (arith, c.loop-place-test.true, c.len-place-end.ensures, old.tunnels.ok.0)) ∙ ap (λ (v : Tunnel). Some v) (sym c.index.ensures) in
    next_at old c.args.late c.loop-place.place u c.loop-place.invariant.passed at (on_its_side c.args.late old.next_tunnel c.from.result (tunnel_is u) c.from.ensures c.if-is_late-late.true)
    (λ s stands goes. sym (c.can_frame_at.ensures s stands goes u at) ∙ c.if-can_frame_at.true)

pub loop-place-preserved : goal.loop-place-preserved
loop-place-preserved c =
    let old = c.args.self.now in
    let u = c.index.result.now in
    let at : slice_get old.tunnels.items c.loop-place.place ≡ Some u = slice_get-get_or old.tunnels.items c.loop-place.place u (omega (arith, c.loop-place-test.true, c.len-place-end.ensures, old.tunnels.ok.0)) ∙ ap (λ (v : Tunnel). Some v) (sym c.index.ensures) in
    record {
      passed = passes_more old c.args.late c.loop-place.place u c.loop-place.invariant.passed at (elim c.else-is_late-late.branch [
        | else-is_late-late-via-then-is_late-late+else-can_frame_at w ↦ λ on s stands goes. sym (w.can_frame_at.ensures s stands goes u at) ∙ w.if-can_frame_at.false
        | else-is_late-late-via-else-is_late-late w ↦ λ on s stands goes. absurd (off_its_side c.args.late old.next_tunnel c.from.result (tunnel_is u) c.from.ensures w.if-is_late-late.false on)
      ]);
    }

pub returns : goal.returns
returns c = next_none c.args.self.now c.args.late (λ s stands goes other t at.
    c.loop-place.invariant.passed s stands goes other t (let lt = before_end c.args.self.now.tunnels.items other t at in omega (arith, lt, c.loop-place-test.false, c.len-place-end.ensures, c.args.self.now.tunnels.ok.0)) at)
