use Rattle.std.proofs.Common.{◌∙◌, sym, arith}
use Rattle.mq_conn.proofs.Places.{before_end}
use Rattle.mq_conn.proofs.Framing.{none_can_frame, none_more, one_can}
use Rattle.mq_conn.proofs.conn.Conn.can_frame_any.Goals as goal

pub returns-then-can_frame_at : goal.returns-then-can_frame_at
returns-then-can_frame_at c =
    one_can c.args.self.now c.loop-place.place (omega (arith, c.loop-place-test.true, c.len-place-end.ensures, c.args.self.now.tunnels.ok.0))
    (λ s stands goes t at. sym (c.can_frame_at.ensures s stands goes t at) ∙ c.if-can_frame_at.true)

pub loop-place-preserved : goal.loop-place-preserved
loop-place-preserved c = record {
  none = none_more c.args.self.now c.loop-place.place c.loop-place.invariant.none (λ s stands goes t at. sym (c.can_frame_at.ensures s stands goes t at) ∙ c.if-can_frame_at.false);
}

pub returns : goal.returns
returns c =
    let old = c.args.self.now in
    none_can_frame old c.loop-place.place c.loop-place.invariant.none
    (λ other t at. let lt = before_end old.tunnels.items other t at in omega (arith, lt, c.loop-place-test.false, c.len-place-end.ensures, old.tunnels.ok.0))
