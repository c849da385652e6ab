use Rattle.std.proofs.Common.{true}
use Rattle.mq_conn.proofs.Framing.{frames_so, same_at, turn_goes, turn_unspent}
use Rattle.mq_conn.proofs.conn.Conn.try_frame.Goals as goal

pub unreachable-unreachable : goal.unreachable-unreachable
unreachable-unreachable c =
    let put = c.in_ok-count.ensures in
    c.in-None.ensures put.t put.w put.rest (same_at c.args.self.now c.put_first.new.self c.in-Some.place put.t put.keeps put.at) put.waits

pub unreachable-requires : goal.unreachable-requires
unreachable-requires c =
    let put = c.in_ok-count.ensures in
    absurd (c.in-None.ensures put.t put.w put.rest (same_at c.args.self.now c.put_first.new.self c.in-Some.place put.t put.keeps put.at) put.waits)

pub returns-clause-framed : goal.returns-clause-framed
returns-clause-framed c =
    let old = c.args.self.now in
    let put = c.in_ok-count.ensures in
    frames_so old c.put_first.new.self c.took.new.self c.settle.new.self c.in-Some.place c.in_ok-count.count c.in-Some-took.note c.in-Some.ensures (λ s stands. turn_goes old c.in-Some.place s (c.in-Some.ensures s stands))
    put (c.in-Some-took.ensures put.t put.w put.rest (same_at old c.put_first.new.self c.in-Some.place put.t put.keeps put.at) put.waits) c.settle.ensures

pub returns-clause-spent : goal.returns-clause-spent
returns-clause-spent c = turn_unspent c.args.self.now c.in-Some.place true c.in-Some.ensures
