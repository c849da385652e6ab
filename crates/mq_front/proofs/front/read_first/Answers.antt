use Rattle.std.proofs.Common.{◌<◌, subst}
use Rattle.mq_front.specs.declared.opening.Opening.{Opening}
use Rattle.mq_front.specs.Openings.{Opens}
use Rattle.mq_front.proofs.Apart.{reads_frames}
use Rattle.mq_front.proofs.Fronts.{waits, other_all}
use Rattle.mq_front.proofs.front.read_first.Goals as goal

pub returns-in-Part : goal.returns-in-Part
returns-in-Part g c =
    let P : Opening → Type 0 = λ o. c.args.count < 24 → Opens c.args.count c.args.piece.now o in
    waits c.args.setup.now (g.T.Tunnels.list c.args.tunnels.now) c.args.count c.args.piece.now c.in-Part.more c.args.due.now (subst P c.in-Part.is c.opening_behind.ensures)

pub returns-in_ok-read-in-Whole : goal.returns-in_ok-read-in-Whole
returns-in_ok-read-in-Whole g c = λ few.
    let P : Opening → Type 0 = λ o. c.args.count < 24 → Opens c.args.count c.args.piece.now o in
    reads_frames c.reads_stand_apart.ensures c.args.setup.now (g.T.Tunnels.list c.args.tunnels.now) c.args.count c.args.piece.now c.in-Whole.frames.now c.args.due.now c.read.new.due c.in_ok-many-in-Whole.many c.read.new.self
    (subst P c.in-Whole.is c.opening_behind.ensures few) (c.in_ok-many-in-Whole.ensures {u = tt}) (c.in_ok-read-in-Whole.ensures {u = tt}) few

pub returns-in-Other : goal.returns-in-Other
returns-in-Other g c =
    let P : Opening → Type 0 = λ o. c.args.count < 24 → Opens c.args.count c.args.piece.now o in
    other_all c.args.setup.now (g.T.Tunnels.list c.args.tunnels.now) c.args.count c.args.piece.now c.args.due.now c.read_other.new.due c.read_other.result c.read_other.ensures (subst P c.in-Other.is c.opening_behind.ensures)
