use Rattle.std.proofs.Common.{false, arith}
use Rattle.mq_mem.specs.Offices.{seen_of}
use Rattle.mq_plain.specs.Coming.{with_piece}
use Rattle.mq_world.proofs.Each.{stands_still}
use Rattle.mq_world.proofs.Happening.{ended_in}
use Rattle.mq_world.proofs.Reaching.{reached, stands_reached}
use Rattle.mq_world.proofs.Stepping.{read_at}
use Rattle.mq_world.proofs.workers.Workers.piece.Goals as goal

pub index_mut-worker-requires : goal.index_mut-worker-requires
index_mut-worker-requires c =
    let less = reached c.args.self.now c.requires.stands.0 c.requires.stands.1 c.args.conn c.in_ok-place.place c.in_ok-place.ensures.told in
    omega (arith, less, c.args.self.now.workers.ok)

pub returns-in-Ok : goal.returns-in-Ok
returns-in-Ok c = λ s is.
    let old = c.args.self.now in
    let k = c.in_ok-place.place in
    let told = c.in_ok-place.ensures.told in
    let at = read_at old.workers.items k c.index_mut-worker.result.now (reached old s is c.args.conn k told) c.index_mut-worker.ensures.value in (
      ended_in old s is c.args.conn false c.in_ok-place.ensures.ok,
      stands_reached old s is c.args.conn k told c.mark.new.rests c.mark.ensures c.index_mut-worker.result.now c.piece.new.worker (with_piece c.args.bytes) at
          (λ w x. c.in-Ok.ensures.serves s.links (seen_of old.office) old.mail.boxes k w x),
    )

pub returns-in-Err : goal.returns-in-Err
returns-in-Err c = λ s is.
    let old = c.args.self.now in
    let k = c.in_ok-place.place in
    let at = read_at old.workers.items k c.index_mut-worker.result.now (reached old s is c.args.conn k c.in_ok-place.ensures.told) c.index_mut-worker.ensures.value in
    (tt, stands_still old s is k c.mark.new.rests c.mark.ensures c.index_mut-worker.result.now c.piece.new.worker at (λ w x. c.in-Err.ensures.err s.links (seen_of old.office) old.mail.boxes k w x))
