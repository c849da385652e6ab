use Rattle.std.proofs.Common.{true, arith}
use Rattle.mq_mem.specs.Offices.{seen_of}
use Rattle.mq_plain.specs.Coming.{changed}
use Rattle.mq_world.proofs.Reaching.{reached, stands_reached, links_long}
use Rattle.mq_world.proofs.Stepping.{read_at}
use Rattle.mq_world.proofs.workers.Workers.change.Goals as goal

pub index_mut-worker-requires : goal.index_mut-worker-requires
index_mut-worker-requires c =
    let less = reached c.args.self.now c.requires.0 c.requires.1 c.args.conn c.in_ok-place.place c.in_ok-place.ensures.told in
    omega (arith, less, c.args.self.now.workers.ok)

pub returns : goal.returns
returns c = λ s is.
    let less = reached c.args.self.now s is c.args.conn c.in_ok-place.place c.in_ok-place.ensures.told in
    let at = read_at c.args.self.now.workers.items c.in_ok-place.place c.index_mut-worker.result.now less c.index_mut-worker.ensures.value in (
      links_long c.args.self.now s is c.args.conn true c.in_ok-place.ensures.ok,
      stands_reached c.args.self.now s is c.args.conn c.in_ok-place.place c.in_ok-place.ensures.told c.mark.new.rests c.mark.ensures c.index_mut-worker.result.now c.change.new.worker
          (changed c.args.event) at
          (λ w x. c.change.ensures s.links (seen_of c.args.self.now.office) c.args.self.now.mail.boxes c.in_ok-place.place w x),
    )
