use Rattle.mq_mem.specs.Offices.{seen_of}
use Rattle.mq_plain.specs.Coming.{send_failing}
use Rattle.mq_world.proofs.Happening.{opener, stands_ported}
use Rattle.mq_world.proofs.Stepping.{read_at}
use Rattle.mq_world.proofs.workers.Workers.fail_send.Goals as goal

pub returns : goal.returns
returns c = λ s is.
    let old = c.args.self.now in
    let k = c.in_ok-place.place in
    let e = c.in_ok-place.ensures.ok in
    let f = opener old s is c.args.tunnel k c.book.result.now c.history.result.now c.book.ensures c.history.ensures.value c.history.ensures.legal e.0 e.1 e.2 e.3 in
    let at = read_at old.workers.items k c.index_mut-worker.result.now f.less c.index_mut-worker.ensures.value in (
      f.opens,
      stands_ported old s is c.args.tunnel k f.e f.at f.by send_failing c.mark.new.rests c.mark.ensures c.index_mut-worker.result.now c.fail_send.new.worker at
          (λ w x. c.fail_send.ensures s.links (seen_of old.office) old.mail.boxes k w x),
    )
