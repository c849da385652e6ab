use Rattle.std.proofs.Common.{◌<◌, true, not, length, ap, arith}
use borrow.Author.Tests.{ltb-true}
use Rattle.mq_machine.specs.State as machine
use Rattle.mq_mem.specs.Offices.{seen_of}
use Rattle.mq_world.proofs.Reaching.{reached, stands_reached, links_long}
use Rattle.mq_world.proofs.Saying.{said, heard, stands_said, still_told}
use Rattle.mq_world.proofs.Stepping.{read_at}
use Rattle.mq_world.proofs.workers.Workers.finish.Goals as goal

pub index_mut-worker-requires : goal.index_mut-worker-requires
index_mut-worker-requires c =
    let less = reached c.args.self.now c.requires.0 c.requires.1 c.args.conn c.in_ok-place.place c.in_ok-place.ensures.told in
    omega (arith, less, c.args.self.now.workers.ok)

pub returns : goal.returns
returns c = λ s is.
    let old = c.args.self.now in
    let conn = c.args.conn in
    let k = c.in_ok-place.place in
    let fewer : conn < length old.links.items = ltb-true _ _ c.in_ok-place.ensures.ok in
    let t = c.index_mut.result.now in
    let at_told = read_at old.links.items conn t fewer c.index_mut.ensures.value in
    let less = reached old s is conn k c.in_ok-place.ensures.told in
    let at = read_at old.workers.items k c.index_mut-worker.result.now less c.index_mut-worker.ensures.value in
    let now = said old s is conn t at_told in
    let state = heard old s is conn t at_told in (
      ap not (links_long old s is conn true c.in_ok-place.ensures.ok),
      stands_reached now state (stands_said old s is conn t at_told) conn k (still_told old s is conn t at_told k c.in_ok-place.ensures.told) c.mark.new.rests c.mark.ensures c.index_mut-worker.result.now c.change.new.worker
          (λ (l : machine.Link). record l { is_ended = true }) at
          (λ w x. c.change.ensures state.links (seen_of old.office) old.mail.boxes k w x),
    )
