use Rattle.std.proofs.Common.{◌≡◌, ◌-◌, List, map, subst, arith}
use Rattle.mq_machine.specs.State.{Waiting}
use Rattle.mq_conn.specs.Queues.{waiting_of}
use Rattle.mq_conn.proofs.QueueLists.{both_counts, framed_values, packets_within, values_in}
use Rattle.mq_conn.proofs.queue.Queue.values.Goals as goal

pub overflow_sub-result : goal.overflow_sub-result
overflow_sub-result c =
    let q = c.self.inside.items in
    omega (arith, packets_within q.items, c.self.invariant.2, c.len.ensures, q.ok.0)

pub returns : goal.returns
returns c =
    let q = c.self.inside.items in
    let P : List Waiting → Type 0 = λ ws. c.len.result - c.self.inside.packets ≡ values_in ws in
    let all = both_counts q.items in
    let same = framed_values c.self.inside.framed (map waiting_of q.items) in
    subst P c.self.view_is (omega (arith, all, same, c.self.invariant.2, c.len.ensures, q.ok.0))
