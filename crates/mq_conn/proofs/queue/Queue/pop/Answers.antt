use Rattle.std.proofs.Common.{◌∷◌, List, map, sym, ◌∙◌, ap}
use Rattle.mq_machine.specs.State.{Waiting}
use Rattle.mq_conn.specs.declared.queue.Queued.{Queued}
use Rattle.mq_conn.specs.Queues.{behind, waiting_of, with_framed}
use Rattle.mq_conn.proofs.QueueLists.{unframed}
use Rattle.mq_conn.proofs.queue.Queue.pop.Goals as goal

pub returns : goal.returns
returns c =
    let framed = c.self.inside.framed in (
      framed,
      sym c.self.view_is ∙ ap (λ (qs : List Queued). with_framed framed (map waiting_of qs)) c.in_ok-first.ensures.items
          ∙ ap (λ (ws : List Waiting). behind framed c.in_ok-first.first ∷ ws) (sym (unframed c.pop_front.new.self.items)),
    )
