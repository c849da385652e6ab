use Rattle.std.proofs.Common.{[], ◌∷◌, length, ap, length-append, arith}
use Rattle.mq_mail.proofs.InboxMoves.{begins}
use Rattle.mq_mail.proofs.MatrixMoves.{inbox_more, room_more}
use Rattle.mq_mail.proofs.start.make_inboxes.Goals as goal

pub ruled-requires-clause-rule : goal.ruled-requires-clause-rule
ruled-requires-clause-rule c = begins

pub loop-preserved : goal.loop-preserved
loop-preserved c =
    let i = c.loop.invariant in
    let made = c.in_ok-inbox.ensures in
    let inboxes = c.in_ok-push.ensures.items in
    record {
      size = omega (arith, ap length inboxes, length-append c.loop.inboxes.items (c.in_ok-inbox.inbox ∷ []), i.size);
      room = room_more _ _ c.in_ok-inbox.inbox _ i.room inboxes made.0;
      firsts = inbox_more _ _ c.in_ok-inbox.inbox c.in_ok-inbox.first _ _ i.firsts inboxes c.in_ok-push-2.ensures.items made.1.0 made.1.1 made.3;
    }
