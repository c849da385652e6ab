use Rattle.std.proofs.Common.{Some, ap, ◌∙◌}
use Rattle.mq_conn.specs.declared.conn.First.{First}
use Rattle.mq_conn.proofs.Wanting.{open_want, close_want, first_front, push_want}
use Rattle.mq_conn.proofs.conn.Conn.want_first.Goals as goal

pub returns-in-Open : goal.returns-in-Open
returns-in-Open c = λ none is.
    open_want c.args.self.now c.in-Open.stream c.in-Open.goal c.args.self.now.due c.want_open.result none
    (first_front c.args.self.now _ (is ∙ ap (λ (f : First). Some f) c.in-Open.is)) c.want_open.ensures

pub returns-in-Close : goal.returns-in-Close
returns-in-Close c = λ none is.
    close_want c.args.self.now c.in-Close.stream c.in-Close.why c.args.self.now.due c.want_close.result none
    (first_front c.args.self.now _ (is ∙ ap (λ (f : First). Some f) c.in-Close.is)) c.want_close.ensures

pub returns-in-Push : goal.returns-in-Push
returns-in-Push c = λ none is.
    push_want c.args.self.now c.in-Push.stream c.in-Push.n c.in-Push.to c.in-Push.packet c.want_push.result none
    (first_front c.args.self.now _ (is ∙ ap (λ (f : First). Some f) c.in-Push.is)) (c.want_push.ensures c.in-Push.n c.in-Push.packet)
