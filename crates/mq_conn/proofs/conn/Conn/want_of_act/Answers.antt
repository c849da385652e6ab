use Rattle.std.proofs.Common.{◌∷◌, ◌∙◌, ap}
use Rattle.mq_machine.specs.declared.act.Act.{Act}
use Rattle.mq_machine.specs.declared.act.Due.TheVariants.{Do}
use Rattle.mq_conn.proofs.Wanting.{open_want, bind_want, asked_want, due_front, said_of, say_want}
use Rattle.mq_conn.proofs.conn.Conn.want_of_act.Goals as goal

pub returns-in-Bind : goal.returns-in-Bind
returns-in-Bind c = λ none front rest is.
    bind_want c.args.self.now c.in-Bind.stream c.in-Bind.goal rest c.want_bind.result none front (is ∙ ap (λ (a : Act). Do a ∷ rest) c.in-Bind.is) c.want_bind.ensures

pub returns-in-Open : goal.returns-in-Open
returns-in-Open c = λ none front rest is.
    open_want c.args.self.now c.in-Open.stream c.in-Open.goal rest c.want_open.result none
    (due_front c.args.self.now _ front (is ∙ ap (λ (a : Act). Do a ∷ rest) c.in-Open.is)) c.want_open.ensures

pub returns-in-OfStream : goal.returns-in-OfStream
returns-in-OfStream c = λ none front rest is.
    asked_want c.args.self.now c.in-OfStream.stream c.in-OfStream.act rest c.want_of_stream.result none front (is ∙ ap (λ (a : Act). Do a ∷ rest) c.in-OfStream.is) c.want_of_stream.ensures

pub returns-in-Refuse : goal.returns-in-Refuse
returns-in-Refuse c = λ none front rest is. say_want c.args.self.now c.args.act.now rest none front is (λ x. said_of c.args.act.now x c.in-Refuse.is)
