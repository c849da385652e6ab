use Rattle.std.proofs.Common.{ap, ◌∙◌}
use Rattle.mq_talk.specs.Book.{is_live}
use Rattle.mq_book.specs.Journal.{Journal}
use Rattle.mq_book.proofs.Judged.{live_is}
use Rattle.mq_book.proofs.book.Book.live.Goals as goal

pub returns : goal.returns
returns c =
    c.is_some.ensures ∙ live_is c.self.inside.ledger.history.items c.self.inside.ledger.live.items c.args.tunnel c.find.result c.self.invariant.live c.find.ensures
    ∙ ap (λ (j : Journal). is_live j.history c.args.tunnel) c.self.view_is
