use Rattle.mq_book.proofs.Judged.{owner_found}
use Rattle.mq_book.proofs.ledger.Ledger.owner.Goals as goal

pub returns : goal.returns
returns c = owner_found c.args.self.now.history.items c.as_slice.result.now c.args.self.now.live.items c.args.addr.now c.first_with.result c.as_slice.ensures.value c.requires.live c.first_with.ensures
