use Rattle.std.proofs.lemmas.Bool.{some_since}
use Rattle.mq_book.proofs.Standing.{listed}
use Rattle.mq_book.proofs.ledger.Ledger.place_of.Goals as goal

pub unwrap-requires : goal.unwrap-requires
unwrap-requires c = some_since c.find.result _ _ c.find.ensures (listed c.args.self.now.history.items c.args.self.now.live.items c.args.number c.requires.stands.live c.requires.live)
