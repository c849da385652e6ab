use Rattle.std.proofs.Common.{◌≡◌, ◌++◌, take}
use Rattle.mq_talk.specs.Book.{blocks}
use Rattle.mq_book.proofs.ledger.push_blocks.Given as goal

abbrev pub invariant-loop-given : goal.invariant-loop-given
invariant-loop-given l = l.taken.items ≡ l.initial.taken.items ++ blocks (take l.given-index l.held)
