use Rattle.std.proofs.Common.{take}
use Rattle.mq_book.specs.Treat.{AreDone}
use Rattle.mq_book.proofs.assign.treat.Given as goal

abbrev pub invariant-loop-one : goal.invariant-loop-one
invariant-loop-one l = AreDone l.setup.pool l.fn.taken.items l.fn.held.items (take l.one-index l.asked) l.treated
