use Rattle.mq_book.proofs.Verdicts.{one_verdict}
use Rattle.mq_book.proofs.laws.one_verdict.Goals as goal

pub returns : goal.returns
returns c = one_verdict
