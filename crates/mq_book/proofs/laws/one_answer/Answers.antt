use Rattle.mq_book.proofs.OneAnswer.{one_answer}
use Rattle.mq_book.proofs.laws.one_answer.Goals as goal

pub returns : goal.returns
returns c = one_answer
