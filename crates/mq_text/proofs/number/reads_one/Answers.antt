use Rattle.std.proofs.Common.{sym, ◌∙◌}
use Rattle.std.proofs.lemmas.Fmt.{decimal_injective}
use Rattle.mq_text.proofs.number.reads_one.Goals as goal

pub returns : goal.returns
returns c = λ text m n a b one other. decimal_injective m n a b (sym one ∙ other)
