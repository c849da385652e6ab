use Rattle.std.proofs.Common.{sym, ◌∙◌}
use Rattle.mq_text.proofs.Cutting.{one_cut}
use Rattle.mq_text.proofs.parts.cut_once.Goals as goal

pub returns : goal.returns
returns g = λ separator text a b c d one other. one_cut separator a c b d one.first other.first (sym one.is ∙ other.is)
