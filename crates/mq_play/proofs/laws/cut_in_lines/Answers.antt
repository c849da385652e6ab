use Rattle.std.proofs.Common.{ap, ◌∙◌}
use Rattle.mq_play.specs.Script.{lines_of}
use Rattle.mq_play.proofs.Cuts.{cut_lines, is_cut}
use Rattle.mq_play.proofs.laws.cut_in_lines.Goals as goal

pub returns : goal.returns
returns c = λ script lines tail. (λ e. let k = is_cut script lines tail e in (k.is, k.lines_are, k.tail_is), λ h. ap lines_of h.0 ∙ cut_lines lines tail h.1 h.2)
