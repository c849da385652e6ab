use Rattle.std.proofs.Common.{List, ℕ, drop, ap, ◌∙◌}
use Rattle.std.proofs.Math.Seq.{drop-drop}
use Rattle.mq_script.proofs.generator.Generator.skip.Goals as goal

pub loop-line-preserved : goal.loop-line-preserved
loop-line-preserved c = c.advance.ensures ∙ ap (λ (lines : List (List ℕ)). drop 1 lines) c.loop-line.invariant ∙ drop-drop 1 c.loop-line._line c.args.self.now
