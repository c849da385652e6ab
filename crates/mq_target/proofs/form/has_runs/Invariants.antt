use Rattle.std.proofs.Common.{◌↔◌, length}
use Rattle.mq_target.specs.Form.{HasRuns}
use Rattle.mq_target.proofs.form.has_runs.Given as goal

abbrev pub invariant-loop-answer : goal.invariant-loop-answer
invariant-loop-answer l = HasRuns l.rest ↔ HasRuns l.fn.text

abbrev pub decreases-loop-answer : goal.decreases-loop-answer
decreases-loop-answer l = length l.rest
