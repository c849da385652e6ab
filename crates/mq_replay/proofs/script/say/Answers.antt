use Rattle.std.proofs.Common.{[], ◌+◌, sym, ◌∙◌, append-nil}
use Rattle.mq_play.specs.Text.{printed, Bad}
use Rattle.mq_replay.proofs.Ending.{unsaid, bad_said}
use Rattle.mq_replay.proofs.script.say.Goals as goal

pub returns-in-Ok-clause-says : goal.returns-in-Ok-clause-says
returns-in-Ok-clause-says c = (printed (Bad (c.args.number + 1)), c.in-Ok.ensures.ok, λ whole text s. bad_said whole text c.args.why c.args.number c.in-BadLine.is s)

pub returns-in-Err-clause-says : goal.returns-in-Err-clause-says
returns-in-Err-clause-says c = ([], c.in-Err.ensures.err ∙ sym (append-nil _), λ whole text s. unsaid whole text c.args.why c.args.number s)

pub returns-in_default-clause-says : goal.returns-in_default-clause-says
returns-in_default-clause-says c = ([], sym (append-nil _), λ whole text s. unsaid whole text c.args.why c.args.number s)
