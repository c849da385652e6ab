use Rattle.std.proofs.Common.{[], refl}
use Rattle.mq_replay.proofs.Ending.{unsaid, says_part}
use Rattle.mq_output.proofs.Shown.{prints_shown}
use Rattle.mq_output.specs.Joined.{prints_none}
use Rattle.mq_replay.proofs.script.stop.Goals as goal

pub returns-then-eq-clause-stops : goal.returns-then-eq-clause-stops
returns-then-eq-clause-stops g c = ([], prints_none _ _, λ whole text s. unsaid whole text c.args.why c.args.number s)

pub returns-in-Err-clause-stops : goal.returns-in-Err-clause-stops
returns-in-Err-clause-stops g c =
    let said = c.say-status.ensures.says in (
      said.0,
      prints_shown _ _ _ _ said.0 c.flush.ensures.prints refl said.1,
      λ whole text s. says_part whole _ c.say-status.result (said.2 whole text s),
    )
