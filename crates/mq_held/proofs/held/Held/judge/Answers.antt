use Rattle.mq_held.proofs.Streams.{judge_some}
use Rattle.mq_held.proofs.held.Held.judge.Goals as goal

pub returns-clause-gives : goal.returns-clause-gives
returns-clause-gives g c = λ s conn n want.
    let j = c.judge-judged.result in
    let d = c.judged.ensures s conn (judge_some s c.args.tunnel n j.at c.args.flow.now j.verdict want) in
    record { judged = j; gives = c.judge-judged.ensures.gives; t = d.0; does = d.2; stands_for = d.1 }
