use Rattle.mq_top.proofs.Counting.{ends_all}
use Rattle.mq_top.proofs.soaking.GeneratedPlay.play_all.Goals as goal

pub returns : goal.returns
returns c = λ lines is.
    ends_all c.in_ok-play_next.field-0 lines c.play_next.new.self c.if-branch.false (c.in_ok-play_next.ensures.goes lines (c.loop-line.invariant lines is))
