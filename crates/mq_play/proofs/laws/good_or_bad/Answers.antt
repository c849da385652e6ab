use Rattle.mq_play.proofs.Plays.{Known}
use Rattle.mq_play.proofs.Scripts.{good_not_bad}
use Rattle.mq_play.proofs.laws.good_or_bad.Goals as goal

known : (c : goal.After-one_saying) → Known
known c = record {
  turn = c.one_turn.ensures;
  silent = c.one_silent_turn.ensures;
  turn_or_quiet = c.turn_or_quiet.ensures;
  silent_or_quiet = c.silent_or_quiet.ensures;
  answer = c.one_answer.ensures;
  says = c.one_saying.ensures;
}

pub returns : goal.returns
returns c = good_not_bad (known c)
