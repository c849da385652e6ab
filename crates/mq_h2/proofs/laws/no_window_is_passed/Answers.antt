use Rattle.mq_h2.proofs.Phases.{serves_of}
use Rattle.mq_h2.proofs.laws.no_window_is_passed.Goals as goal

pub returns : goal.returns
returns c = λ v s is. c.no_window_is_passed.ensures v.core.streams s.history (serves_of v.phase v s is.phase).streams
