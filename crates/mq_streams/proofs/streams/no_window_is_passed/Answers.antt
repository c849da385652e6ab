use Rattle.mq_streams.proofs.streams.no_window_is_passed.Goals as goal

pub returns : goal.returns
returns c = λ streams h is. is.kept
