use Rattle.mq_frame.specs.declared.place.Place.TheVariants.{First}
use Rattle.mq_frame.proofs.Streams.{nothing_read}
use Rattle.mq_frame.proofs.laws.nothing_is_read.Goals as goal

pub returns : goal.returns
returns c = λ frames of. nothing_read First frames of.0 of.1 of.2
