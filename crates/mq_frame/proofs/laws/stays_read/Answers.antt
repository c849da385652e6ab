use Rattle.mq_frame.specs.declared.place.Place.TheVariants.{First}
use Rattle.mq_frame.proofs.Streams.{frames_stay}
use Rattle.mq_frame.proofs.laws.stays_read.Goals as goal

pub returns : goal.returns
returns c = λ bytes more frames all a b. frames_stay First bytes more frames all a.0 b.0 a.1 b.1 a.2 b.2
