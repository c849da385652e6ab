use Rattle.mq_frame.specs.declared.place.Place.TheVariants.{First}
use Rattle.mq_frame.proofs.Streams.{frames_one}
use Rattle.mq_frame.proofs.laws.is_read_once.Goals as goal

pub returns : goal.returns
returns c = λ bytes frames others a b. (frames_one First bytes frames others a.0 b.0 a.1 b.1 a.2 b.2).frames_are
