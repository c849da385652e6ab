use Rattle.mq_frame.specs.declared.place.Place.TheVariants.{First}
use Rattle.mq_frame.proofs.Streams.{reading}
use Rattle.mq_frame.proofs.laws.is_readable.Goals as goal

pub returns : goal.returns
returns c = λ bytes. let r = reading First bytes in (r.frames, (r.last, r.rest, r.are))
