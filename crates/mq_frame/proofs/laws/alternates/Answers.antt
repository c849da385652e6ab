use Rattle.mq_frame.specs.declared.place.Place.TheVariants.{First}
use Rattle.mq_frame.proofs.Told.{all_alternate}
use Rattle.mq_frame.proofs.laws.alternates.Goals as goal

pub returns : goal.returns
returns c = λ bytes frames of. all_alternate First bytes frames of.0 of.1 of.2
