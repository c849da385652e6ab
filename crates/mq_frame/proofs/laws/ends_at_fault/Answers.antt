use Rattle.mq_frame.specs.declared.place.Place.TheVariants.{First}
use Rattle.mq_frame.proofs.Streams.{fault_last}
use Rattle.mq_frame.proofs.laws.ends_at_fault.Goals as goal

pub returns : goal.returns
returns c = λ bytes frames code later a. fault_last First bytes frames code later a.0 a.1 a.2
