use Rattle.mq_frame.specs.declared.place.Place.TheVariants.{First}
use Rattle.mq_frame.proofs.Fitting.{all_fit}
use Rattle.mq_frame.proofs.laws.fits_fields.Goals as goal

pub returns : goal.returns
returns c = λ bytes frames all of. all_fit First bytes frames of.0 of.1 all of.2
