use Rattle.mq_h2.proofs.Rooms.{sends_within}
use Rattle.mq_h2.proofs.Sound.{reads_back}
use Rattle.mq_h2.proofs.laws.what_is_owed_is_read_back.Goals as goal

pub returns : goal.returns
returns c = reads_back c.stays_bounded.ensures c.fits_fields.ensures c.consumed_within_what_came.ensures.all sends_within c.are_read_back.ensures
