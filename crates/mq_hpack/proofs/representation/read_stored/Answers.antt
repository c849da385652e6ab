use Rattle.std.proofs.Common.{refl}
use Rattle.mq_hpack.proofs.representation.read_stored.Goals as goal

pub returns : goal.returns
returns c = ((c.in_ok-field.field, c.in_ok-field.rest.now), c.in_ok-field.ensures, refl)
