use Rattle.std.proofs.Common.{false, refl}
use Rattle.std.proofs.lemmas.Bool.{both_ways}
use Rattle.mq_policy.proofs.Versions.{not_all}
use Rattle.mq_policy.proofs.area.covers_area.Goals as goal

pub returns-in-Some-None : goal.returns-in-Some-None
returns-in-Some-None c = rw (c.in-Some-None.is-0, c.in-Some-None.is-1) (λ no. absurd (both_ways false refl no), λ h. absurd (not_all c.in-Some-None.field-0-0 h))

pub returns-in-Some-Some : goal.returns-in-Some-Some
returns-in-Some-Some c = rw (c.in-Some-Some.is-0, c.in-Some-Some.is-1) c.covers.ensures
