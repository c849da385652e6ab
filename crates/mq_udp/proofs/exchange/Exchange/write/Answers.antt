use Rattle.std.proofs.Common.{◌≤◌, ℕ, List, length, refl, ap, subst}
use Rattle.mq_outside.specs.Counts.{LinkCounts}
use Rattle.mq_udp.proofs.Going.{wrote_on}
use Rattle.mq_udp.proofs.exchange.Exchange.write.Goals as goal

pub returns-in-Took-clause-goes : goal.returns-in-Took-clause-goes
returns-in-Took-clause-goes g c = λ ask moves s at.
    let owed = c.owed-owed.result.now in
    let is = c.owed-owed.ensures s at.stands in
    let some = rw (c.in-Took.is) at (c.write.ensures.some) in
    let within : c.in-Took.count ≤ length owed = some.1 in
    let stands = c.wrote.ensures s at.stands (subst (λ (bytes : List ℕ). c.in-Took.count ≤ length bytes) is within) in
    let past = rw (c.in-Took.is) at (c.write.ensures.past) in
    let counts = rw (c.in-Took.is) at (c.write.ensures.counts) in
    wrote_on g.L.Link.past g.L.Link.counts ask c.args.self.now _ moves s owed c.in-Took.count at is within stands past (ap (λ (n : LinkCounts). n.faults) counts) refl refl refl refl
