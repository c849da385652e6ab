use Rattle.std.proofs.Common.{◌≡◌, ◌∙◌, ℕ, List, take, drop, length, sym, ap, subst}
use Rattle.mq_outside.specs.declared.PortGot.{PortGot}
use Rattle.mq_outside.specs.declared.PortGot.TheVariants as got
use Rattle.mq_outside.specs.Ports.{PortReceives, after_receive, past_received}
use Rattle.mq_held.proofs.datagrams.receive.Goals as goal
use Rattle.mq_held.proofs.Sending.{some_same}
use Rattle.mq_held.proofs.Receiving.{pasted, takes_datagram}

pub returns-in-Some-Datagram-clause-gives : goal.returns-in-Some-Datagram-clause-gives
returns-in-Some-Datagram-clause-gives g c = λ was at.
    let ch = c.in-Some-Datagram.ensures.receives in
    let here : was ≡ ch.was = some_same was ch.was (sym at ∙ ch.at) in
    let count : ℕ = c.in-Some-Datagram.count in
    let Q : g.row.P-P.Denot → PortGot → Type 0 = λ w o. PortReceives (g.P.P.Port.holds w) (g.P.P.Port.holds ch.now) c.recv.new.into o in
    let is : c.in-Some-Datagram.field-0 ≡ got.Datagram count = c.in-Some-Datagram.field-0-is in
    let P : g.row.P-P.Denot → Type 0 = λ w. Q w c.in-Some-Datagram.field-0 in
    let receives = subst (Q was) is (subst P (sym here) ch.does.0) in
    let gave : g.P.P.Port.past ch.now ≡ past_received (g.P.P.Port.past was) c.recv.new.into (got.Datagram count) =
    ch.does.1 ∙ ap (λ (o : PortGot). past_received (g.P.P.Port.past ch.was) c.recv.new.into o) is
    ∙ ap (λ (w : g.row.P-P.Denot). past_received (g.P.P.Port.past w) c.recv.new.into (got.Datagram count)) (sym here) in
    let counts : g.P.P.Port.counts ch.now ≡ g.P.P.Port.counts was =
    ch.does.2 ∙ ap (λ (o : PortGot). after_receive (g.P.P.Port.counts ch.was) o) is ∙ ap g.P.P.Port.counts (sym here) in (
      ch.now,
      ch.updates.changed,
      takes_datagram (g.P.P.Port.holds was) (g.P.P.Port.holds ch.now) (g.P.P.Port.past was) (g.P.P.Port.past ch.now) (g.P.P.Port.counts was) (g.P.P.Port.counts ch.now) c.recv.new.into c.keep-packet.result count receives gave counts
          (c.keep-packet.ensures.first ∙ ap (λ (xs : List ℕ). take count xs) (pasted c.take_spare.new.self.room.len c.recv.new.into (drop (length c.recv.new.into) c.take_spare.new.self.room.items) (c.recv.ensures.size ∙ c.as_mut_slice.ensures.len))),
    )
