use Rattle.std.proofs.Common.{◌≡◌, ℕ, length, Option, Some, None, MatchOption, refl, sym, ap, ◌∙◌, subst}
use Rattle.std.specs.Bool.{⊤}
use Rattle.mq_talk.specs.Mails.{Boxes, inbox_in, missed_by}
use Rattle.mq_talk.specs.declared.note.Note.{Note}
use Rattle.mq_talk.specs.declared.place.Parcel.{Parcel}
use Rattle.mq_machine.specs.Acting.{PumpSight}
use Rattle.mq_pump.specs.Holds.{CanGo, CanSend, pump_sight}
use Rattle.mq_pump.specs.Pushes.{Pushes}
use Rattle.mq_pump.specs.Sends.{NetSeen, net_seen, SendGives, missed_behind}
use Rattle.mq_pump.proofs.Pushing.{pushed}
use Rattle.mq_pump.proofs.Stepping.{sent, stands_for, nothing_to, none_of, received_by}
use Rattle.mq_pump.proofs.pump.Pump.step.Goals as goal

pub returns-in-Some-clause-gives : goal.returns-in-Some-clause-gives
returns-in-Some-clause-gives g c =
    let self = c.args.self.now in
    let seen = g.O.Office.seen c.args.office.now in
    let old : PumpSight = pump_sight (g.N.Net.holds self.net) (g.N.Net.counts self.net) seen (g.M.Mail.boxes c.args.mail.now) in
    let new : PumpSight = pump_sight (g.N.Net.holds self.net) (g.N.Net.counts self.net) seen (g.M.Mail.boxes c.push.new.mail) in
    pushed self (record self { to_push = c.take.new.self }) c.in-Some.parcel c.push.result old new (sym c.take.ensures.value ∙ c.in-Some.is)
    (ap (λ (o : Option Parcel). record self { to_push = o }) c.take.ensures.after) c.requires.office
    (subst (λ (n : ℕ). Pushes n old.boxes (inbox_in self.workers c.in-Some.parcel.to) c.in-Some.parcel c.push.result new.boxes) c.requires.inboxes c.push.ensures.gives) refl refl

pub returns-in-Some-clause-stands : goal.returns-in-Some-clause-stands
returns-in-Some-clause-stands g c =
    let self = c.args.self.now in
    let is = c.requires.stands.1 in
    stands_for (record self { to_push = c.take.new.self }) (nothing_to self.workers c.take.new.self c.take.ensures.after) is.can_send is.room

pub returns-in-Some-send-clause-gives : goal.returns-in-Some-send-clause-gives
returns-in-Some-send-clause-gives g c =
    let self = c.args.self.now in
    let seen = g.O.Office.seen c.args.office.now in
    let boxes = g.M.Mail.boxes c.args.mail.now in
    let after = g.M.Mail.boxes c.send.new.mail in
    let q = c.send.new.self in
    let net : NetSeen = net_seen (g.N.Net.holds self.net) (g.N.Net.counts self.net) in
    let net_after : NetSeen = net_seen (g.N.Net.holds q.net) (g.N.Net.counts q.net) in
    let old : PumpSight = pump_sight (g.N.Net.holds self.net) (g.N.Net.counts self.net) seen boxes in
    let new : PumpSight = pump_sight (g.N.Net.holds q.net) (g.N.Net.counts q.net) seen after in
    let said = c.in-Some-send.note in
    let none : self.to_push ≡ None = sym c.take.ensures.value ∙ none_of c.take.result (λ parcel is. c.in_default.not-Some parcel is) in
    sent self q self.to_send said q.to_send old new none refl
    (q.net, c.send.ensures.rest ∙ ap (λ (o : Option Parcel). record self { net = q.net; to_send = q.to_send; to_push = o }) (c.take.ensures.after ∙ sym none)) c.send.ensures.left c.requires.office
    (subst (λ (n : ℕ). SendGives self.to_send n boxes self.workers after net net_after (Some said) q.to_send) c.requires.inboxes
    (subst (λ (a : ℕ). SendGives self.to_send (g.M.Mail.count c.args.mail.now) boxes a after net net_after (Some said) q.to_send) c.requires.mail c.in-Some-send.ensures.gives)) refl

pub returns-in-Some-send-clause-stands : goal.returns-in-Some-send-clause-stands
returns-in-Some-send-clause-stands g c =
    let q = c.send.new.self in
    let rest = c.send.ensures.rest in
    stands_for q (nothing_to q.workers q.to_push (ap (λ p. p.to_push) rest ∙ c.take.ensures.after)) c.send.ensures.left
    (ap (λ p. length p.datagrams.room.items) rest ∙ c.requires.stands.1.room)

pub returns-clause-gives : goal.returns-clause-gives
returns-clause-gives g c =
    let self = c.args.self.now in
    let boxes = g.M.Mail.boxes c.args.mail.now in
    let after = g.M.Mail.boxes c.send.new.mail in
    let m = c.send.new.self in
    let q = c.receive.new.self in
    let net : NetSeen = net_seen (g.N.Net.holds self.net) (g.N.Net.counts self.net) in
    let mid : NetSeen = net_seen (g.N.Net.holds m.net) (g.N.Net.counts m.net) in
    let old : PumpSight = pump_sight (g.N.Net.holds self.net) (g.N.Net.counts self.net) (g.O.Office.seen c.args.office.now) boxes in
    let new : PumpSight = pump_sight (g.N.Net.holds q.net) (g.N.Net.counts q.net) (g.O.Office.seen c.receive.new.office) after in
    let none : self.to_push ≡ None = sym c.take.ensures.value ∙ none_of c.take.result (λ parcel is. c.in_default.not-Some parcel is) in
    let quiet : c.send.result ≡ None = none_of c.send.result (λ note is. c.in_default-send.not-Some note is) in
    let rest = c.receive.ensures.rest in
    received_by self m q old new mid c.receive.result none
    (m.net, c.send.ensures.rest ∙ ap (λ (o : Option Parcel). record self { net = m.net; to_send = m.to_send; to_push = o }) (c.take.ensures.after ∙ sym none)) c.requires.office
    (subst (λ (n : ℕ). SendGives self.to_send n boxes self.workers after net mid None m.to_send) c.requires.inboxes
    (subst (λ (a : ℕ). SendGives self.to_send (g.M.Mail.count c.args.mail.now) boxes a after net mid None m.to_send) c.requires.mail
    (subst (λ (said : Option Note). SendGives self.to_send (g.M.Mail.count c.args.mail.now) boxes (g.M.Mail.actor c.args.mail.now) after net mid said m.to_send) quiet c.send.ensures.gives))) c.receive.ensures.gives
    (ap (λ p. p.mtu) rest) (ap (λ p. p.workers) rest) (ap (λ p. p.to_send) rest) c.receive.ensures.room c.receive.ensures.left

pub returns-clause-stands : goal.returns-clause-stands
returns-clause-stands g c =
    let m = c.send.new.self in
    let q = c.receive.new.self in
    let rest = c.receive.ensures.rest in
    stands_for q (subst (λ (w : ℕ). MatchOption q.to_push ⊤ (CanGo w)) (sym (ap (λ p. p.workers) rest)) c.receive.ensures.left)
    (subst (λ (o : Option Parcel). MatchOption o ⊤ CanSend) (sym (ap (λ p. p.to_send) rest)) c.send.ensures.left) c.receive.ensures.room

pub returns-clause-asked : goal.returns-clause-asked
returns-clause-asked g c s is none quiet =
    let told : Option Boxes = (g.M.Mail.boxes c.args.mail.now).told in
    let missed = g.M.Mail.missed c.args.mail.now in
    let nothing : c.send.result ≡ None = none_of c.send.result (λ note said. c.in_default-send.not-Some note said) in
    c.send.ensures.missed ∙ ap (λ (o : Option Parcel). missed_behind o c.send.result told missed) (sym is.to_send ∙ none)
    ∙ ap (λ (said : Option Note). missed_by said told missed) nothing
