use Rattle.std.proofs.Common.{◌≡◌, ℕ, ap, ◌∙◌, subst, sym, arith}
use Rattle.mq_talk.specs.declared.place.Parcel.{Parcel}
use Rattle.mq_talk.specs.Mails.{IsParcel, PushGives, inbox_in}
use Rattle.mq_conn.specs.Wants.{is_taken}
use Rattle.mq_held.proofs.Streams.{push_packet, push_some}
use Rattle.mq_held.proofs.held.Held.push.Goals as goal

pub push-pushed-requires-clause-inbox : goal.push-pushed-requires-clause-inbox
push-pushed-requires-clause-inbox g c =
    let w = c.requires.wants in
    let same : c.parcel-parcel.result ≡ w.1 = c.parcel-parcel.ensures.parcel_is w.0 w.2 w.1 w.3 in
    let to = c.inbox-to.ensures ∙ ap (λ (p : Parcel). inbox_in c.args.workers p.to) same in
    let below = w.4 in
    let many = c.requires.inboxes in
    omega (arith, to, below, many)

pub push-pushed-requires-clause-packet : goal.push-pushed-requires-clause-packet
push-pushed-requires-clause-packet g c =
    let w = c.requires.wants in
    let same : c.parcel-parcel.result ≡ w.1 = c.parcel-parcel.ensures.parcel_is w.0 w.2 w.1 w.3 in
    let P : Parcel → Type 0 = λ p. IsParcel p in
    subst P (sym same) (push_packet w.0 w.1 w.2.lawful w.3)

pub returns-clause-gives : goal.returns-clause-gives
returns-clause-gives g c = λ s conn parcel want.
    let same : c.parcel-parcel.result ≡ parcel = c.parcel-parcel.ensures.parcel_is s conn parcel want in
    let p = c.push-pushed.result in
    let d = c.pushed.ensures s (c.parcel-parcel.ensures.lent s conn) (push_some s parcel (is_taken p) want) in
    let count = g.M.Mail.count c.args.mail.now in
    let old = g.M.Mail.boxes c.args.mail.now in
    let new = g.M.Mail.boxes c.push-pushed.new.self in
    let T : ℕ → Type 0 = λ to. PushGives count old to c.parcel-parcel.result p new in
    let G : Parcel → Type 0 = λ x. PushGives count old (inbox_in c.args.workers x.to) x p new in
    record { pushed = p; gives = subst G same (subst T c.inbox-to.ensures c.push-pushed.ensures.gives); t = d.0; does = d.2; stands_for = d.1 }
