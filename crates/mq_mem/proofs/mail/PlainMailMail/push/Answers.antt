use Rattle.std.proofs.Common.{◌<◌, length, slice_set, sym, subst}
use Rattle.mq_talk.specs.Mails.{Boxes, PushGives}
use Rattle.mq_mem.specs.Mails.{Mail, shown}
use Rattle.mq_mem.proofs.Boxes.{push_gives}
use Rattle.mq_mem.proofs.mail.PlainMailMail.push.Goals as goal

pub returns-clause-gives : goal.returns-clause-gives
returns-clause-gives c =
    let items : Boxes = c.self.inside.boxes.items in
    let P : Mail → Type 0 = λ m. PushGives (length m.boxes) (shown m.boxes) c.args.to c.args.parcel c.push.result (shown (slice_set items c.args.to c.push.new.self)) in
    let Q : Mail → Type 0 = λ m. c.args.to < length m.boxes in
    subst P c.self.view_is (push_gives items c.args.to c.args.parcel c.push.result c.index_mut.result.now c.push.new.self (subst Q (sym c.self.view_is) c.requires.inbox) c.index_mut.ensures.value c.push.ensures)
