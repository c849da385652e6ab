use Rattle.std.proofs.Common.{length, slice_set, subst}
use Rattle.mq_talk.specs.Mails.{Boxes, PopGives}
use Rattle.mq_mem.specs.Mails.{Mail, shown}
use Rattle.mq_mem.proofs.Boxes.{pop_gives}
use Rattle.mq_mem.proofs.mail.PlainMailMail.pop.Goals as goal

pub returns-clause-gives : goal.returns-clause-gives
returns-clause-gives c =
    let items : Boxes = c.self.inside.boxes.items in
    let P : Mail → Type 0 = λ m. PopGives (length m.boxes) (shown m.boxes) m.actor c.pop.result (shown (slice_set items c.self.inside.actor c.pop.new.self)) in
    subst P c.self.view_is (pop_gives items c.self.inside.actor c.pop.result c.index_mut.result.now c.pop.new.self c.self.invariant c.index_mut.ensures.value c.pop.ensures)
