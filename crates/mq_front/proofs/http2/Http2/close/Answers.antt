use Rattle.std.proofs.Common.{refl, subst, sym}
use Rattle.mq_talk.specs.declared.note.Why.{Why}
use Rattle.mq_talk.specs.declared.note.Why.TheVariants as why
use Rattle.mq_machine.specs.Http2.{closes}
use Rattle.mq_front.specs.declared.http2.Http2.{Http2 as Many}
use Rattle.mq_front.specs.Parts.{HasPutFrames}
use Rattle.mq_front.proofs.Apart.{closes_apart, done_by}
use Rattle.mq_front.proofs.http2.Http2.close.Goals as goal

pub returns-in-Port : goal.returns-in-Port
returns-in-Port c = λ h streams owed was.
    let old = c.args.self.now in
    let new : Many = record { h2 = c.reset-in-Port.new.self; streams = old.streams } in
    let P : Why → Type 0 = λ w. HasPutFrames new (closes c.args.stream c.args.begun w h) streams owed in
    subst P (sym c.in-Port.is)
    (done_by (closes c.args.stream c.args.begun why.Port) (closes_apart c.args.stream c.args.begun why.Port) old new h streams owed refl c.reset-in-Port.ensures was)
