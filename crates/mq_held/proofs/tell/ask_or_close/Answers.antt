use Rattle.std.proofs.Common.{refl, subst}
use Rattle.mq_talk.specs.declared.book.Reply.{Reply}
use Rattle.mq_talk.specs.Offices.{CallOk}
use Rattle.mq_held.proofs.Asked.{full_settles, may_close, placed_asks}
use Rattle.mq_held.proofs.Telling.{tells}
use Rattle.mq_held.proofs.tell.ask_or_close.Goals as goal

pub call-requires-in-HistoryFull : goal.call-requires-in-HistoryFull
call-requires-in-HistoryFull g c =
    let old = g.O.Office.seen c.args.office.now in
    let mid = g.O.Office.seen c.call.new.self in
    let R : Reply → Type 0 = λ r. CallOk old.actor old c.args.call r mid in
    may_close old mid c.args.tunnel c.args.call c.in-HistoryFull.entries c.in-HistoryFull.live c.requires.tunnel c.call.ensures.actor
    (subst R c.in-HistoryFull.is c.in_ok-reply.ensures.gives) c.requires.may

pub returns-in-HistoryFull-clause-gives : goal.returns-in-HistoryFull-clause-gives
returns-in-HistoryFull-clause-gives g c =
    let old = g.O.Office.seen c.args.office.now in
    let mid = g.O.Office.seen c.call.new.self in
    let R : Reply → Type 0 = λ r. CallOk old.actor old c.args.call r mid in
    full_settles c.stays_full.ensures old mid (g.O.Office.seen c.call-in-HistoryFull.new.self) c.args.tunnel c.args.call c.in-HistoryFull.entries c.in-HistoryFull.live c.call-in-HistoryFull.result
    c.requires.tunnel c.call.ensures.actor (subst R c.in-HistoryFull.is c.in_ok-reply.ensures.gives) c.call-in-HistoryFull.ensures.gives (c.call-in-HistoryFull.ensures.close c.args.tunnel refl)

pub returns-in_default : goal.returns-in_default
returns-in_default g c =
    let old = g.O.Office.seen c.args.office.now in
    let new = g.O.Office.seen c.call.new.self in
    let ok = c.in_ok-reply.ensures in
    record {
      gives = placed_asks old.actor old new c.args.call c.in_ok-reply.reply c.in_default.not-HistoryFull ok.gives;
      told = tells c.begins_legal.ensures c.answers_can_be_told.ensures.told old.actor old new c.args.call c.in_ok-reply.reply ok.gives (ok.sound c.requires.sound);
      actor = c.call.ensures.actor;
      sound = ok.sound c.requires.sound;
    }
