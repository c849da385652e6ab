use Rattle.std.proofs.Common.{◌≤◌, length, MatchOption, ap, sym, ◌∙◌, subst}
use Rattle.std.specs.Bool.{⊤}
use Rattle.mq_talk.specs.declared.place.Verdict.{Verdict}
use Rattle.mq_pump.specs.Holds.{CanGo}
use Rattle.mq_pump.specs.Receives.{judged_note, judged_parcel}
use Rattle.mq_pump.proofs.Coming.{flow_is, has_flow, comes_judged}
use Rattle.mq_pump.proofs.Inboxes.{judged_goes}
use Rattle.mq_pump.proofs.pump.Pump.came.Goals as goal

pub returns-in-NoRoute-clause-gives : goal.returns-in-NoRoute-clause-gives
returns-in-NoRoute-clause-gives g c =
    let self = c.args.self.now in
    let judged = c.judge-judged.result in
    comes_judged (g.O.Office.seen c.args.office.now) (g.O.Office.seen c.judge-judged.new.self) self.mtu self.received c.args.packet c.in-Ok.view.flow c.dropped-in-NoRoute.result self.to_push
    (flow_is c.args.packet c.as_slice.result.now c.in-Ok.view c.as_slice.ensures c.in-Ok.ensures)
    (subst (λ b. length b ≤ self.mtu) c.as_slice-2.ensures c.if-as_slice-self.false)
    (record {
      judged = judged;
      gives = c.judge-judged.ensures.gives;
      says = c.dropped-in-NoRoute.ensures ∙ ap (λ (v : Verdict). judged_note self.received judged.at v) (sym c.in-NoRoute.is);
      left = c.requires.none ∙ ap (λ (v : Verdict). judged_parcel self.received c.args.packet v) (sym c.in-NoRoute.is);
    })

pub returns-in-Pass-clause-left : goal.returns-in-Pass-clause-left
returns-in-Pass-clause-left g c =
    let self = c.args.self.now in
    let judged = c.judge-judged.result in
    subst (λ (v : Verdict). MatchOption (judged_parcel self.received c.args.packet v) ⊤ (CanGo self.workers)) c.in-Pass.is
    (judged_goes (g.O.Office.seen c.args.office.now) (g.O.Office.seen c.judge-judged.new.self) self.workers self.received c.args.packet c.in-Ok.view.flow judged c.judged_has_inbox.ensures c.requires.office c.requires.size
    (has_flow c.args.packet c.as_slice.result.now c.in-Ok.view c.as_slice.ensures c.in-Ok.ensures) (c.judge-judged.ensures.sound c.requires.sound) c.judge-judged.ensures.gives)
