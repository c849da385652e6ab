use Rattle.std.proofs.Common.{subst}
use Rattle.mq_machine.specs.Reading.{FieldsMean}
use Rattle.mq_front.specs.declared.judge.Verdict.{Verdict}
use Rattle.mq_front.specs.Meanings.{meaning_of}
use Rattle.mq_front.proofs.Asking.{leads_all, refuses_all}
use Rattle.mq_front.proofs.event.request.Goals as goal

pub returns-in-Leads : goal.returns-in-Leads
returns-in-Leads c =
    let P : Verdict → Type 0 = λ v. FieldsMean c.args.setup.now c.args.fields.now (meaning_of v) in
    let means = subst P c.in-Leads.is c.in_ok-goal.ensures in
    leads_all c.args.setup.now c.args.id c.args.fields.now c.in-Leads.goal c.args.ends c.args.due.now c.lead.new.due c.args.streams.now.items c.lead.new.streams.items c.lead.result means c.lead.ensures

pub returns-in-Refused : goal.returns-in-Refused
returns-in-Refused c =
    let P : Verdict → Type 0 = λ v. FieldsMean c.args.setup.now c.args.fields.now (meaning_of v) in
    refuses_all c.args.setup.now c.args.id c.args.fields.now c.in-Refused.status c.in-Refused.rule c.args.ends c.args.due.now c.push.new.self c.args.streams.now.items c.push.result
    (subst P c.in-Refused.is c.in_ok-goal.ensures) c.push.ensures
