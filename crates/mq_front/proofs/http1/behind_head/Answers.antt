use Rattle.std.proofs.Common.{List, ℕ, Some, drop, sym, ap, subst, ◌∙◌}
use Rattle.mq_head.specs.declared.step.HeadStep.{HeadStep}
use Rattle.mq_machine.specs.Reading.{PathMeans}
use Rattle.mq_front.specs.declared.judge.Verdict.{Verdict}
use Rattle.mq_front.specs.declared.judge.Verdict.TheVariants as verdict
use Rattle.mq_front.specs.Meanings.{meaning_of}
use Rattle.mq_front.specs.Parts.{AnswersHead}
use Rattle.mq_front.proofs.OneStream.{refused_head, refused_path, leads_so}
use Rattle.mq_front.proofs.http1.behind_head.Goals as goal

pub returns-in-Refuse : goal.returns-in-Refuse
returns-in-Refuse c =
    let one = c.in_ok-one-in-Refuse in
    let now = one.ensures {u = tt} in
    let P : HeadStep → Type 0 = λ step. AnswersHead c.args.setup.now step c.args.bytes.now c.args.due.now c.refuse.new.due (Some one.one) in
    subst P (sym c.in-Refuse.is) (refused_head c.args.setup.now c.args.bytes.now c.args.due.now c.refuse.new.due c.in-Refuse.status one.one now.0 now.1)

pub returns-in-Refused : goal.returns-in-Refused
returns-in-Refused c =
    let up = c.in-Upgrade in
    let one = c.in_ok-one-in-Refused in
    let now = one.ensures {u = tt} in
    let P : HeadStep → Type 0 = λ step. AnswersHead c.args.setup.now step c.args.bytes.now c.args.due.now c.refuse-in-Refused.new.due (Some one.one) in
    let Q : Verdict → Type 0 = λ v. PathMeans c.args.setup.now up.kind c.as_slice.result.now (meaning_of v) in
    let R : List ℕ → Type 0 = λ path. PathMeans c.args.setup.now up.kind path (meaning_of (verdict.Refused c.in-Refused.status c.in-Refused.rule)) in
    subst P (sym up.is)
    (refused_path c.args.setup.now c.args.bytes.now up.path up.kind up.used c.args.due.now c.refuse-in-Refused.new.due c.in-Refused.status c.in-Refused.rule one.one
    (subst R c.as_slice.ensures (subst Q c.in-Refused.is c.in_ok-status-in-Upgrade.ensures)) now.0 now.1)

pub returns : goal.returns
returns c =
    let up = c.in-Upgrade in
    let one = c.in_ok-one-in-Leads in
    let P : HeadStep → Type 0 = λ step. AnswersHead c.args.setup.now step c.args.bytes.now c.args.due.now c.lead.new.due (Some one.one) in
    let Q : Verdict → Type 0 = λ v. PathMeans c.args.setup.now up.kind c.as_slice.result.now (meaning_of v) in
    let R : List ℕ → Type 0 = λ path. PathMeans c.args.setup.now up.kind path (meaning_of (verdict.Leads c.in-Leads.goal)) in
    subst P (sym up.is)
    (leads_so c.args.setup.now c.args.bytes.now c.split_at.result.1.now up.path up.kind up.used c.args.due.now c.lead.new.due c.in-Leads.goal one.one
    (c.split_at.ensures.back ∙ ap (λ (n : ℕ). drop n c.args.bytes.now) c.min.ensures)
    (subst R c.as_slice.ensures (subst Q c.in-Leads.is c.in_ok-status-in-Upgrade.ensures)) (one.ensures {u = tt}))
