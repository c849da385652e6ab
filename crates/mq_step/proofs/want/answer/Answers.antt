use Rattle.std.proofs.Common.{◌≡◌, ◌∙◌, ◌+◌, ℕ, false, refl, sym, ap, subst}
use Rattle.mq_talk.specs.declared.goal.Goal.TheVariants as goals
use Rattle.mq_talk.specs.declared.book.Call.TheVariants.{Close}
use Rattle.mq_talk.specs.declared.book.Config.{Config}
use Rattle.mq_talk.specs.Mails.{HasInbox, inbox_in}
use Rattle.mq_machine.specs.Acting.{Binder, binder}
use Rattle.mq_machine.specs.Want.{Bind, Say, Said, Ask, want_of}
use Rattle.mq_conn.specs.declared.want.Want.{Want}
use Rattle.mq_conn.specs.Wants.{IsWant}
use Rattle.mq_step.specs.Holds.{HasInboxes, IsHeld}
use Rattle.mq_step.proofs.Filling.{none_changed}
use Rattle.mq_step.proofs.Cores.{judge_live, push_has}
use Rattle.mq_step.proofs.Asking.{live_mine}
use Rattle.mq_step.proofs.Telling.{judges, push_keeps, pushes}
use Rattle.mq_step.proofs.Seeing.{sight_of, sight_sees}
use Rattle.mq_step.proofs.Stepping.{config_stays, silent}
use Rattle.mq_step.proofs.Wanting.{mailed}
use Rattle.mq_step.proofs.Saying.{say_some}
use Rattle.mq_step.proofs.Standing.{same_apart, bound_none}
use Rattle.mq_step.proofs.Binding.{Stays, held_back, sinks_alone, bind_sinks, says, quiet, ends, err_gives, bind_comes}
use Rattle.mq_step.specs.Notes.{stepped_with}
use Rattle.mq_step.proofs.want.answer.Goals as goal

pub returns-in-Nothing-clause-gives : goal.returns-in-Nothing-clause-gives
returns-in-Nothing-clause-gives g c = λ o n so sn s held want.
    let old = c.args.held.now in
    let table = c.args.table.now.table in
    let W : Want → Type 0 = λ w. IsWant w (want_of s.conn) in
    let wanted = subst W c.in-Nothing.is want in
    let stays : Stays g.P.P.Port.most g.P.P.Port.holds g.P.P.Port.counts (binder g.P.Ports.holds g.P.Ports.faults c.args.table.now.ports) (binder g.P.Ports.holds g.P.Ports.faults c.args.table.now.ports) table table old old o n s =
    record { held = held; keeps = none_changed table; seats = refl; number = refl; sees = so; sees_after = sn } in
    (quiet g.P.P.Port.most g.P.P.Port.holds g.P.P.Port.counts (binder g.P.Ports.holds g.P.Ports.faults c.args.table.now.ports) (binder g.P.Ports.holds g.P.Ports.faults c.args.table.now.ports) table table old old o n s stays (g.O.Office.seen c.args.office.now) (g.M.Mail.boxes c.args.mail.now) wanted refl, held)

pub returns-in_err-note-in-Say-clause-gives : goal.returns-in_err-note-in-Say-clause-gives
returns-in_err-note-in-Say-clause-gives g c = λ o n so sn s held want.
    let m = mailed (g.O.Office.seen c.args.office.now) (g.M.Mail.count c.args.mail.now) (g.M.Mail.boxes c.args.mail.now) c.requires.inboxes in
    let old = c.args.held.now in
    let new = record old { conn = c.say.new.self } in
    let table = c.args.table.now.table in
    let binds = binder g.P.Ports.holds g.P.Ports.faults c.args.table.now.ports in
    let seen = g.O.Office.seen c.args.office.now in
    let W : Want → Type 0 = λ w. IsWant w (want_of s.conn) in
    let wanted = subst W c.in-Say.is want in
    let stays : Stays g.P.P.Port.most g.P.P.Port.holds g.P.P.Port.counts binds binds table table old new o n s =
    record { held = held; keeps = none_changed table; seats = refl; number = refl; sees = so; sees_after = sn } in
    let bound = bound_none g.P.P.Port.most table old.ports.items (want_of s.conn) Say old.bound held.bound wanted in
    err_gives o n seen seen m.mail m.mail (IsHeld g.P.P.Port.most table new) s c.from_residual.result c.args.told.now c.from_residual.ensures.0
    (λ orders.
    let x = sinks_alone g.P.P.Port.most g.P.P.Port.holds g.P.P.Port.counts binds binds table table old new o n s stays seen m orders Say Said false wanted (λ ports. refl) refl bound
    (c.in_err-note-in-Say.ensures.answers s.conn held.conn) (refl, refl, refl) (held_back g.P.P.Port.most g.P.P.Port.holds g.P.P.Port.counts binds binds table table old new o n s stays refl) in
    (x.left_is, x.starves, x.stands_for, x.told_is))

pub returns-in_ok-note-in-Say-clause-gives : goal.returns-in_ok-note-in-Say-clause-gives
returns-in_ok-note-in-Say-clause-gives g c = λ o n so sn s held want orders.
    let m = mailed (g.O.Office.seen c.args.office.now) (g.M.Mail.count c.args.mail.now) (g.M.Mail.boxes c.args.mail.now) c.requires.inboxes in
    let old = c.args.held.now in
    let new = record old { conn = c.say.new.self } in
    let table = c.args.table.now.table in
    let binds = binder g.P.Ports.holds g.P.Ports.faults c.args.table.now.ports in
    let W : Want → Type 0 = λ w. IsWant w (want_of s.conn) in
    let wanted = subst W c.in-Say.is want in
    let stays : Stays g.P.P.Port.most g.P.P.Port.holds g.P.P.Port.counts binds binds table table old new o n s =
    record { held = held; keeps = none_changed table; seats = refl; number = refl; sees = so; sees_after = sn } in
    let d = c.in_ok-note-in-Say.ensures.answers s.conn held.conn (say_some s.conn wanted) in
    let x = says g.P.P.Port.most g.P.P.Port.holds g.P.P.Port.counts binds binds table table old new o n s stays (g.O.Office.seen c.args.office.now) m orders c.in_ok-note-in-Say.note d.0 wanted refl refl d.2 d.1 in
    (x.left_is, x.done_is, x.stands_for, x.told_is)

pub returns-in_err-note-in-Bind-clause-gives : goal.returns-in_err-note-in-Bind-clause-gives
returns-in_err-note-in-Bind-clause-gives g c = λ o n so sn s held want.
    let m = mailed (g.O.Office.seen c.args.office.now) (g.M.Mail.count c.args.mail.now) (g.M.Mail.boxes c.args.mail.now) c.requires.inboxes in
    let old = c.args.held.now in
    let new = c.bind.new.held in
    let table = c.args.table.now.table in
    let after = c.bind.new.table.table in
    let binds = binder g.P.Ports.holds g.P.Ports.faults c.args.table.now.ports in
    let binds_after = binder g.P.Ports.holds g.P.Ports.faults c.bind.new.table.ports in
    let seen = g.O.Office.seen c.args.office.now in
    let goal_is = goals.Udp c.in-Bind.addr c.in-Bind.port in
    let W : Want → Type 0 = λ w. IsWant w (want_of s.conn) in
    let wanted = subst W c.in-Bind.is want in
    let none = bound_none g.P.P.Port.most table old.ports.items (want_of s.conn) (Bind wanted.0 goal_is) old.bound held.bound wanted.1 in
    let e = c.in_err-note-in-Bind.ensures in
    let stays : Stays g.P.P.Port.most g.P.P.Port.holds g.P.P.Port.counts binds binds_after table after old new o n s =
    record { held = held; keeps = e.keeps none; seats = e.seats; number = ap (λ h. h.number) e.rest; sees = so; sees_after = sn } in
    err_gives o n seen seen m.mail m.mail (IsHeld g.P.P.Port.most after new) s c.from_residual-in_err-note-in-Bind.result c.args.told.now c.from_residual-in_err-note-in-Bind.ensures.0
    (λ orders.
    let x = bind_sinks g.P.P.Port.most g.P.P.Port.holds g.P.P.Port.counts binds binds_after table after old new o n s stays seen m orders wanted.0 goal_is wanted.1 e.fails
    (e.starves s.conn held.conn wanted.0 goal_is wanted.1) (e.refused none) in
    (x.left_is, x.starves, x.stands_for, x.told_is))

pub returns-in_ok-note-in-Bind-clause-gives : goal.returns-in_ok-note-in-Bind-clause-gives
returns-in_ok-note-in-Bind-clause-gives g c = λ o n so sn s held want orders.
    let m = mailed (g.O.Office.seen c.args.office.now) (g.M.Mail.count c.args.mail.now) (g.M.Mail.boxes c.args.mail.now) c.requires.inboxes in
    let old = c.args.held.now in
    let new = c.bind.new.held in
    let table = c.args.table.now.table in
    let after = c.bind.new.table.table in
    let binds = binder g.P.Ports.holds g.P.Ports.faults c.args.table.now.ports in
    let binds_after = binder g.P.Ports.holds g.P.Ports.faults c.bind.new.table.ports in
    let seen = g.O.Office.seen c.args.office.now in
    let goal_is = goals.Udp c.in-Bind.addr c.in-Bind.port in
    let W : Want → Type 0 = λ w. IsWant w (want_of s.conn) in
    let wanted = subst W c.in-Bind.is want in
    let none = bound_none g.P.P.Port.most table old.ports.items (want_of s.conn) (Bind wanted.0 goal_is) old.bound held.bound wanted.1 in
    let e = c.in_ok-note-in-Bind.ensures in
    let stays : Stays g.P.P.Port.most g.P.P.Port.holds g.P.P.Port.counts binds binds_after table after old new o n s =
    record { held = held; keeps = e.keeps none; seats = e.seats; number = ap (λ h. h.number) e.rest; sees = so; sees_after = sn } in
    let x = bind_comes g.P.P.Port.most g.P.P.Port.holds g.P.P.Port.counts binds binds_after table after old new o n s stays seen m orders c.in_ok-note-in-Bind.note wanted.0 c.in-Bind.port c.in-Bind.addr wanted.1 e.room
    (e.gives s.conn held.conn wanted.0 goal_is wanted.1) in
    (x.left_is, x.done_is, x.stands_for, x.told_is)

pub returns-in-Ask-clause-gives : goal.returns-in-Ask-clause-gives
returns-in-Ask-clause-gives g c = λ o n so sn s held want.
    let W : Want → Type 0 = λ w. IsWant w (want_of s.conn) in
    c.ask.ensures.gives o n so sn s held (subst W c.in-Ask.is want) (g.M.Mail.count c.args.mail.now) (g.M.Mail.boxes c.args.mail.now) c.requires.inboxes

pub returns-in-SendUdp-clause-gives : goal.returns-in-SendUdp-clause-gives
returns-in-SendUdp-clause-gives g c = λ o n so sn s held want.
    let W : Want → Type 0 = λ w. IsWant w (want_of s.conn) in
    let wanted = subst W c.in-SendUdp.is want in
    c.send.ensures.gives o n so sn (g.O.Office.seen c.args.office.now) s held c.in-SendUdp.n wanted.0 wanted.1 (g.M.Mail.count c.args.mail.now) (g.M.Mail.boxes c.args.mail.now) c.requires.inboxes

pub returns-in-Ended-clause-gives : goal.returns-in-Ended-clause-gives
returns-in-Ended-clause-gives g c = λ o n so sn s held want orders.
    let m = mailed (g.O.Office.seen c.args.office.now) (g.M.Mail.count c.args.mail.now) (g.M.Mail.boxes c.args.mail.now) c.requires.inboxes in
    let old = c.args.held.now in
    let table = c.args.table.now.table in
    let binds = binder g.P.Ports.holds g.P.Ports.faults c.args.table.now.ports in
    let W : Want → Type 0 = λ w. IsWant w (want_of s.conn) in
    ends g.P.P.Port.most g.P.P.Port.holds g.P.P.Port.counts binds binds table table old old o n s (g.O.Office.seen c.args.office.now) m orders c.in-Ended.why old.number (subst W c.in-Ended.is want) held.number
    (ap (λ (b : Binder). b.holds) (sn.binds_are ∙ sym so.binds_are))

pub returns-in-Ask-clause-closes : goal.returns-in-Ask-clause-closes
returns-in-Ask-clause-closes g c = λ s held want tunnel closes.
    let W : Want → Type 0 = λ w. IsWant w (want_of s.conn) in
    let wanted = subst W c.in-Ask.is want in
    let same : Ask c.in-Ask.call ≡ Ask (Close tunnel) = sym wanted ∙ closes in
    let asked : c.in-Ask.call ≡ Close tunnel = cc in
    c.ask.ensures.closes s held wanted tunnel asked (g.M.Mail.count c.args.mail.now) (g.M.Mail.boxes c.args.mail.now) c.requires.inboxes

pub returns-in-Nothing-clause-apart : goal.returns-in-Nothing-clause-apart
returns-in-Nothing-clause-apart g c = c.requires.known.1.apart

pub returns-in_err-note-in-Say-clause-apart : goal.returns-in_err-note-in-Say-clause-apart
returns-in_err-note-in-Say-clause-apart g c = c.requires.known.1.apart

pub returns-in_ok-note-in-Say-clause-apart : goal.returns-in_ok-note-in-Say-clause-apart
returns-in_ok-note-in-Say-clause-apart g c = c.requires.known.1.apart

pub returns-in_err-note-in-Bind-clause-apart : goal.returns-in_err-note-in-Bind-clause-apart
returns-in_err-note-in-Bind-clause-apart g c = same_apart c.args.held.now.ports.items c.bind.new.held.ports.items c.in_err-note-in-Bind.ensures.seats c.requires.known.1.apart

pub returns-in_ok-note-in-Bind-clause-apart : goal.returns-in_ok-note-in-Bind-clause-apart
returns-in_ok-note-in-Bind-clause-apart g c = same_apart c.args.held.now.ports.items c.bind.new.held.ports.items c.in_ok-note-in-Bind.ensures.seats c.requires.known.1.apart

pub returns-in-SendUdp-clause-apart : goal.returns-in-SendUdp-clause-apart
returns-in-SendUdp-clause-apart g c = same_apart c.args.held.now.ports.items c.send.new.held.ports.items (ap (λ h. h.ports.items) c.send.ensures.rest) c.requires.known.1.apart

pub returns-in-Ended-clause-apart : goal.returns-in-Ended-clause-apart
returns-in-Ended-clause-apart g c = c.requires.known.1.apart

pub returns-in-Judge-clause-gives : goal.returns-in-Judge-clause-gives
returns-in-Judge-clause-gives g c = λ o n so sn s held want orders.
    let m = mailed (g.O.Office.seen c.args.office.now) (g.M.Mail.count c.args.mail.now) (g.M.Mail.boxes c.args.mail.now) c.requires.inboxes in
    let old = c.args.held.now in
    let new = c.judge.new.self in
    let table = c.args.table.now.table in
    let binds = binder g.P.Ports.holds g.P.Ports.faults c.args.table.now.ports in
    let W : Want → Type 0 = λ w. IsWant w (want_of s.conn) in
    let wanted = subst W c.in-Judge.is want in
    let rest = c.judge.ensures.rest in
    let stays : Stays g.P.P.Port.most g.P.P.Port.holds g.P.P.Port.counts binds binds table table old new o n s =
    record { held = held; keeps = none_changed table; seats = ap (λ h. h.ports.items) rest; number = ap (λ h. h.number) rest; sees = so; sees_after = sn } in
    let x = judges g.P.P.Port.most g.P.P.Port.holds g.P.P.Port.counts binds binds table table old new o n s stays (g.O.Office.seen c.args.office.now) (g.O.Office.seen c.judge.new.office) m orders
    c.judge.result c.in-Judge.tunnel c.in-Judge.n c.in-Judge.flow wanted (ap (λ h. h.bound) rest) refl
    (c.judge.ensures.gives s.conn held.conn c.in-Judge.n wanted) in
    (x.left_is, x.done_is, x.stands_for, x.told_is)

pub judge-requires : goal.judge-requires
judge-requires g c =
    let k = c.requires.known in
    let seen = g.O.Office.seen c.args.office.now in
    let W : Want → Type 0 = λ w. IsWant w (want_of k.0.conn) in
    let a = judge_live k.0.conn c.in-Judge.tunnel c.in-Judge.n c.in-Judge.flow (subst W c.in-Judge.is k.3) in
    record { may = live_mine seen seen.actor k.0 c.in-Judge.tunnel a.0 k.2 a.1 }

pub returns-in-Push-clause-gives : goal.returns-in-Push-clause-gives
returns-in-Push-clause-gives g c = λ o n so sn s held want orders.
    let old = c.args.held.now in
    let new = c.push.new.self in
    let table = c.args.table.now.table in
    let binds = binder g.P.Ports.holds g.P.Ports.faults c.args.table.now.ports in
    let seen = g.O.Office.seen c.args.office.now in
    let W : Want → Type 0 = λ w. IsWant w (want_of s.conn) in
    let wanted = subst W c.in-Push.is want in
    let rest = c.push.ensures.rest in
    let stays : Stays g.P.P.Port.most g.P.P.Port.holds g.P.P.Port.counts binds binds table table old new o n s =
    record { held = held; keeps = none_changed table; seats = ap (λ h. h.ports.items) rest; number = ap (λ h. h.number) rest; sees = so; sees_after = sn } in
    pushes g.P.P.Port.most g.P.P.Port.holds g.P.P.Port.counts binds binds table table old new o n s stays seen (g.M.Mail.count c.args.mail.now) c.args.pump (g.M.Mail.boxes c.args.mail.now)
    (g.M.Mail.boxes c.push.new.mail) orders c.push.result wanted.0 c.requires.inboxes c.requires.pump wanted.1 (ap (λ h. h.bound) rest) refl
    (c.push.ensures.gives s.conn held.conn wanted.0 wanted.1)

pub push-requires : goal.push-requires
push-requires g c =
    let k = c.requires.known in
    let seen = g.O.Office.seen c.args.office.now in
    let W : Want → Type 0 = λ w. IsWant w (want_of k.0.conn) in
    let wanted = subst W c.in-Push.is k.3 in
    let P : ℕ → Type 0 = λ n. HasInbox n wanted.0.to in
    record {
      wants = (k.0.conn, wanted.0, k.1.conn, wanted.1, subst P (sym c.requires.pump) (push_has k.0.conn seen.config.workers wanted.0 k.2.places wanted.1));
      inboxes = c.requires.inboxes.count_is ∙ ap (λ (n : ℕ). n + 1) (sym c.requires.pump);
    }

pub returns-in-Push-clause-inboxes : goal.returns-in-Push-clause-inboxes
returns-in-Push-clause-inboxes g c =
    let k = c.requires.known in
    let W : Want → Type 0 = λ w. IsWant w (want_of k.0.conn) in
    let wanted = subst W c.in-Push.is k.3 in
    let d = c.push.ensures.gives k.0.conn k.1.conn wanted.0 wanted.1 in
    let C : ℕ → Type 0 = λ n. HasInboxes (g.O.Office.seen c.args.office.now) n (g.M.Mail.boxes c.push.new.mail) in
    subst C (sym c.push.ensures.inboxes)
    (push_keeps (g.O.Office.seen c.args.office.now) (g.M.Mail.count c.args.mail.now) (inbox_in c.args.pump wanted.0.to) (g.M.Mail.boxes c.args.mail.now) (g.M.Mail.boxes c.push.new.mail) wanted.0 d.pushed c.requires.inboxes d.gives)

pub returns-in-Ask-clause-inboxes : goal.returns-in-Ask-clause-inboxes
returns-in-Ask-clause-inboxes g c =
    let k = c.requires.known in
    let old = c.args.held.now in
    let new = c.ask.new.held in
    let W : Want → Type 0 = λ w. IsWant w (want_of k.0.conn) in
    let binds = binder g.P.Ports.holds g.P.Ports.faults c.args.table.now.ports in
    let binds_mid = binder g.P.Ports.holds g.P.Ports.faults c.ask.new.table.ports in
    let o = sight_of g.P.P.Port.holds g.P.P.Port.counts binds c.args.table.now.table old.ports.items silent in
    let n = sight_of g.P.P.Port.holds g.P.P.Port.counts binds_mid c.ask.new.table.table new.ports.items silent in
    let so = sight_sees g.P.P.Port.holds g.P.P.Port.counts binds c.args.table.now.table old.ports.items silent k.1.apart in
    let sn = sight_sees g.P.P.Port.holds g.P.P.Port.counts binds_mid c.ask.new.table.table new.ports.items silent c.ask.ensures.apart in
    let mail = g.M.Mail.boxes c.args.mail.now in
    let gives = c.ask.ensures.gives o n so sn k.0 k.1 (subst W c.in-Ask.is k.3) (g.M.Mail.count c.args.mail.now) mail c.requires.inboxes in
    let same = config_stays o n (g.O.Office.seen c.args.office.now) (g.O.Office.seen c.ask.new.office) mail mail (IsHeld g.P.P.Port.most c.ask.new.table.table new) k.0 (stepped_with c.ask.result c.ask.new.told) gives in
    record { count_is = c.requires.inboxes.count_is ∙ ap (λ (config : Config). config.workers + 1) (sym same); size = c.requires.inboxes.size }
