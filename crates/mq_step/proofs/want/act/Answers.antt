use Rattle.std.proofs.Common.{◌≡◌, false, not, refl, ◌∙◌, sym, ap}
use Rattle.mq_machine.specs.Acting.{binder}
use Rattle.mq_machine.specs.Want.{Want, Nothing, Say, Bind, Ask, Judge, Push, Send, Over, want_of}
use Rattle.mq_machine.specs.Steps.{is_nothing}
use Rattle.mq_step.proofs.Filling.{none_changed}
use Rattle.mq_step.proofs.Binding.{Stays, quiet}
use Rattle.mq_step.proofs.Standing.{same_apart}
use Rattle.mq_step.proofs.want.act.Goals as goal

-- where it wants something is false, it wants nothing
nothing_left : (w : Want) → false ≡ not (is_nothing w) → w ≡ Nothing
nothing_left Nothing is = refl
nothing_left Say is = absurd cc
nothing_left (Bind stream goal) is = absurd cc
nothing_left (Ask call) is = absurd cc
nothing_left (Judge tunnel n flow) is = absurd cc
nothing_left (Push parcel) is = absurd cc
nothing_left (Send tunnel n payload) is = absurd cc
nothing_left (Over why) is = absurd cc

pub returns-then-not-wants-clause-gives : goal.returns-then-not-wants-clause-gives
returns-then-not-wants-clause-gives g c = λ o n so sn s held.
    let old = c.args.held.now in
    let table = c.args.table.now.table in
    let binds = binder g.P.Ports.holds g.P.Ports.faults c.args.table.now.ports in
    let wanted = nothing_left (want_of s.conn) (sym c.if-not-wants.true ∙ c.wants.ensures s.conn held.conn) in
    let stays : Stays g.P.P.Port.most g.P.P.Port.holds g.P.P.Port.counts binds binds table table old old o n s =
    record { held = held; keeps = none_changed table; seats = refl; number = refl; sees = so; sees_after = sn } in
    (quiet g.P.P.Port.most g.P.P.Port.holds g.P.P.Port.counts binds binds table table old old o n s stays (g.O.Office.seen c.args.office.now) (g.M.Mail.boxes c.args.mail.now) wanted refl, held)

pub returns-then-not-wants-clause-closes : goal.returns-then-not-wants-clause-closes
returns-then-not-wants-clause-closes g c = λ s held tunnel closes.
    let wanted = nothing_left (want_of s.conn) (sym c.if-not-wants.true ∙ c.wants.ensures s.conn held.conn) in
    absurd (let e = sym wanted ∙ closes in cc)

pub returns-then-not-wants-clause-apart : goal.returns-then-not-wants-clause-apart
returns-then-not-wants-clause-apart g c = c.requires.known.1.apart

pub returns-in-Some-clause-gives : goal.returns-in-Some-clause-gives
returns-in-Some-clause-gives g c = λ o n so sn s held.
    let sends = c.in-Some.ensures s.conn held.conn in
    c.send.ensures.gives o n so sn (g.O.Office.seen c.args.office.now) s held sends.0 sends.1 sends.2 (g.M.Mail.count c.args.mail.now) (g.M.Mail.boxes c.args.mail.now) c.requires.inboxes

pub returns-in-Some-clause-closes : goal.returns-in-Some-clause-closes
returns-in-Some-clause-closes g c = λ s held tunnel closes.
    let sends = c.in-Some.ensures s.conn held.conn in
    absurd (let e = sym sends.2 ∙ closes in cc)

pub returns-in-Some-clause-apart : goal.returns-in-Some-clause-apart
returns-in-Some-clause-apart g c = same_apart c.args.held.now.ports.items c.send.new.held.ports.items (ap (λ h. h.ports.items) c.send.ensures.rest) c.requires.known.1.apart
