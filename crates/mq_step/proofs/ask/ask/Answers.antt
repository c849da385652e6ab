use Rattle.std.proofs.Common.{◌≡◌, ◌∙◌, ℕ, None, refl, sym, ap, subst}
use Rattle.mq_talk.specs.declared.book.Call.{Call}
use Rattle.mq_talk.specs.declared.book.Call.TheVariants as call
use Rattle.mq_talk.specs.Answers.{MayCall}
use Rattle.mq_talk.specs.declared.book.Call.TheVariants.{Close}
use Rattle.mq_machine.specs.Acting.{binder}
use Rattle.mq_machine.specs.Want.{Ask, want_of}
use Rattle.mq_step.specs.Holds.{IsHeld}
use Rattle.mq_step.specs.Closing.{CloseGives, HandsBack, Retires}
use Rattle.mq_step.proofs.Asking.{may_call}
use Rattle.mq_step.proofs.Binding.{Stays, err_gives}
use Rattle.mq_step.proofs.Cores.{same_actor}
use Rattle.mq_step.proofs.Filling.{none_changed}
use Rattle.mq_step.proofs.Telling.{tell_fails, tells, told_none}
use Rattle.mq_step.proofs.Wanting.{mailed}
use Rattle.mq_step.specs.Notes.{stepped_with}
use Rattle.mq_step.proofs.ask.ask.Goals as goal

pub returns-in-Close-clause-gives : goal.returns-in-Close-clause-gives
returns-in-Close-clause-gives g c = λ o n so sn s held want. c.close.ensures.gives o n so sn s held (want ∙ ap Ask c.in-Close.is)

pub returns-in-Close-clause-closes : goal.returns-in-Close-clause-closes
returns-in-Close-clause-closes g c = λ s held want tunnel is count mail has.
    let same : Close c.in-Close.tunnel ≡ Close tunnel = sym c.in-Close.is ∙ is in
    let number : c.in-Close.tunnel ≡ tunnel = cc in
    let old = c.args.held.now in
    let new = c.close.new.held in
    let table = c.args.table.now in
    let after = c.close.new.table in
    let P : ℕ → Type 0 = λ k. CloseGives (g.O.Office.seen c.args.office.now) (g.O.Office.seen c.close.new.office) mail mail (IsHeld g.P.P.Port.most after.table new) k s (stepped_with c.close.result c.close.new.told)
    × HandsBack g.P.P.Port.counts table.table old.ports.items k (binder g.P.Ports.holds g.P.Ports.faults table.ports) (binder g.P.Ports.holds g.P.Ports.faults after.ports)
    × Retires table.table after.table old.ports.items new.ports.items k in
    subst P number (c.close.ensures.closes s held (want ∙ ap Ask c.in-Close.is) count mail has)

pub tell-requires-clause-may : goal.tell-requires-clause-may
tell-requires-clause-may g c =
    let k = c.requires.known in
    let seen = g.O.Office.seen c.args.office.now in
    let M : Call → Type 0 = λ x. MayCall seen.config seen.entries seen.actor x in
    subst M c.in-Assign.is (may_call c.args.held.now.conn seen seen.actor k.0 c.args.call k.1.conn k.2 c.requires.may k.3)

pub returns-in_ok-note-in-Assign-clause-gives : goal.returns-in_ok-note-in-Assign-clause-gives
returns-in_ok-note-in-Assign-clause-gives g c = λ o n so sn s held want count mail has orders.
    let k = c.requires.known in
    let seen = g.O.Office.seen c.args.office.now in
    let seen_after = g.O.Office.seen c.tell.new.office in
    let m = mailed seen count mail has in
    let old = c.args.held.now in
    let new = c.tell.new.self in
    let table = c.args.table.now.table in
    let binds = binder g.P.Ports.holds g.P.Ports.faults c.args.table.now.ports in
    let rest = c.tell.ensures.rest in
    let asked = call.Assign c.in-Assign.tunnel c.in-Assign.asked in
    let wanted : want_of s.conn ≡ Ask asked = want ∙ ap Ask c.in-Assign.is in
    let bound : new.bound ≡ None = ap (λ h. h.bound) rest ∙ told_none g.P.P.Port.most table old.ports.items (want_of s.conn) old.bound asked c.in-Assign.tunnel refl wanted held.bound in
    let stays : Stays g.P.P.Port.most g.P.P.Port.holds g.P.P.Port.counts binds binds table table old new o n s =
    record { held = held; keeps = none_changed table; seats = ap (λ h. h.ports.items) rest; number = ap (λ h. h.number) rest; sees = so; sees_after = sn } in
    let mine : s.conn.actor ≡ seen.actor = same_actor old.conn s.conn k.0.conn held.conn k.1.conn ∙ k.2.actor_is in
    let gives = c.in_ok-note-in-Assign.ensures.gives s.conn held.conn wanted in
    let x = tells g.P.P.Port.most g.P.P.Port.holds g.P.P.Port.counts binds binds table table old new o n s stays seen.actor seen seen_after m orders c.in_ok-note-in-Assign.note asked c.in-Assign.tunnel mine refl wanted bound refl gives in
    (x.left_is, x.done_is, x.stands_for, x.told_is)

pub returns-in_err-note-in-Assign-clause-gives : goal.returns-in_err-note-in-Assign-clause-gives
returns-in_err-note-in-Assign-clause-gives g c = λ o n so sn s held want count mail has.
    let k = c.requires.known in
    let seen = g.O.Office.seen c.args.office.now in
    let seen_after = g.O.Office.seen c.tell.new.office in
    let m = mailed seen count mail has in
    let old = c.args.held.now in
    let new = c.tell.new.self in
    let table = c.args.table.now.table in
    let binds = binder g.P.Ports.holds g.P.Ports.faults c.args.table.now.ports in
    let rest = c.tell.ensures.rest in
    let asked = call.Assign c.in-Assign.tunnel c.in-Assign.asked in
    let wanted : want_of s.conn ≡ Ask asked = want ∙ ap Ask c.in-Assign.is in
    let bound : new.bound ≡ None = ap (λ h. h.bound) rest ∙ told_none g.P.P.Port.most table old.ports.items (want_of s.conn) old.bound asked c.in-Assign.tunnel refl wanted held.bound in
    let stays : Stays g.P.P.Port.most g.P.P.Port.holds g.P.P.Port.counts binds binds table table old new o n s =
    record { held = held; keeps = none_changed table; seats = ap (λ h. h.ports.items) rest; number = ap (λ h. h.number) rest; sees = so; sees_after = sn } in
    let mine : s.conn.actor ≡ seen.actor = same_actor old.conn s.conn k.0.conn held.conn k.1.conn ∙ k.2.actor_is in
    let gives = c.in_err-note-in-Assign.ensures.gives s.conn held.conn wanted in
    err_gives o n seen seen_after m.mail m.mail (IsHeld g.P.P.Port.most table new) s c.from_residual.result c.args.told.now c.from_residual.ensures.0
    (λ orders.
    let x = tell_fails g.P.P.Port.most g.P.P.Port.holds g.P.P.Port.counts binds binds table table old new o n s stays seen.actor seen seen_after m orders asked c.in-Assign.tunnel c.in_err-note-in-Assign.field-0.0 mine refl wanted bound refl gives in
    (x.left_is, x.starves, x.stands_for, x.told_is))

pub tell-requires-in-Advertise-clause-may : goal.tell-requires-in-Advertise-clause-may
tell-requires-in-Advertise-clause-may g c =
    let k = c.requires.known in
    let seen = g.O.Office.seen c.args.office.now in
    let M : Call → Type 0 = λ x. MayCall seen.config seen.entries seen.actor x in
    subst M c.in-Advertise.is (may_call c.args.held.now.conn seen seen.actor k.0 c.args.call k.1.conn k.2 c.requires.may k.3)

pub returns-in_ok-note-in-Advertise-clause-gives : goal.returns-in_ok-note-in-Advertise-clause-gives
returns-in_ok-note-in-Advertise-clause-gives g c = λ o n so sn s held want count mail has orders.
    let k = c.requires.known in
    let seen = g.O.Office.seen c.args.office.now in
    let seen_after = g.O.Office.seen c.tell-in-Advertise.new.office in
    let m = mailed seen count mail has in
    let old = c.args.held.now in
    let new = c.tell-in-Advertise.new.self in
    let table = c.args.table.now.table in
    let binds = binder g.P.Ports.holds g.P.Ports.faults c.args.table.now.ports in
    let rest = c.tell-in-Advertise.ensures.rest in
    let asked = call.Advertise c.in-Advertise.tunnel c.in-Advertise.ranges in
    let wanted : want_of s.conn ≡ Ask asked = want ∙ ap Ask c.in-Advertise.is in
    let bound : new.bound ≡ None = ap (λ h. h.bound) rest ∙ told_none g.P.P.Port.most table old.ports.items (want_of s.conn) old.bound asked c.in-Advertise.tunnel refl wanted held.bound in
    let stays : Stays g.P.P.Port.most g.P.P.Port.holds g.P.P.Port.counts binds binds table table old new o n s =
    record { held = held; keeps = none_changed table; seats = ap (λ h. h.ports.items) rest; number = ap (λ h. h.number) rest; sees = so; sees_after = sn } in
    let mine : s.conn.actor ≡ seen.actor = same_actor old.conn s.conn k.0.conn held.conn k.1.conn ∙ k.2.actor_is in
    let gives = c.in_ok-note-in-Advertise.ensures.gives s.conn held.conn wanted in
    let x = tells g.P.P.Port.most g.P.P.Port.holds g.P.P.Port.counts binds binds table table old new o n s stays seen.actor seen seen_after m orders c.in_ok-note-in-Advertise.note asked c.in-Advertise.tunnel mine refl wanted bound refl gives in
    (x.left_is, x.done_is, x.stands_for, x.told_is)

pub returns-in_err-note-in-Advertise-clause-gives : goal.returns-in_err-note-in-Advertise-clause-gives
returns-in_err-note-in-Advertise-clause-gives g c = λ o n so sn s held want count mail has.
    let k = c.requires.known in
    let seen = g.O.Office.seen c.args.office.now in
    let seen_after = g.O.Office.seen c.tell-in-Advertise.new.office in
    let m = mailed seen count mail has in
    let old = c.args.held.now in
    let new = c.tell-in-Advertise.new.self in
    let table = c.args.table.now.table in
    let binds = binder g.P.Ports.holds g.P.Ports.faults c.args.table.now.ports in
    let rest = c.tell-in-Advertise.ensures.rest in
    let asked = call.Advertise c.in-Advertise.tunnel c.in-Advertise.ranges in
    let wanted : want_of s.conn ≡ Ask asked = want ∙ ap Ask c.in-Advertise.is in
    let bound : new.bound ≡ None = ap (λ h. h.bound) rest ∙ told_none g.P.P.Port.most table old.ports.items (want_of s.conn) old.bound asked c.in-Advertise.tunnel refl wanted held.bound in
    let stays : Stays g.P.P.Port.most g.P.P.Port.holds g.P.P.Port.counts binds binds table table old new o n s =
    record { held = held; keeps = none_changed table; seats = ap (λ h. h.ports.items) rest; number = ap (λ h. h.number) rest; sees = so; sees_after = sn } in
    let mine : s.conn.actor ≡ seen.actor = same_actor old.conn s.conn k.0.conn held.conn k.1.conn ∙ k.2.actor_is in
    let gives = c.in_err-note-in-Advertise.ensures.gives s.conn held.conn wanted in
    err_gives o n seen seen_after m.mail m.mail (IsHeld g.P.P.Port.most table new) s c.from_residual-in_err-note-in-Advertise.result c.args.told.now c.from_residual-in_err-note-in-Advertise.ensures.0
    (λ orders.
    let x = tell_fails g.P.P.Port.most g.P.P.Port.holds g.P.P.Port.counts binds binds table table old new o n s stays seen.actor seen seen_after m orders asked c.in-Advertise.tunnel c.in_err-note-in-Advertise.field-0.0 mine refl wanted bound refl gives in
    (x.left_is, x.starves, x.stands_for, x.told_is))
