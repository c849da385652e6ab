use Rattle.std.proofs.Common.{◌≡◌, ◌∙◌, ℕ, List, Option, None, MatchOption, Err, sym, ap, subst}
use Rattle.slab.specs.Slab.{Updates}
use Rattle.mq_machine.specs.Acting.{Binder}
use Rattle.mq_conn.specs.declared.conn.Conn.{Conn as Core}
use Rattle.mq_conn.specs.Conns.{IsConn}
use Rattle.mq_held.specs.declared.held.PortSeat.{PortSeat}
use Rattle.mq_step.specs.Holds.{Seats}
use Rattle.mq_machine.specs.Want.{want_of}
use Rattle.mq_step.proofs.Asking.{may_call, plain_may}
use Rattle.mq_step.proofs.Wanting.{mailed}
use Rattle.mq_step.proofs.Cores.{same_actor}
use Rattle.mq_step.proofs.Standing.{same_apart}
use Rattle.mq_step.proofs.Opening.{Opens, comes, bound_kept, opened_kept, opened_apart, opened_table, opens_fresh}
use Rattle.mq_held.specs.Answers.{AskGives}
use Rattle.mq_step.proofs.Refusing.{Fails, sinks}
use Rattle.mq_step.proofs.Others.{keeps_from, seat_keeps}
use Rattle.mq_step.proofs.ask.open.Goals as goal

pub returns-in-Ok-clause-gives : goal.returns-in-Ok-clause-gives
returns-in-Ok-clause-gives g c = λ o n so sn s held want count mail has orders.
    let m = mailed (g.O.Office.seen c.args.office.now) count mail has in
    let k = c.requires.known in
    let old = c.args.held.now in
    let new = c.seat.new.held in
    let seen = g.O.Office.seen c.args.office.now in
    let seen_after = g.O.Office.seen c.ask.new.office in
    let actor = (g.O.Office.seen c.args.office.now).actor in
    let table = c.args.table.now.table in
    let after = c.seat.new.table.table in
    let e = c.in-Ok.ensures.gives s.conn held.conn c.requires.plain want (opens_fresh g.P.P.Port.most c.args.table.now.table old actor seen seen_after s k.0 c.args.call c.requires.plain held want k.1 k.2) in
    let rest = c.seat.ensures.rest in
    let C : Core → Type 0 = λ x. IsConn x e.0 in
    let O : List PortSeat → Type 0 = λ xs. Seats c.in-Ok.heard.opened xs c.ask.new.self.bound new.ports.items in
    let B : Option ℕ → Type 0 = λ b. Seats c.in-Ok.heard.opened old.ports.items b new.ports.items in
    let U : Option ℕ → Type 0 = λ b. MatchOption c.in-Ok.heard.opened (MatchOption b (c.seat.new.table ≡ c.args.table.now) (λ key. Updates c.args.table.now.table c.seat.new.table.table key None))
    (λ tunnel. c.seat.new.table ≡ c.args.table.now) in
    let opens : Opens g.P.P.Port.most g.P.P.Port.holds g.P.P.Port.counts table after old new o n actor seen seen_after s c.args.call c.in-Ok.heard e.0 = record {
      held = held;
      known = k;
      mine = same_actor old.conn s.conn k.0.conn held.conn k.1.conn ∙ k.2.actor_is;
      want = want;
      hears = e.1;
      conn = subst C (sym (ap (λ h. h.conn) rest)) e.2;
      number = held.number ∙ sym (ap (λ h. h.number) rest ∙ ap (λ h. h.number) c.ask.ensures.rest);
      seats = subst B (ap (λ h. h.bound) c.ask.ensures.rest) (subst O (ap (λ h. h.ports.items) c.ask.ensures.rest) c.seat.ensures.seats);
      bound = ap (λ h. h.bound) rest;
      table_is = λ tunnel is. ap (λ t. t.table) (opened_table c.in-Ok.heard.opened tunnel _ _ is c.seat.ensures.table);
      keeps = opened_kept (λ t. t.table) g.P.P.Port.most c.args.table.now c.seat.new.table old.ports.items (want_of s.conn) old.bound c.in-Ok.heard.opened held.bound
          (subst U (ap (λ h. h.bound) c.ask.ensures.rest) c.seat.ensures.table);
      sees = so.ports;
      sees_after = sn.ports;
      binds = ap (λ (b : Binder). b.holds) sn.binds_are ∙ c.seat.ensures.holds ∙ sym (ap (λ (b : Binder). b.holds) so.binds_are);
    } in
    let x = comes g.P.P.Port.most g.P.P.Port.holds g.P.P.Port.counts table after old new o n actor seen seen_after m orders s c.args.call c.in-Ok.heard e.0 c.requires.opens c.requires.plain opens in
    (x.left_is, x.done_is, x.stands_for, x.told_is)

pub returns-in-Err-clause-gives : goal.returns-in-Err-clause-gives
returns-in-Err-clause-gives g c = λ o n so sn s held want count mail has orders.
    let m = mailed (g.O.Office.seen c.args.office.now) count mail has in
    let k = c.requires.known in
    let old = c.args.held.now in
    let new = c.retire_bound.new.self in
    let seen = g.O.Office.seen c.args.office.now in
    let seen_after = g.O.Office.seen c.ask.new.office in
    let actor = (g.O.Office.seen c.args.office.now).actor in
    let e = c.in-Err.ensures.gives s.conn held.conn c.requires.plain want (opens_fresh g.P.P.Port.most c.args.table.now.table old actor seen seen_after s k.0 c.args.call c.requires.plain held want k.1 k.2) in
    let rest = c.retire_bound.ensures.rest in
    let C : Core → Type 0 = λ x. AskGives actor seen c.args.call seen_after (IsConn x) s.conn (Err c.in-Err.refused) in
    let U : Option ℕ → Type 0 = λ b. MatchOption b (c.retire_bound.new.table ≡ c.args.table.now) (λ key. Updates c.args.table.now.table c.retire_bound.new.table.table key None) in
    let fails : Fails g.P.P.Port.most g.P.P.Port.holds g.P.P.Port.counts c.args.table.now.table c.retire_bound.new.table.table old new o n actor s c.args.call = record {
      held = held;
      mine = same_actor old.conn s.conn k.0.conn held.conn k.1.conn ∙ k.2.actor_is;
      want = want;
      number = held.number ∙ sym (ap (λ h. h.number) rest ∙ ap (λ h. h.number) c.ask.ensures.rest);
      seats = ap (λ h. h.ports.items) rest ∙ ap (λ h. h.ports.items) c.ask.ensures.rest;
      bound = ap (λ h. h.bound) rest;
      keeps = bound_kept (λ t. t.table) g.P.P.Port.most c.args.table.now c.retire_bound.new.table old.ports.items (want_of s.conn) old.bound held.bound
          (subst U (ap (λ h. h.bound) c.ask.ensures.rest) c.retire_bound.ensures.bound);
      sees = so.ports;
      sees_after = sn.ports;
      binds = ap (λ (b : Binder). b.holds) sn.binds_are ∙ c.retire_bound.ensures.holds ∙ sym (ap (λ (b : Binder). b.holds) so.binds_are);
    } in
    let x = sinks g.P.P.Port.most g.P.P.Port.holds g.P.P.Port.counts c.args.table.now.table c.retire_bound.new.table.table old new o n actor seen seen_after m orders s c.args.call c.in-Err.refused c.requires.opens c.requires.plain fails
    (subst C (sym (ap (λ h. h.conn) rest)) e) in
    (x.left_is, x.starves, x.stands_for, x.told_is)

pub returns-in-Ok-clause-apart : goal.returns-in-Ok-clause-apart
returns-in-Ok-clause-apart g c =
    let k = c.requires.known in
    let old = c.args.held.now in
    let most = g.P.P.Port.most in
    let seen = g.O.Office.seen c.args.office.now in
    let e = c.in-Ok.ensures.gives k.0.conn k.1.conn c.requires.plain k.3 (opens_fresh most c.args.table.now.table old seen.actor seen (g.O.Office.seen c.ask.new.office) k.0 k.0 c.args.call c.requires.plain k.1 k.3 k.1 k.2) in
    let S : List PortSeat → Option ℕ → Type 0 = λ xs b. Seats c.in-Ok.heard.opened xs b c.seat.new.held.ports.items in
    let T : List PortSeat → Type 0 = λ xs. S xs c.ask.new.self.bound in
    let B : Option ℕ → Type 0 = λ b. S old.ports.items b in
    opened_apart most c.args.table.now.table old seen.actor seen (g.O.Office.seen c.ask.new.office) k.0 c.args.call c.in-Ok.heard e.0 c.seat.new.held.ports.items c.requires.opens c.requires.plain k.1 k.2 k.3 e.1
    (subst B (ap (λ h. h.bound) c.ask.ensures.rest) (subst T (ap (λ h. h.ports.items) c.ask.ensures.rest) c.seat.ensures.seats))

pub returns-in-Err-clause-apart : goal.returns-in-Err-clause-apart
returns-in-Err-clause-apart g c =
    let k = c.requires.known in
    same_apart c.args.held.now.ports.items c.retire_bound.new.self.ports.items
    (ap (λ h. h.ports.items) c.retire_bound.ensures.rest ∙ ap (λ h. h.ports.items) c.ask.ensures.rest) k.1.apart

pub returns-in-Ok-clause-others : goal.returns-in-Ok-clause-others
returns-in-Ok-clause-others g c =
    let asked = c.ask.ensures.rest in
    keeps_from c.args.held.now c.ask.new.self c.seat.new.held c.args.table.now.table c.seat.new.table.table (ap (λ h. h.ports.items) asked)
    (ap (λ h. h.bound) asked)
    (seat_keeps (λ t. t.table) c.args.table.now c.seat.new.table c.in-Ok.heard.opened c.ask.new.self c.seat.new.held c.seat.ensures.seats
    c.seat.ensures.table (ap (λ h. h.bound) c.seat.ensures.rest))

pub ask-requires : goal.ask-requires
ask-requires g c =
    let k = c.requires.known in
    let seen = g.O.Office.seen c.args.office.now in
    record { sound = k.2.sound; may = may_call c.args.held.now.conn seen seen.actor k.0 c.args.call k.1.conn k.2 (plain_may c.args.call c.requires.plain) k.3 }
