use Rattle.std.proofs.Common.{◌≡◌, ◌≢◌, ◌∙◌, ℕ, List, All, None, MatchOption, sym, ap, subst}
use Rattle.slab.specs.Slab.{get}
use Rattle.mq_machine.specs.Acting.{Binder, binder, handed_back}
use Rattle.mq_talk.specs.declared.book.Call.TheVariants.{Close}
use Rattle.mq_machine.specs.Want.{Ask, want_of}
use Rattle.mq_conn.specs.declared.conn.Conn.{Conn as Core}
use Rattle.mq_conn.specs.Conns.{IsConn}
use Rattle.mq_held.specs.declared.held.PortSeat.{PortSeat}
use Rattle.mq_held.specs.Seats.{IsSeatOf}
use Rattle.mq_step.specs.Sights.{idle}
use Rattle.mq_step.specs.Closing.{Retires}
use Rattle.mq_step.proofs.Standing.{bound_none}
use Rattle.mq_step.proofs.Wanting.{mailed}
use Rattle.mq_step.proofs.Cores.{same_actor}
use Rattle.mq_step.proofs.Retiring.{retired_apart, retired_stands, retired_told}
use Rattle.mq_step.proofs.Asking.{Closes, closes_fresh, may_call, close_done, closed_left}
use Rattle.mq_step.proofs.Others.{retire_others}
use Rattle.mq_step.proofs.Closing.{closed_is, closed_does, at_some}
use Rattle.mq_step.proofs.ask.close.Goals as goal

pub ask-requires : goal.ask-requires
ask-requires g c =
    let k = c.requires.known in
    record {
      sound = k.2.sound;
      may = may_call c.args.held.now.conn (g.O.Office.seen c.args.office.now) (g.O.Office.seen c.args.office.now).actor k.0 (Close c.args.tunnel) k.1.conn k.2 tt k.3;
    }

pub returns-clause-gives : goal.returns-clause-gives
returns-clause-gives g c = λ o n so sn s held want count mail has orders.
    let m = mailed (g.O.Office.seen c.args.office.now) count mail has in
    let k = c.requires.known in
    let old = c.args.held.now in
    let new = c.retire.new.self in
    let most = g.P.P.Port.most in
    let table = c.args.table.now.table in
    let after = c.retire.new.table.table in
    let seen = g.O.Office.seen c.args.office.now in
    let seen_after = g.O.Office.seen c.ask.new.office in
    let actor = (g.O.Office.seen c.args.office.now).actor in
    let e = c.in_ok-heard.ensures.gives s.conn held.conn tt want (closes_fresh actor seen seen_after s.conn.tunnels c.args.tunnel) in
    let closes : Closes actor seen seen_after s c.args.tunnel c.in_ok-heard.heard.note e.0 = record { reply_is = e.1.said; replied = e.1.replied; does = e.1.does } in
    let mine : s.conn.actor ≡ actor = same_actor old.conn s.conn k.0.conn held.conn k.1.conn ∙ k.2.actor_is in
    let items : c.ask.new.self.ports.items ≡ old.ports.items = ap (λ h. h.ports.items) c.ask.ensures.rest in
    let R : List PortSeat → Type 0 = λ xs. Retires c.args.table.now.table c.retire.new.table.table xs c.retire.new.self.ports.items c.args.tunnel in
    let retires = subst R items (record {
      gone = λ place seat is. let x = c.retire.ensures.seat place seat is in (x.0, x.1.others);
      none = λ without. let x = c.retire.ensures.none without in (ap (λ h. h.ports.items) x.0, ap (λ t. t.table) x.1);
    }) in
    let bound : new.bound ≡ None =
    ap (λ h. h.bound) c.retire.ensures.rest ∙ ap (λ h. h.bound) c.ask.ensures.rest ∙ bound_none most table old.ports.items (want_of s.conn) (Ask (Close c.args.tunnel)) old.bound held.bound want in
    let number : new.number ≡ old.number = ap (λ h. h.number) c.retire.ensures.rest ∙ ap (λ h. h.number) c.ask.ensures.rest in
    let C : Core → Type 0 = λ x. IsConn x e.0 in
    let conn = subst C (sym (ap (λ h. h.conn) c.retire.ensures.rest)) e.2 in (
      closed_left o s c.args.tunnel e.0,
      close_done o n actor seen seen_after m orders s c.args.tunnel c.in_ok-heard.heard.note e.0 mine want closes
          (ap (λ (b : Binder). b.holds) sn.binds_are ∙ c.retire.ensures.holds ∙ sym (ap (λ (b : Binder). b.holds) so.binds_are)),
      retired_stands most table after old new s c.args.tunnel c.in_ok-heard.heard.note e.0 s.link o idle held want number retires bound (closed_does actor seen seen_after s c.args.tunnel c.in_ok-heard.heard.note e.0 closes) conn,
      retired_told table after old.ports.items new.ports.items c.args.tunnel most g.P.P.Port.holds g.P.P.Port.counts o n idle s.ports retires held.apart held.ports so.ports sn.ports,
    )

pub returns-clause-others : goal.returns-clause-others
returns-clause-others g c = λ key port at other.
    let old = c.args.held.now in
    let new = c.retire.new.self in
    let items : c.ask.new.self.ports.items ≡ old.ports.items = ap (λ h. h.ports.items) c.ask.ensures.rest in
    let all = let P : List PortSeat → Type 0 = λ xs. All (λ (seat : PortSeat). seat.key ≢ key) xs in subst P (sym items) other.seats_are in
    let r = retire_others c.args.table.now.table c.retire.new.table.table c.ask.new.self.ports.items new.ports.items c.args.tunnel key port
    (λ place seat is. let x = c.retire.ensures.seat place seat is in (x.0, x.1))
    (λ without. let x = c.retire.ensures.none without in (ap (λ h. h.ports.items) x.0, ap (λ t. t.table) x.1)) at all in
    let bound : new.bound ≡ old.bound = ap (λ h. h.bound) c.retire.ensures.rest ∙ ap (λ h. h.bound) c.ask.ensures.rest in
    (r.0, record { seats_are = r.1; bound_is = λ is. other.bound_is (sym bound ∙ is) })

pub returns-clause-closes : goal.returns-clause-closes
returns-clause-closes g c = λ s held want count mail has.
    let m = mailed (g.O.Office.seen c.args.office.now) count mail has in
    let k = c.requires.known in
    let old = c.args.held.now in
    let new = c.retire.new.self in
    let most = g.P.P.Port.most in
    let table = c.args.table.now.table in
    let after = c.retire.new.table.table in
    let seen = g.O.Office.seen c.args.office.now in
    let seen_after = g.O.Office.seen c.ask.new.office in
    let actor = (g.O.Office.seen c.args.office.now).actor in
    let e = c.in_ok-heard.ensures.gives s.conn held.conn tt want (closes_fresh actor seen seen_after s.conn.tunnels c.args.tunnel) in
    let closes : Closes actor seen seen_after s c.args.tunnel c.in_ok-heard.heard.note e.0 = record { reply_is = e.1.said; replied = e.1.replied; does = e.1.does } in
    let mine : s.conn.actor ≡ actor = same_actor old.conn s.conn k.0.conn held.conn k.1.conn ∙ k.2.actor_is in
    let items : c.ask.new.self.ports.items ≡ old.ports.items = ap (λ h. h.ports.items) c.ask.ensures.rest in
    let R : List PortSeat → Type 0 = λ xs. Retires c.args.table.now.table c.retire.new.table.table xs c.retire.new.self.ports.items c.args.tunnel in
    let retires = subst R items (record {
      gone = λ place seat is. let x = c.retire.ensures.seat place seat is in (x.0, x.1.others);
      none = λ without. let x = c.retire.ensures.none without in (ap (λ h. h.ports.items) x.0, ap (λ t. t.table) x.1);
    }) in
    let bound : new.bound ≡ None =
    ap (λ h. h.bound) c.retire.ensures.rest ∙ ap (λ h. h.bound) c.ask.ensures.rest ∙ bound_none most table old.ports.items (want_of s.conn) (Ask (Close c.args.tunnel)) old.bound held.bound want in
    let number : new.number ≡ old.number = ap (λ h. h.number) c.retire.ensures.rest ∙ ap (λ h. h.number) c.ask.ensures.rest in
    let C : Core → Type 0 = λ x. IsConn x e.0 in
    let conn = subst C (sym (ap (λ h. h.conn) c.retire.ensures.rest)) e.2 in
    let S : List PortSeat → Type 0 = λ xs. (place : ℕ) (seat : PortSeat) → IsSeatOf xs c.args.tunnel place seat → MatchOption (get table seat.key)
    (binder g.P.Ports.holds g.P.Ports.faults c.retire.new.table.ports ≡ binder g.P.Ports.holds g.P.Ports.faults c.args.table.now.ports)
    (λ port. binder g.P.Ports.holds g.P.Ports.faults c.retire.new.table.ports ≡ handed_back (g.P.P.Port.counts port).faults (binder g.P.Ports.holds g.P.Ports.faults c.args.table.now.ports)) in
    let handed = subst S items (λ place seat is. (c.retire.ensures.seat place seat is).2) in (
      λ orders. closed_is most table after old new actor seen seen_after m orders s c.args.tunnel c.in_ok-heard.heard.note e.0 held mine want number retires bound closes conn,
      λ place seat port_is is at. at_some (get table seat.key) port_is
          (binder g.P.Ports.holds g.P.Ports.faults c.retire.new.table.ports ≡ binder g.P.Ports.holds g.P.Ports.faults c.args.table.now.ports)
          (λ port. binder g.P.Ports.holds g.P.Ports.faults c.retire.new.table.ports ≡ handed_back (g.P.P.Port.counts port).faults (binder g.P.Ports.holds g.P.Ports.faults c.args.table.now.ports)) at
          (handed place seat is),
      retires,
    )

pub returns-clause-apart : goal.returns-clause-apart
returns-clause-apart g c =
    let k = c.requires.known in
    let old = c.args.held.now in
    let items : c.ask.new.self.ports.items ≡ old.ports.items = ap (λ h. h.ports.items) c.ask.ensures.rest in
    let R : List PortSeat → Type 0 = λ xs. Retires c.args.table.now.table c.retire.new.table.table xs c.retire.new.self.ports.items c.args.tunnel in
    let retires = subst R items (record {
      gone = λ place seat is. let x = c.retire.ensures.seat place seat is in (x.0, x.1.others);
      none = λ without. let x = c.retire.ensures.none without in (ap (λ h. h.ports.items) x.0, ap (λ t. t.table) x.1);
    }) in
    retired_apart c.args.table.now.table c.retire.new.table.table old.ports.items c.retire.new.self.ports.items c.args.tunnel retires k.1.apart
