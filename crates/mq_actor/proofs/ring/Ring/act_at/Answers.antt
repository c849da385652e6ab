use Rattle.std.proofs.Common.{rules, ◌≡◌, ◌∙◌, ◌+◌, List, length, Option, Ok, refl, sym, ap, subst, arith}
use Rattle.std.specs.Vec.{vec_len}
use Rattle.mq_held.specs.declared.held.Held.{Held as HeldBy}
use Rattle.mq_actor.specs.declared.ring.Ring.{Ring}
use Rattle.mq_actor.specs.Holds.{HaveOwnPorts}
use Rattle.mq_actor.proofs.OwnPorts.{own_ports_removed}
use Rattle.mq_actor.proofs.Turns.{part_at, try_waits, try_does, try_refused, try_ends, turn_length}
use Rattle.mq_actor.proofs.Noting.{some_told, note_err}
use Rattle.mq_actor.specs.Passing.{TryGives}
use Rattle.mq_step.specs.Notes.{stepped_by}
use Rattle.mq_step.specs.declared.stepped.Stepped.TheVariants as stepped
use Rattle.mq_step.specs.declared.stepped.Stepped.{Stepped}
use Rattle.mq_held.specs.Notes.{note_with}
use Rattle.mq_machine.specs.Acting.{binder}
use Rattle.mq_talk.specs.declared.note.Note.{Note}
use Rattle.mq_actor.proofs.ring.Ring.act_at.Goals as goal

pub returns-in_err-turn_at-clause-gives : goal.returns-in_err-turn_at-clause-gives
returns-in_err-turn_at-clause-gives g c = λ upper was at_was in_part.
    let conns = c.args.self.now.conns.items in
    let held = c.at.result.now in
    let at = c.at.ensures in
    let part = part_at conns upper c.args.self.now.next_seat c.args.place held was at at_was in_part in
    try_refused _ upper c.args.place c.args.self.now (record c.args.self.now { conns = c.turn_at.new.self; rooms = c.turn_at.new.rooms }) _ _ held c.in_err-turn_at.field-0.0 (note_with c.from_residual.result c.turn_at.new.told)
    (note_err c.from_residual.result c.turn_at.new.told c.from_residual.ensures.0) at part refl c.in_err-turn_at.ensures.turns

pub leave-requires : goal.leave-requires
leave-requires g c =
    let conns = c.args.self.now.conns.items in
    let mid = c.turn_at.new.self in
    let held = c.at.result.now in
    let len : vec_len c.args.self.now.conns ≡ length conns = search rules in
    let long : vec_len mid ≡ length mid.items = search rules in
    let place = c.requires.place in
    let at = c.at.ensures in
    let same : length mid.items ≡ length conns = turn_length conns mid.items c.args.place held _ c.in_ok-turn_at.ensures.turns at in
    omega (arith, len, long, place, same)

pub returns-in-Quiet-clause-gives : goal.returns-in-Quiet-clause-gives
returns-in-Quiet-clause-gives g c = λ upper was at_was in_part.
    let conns = c.args.self.now.conns.items in
    let held = c.at.result.now in
    let at = c.at.ensures in
    let part = part_at conns upper c.args.self.now.next_seat c.args.place held was at at_was in_part in
    let does = c.in_ok-turn_at.ensures in
    let k = c.requires in (
      try_waits _ c.args.self.now.setup _ _ upper c.args.self.now.next_seat c.args.place held (stepped_by c.in_ok-turn_at.field-0 c.turn_at.new.told)
          (ap (λ (x : Stepped). stepped_by x c.turn_at.new.told) c.in-Quiet.is) k.known k.ports at part does.turns,
      refl,
    )

pub returns-in-Did-clause-gives : goal.returns-in-Did-clause-gives
returns-in-Did-clause-gives g c = λ upper was at_was in_part.
    let conns = c.args.self.now.conns.items in
    let held = c.at.result.now in
    let at = c.at.ensures in
    let part = part_at conns upper c.args.self.now.next_seat c.args.place held was at at_was in_part in
    let seat = c.seat_of-seat.ensures in
    let next : c.seat_of-seat.result + 1 ≡ held.number + 3 = omega (arith, seat) in
    let does = c.in_ok-turn_at.ensures in
    let told = some_told c.turn_at.new.told (does.told (λ is. let e = sym c.in-Did.is ∙ is in absurd cc)) in
    let T : Option Note → Type 0 = λ t. TryGives (record { most = g.P.P.Port.most; link = g.L.Link.holds; link_counts = g.L.Link.counts; port = g.P.P.Port.holds; port_counts = g.P.P.Port.counts }) upper c.args.place c.args.self.now (record c.args.self.now { conns = c.turn_at.new.self; rooms = c.turn_at.new.rooms; next_seat = c.seat_of-seat.result + 1 })
    (record { conns = conns; table = c.args.table.now.table; binds = binder g.P.Ports.holds g.P.Ports.faults c.args.table.now.ports; seen = g.O.Office.seen c.args.office.now; boxes = g.M.Mail.boxes c.args.mail.now })
    (record { conns = c.turn_at.new.self.items; table = c.turn_at.new.table.table; binds = binder g.P.Ports.holds g.P.Ports.faults c.turn_at.new.table.ports; seen = g.O.Office.seen c.turn_at.new.office; boxes = g.M.Mail.boxes c.turn_at.new.mail }) (Ok t) in
    subst T (sym told.1) (
    try_does _ upper c.args.place c.args.self.now (record c.args.self.now { conns = c.turn_at.new.self; rooms = c.turn_at.new.rooms }) _ _ held (stepped_by c.in_ok-turn_at.field-0 c.turn_at.new.told) told.0
    (c.seat_of-seat.result + 1) (ap (λ (x : Stepped). stepped_by x c.turn_at.new.told) c.in-Did.is ∙ ap (λ (t : Option Note). stepped_by stepped.Did t) told.1) next at part refl does.turns)

pub returns-in-Did-clause-told : goal.returns-in-Did-clause-told
returns-in-Did-clause-told g c = λ did. c.in_ok-turn_at.ensures.told (λ is. let e = sym c.in-Did.is ∙ is in absurd cc)

pub returns-in-Ended-clause-gives : goal.returns-in-Ended-clause-gives
returns-in-Ended-clause-gives g c = λ upper was at_was in_part.
    let conns = c.args.self.now.conns.items in
    let mid : Ring g.row.L.Denot = record c.args.self.now { conns = c.turn_at.new.self; rooms = c.turn_at.new.rooms } in
    let held = c.at.result.now in
    let at = c.at.ensures in
    let part = part_at conns upper c.args.self.now.next_seat c.args.place held was at at_was in_part in
    let seat = c.seat_of-seat.ensures in
    let next : c.seat_of-seat.result + 1 ≡ held.number + 3 = omega (arith, seat) in
    let does = c.in_ok-turn_at.ensures in
    let left = c.leave.ensures in
    let told = some_told c.turn_at.new.told (does.told (λ is. let e = sym c.in-Ended.is ∙ is in absurd cc)) in
    let T : Option Note → Type 0 = λ t. TryGives (record { most = g.P.P.Port.most; link = g.L.Link.holds; link_counts = g.L.Link.counts; port = g.P.P.Port.holds; port_counts = g.P.P.Port.counts }) upper c.args.place c.args.self.now c.leave.new.self
    (record { conns = conns; table = c.args.table.now.table; binds = binder g.P.Ports.holds g.P.Ports.faults c.args.table.now.ports; seen = g.O.Office.seen c.args.office.now; boxes = g.M.Mail.boxes c.args.mail.now })
    (record { conns = c.leave.new.self.conns.items; table = c.turn_at.new.table.table; binds = binder g.P.Ports.holds g.P.Ports.faults c.turn_at.new.table.ports; seen = g.O.Office.seen c.turn_at.new.office; boxes = g.M.Mail.boxes c.turn_at.new.mail }) (Ok t) in
    subst T (sym told.1) (
    try_ends _ upper c.args.place c.args.self.now mid _ _ held c.leave.new.self (stepped_by c.in_ok-turn_at.field-0 c.turn_at.new.told) told.0
    (c.seat_of-seat.result + 1) (ap (λ (x : Stepped). stepped_by x c.turn_at.new.told) c.in-Ended.is ∙ ap (λ (t : Option Note). stepped_by stepped.Ended t) told.1) next at part left.kept left.left left.rest refl does.turns)

pub returns-in-Ended-clause-told : goal.returns-in-Ended-clause-told
returns-in-Ended-clause-told g c = λ did. c.in_ok-turn_at.ensures.told (λ is. let e = sym c.in-Ended.is ∙ is in absurd cc)

pub returns-in-Ended-clause-ports : goal.returns-in-Ended-clause-ports
returns-in-Ended-clause-ports g c =
    let mid = c.turn_at.new.self.items in
    let P : List (HeldBy g.row.L.Denot) → Type 0 = λ hs. HaveOwnPorts hs in
    subst P (sym c.leave.ensures.left) (own_ports_removed mid c.args.place c.in_ok-turn_at.ensures.ports)
