use Rattle.std.proofs.Common.{◌≡◌, ◌<◌}
use Rattle.mq_talk.specs.Offices.{IsSound}
use Rattle.mq_machine.specs.Acting.{binder}
use Rattle.mq_ports.specs.Tables.{IsBalanced}
use Rattle.mq_step.specs.Holds.{HasInboxes}
use Rattle.mq_step.specs.Rooms.{HasRooms}
use Rattle.mq_actor.specs.Holds.{HaveOwnPorts}
use Rattle.mq_actor.specs.Passing.{InPart, Passed}
use Rattle.mq_actor.proofs.ring.Ring.pass_from.Given as goal

-- those before this place that have their seats in this part were passed over
abbrev pub invariant-loop-place : goal.invariant-loop-place
invariant-loop-place g l = record {
  passed : Passed
      (record { most = g.P.P.Port.most; link = g.L.Link.holds; link_counts = g.L.Link.counts; port = g.P.P.Port.holds; port_counts = g.P.P.Port.counts })
      (record { conns = l.fn.self.conns.items; table = l.fn.table.table; binds = binder g.P.Ports.holds g.P.Ports.faults l.fn.table.ports; seen = g.O.Office.seen l.fn.office; boxes = g.M.Mail.boxes l.fn.mail })
      (record { conns = l.self.conns.items; table = l.table.table; binds = binder g.P.Ports.holds g.P.Ports.faults l.table.ports; seen = g.O.Office.seen l.office; boxes = g.M.Mail.boxes l.mail })
      (λ i number. (i < l.place) × InPart l.upper l.fn.self.next_seat number);
  rest : l.self ≡ record l.fn.self { conns = l.self.conns; rooms = l.self.rooms };
  ports : HaveOwnPorts l.self.conns.items;
  rooms : HasRooms l.self.rooms;
  actor : (g.O.Office.seen l.office).actor ≡ (g.O.Office.seen l.fn.office).actor;
  mail : (g.M.Mail.actor l.mail ≡ g.M.Mail.actor l.fn.mail) × (g.M.Mail.count l.mail ≡ g.M.Mail.count l.fn.mail) × (g.M.Mail.missed l.mail ≡ g.M.Mail.missed l.fn.mail);
  inboxes : HasInboxes (g.O.Office.seen l.office) (g.M.Mail.count l.mail) (g.M.Mail.boxes l.mail);
  sound : IsSound (g.O.Office.seen l.fn.office) → IsSound (g.O.Office.seen l.office);
  balanced : IsBalanced g.P.P.Port.place (g.P.Ports.past l.fn.table.ports) l.fn.table.table.slots
      → IsBalanced g.P.P.Port.place (g.P.Ports.past l.table.ports) l.table.table.slots;
}
