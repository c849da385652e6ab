use Rattle.std.proofs.Common.{◌≡◌}
use Rattle.mq_talk.specs.Offices.{IsSound}
use Rattle.mq_machine.specs.Acting.{binder}
use Rattle.mq_ports.specs.Tables.{IsBalanced}
use Rattle.mq_step.specs.Rooms.{HasRooms}
use Rattle.mq_step.specs.Holds.{HasInboxes, SeatsApart, KeepsOthers}
use Rattle.mq_step.proofs.Passing.{PassedTo}
use Rattle.mq_step.proofs.Still.{Still}
use Rattle.mq_step.proofs.receive.receive.Given as goal

-- the receives before the place were in vain
abbrev pub invariant-loop-place : goal.invariant-loop-place
invariant-loop-place g l = record {
  rooms : HasRooms l.rooms;
  rest : l.held ≡ record l.fn.held { conn = l.held.conn; ports = l.held.ports; bound = l.held.bound };
  stays : l.held.ports.items ≡ l.fn.held.ports.items;
  still : Still g.P.P.Port.most l.fn.table.table l.table.table l.fn.held l.held;
  apart : SeatsApart l.held.ports.items;
  calm : (g.O.Office.seen l.office ≡ g.O.Office.seen l.fn.office) × (binder g.P.Ports.holds g.P.Ports.faults l.table.ports ≡ binder g.P.Ports.holds g.P.Ports.faults l.fn.table.ports) × (g.M.Mail.boxes l.mail ≡ g.M.Mail.boxes l.fn.mail);
  inboxes : HasInboxes (g.O.Office.seen l.office) (g.M.Mail.count l.mail) (g.M.Mail.boxes l.mail);
  mail : (g.M.Mail.actor l.mail ≡ g.M.Mail.actor l.fn.mail) × (g.M.Mail.count l.mail ≡ g.M.Mail.count l.fn.mail) × (g.M.Mail.missed l.mail ≡ g.M.Mail.missed l.fn.mail);
  actor : (g.O.Office.seen l.office).actor ≡ (g.O.Office.seen l.fn.office).actor;
  others : KeepsOthers l.fn.held l.held l.fn.table.table l.table.table;
  sound : IsSound (g.O.Office.seen l.fn.office) → IsSound (g.O.Office.seen l.office);
  balanced : IsBalanced g.P.P.Port.place (g.P.Ports.past l.fn.table.ports) l.fn.table.table.slots → IsBalanced g.P.P.Port.place (g.P.Ports.past l.table.ports) l.table.table.slots;
  passed : PassedTo g.P.P.Port.holds g.P.P.Port.past g.P.P.Port.counts l.fn.table.table l.table.table l.place l.fn.held.ports.items;
}
