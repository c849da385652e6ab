use Rattle.mq_ports.proofs.table.PortTable.bind.Goals as goal
use Rattle.mq_ports.proofs.Balance.{balanced_bound}

pub returns-clause-balanced : goal.returns-clause-balanced
returns-clause-balanced g c balanced =
    let e = c.in_ok-port.ensures in
    balanced_bound
    g.P.P.Port.place
    (g.P.Ports.past c.args.self.now.ports)
    (g.P.Ports.past c.bind.new.self)
    (record { addr = c.args.addr.now; number = c.args.number })
    c.args.self.now.table
    c.insert_reserved-key.new.self
    c.insert_reserved-key.result
    c.in_ok-port.port
    e.place
    e.past
    c.insert_reserved-key.ensures.was_vacant
    c.insert_reserved-key.ensures.updates
    balanced
