use Rattle.mq_ports.proofs.table.PortTable.close.Goals as goal
use Rattle.mq_ports.proofs.Balance.{all_back}

pub returns-clause-once : goal.returns-clause-once
returns-clause-once g c balanced = all_back g.P.P.Port.place (g.P.Ports.past c.args.self.ports) c.args.self.table.slots c.requires balanced
