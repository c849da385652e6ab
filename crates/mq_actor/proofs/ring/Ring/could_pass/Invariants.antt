use Rattle.std.proofs.Common.{◌≡◌, List, drop, find, is_some}
use Rattle.mq_machine.specs.State.{Held}
use Rattle.mq_actor.specs.Holds.{AreHeld}
use Rattle.mq_actor.specs.Seen.{Words}
use Rattle.mq_actor.specs.Told.{TellConns}
use Rattle.mq_actor.proofs.Able.{could}
use Rattle.mq_actor.proofs.ring.Ring.could_pass.Given as goal

abbrev pub invariant-loop-place : goal.invariant-loop-place
invariant-loop-place g l =
    let words : Words g.row.L.Denot g.row.P-P.Denot = record {
      most = g.P.P.Port.most;
      link = g.L.Link.holds;
      link_counts = g.L.Link.counts;
      port = g.P.P.Port.holds;
      port_counts = g.P.P.Port.counts;
    } in
    record {
      behind : (ss : List Held) → AreHeld g.P.P.Port.most l.table.table l.self.conns.items ss → TellConns words l.table.table l.self.conns.items ss
          → is_some (find could ss) ≡ is_some (find could (drop l.place ss));
    }
