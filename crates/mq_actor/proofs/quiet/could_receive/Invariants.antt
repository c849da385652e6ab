use Rattle.std.proofs.Common.{◌≡◌, drop, find, is_some}
use Rattle.mq_machine.specs.State.{Held}
use Rattle.mq_step.specs.Holds.{IsHeld}
use Rattle.mq_actor.specs.Seen.{Words}
use Rattle.mq_actor.specs.Told.{TellsConn}
use Rattle.mq_actor.proofs.Able.{gives}
use Rattle.mq_actor.proofs.quiet.could_receive.Given as goal

abbrev pub invariant-loop-place : goal.invariant-loop-place
invariant-loop-place g l =
    let words : Words g.row.L.Denot g.row.P-P.Denot = record {
      most = g.P.P.Port.most;
      link = g.L.Link.holds;
      link_counts = g.L.Link.counts;
      port = g.P.P.Port.holds;
      port_counts = g.P.P.Port.counts;
    } in
    record {
      behind : (s : Held) → IsHeld g.P.P.Port.most l.table.table l.held s → TellsConn words l.table.table l.held s
          → is_some (find gives s.ports) ≡ is_some (find gives (drop l.place s.ports));
    }
