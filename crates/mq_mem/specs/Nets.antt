-- What a network in memory holds: its packets arrived by themselves, since it has no hosts.
use Rattle.std.specs.Prelude.{false, [], map, Option}
use Rattle.mq_outside.specs.Nets.{NetHolds, by_itself}
use Rattle.mq_mem.specs.Links.{tells}
use Rattle.mq_mem.specs.Ports.{Queue}

abbrev pub net_holds : Queue → NetHolds
net_holds q = record { hosts = []; arrived = map by_itself q.arrived; send_fails = q.send_fails; send_waits = false; receive_fails = false }

abbrev pub told_net : Queue → Option NetHolds
told_net q = tells q.calls.fails q.room (net_holds q)
