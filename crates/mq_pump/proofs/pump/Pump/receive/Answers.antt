use Rattle.std.proofs.Common.{◌≡◌, ◌≤◌, ◌++◌, List, ℕ, length, take, drop, ap, ◌∙◌, arith}
use Rattle.std.proofs.lemmas.List.{length-take-le, take-take, take-append-le}
use Rattle.mq_pump.proofs.pump.Pump.receive.Goals as goal

pub returns-in-Datagram-clause-gives : goal.returns-in-Datagram-clause-gives
returns-in-Datagram-clause-gives g c =
    let net_is : c.came.new.self.net ≡ c.recv-2.new.self = ap (λ p. p.net) c.came.ensures.rest in
    let count = c.in-Datagram.count in
    let into = c.recv-2.new.into in
    let within = c.in-Datagram.ensures.within in
    let behind : List ℕ = drop (length into) c.take_spare.new.self.room.items in
    let under : count ≤ c.take_spare.new.self.room.len = omega arith in
    let packet_is : c.keep-packet.result ≡ take count into =
    c.keep-packet.ensures.first ∙ take-take count c.take_spare.new.self.room.len (into ++ behind) under ∙ take-append-le count into behind within.0 in
    let long : length (take count into) ≡ count = length-take-le count into within.0 in
    let same : length c.keep-packet.result ≡ length (take count into) = ap (λ (b : List ℕ). length b) packet_is in
    record {
      packet = c.keep-packet.result;
      gave = record {
        buffer = into;
        count = count;
        receives = rw net_is c.in-Datagram.ensures.receives;
        counts = rw net_is c.in-Datagram.ensures.counts;
        packet_is = packet_is;
        size = omega (arith, same, long, within.1);
      };
      comes = c.came.ensures.gives;
      counted = ap (λ p. p.received) c.came.ensures.rest;
    }
