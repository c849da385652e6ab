-- What a network holds after a call.
use Rattle.std.proofs.Common.{◌≡◌, ℕ, Bool, true, false, List, [], ◌∷◌, ◌++◌, length, take, Option, Some, None, refl, sym, ap, subst, ◌∙◌, arith}
use Rattle.std.specs.Prelude.{if◌then◌else◌}
use Rattle.std.proofs.lemmas.Bool.{cond-false}
use Rattle.mq_addr.specs.declared.addr.Addr.{Addr}
use Rattle.mq_iphdr.specs.Echo.{answer_of}
use Rattle.mq_iphdr.proofs.Hosts.{no_answer}
use Rattle.mq_outside.specs.declared.PortGot.{PortGot}
use Rattle.mq_outside.specs.declared.PortGot.TheVariants as got
use Rattle.mq_outside.specs.declared.PortPut.{PortPut}
use Rattle.mq_outside.specs.declared.PortPut.TheVariants as put
use Rattle.mq_outside.specs.Counts.{PortCounts}
use Rattle.mq_outside.specs.Nets.{Arrival, NetHolds, has_room_for, with_answer, answered, NetSends, NetReceives, NetGave}
use Rattle.mq_net.specs.Sims.{Sim, holds_of, told, put_of, after_put, got_of, got_first, after_got, first_is, GotPacket}
use Rattle.mq_net.specs.Stores.{Store, an_answer, fits, after_answer}

-- ---- sends

-- an answer changes nothing but what waits
arrives : (b : Bool) (holds : NetHolds) (arrived : List Arrival)
    → (if b then record holds { arrived = arrived } else holds) ≡ record holds { arrived = (if b then record holds { arrived = arrived } else holds).arrived }
arrives true holds arrived = refl
arrives false holds arrived = refl

only_arrives : (answer : Option (List ℕ)) (holds : NetHolds) → with_answer answer holds ≡ record holds { arrived = (with_answer answer holds).arrived }
only_arrives None holds = refl
only_arrives (Some answer) holds = arrives (has_room_for holds.arrived answer) holds (holds.arrived ++ an_answer answer ∷ [])

net_sends_by : (hosts : List Addr) (arrived : List Arrival) (fails : Bool) (counts : PortCounts) (packet : List ℕ)
    → let s : Sim = record { hosts = hosts; arrived = arrived; send_fails = fails; counts = counts } in NetSends (told s) (told (after_put s packet)) packet (put_of s)
net_sends_by hosts arrived true counts packet = (refl, refl)
net_sends_by hosts arrived false counts packet =
    let s : Sim = record { hosts = hosts; arrived = arrived; send_fails = false; counts = counts } in
    (refl, refl, ap (λ (holds : NetHolds). Some holds) (sym (only_arrives (answer_of hosts packet) (holds_of s))))

pub net_sends : (s : Sim) (packet : List ℕ) → NetSends (told s) (told (after_put s packet)) packet (put_of s)
net_sends s packet = net_sends_by s.hosts s.arrived s.send_fails s.counts packet

-- what waits behind a send, where the room is that of the network
found : (b : Bool) (store : Store) (holds : NetHolds) (arrived : List Arrival) → store.arrived ≡ holds.arrived
    → (if b then record store { arrived = arrived } else store).arrived ≡ (if b then record holds { arrived = arrived } else holds).arrived
found true store holds arrived same = refl
found false store holds arrived same = same

pub answer_waits : (store : Store) (s : Sim) (packet answer : List ℕ) → store.arrived ≡ s.arrived → store.most ≡ 65536 → store.most_bytes ≡ 16777216
    → answer_of s.hosts packet ≡ Some answer → (after_answer store answer).arrived ≡ (answered packet (holds_of s)).arrived
answer_waits store s packet answer same most bytes is =
    let holds : NetHolds = holds_of s in
    let arrived : List Arrival = s.arrived ++ an_answer answer ∷ [] in
    let room : fits store answer ≡ has_room_for s.arrived answer = rw (most, bytes, same) refl in
    ap (λ (l : List Arrival). (if fits store answer then record store { arrived = l ++ an_answer answer ∷ [] } else store).arrived) same
    ∙ ap (λ (b : Bool). (if b then record store { arrived = arrived } else store).arrived) room
    ∙ found (has_room_for s.arrived answer) store holds arrived same
    ∙ sym (ap (λ (o : Option (List ℕ)). (with_answer o holds).arrived) is)

pub send_shows : (s : Sim) (store after : Store) (packet answer : List ℕ) → s.send_fails ≡ false → store.arrived ≡ s.arrived → store.most ≡ 65536
    → store.most_bytes ≡ 16777216 → answer_of s.hosts packet ≡ Some answer → after ≡ after_answer store answer → record s { arrived = after.arrived } ≡ after_put s packet
send_shows s store after packet answer sent same most bytes is put =
    ap (λ (l : List Arrival). record s { arrived = l }) (ap (λ (a : Store). a.arrived) put ∙ answer_waits store s packet answer same most bytes is) ∙ sym (cond-false _ _ _ sent)

pub send_tells : (s new : Sim) (packet : List ℕ) → s.send_fails ≡ false → new ≡ after_put s packet → NetSends (told s) (told new) packet put.Sent
send_tells s new packet sent is =
    subst (λ (n : Sim). NetSends (told s) (told n) packet put.Sent) (sym is)
    (subst (λ (answer : PortPut). NetSends (told s) (told (after_put s packet)) packet answer) (cond-false _ _ _ sent) (net_sends s packet))

-- what answers has hosts
pub has_hosts : (hosts : List Addr) (packet answer : List ℕ) → answer_of hosts packet ≡ Some answer → hosts ≡ [] → ⊥
has_hosts hosts packet answer is none =
    let same : ◌≡◌ {A = Option (List ℕ)} None (Some answer) = sym (ap (λ (l : List Addr). answer_of l packet) none ∙ no_answer packet) ∙ is in
    grind (arith, same)

-- ---- receives

net_receives_by : (hosts : List Addr) (arrived : List Arrival) (fails : Bool) (counts : PortCounts) (buffer : List ℕ)
    → let s : Sim = record { hosts = hosts; arrived = arrived; send_fails = fails; counts = counts } in
    GotPacket arrived buffer (got_first arrived) → NetReceives (told s) (told (after_got s)) buffer (got_of s)
net_receives_by hosts [] fails counts buffer packet = (refl, refl, refl)
net_receives_by hosts (first ∷ others) fails counts buffer packet = record {
  first = first;
  others = others;
  works = refl;
  arrived_are = refl;
  packet_is = packet;
  after_is = refl;
}

pub net_receives : (s : Sim) (buffer : List ℕ) → GotPacket s.arrived buffer (got_of s) → NetReceives (told s) (told (after_got s)) buffer (got_of s)
net_receives s buffer packet = net_receives_by s.hosts s.arrived s.send_fails s.counts buffer packet
