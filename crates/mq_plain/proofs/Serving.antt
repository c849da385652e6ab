-- A worker of a world whose link or port became another.
use Rattle.std.proofs.Common.{◌≡◌, ℕ, zero, suc, ◌==◌, Bool, true, false, List, [], ◌∷◌, All, slice_get, Option, Some, None, refl, sym, ap, subst, ◌∙◌}
use Rattle.std.specs.Prelude.{option_and_then, if◌then◌else◌}
use Rattle.std.specs.Option.{option_map_or}
use Rattle.slab.specs.Slab.{get, with_value}
use Rattle.slab.proofs.SlabLemmas.{Updates-with_value}
use Rattle.mq_outside.specs.Counts.{no_link_counts, no_port_counts}
use Rattle.mq_talk.specs.Mails.{Boxes}
use Rattle.mq_talk.specs.Offices.{Seen}
use Rattle.mq_machine.specs.State.{Link, Told, Port, Held, Worker}
use Rattle.mq_machine.specs.Acting.{Outside, Known, holds_of}
use Rattle.mq_mem.specs.Links.{Link as LinkOf}
use Rattle.mq_mem.specs.Ports.{Port as PortOf}
use Rattle.mq_held.specs.declared.held.PortSeat.{PortSeat}
use Rattle.mq_step.specs.Holds.{ArePorts}
use Rattle.mq_actor.specs.Lent.{link_at, with_link, seat_at, port_at, with_port}
use Rattle.mq_actor.specs.Steps.{sight}
use Rattle.mq_actor.proofs.Between.{apart_of}
use Rattle.mq_actor.proofs.Acted.{cores_map}
use Rattle.mq_actor.proofs.Cores.{cores_of}
use Rattle.mq_actor.proofs.Helds.{held_at}
use Rattle.mq_actor.proofs.Lends.{link_stands, worker_sized, value_sized}
use Rattle.mq_actor.proofs.Sighted.{own_tunnels}
use Rattle.mq_actor.proofs.Tunnels.{known_same}
use Rattle.mq_play.specs.Events.{at_held, at_worker, with_ports, with_held_ports}
use Rattle.mq_plain.specs.Served.{words, Plain, IsOf, Serves}
use Rattle.mq_plain.proofs.Linking.{stands_linked, lent_linked, unlent_linked, linked_same}
use Rattle.mq_plain.proofs.Porting.{Keeps, found_seat, stands_changed, tells_changed, unlent_same}
use Rattle.mq_mem.specs.Mails.{shown}

-- nothing is told
pub nowhere : Outside
nowhere = record { link = λ n. None; link_counts = λ n. no_link_counts; port = λ n. None; port_counts = λ n. no_port_counts; binds = record { holds = None; faults = 0 } }

-- ---- what the office knows stays

pub known_with : (o : Outside) (seen : Seen) (boxes : Boxes) (x y : Worker) → Known (sight o seen (shown boxes)) x → y.id ≡ x.id → y.setup ≡ x.setup → cores_of y.conns ≡ cores_of x.conns
    → Known (sight o seen (shown boxes)) y
known_with o seen boxes x y known id setup cores =
    known_same (sight o seen (shown boxes)) (sight o seen (shown boxes)) x y known id setup cores refl (λ bs is. known.boxes bs is)

at_held_core : (number : ℕ) (change : Link → Link) (h : Held) → (at_held number change h).conn ≡ h.conn
at_held_core number change h = by_case (h.conn.number == number) where
  by_case : (b : Bool) → (if b then record h { link = change h.link } else h).conn ≡ h.conn
  by_case true = refl
  by_case false = refl

-- ---- links

module _ (links : List Told) (seen : Seen) (boxes : Boxes) (number : ℕ) (a : Plain) (w : Worker) (x : Serves links seen boxes number a w) (conn : ℕ) (change : Link → Link) where
  pub serves_linked : (was now : LinkOf) → link_at conn a.ring ≡ Some was → now.holds ≡ change was.holds
      → Serves links seen boxes number (record a { ring = with_link conn a.ring now }) (at_worker conn change w)
  serves_linked was now lent is =
      let same = linked_same a.ring conn now in
      let N : List ℕ → Type 0 = λ ns. All (IsOf links number) ns in
      let tells : (l : Link) → Some was.holds ≡ Some l → Some now.holds ≡ Some (change l) = λ l e. ap {B = Option Link} (λ (h : Link). Some h) (is ∙ ap change (some_same was.holds l e)) in
      record {
        stands = stands_linked change conn words.most a.table.table (with_link conn a.ring now) w (link_stands words.most a.table.table a.ring w x.stands conn now);
        tells = lent_linked words a.table.table a.ring w x.stands conn change was now x.tells tells lent;
        known = λ o. known_with o seen boxes w (at_worker conn change w) (x.known o) refl refl (cores_map (at_held conn change) w.conns (at_held_core conn change));
        id = same.id ∙ x.id;
        own = subst N (sym same.numbers) x.own;
        ready = x.ready;
      } where
        some_same : (k l : Link) → Some k ≡ Some l → k ≡ l
        some_same k l e = cc

  pub serves_unlinked : link_at conn a.ring ≡ None → at_worker conn change w ≡ w
  serves_unlinked none = unlent_linked words a.table.table a.ring w x.stands conn change none

-- ---- ports

module _ (links : List Told) (seen : Seen) (boxes : Boxes) (number : ℕ) (a : Plain) (w : Worker) (x : Serves links seen boxes number a w) (tunnel : ℕ) (change : Port → Port) (keeps : Keeps change) where
  by_seat : (was now : PortOf) (seat : PortSeat) → seat_at tunnel a.ring ≡ Some seat → get a.table.table seat.key ≡ Some was → now.most ≡ was.most
      → ((p : Port) → words.port was ≡ Some (holds_of p) → words.port now ≡ Some (holds_of (change p)))
      → Serves links seen boxes number (record a { table = record a.table { table = with_value a.table.table seat.key now } }) (with_held_ports tunnel change w)
  by_seat was now seat found at most tells_now =
      let after = with_value a.table.table seat.key now in
      let sized = worker_sized words.most a.table.table after (value_sized words.most a.table.table seat.key was now at most) a.ring w x.stands in
      let own = own_tunnels words.most a.table.table a.ring.conns.items w nowhere seen (shown boxes) x.stands.conns (apart_of words.most a.table.table a.ring w x.stands) (x.known nowhere) in
      record {
        stands = stands_changed words after change keeps tunnel a.ring w sized;
        tells = tells_changed words a.table.table after change keeps tunnel was now tells_now a.ring w seat x.stands own x.tells found at (Updates-with_value a.table.table seat.key now (rw at refl));
        known = λ o. known_with o seen boxes w (with_held_ports tunnel change w) (x.known o) refl refl (cores_map (with_ports tunnel change) w.conns (λ h. refl));
        id = x.id;
        own = x.own;
        ready = x.ready;
      }

  pub serves_ported : (was now : PortOf) → port_at tunnel a.ring a.table.table ≡ Some was → now.most ≡ was.most
      → ((p : Port) → words.port was ≡ Some (holds_of p) → words.port now ≡ Some (holds_of (change p)))
      → Serves links seen boxes number (record a { table = record a.table { table = with_port tunnel a.ring a.table.table now } }) (with_held_ports tunnel change w)
  serves_ported was now lent most tells_now = by_found (seat_at tunnel a.ring) refl lent where
    by_found : (o : Option PortSeat) → seat_at tunnel a.ring ≡ o → option_and_then (λ (seat : PortSeat). get a.table.table seat.key) o ≡ Some was
        → Serves links seen boxes number (record a { table = record a.table { table = option_map_or (λ (seat : PortSeat). with_value a.table.table seat.key now) o a.table.table } }) (with_held_ports tunnel change w)
    by_found None found is = absurd cc
    by_found (Some seat) found is = by_seat was now seat found is most tells_now

  pub serves_unported : port_at tunnel a.ring a.table.table ≡ None → with_held_ports tunnel change w ≡ w
  serves_unported none = by_found (seat_at tunnel a.ring) refl none where
    by_found : (o : Option PortSeat) → seat_at tunnel a.ring ≡ o → option_and_then (λ (seat : PortSeat). get a.table.table seat.key) o ≡ None → with_held_ports tunnel change w ≡ w
    by_found None found is = unlent_same words.most a.table.table tunnel change a.ring w x.stands found
    by_found (Some seat) found is =
        let s = found_seat tunnel a.ring.conns.items seat found in
        let held = held_at words.most a.table.table a.ring.conns.items w.conns s.0.i s.0.h x.stands.conns s.0.at in
        let p = stands_there s.0.h.ports.items held.0.ports s.0.a seat held.2.ports s.0.at_seat in
        let both : None ≡ Some p.0 = sym is ∙ p.1 in
        absurd cc where
          stands_there : (seats : List PortSeat) (ports : List Port) (i : ℕ) (seat : PortSeat) → ArePorts words.most a.table.table seats ports → slice_get seats i ≡ Some seat
              → (q : PortOf) × (get a.table.table seat.key ≡ Some q)
          stands_there [] ports i seat are at = absurd cc
          stands_there (y ∷ seats) [] i seat are at = absurd are
          stands_there (y ∷ seats) (p ∷ ports) zero seat are at =
              let e : y ≡ seat = cc in
              let P : PortSeat → Type 0 = λ z. (q : PortOf) × (get a.table.table z.key ≡ Some q) in
              subst P e (are.0.port, are.0.at)
          stands_there (y ∷ seats) (p ∷ ports) (suc i) seat are at = stands_there seats ports i seat are.1 at
