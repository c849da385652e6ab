-- A tunnel closed: its seat is gone, and its port with it.
use Rattle.std.proofs.Common.{◌≡◌, ◌≢◌, ◌⊎◌, inl, inr, ℕ, List, map, remove, slice_get, Option, Some, None, refl, sym, ap, subst, ◌∙◌}
use Rattle.slab.specs.Slab.{Slab, get}
use Rattle.mq_outside.specs.Counts.{PortCounts}
use Rattle.mq_outside.specs.Ports.{PortHolds}
use Rattle.mq_talk.specs.declared.book.Call.TheVariants as call
use Rattle.mq_talk.specs.declared.book.Reply.TheVariants as reply
use Rattle.mq_talk.specs.declared.note.Note.{Note}
use Rattle.mq_talk.specs.Mails.{IsTold}
use Rattle.mq_machine.specs.State.{Conn, Link, Held, Port}
use Rattle.mq_machine.specs.Want.{Ask, Replied, want_of}
use Rattle.mq_machine.specs.Done.{done}
use Rattle.mq_machine.specs.Shared.{without_port}
use Rattle.mq_machine.specs.Acting.{Outside, PortsTold, holds_of}
use Rattle.mq_conn.specs.Conns.{IsConn}
use Rattle.mq_held.specs.declared.held.Held.{Held as HeldBy}
use Rattle.mq_held.specs.declared.held.PortSeat.{PortSeat}
use Rattle.mq_held.specs.Seats.{IsSeatOf, HasNoSeat}
use Rattle.mq_step.specs.Holds.{IsPort, ArePorts, IsApartFrom, SeatsApart, IsHeld}
use Rattle.mq_step.specs.Sights.{Found, SeesPort, SeesPorts, port_if, filled_port}
use Rattle.mq_step.specs.Closing.{Retires}
use Rattle.mq_step.proofs.Filling.{served_same, served_without, tunnels_filled, is_moved, told_if}
use Rattle.mq_step.proofs.Keeping.{closed_next, closed_ends}
use Rattle.mq_step.proofs.Cores.{close_opens}
use Rattle.mq_step.proofs.Others.{find_seat}
use Rattle.mq_step.proofs.Places.{at_all, kept_in, apart_at, apart_removed, are_none, are_without, told_without}
use Rattle.mq_step.proofs.Standing.{stands}

module _ {Q : Type 0} (table after : Slab Q) (seats seats_after : List PortSeat) (tunnel : ℕ) where
  pub retired_apart : Retires table after seats seats_after tunnel → SeatsApart seats → SeatsApart seats_after
  retired_apart x apart = by_case (find_seat seats tunnel) where
    by_case : HasNoSeat seats tunnel ⊎ ((place : ℕ) × (seat : PortSeat) × IsSeatOf seats tunnel place seat) → SeatsApart seats_after
    by_case (inl without) = subst SeatsApart (sym (x.none without).0) apart
    by_case (inr (place, seat, is)) = subst SeatsApart (sym (x.gone place seat is).0) (apart_removed seats place apart)

  pub retired_are : (most : Q → ℕ) (o : Outside) (f : Found) (ports : List Port) → Retires table after seats seats_after tunnel → SeatsApart seats → ArePorts most table seats ports
      → ArePorts most after seats_after (without_port tunnel (map (filled_port o f) ports))
  retired_are most o f ports x apart are = by_case (find_seat seats tunnel) where
    left : List Port
    left = without_port tunnel (map (filled_port o f) ports)

    P : List PortSeat → Type 0
    P xs = ArePorts most after xs left

    by_case : HasNoSeat seats tunnel ⊎ ((place : ℕ) × (seat : PortSeat) × IsSeatOf seats tunnel place seat) → ArePorts most after seats_after left
    by_case (inl without) =
        let r = x.none without in
        subst P (sym r.0) (are_none most table after (filled_port o f) tunnel seats ports (λ q. refl) are without
        (λ i y q at_y at_q is. is_moved most table after y q (port_if (o.port q.tunnel) (f.port q.tunnel)) (ap (λ (t : Slab Q). get t y.key) r.1) is))
    by_case (inr (place, seat, is)) =
        let r = x.gone place seat is in
        subst P (sym r.0) (are_without most table after (filled_port o f) tunnel seats ports place seat (λ q. refl) apart are is.at is.tunnel_is
        (λ i y q at_y at_q is_y ne. is_moved most table after y q (port_if (o.port q.tunnel) (f.port q.tunnel)) (r.1 y.key ne.1) is_y))

  -- what is told of the ports that are left
  pub retired_told : (most : Q → ℕ) (holds : Q → Option PortHolds) (counts : Q → PortCounts) (o n : Outside) (f : Found) (ports : List Port) → Retires table after seats seats_after tunnel → SeatsApart seats
      → ArePorts most table seats ports → SeesPorts holds counts table o seats → SeesPorts holds counts after n seats_after → PortsTold n (without_port tunnel (map (filled_port o f) ports))
  retired_told most holds counts o n f ports x apart are so sn =
      told_without most table n (filled_port o f) tunnel seats ports (λ q. refl) are (λ i y q at_y at_q is ne. told i y q at_y is ne) where
        T : Option PortHolds → Port → Type 0
        T told q = IsTold told (holds_of (filled_port o f q))

        -- the outside tells of a port that is left what it told
        stays : (y : PortSeat) (q : Port) (is : IsPort most table y q) → (n.port y.tunnel ≡ holds is.port) → (o.port y.tunnel ≡ holds is.port) → T (n.port q.tunnel) q
        stays y q is after before =
            let P : Option PortHolds → Type 0 = λ told. T told q in
            subst P (ap o.port is.tunnel ∙ before ∙ sym after ∙ ap n.port (sym is.tunnel)) (told_if (o.port q.tunnel) (f.port q.tunnel) q)

        told : (i : ℕ) (y : PortSeat) (q : Port) → slice_get seats i ≡ Some y → IsPort most table y q → y.tunnel ≢ tunnel → T (n.port q.tunnel) q
        told i y q at_y is ne = by_case (find_seat seats tunnel) where
          before : o.port y.tunnel ≡ holds is.port
          before = (at_all (SeesPort holds counts table o) seats so i y at_y is.port is.at).0

          by_case : HasNoSeat seats tunnel ⊎ ((place : ℕ) × (seat : PortSeat) × IsSeatOf seats tunnel place seat) → T (n.port q.tunnel) q
          by_case (inl without) =
              let r = x.none without in
              let P : List PortSeat → Type 0 = λ xs. SeesPorts holds counts after n xs in
              let there = at_all (SeesPort holds counts after n) seats (subst P r.0 sn) i y at_y is.port (ap (λ (t : Slab Q). get t y.key) r.1 ∙ is.at) in
              stays y q is there.0 before
          by_case (inr (place, seat, is_seat)) = by_place (apart_at seats apart place i seat y is_seat.at at_y) where
            r : (seats_after ≡ remove seats place) × ((other : ℕ) → other ≢ seat.key → get after other ≡ get table other)
            r = x.gone place seat is_seat

            by_place : ((place ≡ i) × (seat ≡ y)) ⊎ IsApartFrom seat y → T (n.port q.tunnel) q
            by_place (inl (same, here)) = absurd (ne (ap (λ (z : PortSeat). z.tunnel) (sym here) ∙ is_seat.tunnel_is))
            by_place (inr other) =
                let P : List PortSeat → Type 0 = λ xs. SeesPorts holds counts after n xs in
                let place_ne : i ≢ place = λ same. other.0 (same_tunnel same) in
                let there = kept_in (SeesPort holds counts after n) seats place i y (subst P r.0 sn) at_y place_ne is.port (r.1 y.key other.1 ∙ is.at) in
                stays y q is there.0 before where
                  same_tunnel : i ≡ place → y.tunnel ≡ seat.tunnel
                  same_tunnel same =
                      let e : Some y ≡ Some seat = sym at_y ∙ ap (λ (k : ℕ). slice_get seats k) same ∙ is_seat.at in
                      let is_same : y ≡ seat = cc in
                      ap (λ (z : PortSeat). z.tunnel) is_same

-- for which state the connection stands then
pub retired_stands : {L Q : Type 0} (most : Q → ℕ) (table after : Slab Q) (h g : HeldBy L) (s : Held) (tunnel : ℕ) (said : Note) (t : Conn) (link : Link) (o : Outside) (f : Found)
    → IsHeld most table h s → want_of s.conn ≡ Ask (call.Close tunnel) → g.number ≡ h.number → Retires table after h.ports.items g.ports.items tunnel → g.bound ≡ None
    → done s.conn (Replied reply.Closed) ≡ Some (said, t) → IsConn g.conn t
    → IsHeld most after g (record { conn = t; link = link; ports = without_port tunnel (map (filled_port o f) s.ports) })
retired_stands most table after h g s tunnel said t link o f held want number retires bound does new =
    let k = closed_next s.conn t said tunnel (close_opens h.conn s.conn tunnel held.conn want) want does in
    let ports : List Port = map (filled_port o f) s.ports in
    stands most after g (record { conn = t; link = link; ports = without_port tunnel ports }) new (k.0 ∙ held.number ∙ sym number)
    (retired_are table after h.ports.items g.ports.items tunnel most o f s.ports retires held.apart held.ports)
    (retired_apart table after h.ports.items g.ports.items tunnel retires held.apart)
    (served_without s.conn.ending t.ending tunnel s.conn.tunnels t.tunnels ports k.3 (closed_ends s.conn t said does)
    (served_same s.conn.ending s.conn.tunnels s.ports ports (tunnels_filled o f s.ports) held.served))
    k.2 bound
