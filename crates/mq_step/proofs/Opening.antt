-- A tunnel opened, or found no place; or the book was asked in vain.
use Rattle.std.proofs.Common.{cond, ◌≡◌, ◌≢◌, ℕ, zero, suc, ◌==◌, ◌<◌, ◌≤◌, ◌||◌, Bool, false, ne_eqb, List, [], ◌∷◌, ◌++◌, map, length, All, slice_get, Option, Some, None, MatchOption, refl, sym, ap, subst, ◌∙◌, arith}
use Rattle.std.proofs.lemmas.List.{append-nil, map-append, length-append}
use Rattle.std.proofs.lemmas.List.Concat.{flat_map-append}
use Rattle.std.proofs.lemmas.List.Elements.{All-cons, All-head, All-tail, All-nil}
use Rattle.slab.specs.Slab.{Slab, get, Updates}
use Rattle.mq_addr.specs.declared.addr.Addr.{Addr}
use Rattle.mq_addr.specs.declared.addr.Addr.TheVariants.{V4, V6}
use Rattle.mq_addr.specs.declared.prefix.Prefix.{Prefix}
use Rattle.mq_addr.specs.declared.range.Range.{Range}
use Rattle.mq_outside.specs.Counts.{PortCounts}
use Rattle.mq_outside.specs.Ports.{PortHolds, limit_of}
use Rattle.mq_talk.specs.declared.book.Call.{Call}
use Rattle.mq_talk.specs.declared.book.Entry.{Entry}
use Rattle.mq_talk.specs.declared.book.Call.TheVariants as call
use Rattle.mq_talk.specs.declared.book.Reply.{Reply}
use Rattle.mq_talk.specs.declared.book.Reply.TheVariants as reply
use Rattle.mq_talk.specs.declared.goal.Goal.{Goal}
use Rattle.mq_talk.specs.declared.goal.Goal.TheVariants as goal
use Rattle.mq_talk.specs.declared.note.Note.{Note}
use Rattle.mq_talk.specs.Mails.{IsTold}
use Rattle.mq_talk.specs.Offices.{Seen, CallOk}
use Rattle.mq_machine.specs.State.{Conn, Tunnel, Held, Port, Orders, Shared, kind_of}
use Rattle.mq_machine.specs.Want.{Want, Nothing, Say, Bind, Ask, Judge, Push, Send, Over, Answer, Replied, want_of}
use Rattle.mq_machine.specs.Done.{done, first_waiting}
use Rattle.mq_machine.specs.Lawful.{has_number}
use Rattle.mq_machine.specs.Shared.{Answers, PortsAnswer, Asks, new_port, port_limit, at_port}
use Rattle.mq_machine.specs.Turn.{can_do}
use Rattle.mq_machine.specs.Acting.{Outside, IsOpen, PortsTold, holds_of, prepared}
use Rattle.mq_conn.specs.Conns.{IsConn}
use Rattle.mq_held.specs.declared.held.Held.{Held as HeldBy}
use Rattle.mq_held.specs.declared.held.PortSeat.{PortSeat}
use Rattle.mq_held.specs.declared.ask.Heard.{Heard as HeardBy}
use Rattle.mq_held.specs.Answers.{IsPlain, OpensFresh, Hears, opened_by}
use Rattle.mq_step.specs.Holds.{IsPort, ArePorts, IsApartFrom, SeatsApart, IsReady, IsBound, IsHeld, IsKnown, Seats, port_number, tunnels_of, numbers_of}
use Rattle.mq_step.specs.Sights.{SeesPort, SeesPorts, filled_port, idle}
use Rattle.mq_step.specs.Wanted.{WantDone, ported, with_prepared}
use Rattle.mq_step.proofs.Filling.{are_filled, tunnels_filled, KeepsSeats, seats_kept, StaysTold, seats_told, filled_told, none_fails, served_any, alive_served}
use Rattle.mq_step.proofs.Places.{at_all, all_by, all_before, found_all, seat_port, live_of, apart_added, at_last, are_added, told_added}
use Rattle.mq_step.proofs.Asking.{closes_fresh}
use Rattle.mq_step.proofs.Wanting.{Mailed, behind, acted_is, shared_by}
use Rattle.mq_step.proofs.Keeping.{opened_next, kept_full}
use Rattle.mq_step.proofs.Cores.{open_alive, same_tunnels, tail_opens}
use Rattle.mq_step.proofs.Standing.{stands, same_apart, bound_none}
use Rattle.mq_step.proofs.Doing.{NeedsNoPort, idle_works, left, want_done}
use Rattle.mq_talk.proofs.Mails.{nothing_moved}

-- ---- the port of a tunnel that opens

limits : (addr : Addr) → port_limit addr ≡ limit_of addr
limits (V4 bits) = refl
limits (V6 bits) = refl

small_limit : (addr : Addr) → port_limit addr ≤ 65535
small_limit (V4 bits) = omega arith
small_limit (V6 bits) = omega arith

prepared_is : {Q : Type 0} (most : Q → ℕ) (table : Slab Q) (tunnel key number : ℕ) (addr : Addr) (seats : List PortSeat) (told : Option PortHolds) → IsReady most table (limit_of addr) key seats
    → IsPort most table (record { tunnel = tunnel; key = key; received = 0 }) (prepared told (new_port tunnel addr number))
prepared_is most table tunnel key number addr seats None ready =
    record { tunnel = refl; received = refl; port = ready.port; at = ready.at; limit = limits addr ∙ sym ready.limit_is; small = small_limit addr }
prepared_is most table tunnel key number addr seats (Some holds) ready =
    record { tunnel = refl; received = refl; port = ready.port; at = ready.at; limit = limits addr ∙ sym ready.limit_is; small = small_limit addr }

prepared_tunnel : (tunnel number : ℕ) (addr : Addr) (told : Option PortHolds) → (prepared told (new_port tunnel addr number)).tunnel ≡ tunnel
prepared_tunnel tunnel number addr None = refl
prepared_tunnel tunnel number addr (Some holds) = refl

prepared_told : (told : Option PortHolds) (p : Port) → IsTold told (holds_of (prepared told p))
prepared_told None p = tt
prepared_told (Some holds) p = refl

-- the ports of the other tunnels stay as they are
opened_ports : (o n : Outside) (ports : List Port) (tunnel number : ℕ) (addr : Addr) → All (λ (q : Port). q.tunnel ≢ tunnel) (map (filled_port o idle) ports)
    → at_port tunnel (prepared (n.port tunnel)) (map (filled_port o idle) ports ++ new_port tunnel addr number ∷ [])
    ≡ map (filled_port o idle) ports ++ prepared (n.port tunnel) (new_port tunnel addr number) ∷ []
opened_ports o n ports tunnel number addr others = at_last tunnel (prepared (n.port tunnel)) (map (filled_port o idle) ports) (new_port tunnel addr number) others refl

-- ---- what was there before

-- no port is that of the tunnel, where no seat is
ports_apart : {Q : Type 0} (most : Q → ℕ) (table : Slab Q) (o : Outside) (tunnel : ℕ) (seats : List PortSeat) (ports : List Port) → ArePorts most table seats ports
    → All (λ (x : PortSeat). x.tunnel ≢ tunnel) seats → All (λ (q : Port). q.tunnel ≢ tunnel) (map (filled_port o idle) ports)
ports_apart most table o tunnel [] [] are fresh = All-nil (λ (q : Port). q.tunnel ≢ tunnel)
ports_apart most table o tunnel [] (p ∷ ports) are fresh = absurd are
ports_apart most table o tunnel (x ∷ seats) [] are fresh = absurd are
ports_apart most table o tunnel (x ∷ seats) (p ∷ ports) are fresh =
    let N : PortSeat → Type 0 = λ y. y.tunnel ≢ tunnel in
    All-cons (λ (q : Port). q.tunnel ≢ tunnel) (filled_port o idle p) (map (filled_port o idle) ports) (λ same. All-head N x seats fresh (sym are.0.tunnel ∙ same))
    (ports_apart most table o tunnel seats ports are.1 (All-tail N x seats fresh))

within : {A : Type 0} (xs : List A) (i : ℕ) (x : A) → slice_get xs i ≡ Some x → i < length xs
within [] i x at = absurd cc
within (y ∷ xs) zero x at = omega arith
within (y ∷ xs) (suc i) x at = let lt = within xs i x at in omega (arith, lt)

-- A tunnel is numbered by the place of its entry, which is behind all that was seen: no seat has that number yet.
fresh : {L Q : Type 0} (most : Q → ℕ) (table : Slab Q) (h : HeldBy L) (actor : ℕ) (seen seen_after : Seen) (s : Held) (conn id names tunnel : ℕ) (goal : Goal) (routes : List Range)
    → IsHeld most table h s → IsKnown seen actor s → want_of s.conn ≡ Ask (call.Open conn id names goal) → CallOk actor seen (call.Open conn id names goal) (reply.Opened tunnel routes) seen_after
    → All (λ (x : PortSeat). x.tunnel ≢ tunnel) h.ports.items
fresh most table h actor seen seen_after s conn id names tunnel goal routes held known want ok = all_by (λ (x : PortSeat). x.tunnel ≢ tunnel) h.ports.items each where
  I : Tunnel → Type 0
  I t = IsOpen seen.entries actor t.id s.conn.number t.stream t.goal

  each : (i : ℕ) (x : PortSeat) → slice_get h.ports.items i ≡ Some x → x.tunnel ≢ tunnel
  each i x at same =
      let alive = (open_alive h.conn s.conn conn id names goal held.conn want).0 in
      let p = seat_port most table h.ports.items s.ports held.ports i x at in
      let t = live_of s.ports s.conn.tunnels i p.0 (alive_served s.conn.ending s.conn.tunnels s.ports alive held.served) p.1 in
      let is = found_all I (λ (u : Tunnel). u.id == p.0.tunnel) s.conn.tunnels t.0 known.tunnels t.1 in
      let lt = within seen.entries t.0.id is.entry is.at in
      let number : t.0.id ≡ tunnel = t.2 ∙ p.2.tunnel ∙ same in
      let place : tunnel ≡ length ok.book = ok.reply_is.1 in
      let size = ap (λ (es : List Entry). length es) ok.sees.goes_on ∙ length-append seen.entries ok.sees.more in
      omega (arith, lt, number, place, size)

no_number : (ts : List Tunnel) (tunnel : ℕ) → All (λ (t : Tunnel). t.id ≢ tunnel) ts → has_number ts tunnel ≡ false
no_number [] tunnel fresh = refl
no_number (t ∷ ts) tunnel fresh =
    let N : Tunnel → Type 0 = λ u. u.id ≢ tunnel in
    ap (λ (b : Bool). b || has_number ts tunnel) (ne_eqb t.id tunnel (All-head N t ts fresh)) ∙ no_number ts tunnel (All-tail N t ts fresh)

-- an open tunnel is numbered below all that comes
below_new : (seen : Seen) (actor conn tunnel : ℕ) (ts : List Tunnel) → length seen.entries ≤ tunnel → All (λ (t : Tunnel). IsOpen seen.entries actor t.id conn t.stream t.goal) ts
    → All (λ (t : Tunnel). t.id ≢ tunnel) ts
below_new seen actor conn tunnel [] past are = All-nil (λ (t : Tunnel). t.id ≢ tunnel)
below_new seen actor conn tunnel (t ∷ ts) past are =
    let I : Tunnel → Type 0 = λ u. IsOpen seen.entries actor u.id conn u.stream u.goal in
    let is = All-head I t ts are in
    let lt = within seen.entries t.id is.entry is.at in
    All-cons (λ (u : Tunnel). u.id ≢ tunnel) t ts (λ same. omega (arith, lt, same, past)) (below_new seen actor conn tunnel ts past (All-tail I t ts are))

-- so no tunnel has it, either, of any connection for which the core stands
pub opens_fresh : {L Q : Type 0} (most : Q → ℕ) (table : Slab Q) (h : HeldBy L) (actor : ℕ) (seen seen_after : Seen) (s x : Held) (asked : Call) → IsPlain asked
    → IsHeld most table h s → want_of s.conn ≡ Ask asked → IsHeld most table h x → IsKnown seen actor x → OpensFresh actor seen asked seen_after s.conn.tunnels
opens_fresh most table h actor seen seen_after s x (call.Open conn id names goal) plain held want other known (reply.Opened tunnel routes) ok =
    let place : tunnel ≡ length ok.book = ok.reply_is.1 in
    let size = ap (λ (es : List Entry). length es) ok.sees.goes_on ∙ length-append seen.entries ok.sees.more in
    let past : length seen.entries ≤ tunnel = omega (arith, place, size) in
    let H : List Tunnel → Type 0 = λ ts. has_number ts tunnel ≡ false in
    subst H (same_tunnels h.conn x.conn s.conn other.conn held.conn)
    (no_number x.conn.tunnels tunnel (below_new seen actor x.conn.number tunnel x.conn.tunnels past known.tunnels))
opens_fresh most table h actor seen seen_after s x (call.Open conn id names goal) plain held want other known (reply.HistoryFull entries live) ok = tt
opens_fresh most table h actor seen seen_after s x (call.Open conn id names goal) plain held want other known (reply.Assigned list at) ok = tt
opens_fresh most table h actor seen seen_after s x (call.Open conn id names goal) plain held want other known (reply.Accepted accepts at) ok = tt
opens_fresh most table h actor seen seen_after s x (call.Open conn id names goal) plain held want other known reply.Closed ok = tt
opens_fresh most table h actor seen seen_after s x (call.Close t) plain held want other known said ok = closes_fresh actor seen seen_after s.conn.tunnels t said ok
opens_fresh most table h actor seen seen_after s x (call.Assign t list) plain held want other known said ok = absurd plain
opens_fresh most table h actor seen seen_after s x (call.Advertise t list) plain held want other known said ok = absurd plain

-- no seat has the key of a port that is bound
key_apart : {Q : Type 0} (most : Q → ℕ) (table : Slab Q) (seats : List PortSeat) (w : Want) (key : ℕ) → IsBound most table seats w (Some key) → All (λ (x : PortSeat). x.key ≢ key) seats
key_apart most table seats Nothing key is = absurd cc
key_apart most table seats Say key is = absurd cc
key_apart most table seats (Bind stream goal) key is = absurd cc
key_apart most table seats (Ask (call.Open conn id names (goal.Udp addr number))) key is = is.apart
key_apart most table seats (Ask (call.Open conn id names (goal.Ip area protocol))) key is = absurd cc
key_apart most table seats (Ask (call.Assign tunnel asked)) key is = absurd cc
key_apart most table seats (Ask (call.Advertise tunnel ranges)) key is = absurd cc
key_apart most table seats (Ask (call.Close tunnel)) key is = absurd cc
key_apart most table seats (Judge tunnel n flow) key is = absurd cc
key_apart most table seats (Push parcel) key is = absurd cc
key_apart most table seats (Send tunnel n payload) key is = absurd cc
key_apart most table seats (Over why) key is = absurd cc

-- that one is handed back, and the ports of all seats stay
pub bound_kept : {Q T : Type 0} (slab : T → Slab Q) (most : Q → ℕ) (before after : T) (seats : List PortSeat) (w : Want) (bound : Option ℕ) → IsBound most (slab before) seats w bound
    → MatchOption bound (after ≡ before) (λ key. Updates (slab before) (slab after) key None) → KeepsSeats (slab before) (slab after) seats
bound_kept {Q} slab most before after seats w None is back =
    all_by (λ (x : PortSeat). (port : Q) → get (slab before) x.key ≡ Some port → get (slab after) x.key ≡ Some port) seats
    (λ i x at_x port at. ap (λ t. get (slab t) x.key) back ∙ at)
bound_kept {Q} slab most before after seats w (Some key) is back =
    all_by (λ (x : PortSeat). (port : Q) → get (slab before) x.key ≡ Some port → get (slab after) x.key ≡ Some port) seats
    (λ i x at_x port at. back.others x.key (at_all (λ (y : PortSeat). y.key ≢ key) seats (key_apart most (slab before) seats w key is) i x at_x) ∙ at)

-- as they do where the tunnel opened
pub opened_kept : {Q T : Type 0} (slab : T → Slab Q) (most : Q → ℕ) (before after : T) (seats : List PortSeat) (w : Want) (bound opened : Option ℕ) → IsBound most (slab before) seats w bound
    → MatchOption opened (MatchOption bound (after ≡ before) (λ key. Updates (slab before) (slab after) key None)) (λ tunnel. after ≡ before) → KeepsSeats (slab before) (slab after) seats
opened_kept slab most before after seats w bound None is back = bound_kept slab most before after seats w bound is back
opened_kept {Q} slab most before after seats w bound (Some tunnel) is same =
    all_by (λ (x : PortSeat). (port : Q) → get (slab before) x.key ≡ Some port → get (slab after) x.key ≡ Some port) seats (λ i x at_x port at. ap (λ t. get (slab t) x.key) same ∙ at)

-- ---- it opened

-- the connection behind it
abbrev pub opened_left : Outside → Outside → Held → ℕ → ℕ → ℕ → Goal → ℕ → List Range → Conn → Held
opened_left o n s conn id names goal tunnel routes t =
    with_prepared n (Replied (reply.Opened tunnel routes)) (behind (ported o idle s) (Ask (call.Open conn id names goal)) (Replied (reply.Opened tunnel routes)) t)

open_done : (o n : Outside) (actor : ℕ) (seen seen_after : Seen) (m : Mailed seen) (orders : Orders) (s : Held) (conn id names tunnel : ℕ) (goal : Goal) (routes : List Range) (said : Note) (t : Conn)
    → s.conn.actor ≡ actor → want_of s.conn ≡ Ask (call.Open conn id names goal)
    → (ok : CallOk actor seen (call.Open conn id names goal) (reply.Opened tunnel routes) seen_after)
    → done s.conn (Replied (reply.Opened tunnel routes)) ≡ Some (said, t) → n.binds.holds ≡ o.binds.holds
    → WantDone o n seen seen_after m.mail m.mail orders s said (Some (opened_left o n s conn id names goal tunnel routes t))
open_done o n actor seen seen_after m orders s conn id names tunnel goal routes said t mine want ok does same =
    let h : Held = ported o idle s in
    let asked : Call = call.Open conn id names goal in
    let answer : Answer = Replied (reply.Opened tunnel routes) in
    let sh : Shared = shared_by seen ok.book m.boxes orders in
    let after : Shared = shared_by seen (ok.book ++ record { actor = actor; call = asked; reply = reply.Opened tunnel routes } ∷ []) m.boxes orders in
    let A : Want → Type 0 = λ w. Answers s.conn.actor sh w answer after in
    let B : ℕ → Type 0 = λ who. Asks sh who asked (reply.Opened tunnel routes) after in
    let Q : Want → Type 0 = λ w. PortsAnswer h.ports w answer in
    record {
      found = idle;
      answer = answer;
      sh = sh;
      after = after;
      became = Some (behind h (Ask asked) answer t);
      calm = λ not_send. refl;
      can = ap (λ (w : Want). can_do h.ports w) want;
      shares = record { config = refl; book = ok.sees; wrote = ok.seen; same = ok.same; boxes = m.told; count = m.count; boxes_after = m.told; moves = nothing_moved m.mail m.mail m.boxes refl; orders_are = refl };
      faults = none_fails o n idle s.ports idle_works;
      binds = same;
      next = record {
        answers = subst A (sym want) (subst B (sym mine) (record { said = reply.Opened tunnel routes; is = ok.reply_is; reply_is = refl; after_is = refl }));
        ports = subst Q (sym want) tt;
        is = acted_is h (Ask asked) answer said t want tt does;
      };
      then = refl;
    }

open_stands : {L Q : Type 0} (most : Q → ℕ) (table : Slab Q) (h g : HeldBy L) (o n : Outside) (s : Held) (conn id names number tunnel key : ℕ) (addr : Addr) (routes : List Range) (said : Note) (t : Conn)
    → IsHeld most table h s → want_of s.conn ≡ Ask (call.Open conn id names (goal.Udp addr number)) → All (λ (x : PortSeat). x.tunnel ≢ tunnel) h.ports.items
    → IsReady most table (limit_of addr) key h.ports.items
    → s.conn.number ≡ g.number → g.ports.items ≡ h.ports.items ++ record { tunnel = tunnel; key = key; received = 0 } ∷ [] → g.bound ≡ None
    → done s.conn (Replied (reply.Opened tunnel routes)) ≡ Some (said, t) → IsConn g.conn t → IsHeld most table g (opened_left o n s conn id names (goal.Udp addr number) tunnel routes t)
open_stands most table h g o n s conn id names number tunnel key addr routes said t held want none ready same items bound does new =
    let u : Held = opened_left o n s conn id names (goal.Udp addr number) tunnel routes t in
    let k = opened_next s.conn t said conn id names (goal.Udp addr number) tunnel routes (tail_opens h.conn s.conn held.conn) want does in
    let alive = (open_alive h.conn s.conn conn id names (goal.Udp addr number) held.conn want).0 in
    let before : List Port = map (filled_port o idle) s.ports in
    let p : Port = prepared (n.port tunnel) (new_port tunnel addr number) in
    let ports : u.ports ≡ before ++ p ∷ [] = opened_ports o n s.ports tunnel number addr (ports_apart most table o tunnel h.ports.items s.ports held.ports none) in
    let seat : PortSeat = record { tunnel = tunnel; key = key; received = 0 } in
    let P : List Port → Type 0 = λ ps. ArePorts most table g.ports.items ps in
    let S : List PortSeat → Type 0 = λ xs. ArePorts most table xs (before ++ p ∷ []) in
    let are = subst P (sym ports) (subst S (sym items) (are_added most table h.ports.items before seat p (are_filled most table o idle h.ports.items s.ports held.ports)
    (prepared_is most table tunnel key number addr h.ports.items (n.port tunnel) ready))) in
    let first : Tunnel = record { id = tunnel; stream = id; goal = goal.Udp addr number; waiting = [] } in
    let others : All (IsApartFrom seat) h.ports.items = all_by (IsApartFrom seat) h.ports.items
    (λ i x at. (at_all (λ (y : PortSeat). y.tunnel ≢ tunnel) h.ports.items none i x at, at_all (λ (y : PortSeat). y.key ≢ key) h.ports.items ready.apart i x at)) in
    let served : tunnels_of u.ports ≡ numbers_of t.tunnels =
    ap (λ (ps : List Port). tunnels_of ps) ports
    ∙ map-append (λ (q : Port). q.tunnel) before (p ∷ [])
    ∙ ap (λ (xs : List ℕ). xs ++ p.tunnel ∷ []) (tunnels_filled o idle s.ports ∙ alive_served s.conn.ending s.conn.tunnels s.ports alive held.served)
    ∙ ap (λ (x : ℕ). numbers_of s.conn.tunnels ++ x ∷ []) (prepared_tunnel tunnel number addr (n.port tunnel))
    ∙ sym (flat_map-append (λ (y : Tunnel). port_number y.goal y.id) s.conn.tunnels (first ∷ []))
    ∙ sym (ap (λ (ts : List Tunnel). numbers_of ts) k.3) in
    stands most table g u new (k.0 ∙ same) are (same_apart (h.ports.items ++ seat ∷ []) g.ports.items items (apart_added h.ports.items seat others held.apart))
    (served_any t.ending t.tunnels u.ports served) k.2 bound

open_told : (o n : Outside) (s : Held) (conn id names number tunnel : ℕ) (addr : Addr) (routes : List Range) (t : Conn) → All (λ (q : Port). q.tunnel ≢ tunnel) (map (filled_port o idle) s.ports)
    → All (StaysTold o n) s.ports → PortsTold n (opened_left o n s conn id names (goal.Udp addr number) tunnel routes t).ports
open_told o n s conn id names number tunnel addr routes t others stay =
    let p : Port = prepared (n.port tunnel) (new_port tunnel addr number) in
    let P : List Port → Type 0 = λ ps. PortsTold n ps in
    let T : ℕ → Type 0 = λ i. IsTold (n.port i) (holds_of p) in
    subst P (sym (opened_ports o n s.ports tunnel number addr others))
    (told_added n (map (filled_port o idle) s.ports) p (filled_told o n idle s.ports stay)
    (subst T (sym (prepared_tunnel tunnel number addr (n.port tunnel))) (prepared_told (n.port tunnel) (new_port tunnel addr number))))

-- ---- what it comes to

-- the connection that stands behind an answer of the book
pub record Comes {L Q : Type 0} (most : Q → ℕ) (after : Slab Q) (g : HeldBy L) (o n : Outside) (seen seen_after : Seen) (m : Mailed seen) (orders : Orders) (s : Held) (said : Note) : Type 0 where
  pub left_is : Held
  pub done_is : WantDone o n seen seen_after m.mail m.mail orders s said (Some left_is)
  pub stands_for : IsHeld most after g left_is
  pub told_is : PortsTold n left_is.ports

-- what is known where the book replied to an opening
pub record Opens {L Q : Type 0} (most : Q → ℕ) (holds : Q → Option PortHolds) (counts : Q → PortCounts) (table after : Slab Q) (h g : HeldBy L) (o n : Outside) (actor : ℕ) (seen seen_after : Seen) (s : Held)
    (asked : Call) (said : HeardBy) (t : Conn) : Type 0 where
  pub held : IsHeld most table h s
  pub known : (x : Held) × IsHeld most table h x × IsKnown seen actor x × (want_of x.conn ≡ Ask asked)
  pub mine : s.conn.actor ≡ actor
  pub want : want_of s.conn ≡ Ask asked
  pub hears : Hears actor seen asked seen_after s.conn said t
  pub conn : IsConn g.conn t
  pub number : s.conn.number ≡ g.number
  pub seats : Seats said.opened h.ports.items h.bound g.ports.items
  pub bound : g.bound ≡ None
  pub table_is : (tunnel : ℕ) → said.opened ≡ Some tunnel → after ≡ table
  pub keeps : KeepsSeats table after h.ports.items
  pub sees : SeesPorts holds counts table o h.ports.items
  pub sees_after : SeesPorts holds counts after n g.ports.items
  pub binds : n.binds.holds ≡ o.binds.holds

comes_open : {L Q : Type 0} (most : Q → ℕ) (holds : Q → Option PortHolds) (counts : Q → PortCounts) (table after : Slab Q) (h g : HeldBy L) (o n : Outside) (actor : ℕ) (seen seen_after : Seen) (m : Mailed seen) (orders : Orders) (s : Held)
    (conn id names number : ℕ) (addr : Addr) (said : HeardBy) (t : Conn) (tunnel : ℕ) (routes : List Range) (bound : Option ℕ)
    → Opens most holds counts table after h g o n actor seen seen_after s (call.Open conn id names (goal.Udp addr number)) said t
    → CallOk actor seen (call.Open conn id names (goal.Udp addr number)) (reply.Opened tunnel routes) seen_after → done s.conn (Replied (reply.Opened tunnel routes)) ≡ Some (said.note, t)
    → said.opened ≡ Some tunnel → h.bound ≡ bound → IsBound most table h.ports.items (Ask (call.Open conn id names (goal.Udp addr number))) bound
    → Comes most after g o n seen seen_after m orders s said.note
comes_open most holds counts table after h g o n actor seen seen_after m orders s conn id names number addr said t tunnel routes None opens ok does opened same is = absurd is
comes_open {L} {Q} most holds counts table after h g o n actor seen seen_after m orders s conn id names number addr said t tunnel routes (Some key) opens ok does opened same is =
    let S : Option ℕ → Type 0 = λ x. Seats x h.ports.items h.bound g.ports.items in
    let T : Option ℕ → Type 0 = λ x. Seats (Some tunnel) h.ports.items x g.ports.items in
    let seats = subst T same (subst S opened opens.seats) in
    let seat : PortSeat = record { tunnel = tunnel; key = key; received = 0 } in
    let table_is = opens.table_is tunnel opened in
    let R : Slab Q → Type 0 = λ x. IsReady most x (limit_of addr) key h.ports.items in
    let ready = subst R (sym table_is) is in
    let k = opens.known in
    let none = fresh most table h actor seen seen_after k.0 conn id names tunnel (goal.Udp addr number) routes k.1 k.2 k.3 ok in
    let H : Slab Q → Type 0 = λ x. IsHeld most x h s in
    let N : List PortSeat → Type 0 = λ xs. SeesPorts holds counts after n xs in
    let seen_old = all_before (SeesPort holds counts after n) h.ports.items (seat ∷ []) (subst N seats opens.sees_after) in
    let stay = seats_told most holds counts table after o n h.ports.items s.ports opens.keeps opens.sees seen_old opens.held.ports in
    record {
      left_is = opened_left o n s conn id names (goal.Udp addr number) tunnel routes t;
      done_is = open_done o n actor seen seen_after m orders s conn id names tunnel (goal.Udp addr number) routes said.note t opens.mine opens.want ok does opens.binds;
      stands_for = open_stands most after h g o n s conn id names number tunnel key addr routes said.note t (subst H (sym table_is) opens.held) opens.want none ready opens.number seats opens.bound does opens.conn;
      told_is = open_told o n s conn id names number tunnel addr routes t (ports_apart most table o tunnel h.ports.items s.ports opens.held.ports none) stay;
    }

-- a tunnel for IP packets has no port
at_none : (tunnel : ℕ) (change : Port → Port) (ports : List Port) → All (λ (q : Port). q.tunnel ≢ tunnel) ports → at_port tunnel change ports ≡ ports
at_none tunnel change [] others = refl
at_none tunnel change (p ∷ ports) others =
    let N : Port → Type 0 = λ q. q.tunnel ≢ tunnel in
    ap {B = List Port} (λ (b : Bool). cond b (change p) p ∷ at_port tunnel change ports) (ne_eqb p.tunnel tunnel (All-head N p ports others))
    ∙ ap (λ (ps : List Port). p ∷ ps) (at_none tunnel change ports (All-tail N p ports others))

comes_ip : {L Q : Type 0} (most : Q → ℕ) (holds : Q → Option PortHolds) (counts : Q → PortCounts) (table after : Slab Q) (h g : HeldBy L) (o n : Outside) (actor : ℕ) (seen seen_after : Seen) (m : Mailed seen) (orders : Orders) (s : Held)
    (conn id names : ℕ) (area : Option Prefix) (protocol : Option ℕ) (said : HeardBy) (t : Conn) (tunnel : ℕ) (routes : List Range)
    → Opens most holds counts table after h g o n actor seen seen_after s (call.Open conn id names (goal.Ip area protocol)) said t
    → CallOk actor seen (call.Open conn id names (goal.Ip area protocol)) (reply.Opened tunnel routes) seen_after → done s.conn (Replied (reply.Opened tunnel routes)) ≡ Some (said.note, t)
    → said.opened ≡ Some tunnel → h.bound ≡ None → Comes most after g o n seen seen_after m orders s said.note
comes_ip {L} {Q} most holds counts table after h g o n actor seen seen_after m orders s conn id names area protocol said t tunnel routes opens ok does opened unbound =
    let goal_is = goal.Ip area protocol in
    let S : Option ℕ → Type 0 = λ x. Seats x h.ports.items h.bound g.ports.items in
    let T : Option ℕ → Type 0 = λ x. Seats (Some tunnel) h.ports.items x g.ports.items in
    let same : g.ports.items ≡ h.ports.items = subst T unbound (subst S opened opens.seats) in
    let k = opens.known in
    let none = fresh most table h actor seen seen_after k.0 conn id names tunnel goal_is routes k.1 k.2 k.3 ok in
    let next = opened_next s.conn t said.note conn id names goal_is tunnel routes (tail_opens h.conn s.conn opens.held.conn) opens.want does in
    let alive = (open_alive h.conn s.conn conn id names goal_is opens.held.conn opens.want).0 in
    let u : Held = opened_left o n s conn id names goal_is tunnel routes t in
    let before : List Port = map (filled_port o idle) s.ports in
    let ports : u.ports ≡ before = at_none tunnel (prepared (n.port tunnel)) before (ports_apart most table o tunnel h.ports.items s.ports opens.held.ports none) in
    let first : Tunnel = record { id = tunnel; stream = id; goal = goal_is; waiting = first_waiting (kind_of goal_is) routes } in
    let A : List PortSeat → Type 0 = λ xs. ArePorts most after xs before in
    let B : List Port → Type 0 = λ ps. ArePorts most after g.ports.items ps in
    let N : List PortSeat → Type 0 = λ xs. SeesPorts holds counts after n xs in
    let P : List Port → Type 0 = λ ps. PortsTold n ps in
    let stay = seats_told most holds counts table after o n h.ports.items s.ports opens.keeps opens.sees (subst N same opens.sees_after) opens.held.ports in
    let numbers : numbers_of t.tunnels ≡ numbers_of s.conn.tunnels =
    ap (λ (ts : List Tunnel). numbers_of ts) next.3 ∙ flat_map-append (λ (y : Tunnel). port_number y.goal y.id) s.conn.tunnels (first ∷ []) ∙ append-nil (numbers_of s.conn.tunnels) in
    let served : tunnels_of u.ports ≡ numbers_of t.tunnels =
    ap (λ (ps : List Port). tunnels_of ps) ports ∙ tunnels_filled o idle s.ports ∙ alive_served s.conn.ending s.conn.tunnels s.ports alive opens.held.served ∙ sym numbers in
    record {
      left_is = u;
      done_is = open_done o n actor seen seen_after m orders s conn id names tunnel goal_is routes said.note t opens.mine opens.want ok does opens.binds;
      stands_for = stands most after g u opens.conn (next.0 ∙ opens.number)
          (subst B (sym ports) (subst A (sym same) (are_filled most after o idle h.ports.items s.ports (seats_kept most table after h.ports.items s.ports opens.keeps opens.held.ports))))
          (same_apart h.ports.items g.ports.items same opens.held.apart)
          (served_any t.ending t.tunnels u.ports served) next.2 opens.bound;
      told_is = subst P (sym ports) (filled_told o n idle s.ports stay);
    }

full_needs : (n : Outside) (conn id names entries live : ℕ) (goal : Goal) → NeedsNoPort n (Ask (call.Open conn id names goal)) (Replied (reply.HistoryFull entries live))
full_needs n conn id names entries live (goal.Udp addr port) = record { lives = tt; can = λ ports. refl; ports = λ ports. refl; answers = λ ports. tt; plain = λ h. refl }
full_needs n conn id names entries live (goal.Ip area protocol) = record { lives = tt; can = λ ports. refl; ports = λ ports. refl; answers = λ ports. tt; plain = λ h. refl }

comes_full : {L Q : Type 0} (most : Q → ℕ) (holds : Q → Option PortHolds) (counts : Q → PortCounts) (table after : Slab Q) (h g : HeldBy L) (o n : Outside) (actor : ℕ) (seen seen_after : Seen) (m : Mailed seen) (orders : Orders) (s : Held)
    (conn id names : ℕ) (goal : Goal) (said : HeardBy) (t : Conn) (entries live : ℕ)
    → Opens most holds counts table after h g o n actor seen seen_after s (call.Open conn id names goal) said t
    → CallOk actor seen (call.Open conn id names goal) (reply.HistoryFull entries live) seen_after → done s.conn (Replied (reply.HistoryFull entries live)) ≡ Some (said.note, t)
    → said.opened ≡ None → Comes most after g o n seen seen_after m orders s said.note
comes_full {L} {Q} most holds counts table after h g o n actor seen seen_after m orders s conn id names goal said t entries live opens ok does opened =
    let asked : Call = call.Open conn id names goal in
    let full : Reply = reply.HistoryFull entries live in
    let k = kept_full s.conn t said.note entries live (tail_opens h.conn s.conn opens.held.conn) does in
    let alive = (open_alive h.conn s.conn conn id names goal opens.held.conn opens.want).0 in
    let S : Option ℕ → Type 0 = λ x. Seats x h.ports.items h.bound g.ports.items in
    let same : g.ports.items ≡ h.ports.items = subst S opened opens.seats in
    let sh : Shared = shared_by seen ok.book m.boxes orders in
    let B : ℕ → Type 0 = λ who. Asks sh who asked full sh in
    let A : List PortSeat → Type 0 = λ xs. ArePorts most after xs (map (filled_port o idle) s.ports) in
    let N : List PortSeat → Type 0 = λ xs. SeesPorts holds counts after n xs in
    let stay = seats_told most holds counts table after o n h.ports.items s.ports opens.keeps opens.sees (subst N same opens.sees_after) opens.held.ports in
    let served : tunnels_of (map (filled_port o idle) s.ports) ≡ numbers_of t.tunnels =
    tunnels_filled o idle s.ports ∙ alive_served s.conn.ending s.conn.tunnels s.ports alive opens.held.served ∙ sym (ap (λ (ts : List Tunnel). numbers_of ts) k.tunnels) in
    record {
      left_is = left o s t;
      done_is = want_done o n seen seen_after m.mail m.mail orders s (Ask asked) (Replied full) said.note t sh sh opens.want (full_needs n conn id names entries live goal) does
          (subst B (sym opens.mine) (record { said = full; is = ok.reply_is; reply_is = refl; after_is = refl }))
          (record { config = refl; book = ok.sees; wrote = ok.seen; same = ok.same; boxes = m.told; count = m.count; boxes_after = m.told; moves = nothing_moved m.mail m.mail m.boxes refl; orders_are = refl }) opens.binds;
      stands_for = stands most after g (left o s t) opens.conn (k.number ∙ opens.number)
          (subst A (sym same) (are_filled most after o idle h.ports.items s.ports (seats_kept most table after h.ports.items s.ports opens.keeps opens.held.ports)))
          (same_apart h.ports.items g.ports.items same opens.held.apart)
          (served_any t.ending t.tunnels (map (filled_port o idle) s.ports) served) k.opens opens.bound;
      told_is = filled_told o n idle s.ports stay;
    }

pub comes : {L Q : Type 0} (most : Q → ℕ) (holds : Q → Option PortHolds) (counts : Q → PortCounts) (table after : Slab Q) (h g : HeldBy L) (o n : Outside) (actor : ℕ) (seen seen_after : Seen) (m : Mailed seen) (orders : Orders) (s : Held)
    (asked : Call) (said : HeardBy) (t : Conn) → ((tunnel : ℕ) → asked ≢ call.Close tunnel) → IsPlain asked → Opens most holds counts table after h g o n actor seen seen_after s asked said t
    → Comes most after g o n seen seen_after m orders s said.note
comes most holds counts table after h g o n actor seen seen_after m orders s (call.Close tunnel) said t not plain opens = absurd (not tunnel refl)
comes most holds counts table after h g o n actor seen seen_after m orders s (call.Assign tunnel list) said t not plain opens = absurd plain
comes most holds counts table after h g o n actor seen seen_after m orders s (call.Advertise tunnel list) said t not plain opens = absurd plain
comes {L} {Q} most holds counts table after h g o n actor seen seen_after m orders s (call.Open conn id names (goal.Ip area protocol)) said t not plain opens =
    by_reply opens.hears.said opens.hears.replied opens.hears.does opens.hears.opened where
      by_reply : (r : Reply) → CallOk actor seen (call.Open conn id names (goal.Ip area protocol)) r seen_after → done s.conn (Replied r) ≡ Some (said.note, t) → said.opened ≡ opened_by r
          → Comes most after g o n seen seen_after m orders s said.note
      by_reply (reply.Opened tunnel routes) ok does opened =
          comes_ip most holds counts table after h g o n actor seen seen_after m orders s conn id names area protocol said t tunnel routes opens ok does opened
          (bound_none most table h.ports.items (want_of s.conn) (Ask (call.Open conn id names (goal.Ip area protocol))) h.bound opens.held.bound opens.want)
      by_reply (reply.HistoryFull entries live) ok does opened =
          comes_full most holds counts table after h g o n actor seen seen_after m orders s conn id names (goal.Ip area protocol) said t entries live opens ok does opened
      by_reply (reply.Assigned list at) ok does opened = absurd ok.reply_is
      by_reply (reply.Accepted accepts at) ok does opened = absurd ok.reply_is
      by_reply reply.Closed ok does opened = absurd ok.reply_is
comes {L} {Q} most holds counts table after h g o n actor seen seen_after m orders s (call.Open conn id names (goal.Udp addr number)) said t not plain opens =
    by_reply opens.hears.said opens.hears.replied opens.hears.does opens.hears.opened where
      by_reply : (r : Reply) → CallOk actor seen (call.Open conn id names (goal.Udp addr number)) r seen_after → done s.conn (Replied r) ≡ Some (said.note, t) → said.opened ≡ opened_by r
          → Comes most after g o n seen seen_after m orders s said.note
      by_reply (reply.Opened tunnel routes) ok does opened =
          comes_open most holds counts table after h g o n actor seen seen_after m orders s conn id names number addr said t tunnel routes h.bound opens ok does opened refl
          (bound_none most table h.ports.items (want_of s.conn) (Ask (call.Open conn id names (goal.Udp addr number))) h.bound opens.held.bound opens.want)
      by_reply (reply.HistoryFull entries live) ok does opened =
          comes_full most holds counts table after h g o n actor seen seen_after m orders s conn id names (goal.Udp addr number) said t entries live opens ok does opened
      by_reply (reply.Assigned list at) ok does opened = absurd ok.reply_is
      by_reply (reply.Accepted accepts at) ok does opened = absurd ok.reply_is
      by_reply reply.Closed ok does opened = absurd ok.reply_is

-- ---- the seats behind it

apart_open : {L Q : Type 0} (most : Q → ℕ) (table : Slab Q) (h : HeldBy L) (tunnel : ℕ) (w : Want) (bound : Option ℕ) (after : List PortSeat) → SeatsApart h.ports.items
    → IsBound most table h.ports.items w bound → All (λ (x : PortSeat). x.tunnel ≢ tunnel) h.ports.items → Seats (Some tunnel) h.ports.items bound after → SeatsApart after
apart_open most table h tunnel w None after apart is none seats = same_apart h.ports.items after seats apart
apart_open most table h tunnel w (Some key) after apart is none seats =
    let seat : PortSeat = record { tunnel = tunnel; key = key; received = 0 } in
    let keys = key_apart most table h.ports.items w key is in
    let others : All (IsApartFrom seat) h.ports.items = all_by (IsApartFrom seat) h.ports.items
    (λ i x at. (at_all (λ (y : PortSeat). y.tunnel ≢ tunnel) h.ports.items none i x at, at_all (λ (y : PortSeat). y.key ≢ key) h.ports.items keys i x at)) in
    same_apart (h.ports.items ++ seat ∷ []) after seats (apart_added h.ports.items seat others apart)

pub opened_apart : {L Q : Type 0} (most : Q → ℕ) (table : Slab Q) (h : HeldBy L) (actor : ℕ) (seen seen_after : Seen) (s : Held) (asked : Call) (said : HeardBy) (t : Conn) (after : List PortSeat)
    → ((tunnel : ℕ) → asked ≢ call.Close tunnel) → IsPlain asked → IsHeld most table h s → IsKnown seen actor s → want_of s.conn ≡ Ask asked → Hears actor seen asked seen_after s.conn said t
    → Seats said.opened h.ports.items h.bound after → SeatsApart after
opened_apart most table h actor seen seen_after s (call.Close tunnel) said t after not plain held known want hears seats = absurd (not tunnel refl)
opened_apart most table h actor seen seen_after s (call.Assign tunnel list) said t after not plain held known want hears seats = absurd plain
opened_apart most table h actor seen seen_after s (call.Advertise tunnel list) said t after not plain held known want hears seats = absurd plain
opened_apart {L} {Q} most table h actor seen seen_after s (call.Open conn id names goal) said t after not plain held known want hears seats =
    by_reply hears.said hears.replied hears.opened where
      S : Option ℕ → Type 0
      S opened = Seats opened h.ports.items h.bound after

      by_reply : (r : Reply) → CallOk actor seen (call.Open conn id names goal) r seen_after → said.opened ≡ opened_by r → SeatsApart after
      by_reply (reply.Opened tunnel routes) ok opened =
          apart_open most table h tunnel (want_of s.conn) h.bound after held.apart held.bound
          (fresh most table h actor seen seen_after s conn id names tunnel goal routes held known want ok) (subst S opened seats)
      by_reply (reply.HistoryFull entries live) ok opened = same_apart h.ports.items after (subst S opened seats) held.apart
      by_reply (reply.Assigned list at) ok opened = absurd ok.reply_is
      by_reply (reply.Accepted accepts at) ok opened = absurd ok.reply_is
      by_reply reply.Closed ok opened = absurd ok.reply_is

-- the table stays where a tunnel opened
pub opened_table : (opened : Option ℕ) (tunnel : ℕ) (A B : Type 0) → opened ≡ Some tunnel → MatchOption opened A (λ id. B) → B
opened_table None tunnel A B is m = absurd cc
opened_table (Some id) tunnel A B is m = m
