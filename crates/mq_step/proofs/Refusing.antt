-- Memory was refused as the book was asked, or as its reply was heard.
use Rattle.std.proofs.Common.{◌∙◌, ◌≡◌, ◌≢◌, inl, inr, ℕ, true, false, List, [], map, Option, Some, None, Err, refl, sym, ap, subst}
use Rattle.slab.specs.Slab.{Slab}
use Rattle.mq_wire.specs.declared.NoMemory.{NoMemory}
use Rattle.mq_talk.specs.declared.book.Call.{Call}
use Rattle.mq_talk.specs.declared.book.Call.TheVariants as call
use Rattle.mq_talk.specs.declared.book.Reply.{Reply}
use Rattle.mq_talk.specs.declared.book.Reply.TheVariants as reply
use Rattle.mq_talk.specs.declared.book.Entry.{Entry}
use Rattle.mq_talk.specs.declared.goal.Goal.{Goal}
use Rattle.mq_talk.specs.declared.note.End.TheVariants as end
use Rattle.mq_outside.specs.Counts.{PortCounts}
use Rattle.mq_outside.specs.Ports.{PortHolds}
use Rattle.mq_talk.specs.Offices.{Seen, Sees, CallOk, IsSame}
use Rattle.mq_machine.specs.State.{Tunnel, Held, Port, Orders, Shared}
use Rattle.mq_machine.specs.Want.{Want, Ask, Said, Replied, want_of}
use Rattle.mq_machine.specs.Steps.{starved}
use Rattle.mq_machine.specs.Shared.{Answers, Asks}
use Rattle.mq_machine.specs.Silent.{takes_memory, tunnels_after, may_starve}
use Rattle.mq_machine.specs.Turn.{can_do}
use Rattle.mq_machine.specs.Acting.{Outside, PortsTold}
use Rattle.mq_conn.specs.Conns.{IsConn, heard}
use Rattle.mq_held.specs.declared.held.Held.{Held as HeldBy}
use Rattle.mq_held.specs.Answers.{IsPlain, AskGives}
use Rattle.mq_held.specs.declared.held.PortSeat.{PortSeat}
use Rattle.mq_step.specs.Holds.{ArePorts, AreServed, IsHeld, tunnels_of, numbers_of}
use Rattle.mq_step.specs.Sights.{SeesPorts, filled_port, idle}
use Rattle.mq_step.specs.Wanted.{WantStarves, ported}
use Rattle.mq_step.proofs.Wanting.{Mailed, shared_by}
use Rattle.mq_step.proofs.Keeping.{no_opens_nil}
use Rattle.mq_step.proofs.Filling.{are_filled, KeepsSeats, seats_kept, seats_told, filled_told, served_filled, served_last, alive_served}
use Rattle.mq_step.proofs.Cores.{open_alive}
use Rattle.mq_step.proofs.Standing.{stands, same_apart}
use Rattle.mq_machine.proofs.Silents.{starves_alive}
use Rattle.mq_talk.proofs.Mails.{nothing_moved}

-- a connection that is ending for want of memory, with these tunnels
abbrev pub sunk : Outside → Held → List Tunnel → Held
sunk o s tunnels = record (ported o idle s) { conn = record (starved s.conn) { tunnels = tunnels } }

pub record Sinks {L Q : Type 0} (most : Q → ℕ) (after : Slab Q) (g : HeldBy L) (o n : Outside) (seen seen_after : Seen) (m : Mailed seen) (orders : Orders) (s : Held) : Type 0 where
  pub left_is : Held
  pub starves : WantStarves o n seen seen_after m.mail m.mail orders s left_is
  pub stands_for : IsHeld most after g left_is
  pub told_is : PortsTold n left_is.ports

-- what is known where the opening was asked in vain
pub record Fails {L Q : Type 0} (most : Q → ℕ) (holds : Q → Option PortHolds) (counts : Q → PortCounts) (table after : Slab Q) (h g : HeldBy L) (o n : Outside) (actor : ℕ) (s : Held) (asked : Call) : Type 0 where
  pub held : IsHeld most table h s
  pub mine : s.conn.actor ≡ actor
  pub want : want_of s.conn ≡ Ask asked
  pub number : s.conn.number ≡ g.number
  pub seats : g.ports.items ≡ h.ports.items
  pub bound : g.bound ≡ None
  pub keeps : KeepsSeats table after h.ports.items
  pub sees : SeesPorts holds counts table o h.ports.items
  pub sees_after : SeesPorts holds counts after n g.ports.items
  pub binds : n.binds.holds ≡ o.binds.holds

sunk_stands : {L Q : Type 0} (most : Q → ℕ) (holds : Q → Option PortHolds) (counts : Q → PortCounts) (table after : Slab Q) (h g : HeldBy L) (o n : Outside) (actor : ℕ) (s : Held) (asked : Call) (tunnels : List Tunnel)
    → Fails most holds counts table after h g o n actor s asked → AreServed (Some end.NoMemory) tunnels s.ports → IsConn g.conn (record (starved s.conn) { tunnels = tunnels })
    → IsHeld most after g (sunk o s tunnels)
sunk_stands most holds counts table after h g o n actor s asked tunnels fails served is =
    let A : List PortSeat → Type 0 = λ xs. ArePorts most after xs (map (filled_port o idle) s.ports) in
    stands most after g (sunk o s tunnels) is fails.number
    (subst A (sym fails.seats) (are_filled most after o idle h.ports.items s.ports (seats_kept most table after h.ports.items s.ports fails.keeps fails.held.ports)))
    (same_apart h.ports.items g.ports.items fails.seats fails.held.apart)
    (served_filled o idle (Some end.NoMemory) tunnels s.ports served) no_opens_nil fails.bound

sunk_told : {L Q : Type 0} (most : Q → ℕ) (holds : Q → Option PortHolds) (counts : Q → PortCounts) (table after : Slab Q) (h g : HeldBy L) (o n : Outside) (actor : ℕ) (s : Held) (asked : Call) (tunnels : List Tunnel)
    → Fails most holds counts table after h g o n actor s asked → PortsTold n (sunk o s tunnels).ports
sunk_told most holds counts table after h g o n actor s asked tunnels fails =
    let N : List PortSeat → Type 0 = λ xs. SeesPorts holds counts after n xs in
    filled_told o n idle s.ports
    (seats_told most holds counts table after o n h.ports.items s.ports fails.keeps fails.sees (subst N fails.seats fails.sees_after) fails.held.ports)

-- a tunnel that opened in vain is its last
served_then : (conn id names : ℕ) (goal : Goal) (said : Reply) (tunnels : List Tunnel) (ports : List Port) → tunnels_of ports ≡ numbers_of tunnels
    → AreServed (Some end.NoMemory) (tunnels_after (Ask (call.Open conn id names goal)) (Replied said) tunnels) ports
served_then conn id names goal (reply.Opened tunnel routes) tunnels ports is = served_last end.NoMemory tunnels (record { id = tunnel; stream = id; goal = goal; waiting = [] }) ports is
served_then conn id names goal (reply.HistoryFull entries live) tunnels ports is = inl is
served_then conn id names goal (reply.Assigned list at) tunnels ports is = inl is
served_then conn id names goal (reply.Accepted accepts at) tunnels ports is = inl is
served_then conn id names goal reply.Closed tunnels ports is = inl is

-- the book wrote nothing
pub sinks_before : {L Q : Type 0} (most : Q → ℕ) (holds : Q → Option PortHolds) (counts : Q → PortCounts) (table after : Slab Q) (h g : HeldBy L) (o n : Outside) (actor : ℕ) (seen seen_after : Seen) (m : Mailed seen) (orders : Orders) (s : Held)
    (asked : Call) → takes_memory (Ask asked) ≡ true → Fails most holds counts table after h g o n actor s asked → Sees seen seen_after.entries → IsSame seen seen_after → IsConn g.conn (starved s.conn)
    → Sinks most after g o n seen seen_after m orders s
sinks_before most holds counts table after h g o n actor seen seen_after m orders s asked takes fails sees same is =
    let takes_it : may_starve (want_of s.conn) ≡ true = ap (λ (w : Want). may_starve w) fails.want ∙ takes in
    let alive = starves_alive s.conn takes_it in
    let all = alive_served s.conn.ending s.conn.tunnels s.ports alive fails.held.served in
    let sh : Shared = shared_by seen seen_after.entries m.boxes orders in
    record {
      left_is = sunk o s s.conn.tunnels;
      starves = record {
        found = idle;
        answer = Said;
        sh = sh;
        after = sh;
        asked = false;
        tunnels = s.conn.tunnels;
        can = ap (λ (w : Want). can_do (ported o idle s).ports w) fails.want;
        takes = takes_it;
        shares = record { config = refl; book = sees; wrote = refl; same = same; boxes = m.told; count = m.count; boxes_after = m.told; moves = nothing_moved m.mail m.mail m.boxes refl; orders_are = refl };
        heard = (refl, refl, refl);
        binds = fails.binds;
        then = refl;
      };
      stands_for = sunk_stands most holds counts table after h g o n actor s asked s.conn.tunnels fails (inl all) is;
      told_is = sunk_told most holds counts table after h g o n actor s asked s.conn.tunnels fails;
    }

-- what the book wrote, and the connection didn't hear
pub sinks_behind : {L Q : Type 0} (most : Q → ℕ) (holds : Q → Option PortHolds) (counts : Q → PortCounts) (table after : Slab Q) (h g : HeldBy L) (o n : Outside) (actor : ℕ) (seen seen_after : Seen) (m : Mailed seen) (orders : Orders) (s : Held)
    (asked : Call) (said : Reply) (book : List Entry) → takes_memory (Ask asked) ≡ true → AreServed (Some end.NoMemory) (tunnels_after (Ask asked) (Replied said) s.conn.tunnels) s.ports
    → Fails most holds counts table after h g o n actor s asked → Sees seen book → IsSame seen seen_after → said ≢ reply.Closed → IsConn g.conn (heard s.conn said)
    → Asks (shared_by seen book m.boxes orders) actor asked said (shared_by seen seen_after.entries m.boxes orders)
    → Sinks most after g o n seen seen_after m orders s
sinks_behind most holds counts table after h g o n actor seen seen_after m orders s asked said book takes served fails sees same not_closed is asks =
    let sh : Shared = shared_by seen book m.boxes orders in
    let after_sh : Shared = shared_by seen seen_after.entries m.boxes orders in
    let tunnels = tunnels_after (want_of s.conn) (Replied said) s.conn.tunnels in
    let A : Want → Type 0 = λ w. Answers s.conn.actor sh w (Replied said) after_sh in
    let V : Want → Type 0 = λ w. AreServed (Some end.NoMemory) (tunnels_after w (Replied said) s.conn.tunnels) s.ports in
    let B : ℕ → Type 0 = λ who. Asks sh who asked said after_sh in
    record {
      left_is = sunk o s tunnels;
      starves = record {
        found = idle;
        answer = Replied said;
        sh = sh;
        after = after_sh;
        asked = true;
        tunnels = tunnels;
        can = ap (λ (w : Want). can_do (ported o idle s).ports w) fails.want;
        takes = ap (λ (w : Want). may_starve w) fails.want ∙ takes;
        shares = record { config = refl; book = sees; wrote = refl; same = same; boxes = m.told; count = m.count; boxes_after = m.told; moves = nothing_moved m.mail m.mail m.boxes refl; orders_are = refl };
        heard = record {
          tries = refl;
          takes = ap (λ (w : Want). takes_memory w) fails.want ∙ takes;
          place = λ closed. not_closed (same_reply said reply.Closed closed);
          answers = subst A (sym fails.want) (subst B (sym fails.mine) asks);
          tunnels_are = refl;
        };
        binds = fails.binds;
        then = refl;
      };
      stands_for = sunk_stands most holds counts table after h g o n actor s asked tunnels fails
          (subst V (sym fails.want) served) is;
      told_is = sunk_told most holds counts table after h g o n actor s asked tunnels fails;
    } where
      same_reply : (a b : Reply) → Replied a ≡ Replied b → a ≡ b
      same_reply a b is = cc

-- the book's answer to an opening, as the office has seen it
asks_open : (seen : Seen) (m : Mailed seen) (orders : Orders) (actor conn id names : ℕ) (goal : Goal) (said : Reply) (seen_after : Seen) (ok : CallOk actor seen (call.Open conn id names goal) said seen_after)
    → Asks (shared_by seen ok.book m.boxes orders) actor (call.Open conn id names goal) said (shared_by seen seen_after.entries m.boxes orders)
asks_open seen m orders actor conn id names goal (reply.Opened tunnel routes) seen_after ok =
    record { said = reply.Opened tunnel routes; is = ok.reply_is; reply_is = refl; after_is = ap (λ (book : List Entry). shared_by seen book m.boxes orders) ok.seen }
asks_open seen m orders actor conn id names goal (reply.HistoryFull entries live) seen_after ok =
    record { said = reply.HistoryFull entries live; is = ok.reply_is; reply_is = refl; after_is = ap (λ (book : List Entry). shared_by seen book m.boxes orders) ok.seen }
asks_open seen m orders actor conn id names goal (reply.Assigned list at) seen_after ok = absurd ok.reply_is
asks_open seen m orders actor conn id names goal (reply.Accepted accepts at) seen_after ok = absurd ok.reply_is
asks_open seen m orders actor conn id names goal reply.Closed seen_after ok = absurd ok.reply_is

pub sinks : {L Q : Type 0} (most : Q → ℕ) (holds : Q → Option PortHolds) (counts : Q → PortCounts) (table after : Slab Q) (h g : HeldBy L) (o n : Outside) (actor : ℕ) (seen seen_after : Seen) (m : Mailed seen) (orders : Orders) (s : Held)
    (asked : Call) (refused : NoMemory) → ((tunnel : ℕ) → asked ≢ call.Close tunnel) → IsPlain asked → Fails most holds counts table after h g o n actor s asked
    → AskGives actor seen asked seen_after (IsConn g.conn) s.conn (Err refused) → Sinks most after g o n seen seen_after m orders s
sinks most holds counts table after h g o n actor seen seen_after m orders s (call.Close tunnel) refused not plain fails gives = absurd (not tunnel refl)
sinks most holds counts table after h g o n actor seen seen_after m orders s (call.Assign tunnel list) refused not plain fails gives = absurd plain
sinks most holds counts table after h g o n actor seen seen_after m orders s (call.Advertise tunnel list) refused not plain fails gives = absurd plain
sinks most holds counts table after h g o n actor seen seen_after m orders s (call.Open conn id names goal) refused not plain fails (not_close, inl before) =
    sinks_before most holds counts table after h g o n actor seen seen_after m orders s (call.Open conn id names goal) refl
    fails before.0.0 before.0.1 before.1
sinks most holds counts table after h g o n actor seen seen_after m orders s (call.Open conn id names goal) refused not plain fails (not_close, inr behind) =
    let alive = (open_alive h.conn s.conn conn id names goal fails.held.conn fails.want).0 in
    let all = alive_served s.conn.ending s.conn.tunnels s.ports alive fails.held.served in
    sinks_behind most holds counts table after h g o n actor seen seen_after m orders s (call.Open conn id names goal) behind.said behind.replied.book refl
    (served_then conn id names goal behind.said s.conn.tunnels s.ports all) fails behind.replied.sees behind.replied.same behind.open_is behind.stands_for
    (asks_open seen m orders actor conn id names goal behind.said seen_after behind.replied)
