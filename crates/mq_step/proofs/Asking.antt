-- The book was asked, and its reply was heard.
use Rattle.std.proofs.Common.{◌≡◌, ℕ, ◌==◌, List, [], ◌∷◌, ◌++◌, Option, Some, refl, sym, ap, subst, ◌∙◌}
use Rattle.mq_talk.specs.declared.book.Call.{Call}
use Rattle.mq_talk.specs.declared.book.Call.TheVariants as call
use Rattle.mq_talk.specs.declared.book.Reply.{Reply}
use Rattle.mq_talk.specs.declared.book.Reply.TheVariants as reply
use Rattle.mq_talk.specs.declared.book.Entry.{Entry}
use Rattle.mq_talk.specs.declared.note.Note.{Note}
use Rattle.mq_talk.specs.Answers.{IsAnswer, IsMine, MayCall, recorded}
use Rattle.mq_talk.specs.Book.{actor_at}
use Rattle.mq_talk.specs.Offices.{Seen, CallOk}
use Rattle.mq_machine.specs.State.{Conn, Tunnel, Held, Orders, Shared, tunnel_of}
use Rattle.mq_machine.specs.Want.{Want, Ask, Replied, want_of}
use Rattle.mq_machine.specs.Done.{done}
use Rattle.mq_machine.specs.Shared.{Answers, PortsAnswer, Asks, without_port}
use Rattle.mq_machine.specs.Turn.{can_do}
use Rattle.mq_machine.specs.Acting.{Outside, IsOpen}
use Rattle.mq_iptun.specs.Acts.{MayAsk}
use Rattle.mq_conn.specs.declared.conn.Conn.{Conn as Core}
use Rattle.mq_conn.specs.Conns.{IsConn}
use Rattle.mq_held.specs.Answers.{IsPlain, OpensFresh}
use Rattle.mq_step.specs.Holds.{IsKnown}
use Rattle.mq_step.specs.Sights.{idle}
use Rattle.mq_step.specs.Wanted.{WantDone, ported}
use Rattle.mq_step.proofs.Filling.{none_fails}
use Rattle.mq_step.proofs.Wanting.{Mailed, acted_is, shared_by}
use Rattle.mq_step.proofs.Places.{found_all, found_id}
use Rattle.mq_step.proofs.Cores.{open_alive, close_live, tell_live}
use Rattle.mq_step.proofs.Doing.{idle_works}
use Rattle.mq_talk.proofs.Mails.{nothing_moved}

-- ---- the actor may ask what its connection wants to ask

open_mine : (book : List Entry) (actor conn : ℕ) (t : Tunnel) (tunnel : ℕ) → IsOpen book actor t.id conn t.stream t.goal → t.id ≡ tunnel → IsMine book actor tunnel
open_mine book actor conn t tunnel is same =
    let P : ℕ → Type 0 = λ id. IsMine book actor id in
    subst P same (record { live = is.live; actor_is = ap (λ (e : Option Entry). actor_at e) is.at ∙ is.by })

-- a live tunnel is the actor's own
pub live_mine : (seen : Seen) (actor : ℕ) (s : Held) (tunnel : ℕ) (t : Tunnel) → IsKnown seen actor s → tunnel_of s.conn tunnel ≡ Some t → IsMine seen.entries actor tunnel
live_mine seen actor s tunnel t known at =
    let P : Tunnel → Type 0 = λ u. IsOpen seen.entries actor u.id s.conn.number u.stream u.goal in
    open_mine seen.entries actor s.conn.number t tunnel (found_all P (λ (u : Tunnel). u.id == tunnel) s.conn.tunnels t known.tunnels at) (found_id s.conn.tunnels t tunnel at)

pub may_call : (c : Core) (seen : Seen) (actor : ℕ) (s : Held) (asked : Call) → IsConn c s.conn → IsKnown seen actor s → MayAsk asked → want_of s.conn ≡ Ask asked → MayCall seen.config seen.entries actor asked
may_call c seen actor s (call.Open conn id names goal) is known may want =
    let a = open_alive c s.conn conn id names goal is want in
    (known.worker, a.2 ∙ known.actor_is)
may_call c seen actor s (call.Close tunnel) is known may want =
    let a = close_live c s.conn tunnel is want in
    (known.worker, live_mine seen actor s tunnel a.0 known a.1)
may_call c seen actor s (call.Assign tunnel list) is known may want =
    let a = tell_live s.conn (call.Assign tunnel list) tunnel refl want in
    (known.worker, live_mine seen actor s tunnel a.0 known a.1, may.some, may.few, may.each)
may_call c seen actor s (call.Advertise tunnel list) is known may want =
    let a = tell_live s.conn (call.Advertise tunnel list) tunnel refl want in
    (known.worker, live_mine seen actor s tunnel a.0 known a.1, may.few, may.ordered)

-- an opening or a close may be asked
pub plain_may : (asked : Call) → IsPlain asked → MayAsk asked
plain_may (call.Open conn id names goal) plain = tt
plain_may (call.Close tunnel) plain = tt
plain_may (call.Assign tunnel list) plain = absurd plain
plain_may (call.Advertise tunnel list) plain = absurd plain

-- ---- a tunnel closed

pub closed_only : (r : Reply) (seen : Seen) (book : List Entry) (tunnel : ℕ) → IsAnswer seen.config book (call.Close tunnel) r → r ≡ reply.Closed
closed_only reply.Closed seen book tunnel a = refl
closed_only (reply.Opened u routes) seen book tunnel a = absurd a
closed_only (reply.HistoryFull entries live) seen book tunnel a = absurd a
closed_only (reply.Assigned list at) seen book tunnel a = absurd a
closed_only (reply.Accepted accepts at) seen book tunnel a = absurd a

-- no tunnel opens by it
pub closes_fresh : (actor : ℕ) (seen seen_after : Seen) (tunnels : List Tunnel) (tunnel : ℕ) → OpensFresh actor seen (call.Close tunnel) seen_after tunnels
closes_fresh actor seen seen_after tunnels tunnel reply.Closed ok = tt
closes_fresh actor seen seen_after tunnels tunnel (reply.Opened u routes) ok = absurd ok.reply_is
closes_fresh actor seen seen_after tunnels tunnel (reply.HistoryFull entries live) ok = tt
closes_fresh actor seen seen_after tunnels tunnel (reply.Assigned list at) ok = tt
closes_fresh actor seen seen_after tunnels tunnel (reply.Accepted accepts at) ok = tt

-- the connection behind the close of a tunnel
abbrev pub closed_left : Outside → Held → ℕ → Conn → Held
closed_left o s tunnel t = record (ported o idle s) { conn = t; ports = without_port tunnel (ported o idle s).ports }

-- A close was answered.
pub record Closes (actor : ℕ) (seen seen_after : Seen) (s : Held) (tunnel : ℕ) (said : Note) (t : Conn) : Type 0 where
  pub reply_is : Reply
  pub replied : CallOk actor seen (call.Close tunnel) reply_is seen_after
  pub does : done s.conn (Replied reply_is) ≡ Some (said, t)

pub close_done : (o n : Outside) (actor : ℕ) (seen seen_after : Seen) (m : Mailed seen) (orders : Orders) (s : Held) (tunnel : ℕ) (said : Note) (t : Conn) → s.conn.actor ≡ actor
    → want_of s.conn ≡ Ask (call.Close tunnel) → Closes actor seen seen_after s tunnel said t → n.binds.holds ≡ o.binds.holds
    → WantDone o n seen seen_after m.mail m.mail orders s said (Some (closed_left o s tunnel t))
close_done o n actor seen seen_after m orders s tunnel said t mine want closes same =
    let h : Held = ported o idle s in
    let ok = closes.replied in
    let closed = closed_only closes.reply_is seen ok.book tunnel ok.reply_is in
    let D : Reply → Type 0 = λ r. done s.conn (Replied r) ≡ Some (said, t) in
    let does = subst D closed closes.does in
    let entry : Entry = record { actor = actor; call = call.Close tunnel; reply = reply.Closed } in
    let sh : Shared = shared_by seen ok.book m.boxes orders in
    let after : Shared = shared_by seen (ok.book ++ entry ∷ []) m.boxes orders in
    let A : Want → Type 0 = λ w. Answers s.conn.actor sh w (Replied reply.Closed) after in
    let B : ℕ → Type 0 = λ who. Asks sh who (call.Close tunnel) reply.Closed after in
    let Q : Want → Type 0 = λ w. PortsAnswer h.ports w (Replied reply.Closed) in
    let R : Reply → Type 0 = λ r. seen_after.entries ≡ recorded ok.book actor (call.Close tunnel) r in
    record {
      found = idle;
      answer = Replied reply.Closed;
      sh = sh;
      after = after;
      became = Some (closed_left o s tunnel t);
      calm = λ not_send. refl;
      can = ap (λ (w : Want). can_do h.ports w) want;
      shares = record { config = refl; book = ok.sees; wrote = subst R closed ok.seen; same = ok.same; boxes = m.told; count = m.count; boxes_after = m.told; moves = nothing_moved m.mail m.mail m.boxes refl; orders_are = refl };
      faults = none_fails o n idle s.ports idle_works;
      binds = same;
      next = record {
        answers = subst A (sym want) (subst B (sym mine) (record { said = reply.Closed; is = tt; reply_is = refl; after_is = refl }));
        ports = subst Q (sym want) tt;
        is = acted_is h (Ask (call.Close tunnel)) (Replied reply.Closed) said t want tt does;
      };
      then = refl;
    }
