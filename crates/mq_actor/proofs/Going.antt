-- What a step of a connection does to its tunnels, its number, its actor and the tunnel from which the next frame is sought.
use Rattle.std.proofs.Common.{◌≡◌, ◌⊎◌, ℕ, ◌==◌, ◌+◌, cond, Bool, true, false, inl, inr, List, [], ◌∷◌, map, take, drop, Option, Some, None, refl, sym, ap, ◌∙◌}
use Rattle.std.proofs.Common.{subst}
use Rattle.std.specs.Prelude.{find, option_map, Contains}
use Rattle.std.proofs.lemmas.List.Elements.{All-contains_itself}
use Rattle.mq_talk.specs.declared.book.Call.{Call}
use Rattle.mq_talk.specs.declared.book.Call.TheVariants as call
use Rattle.mq_talk.specs.declared.book.Reply.{Reply}
use Rattle.mq_talk.specs.declared.book.Reply.TheVariants as reply
use Rattle.mq_talk.specs.declared.goal.Goal.{Goal}
use Rattle.mq_talk.specs.declared.note.End.{End}
use Rattle.mq_talk.specs.declared.note.End.TheVariants as end
use Rattle.mq_talk.specs.declared.note.From.{From}
use Rattle.mq_talk.specs.declared.note.From.TheVariants as source
use Rattle.mq_talk.specs.declared.note.Note.{Note}
use Rattle.mq_talk.specs.declared.note.Why.TheVariants as why
use Rattle.mq_talk.specs.declared.place.Parcel.{Parcel}
use Rattle.mq_outside.specs.Links.{behind, room_left}
use Rattle.mq_machine.specs.declared.act.StreamAct.TheVariants as stream
use Rattle.mq_machine.specs.declared.setup.Setup.{Setup}
use Rattle.mq_machine.specs.State.{Conn, Tunnel, Port, Held, Shared, owed, tunnel_of, tunnel_on}
use Rattle.mq_machine.specs.Want.{Want, Nothing, Say, Bind, Ask, Judge, Push, Send, Over, Answer, Said, Bound, Replied, Judged, Pushed, Put, want_of, want_by, may_wait}
use Rattle.mq_machine.specs.Want.{tunnel_want, ending_want, over_want}
use Rattle.mq_machine.specs.Done.{Done, done}
use Rattle.mq_machine.specs.Shared.{Answers, Asks, port_of, at_port, pushing}
use Rattle.mq_machine.specs.Steps.{framed, settled_note, wrote, finished, failed, queued, received, port_failed, port_received}
use Rattle.mq_machine.specs.Silent.{Heard}
use Rattle.mq_machine.specs.Turn.{Try, Act, Frame, Write, Read, Receive, TryNext, ActNext, WriteNext, ReadNext, ReceiveNext, PortNext, TakesNext, received_from}
use Rattle.mq_machine.specs.Turn.{can_try, receive_failed, write_count, most_read, tries_of}
use Rattle.mq_conn.specs.declared.conn.Conn.{Conn as Core}
use Rattle.mq_conn.specs.Conns.{IsConn}
use Rattle.mq_held.specs.Answers.{IsFor}
use Rattle.mq_held.proofs.Streams.{Fronted, fronted}
use Rattle.mq_step.specs.Gives.{first_of}
use Rattle.mq_step.proofs.Wanting.{IsNotOver}
use Rattle.mq_step.proofs.Keeping.{NoOpens, Kept, no_opens_nil, kept_said, kept_refused, kept_put, kept_full, bound_next, opened_next, closed_next}
use Rattle.mq_step.proofs.Keeping.{port_failed_keeps}
use Rattle.mq_step.proofs.Cores.{tail_opens, open_alive, close_live, close_opens, own_stream}
use Rattle.mq_step.proofs.Places.{found_all, found_id}
use Rattle.mq_step.proofs.Receiving.{alive_by, waits_opens}
use Rattle.mq_step.proofs.Stepping.{vain_waits}
use Rattle.mq_actor.specs.Goes.{shapes_of, Goes}
use Rattle.mq_actor.proofs.Searches.{Same, each_at, done_seeks}
use Rattle.mq_actor.proofs.Beside.{framed_leaves, framed_has, wrote_leaves, finished_leaves, took_leaves, Shaped, queued_leaves}
use Rattle.mq_actor.proofs.Shapes.{contains_head}
use Rattle.mq_actor.proofs.Replies.{stays_with, opens_with, closes_with, tells_with, goes_before, Wrote, asked_close, Opened, Full, asked_open, Told, Shut, asked_told}
use Rattle.mq_actor.proofs.Behind.{mapped, unmapped, Acted, acted_done, conn_of}
use Rattle.mq_actor.proofs.Ending.{Ends, act_ends, failed_same, port_same, write_ends, read_ends, receive_ends}
use Rattle.mq_actor.proofs.Starving.{want_heard}
use Rattle.mq_actor.proofs.Telling.{judged_shaped, pushed_shaped, told_shaped, front_shuts, asks_of}

-- What a step leaves of a connection, and what it did to its tunnels and to the book.
pub record Left (old : Conn) (sh : Shared) (new : Conn) (after : Shared) : Type 0 where
  pub number : new.number ≡ old.number
  pub actor : new.actor ≡ old.actor
  pub goes : Goes old sh new.tunnels after
  pub next : (new.next_tunnel ≡ old.next_tunnel) ⊎ ((t : Tunnel) × Contains old.tunnels t × (new.next_tunnel ≡ t.id + 1))

-- ---- what it may do

left_kept : (s t : Conn) (sh after : Shared) → Kept s t → t.next_tunnel ≡ s.next_tunnel → after.book ≡ sh.book → Left s sh t after
left_kept s t sh after kept next book = record {
  number = kept.number;
  actor = kept.actor;
  goes = inl (record { tunnels_are = ap shapes_of kept.tunnels; book = book });
  next = inl next;
}

left_same : (s t : Conn) (sh after : Shared) → Same s t → after ≡ sh → Left s sh t after
left_same s t sh after same after_is = record {
  number = same.number;
  actor = same.actor;
  goes = stays_with s sh t.tunnels after (ap shapes_of same.tunnels) after_is;
  next = inl same.next;
}

shaped_book : (s t : Conn) (sh after : Shared) → Shaped s t → after.book ≡ sh.book → Left s sh t after
shaped_book s t sh after shaped book = record {
  number = shaped.number;
  actor = shaped.actor;
  goes = inl (record { tunnels_are = shaped.shapes; book = book });
  next = inl shaped.next;
}

shaped_left : (s t : Conn) (sh after : Shared) → Shaped s t → after ≡ sh → Left s sh t after
shaped_left s t sh after shaped after_is = shaped_book s t sh after shaped (ap (λ (x : Shared). x.book) after_is)

left_before : (s x t : Conn) (sh after : Shared) → Same s x → Left x sh t after → Left s sh t after
left_before s x t sh after same left = record {
  number = left.number ∙ same.number;
  actor = left.actor ∙ same.actor;
  goes = goes_before s x sh t.tunnels after same left.goes;
  next = by_next left.next;
} where
  by_next : (t.next_tunnel ≡ x.next_tunnel) ⊎ ((u : Tunnel) × Contains x.tunnels u × (t.next_tunnel ≡ u.id + 1))
      → (t.next_tunnel ≡ s.next_tunnel) ⊎ ((u : Tunnel) × Contains s.tunnels u × (t.next_tunnel ≡ u.id + 1))
  by_next (inl is) = inl (is ∙ same.next)
  by_next (inr (u, has, is)) = let P : List Tunnel → Type 0 = λ us. Contains us u in inr (u, subst P same.tunnels has, is)

-- ---- what it wants

-- a tunnel that is found by its number is one of its own
has_found : (s : Conn) (id : ℕ) (t : Tunnel) → tunnel_of s id ≡ Some t → Contains s.tunnels t
has_found s id t found = found_all (λ (u : Tunnel). Contains s.tunnels u) (λ (u : Tunnel). u.id == id) s.tunnels t (All-contains_itself s.tunnels) found

-- another answer is the same
done_with : (s : Conn) (a b : Answer) (o : Done) → a ≡ b → done s a ≡ o → done s b ≡ o
done_with s a b o same is = ap (λ (x : Answer). done s x) (sym same) ∙ is

-- a tunnel of it closes
close_leaves : (s t : Conn) (sh after : Shared) (u : Tunnel) (a : Answer) (n : Note) → Contains s.tunnels u → want_of s ≡ Ask (call.Close u.id) → NoOpens s.due
    → Answers s.actor sh (Ask (call.Close u.id)) a after → done s a ≡ Some (n, t) → Left s sh t after
close_leaves s t sh after u Said n has want opens answers is = absurd answers
close_leaves s t sh after u (Bound did) n has want opens answers is = absurd answers
close_leaves s t sh after u (Judged v at) n has want opens answers is = absurd answers
close_leaves s t sh after u (Pushed did) n has want opens answers is = absurd answers
close_leaves s t sh after u (Put port limit) n has want opens answers is = absurd answers
close_leaves s t sh after u (Replied said) n has want opens answers is =
    let asked = asked_close sh after s.actor u.id said answers in
    let closed : done s (Replied reply.Closed) ≡ Some (n, t) = done_with s (Replied said) (Replied reply.Closed) (Some (n, t)) (ap Replied asked.0) is in
    let left = closed_next s t n u.id opens want closed in
    record {
      number = left.0;
      actor = left.1;
      goes = closes_with s sh t.tunnels after u has left.3 asked.1;
      next = inl (done_seeks s t n (Replied said) is);
    }

-- a tunnel opens, or its history is full
open_leaves : (c : Core) (s t : Conn) (sh after : Shared) (conn id actor : ℕ) (goal : Goal) (said : Reply) (n : Note) → IsConn c s
    → want_of s ≡ Ask (call.Open conn id actor goal) → Asks sh s.actor (call.Open conn id actor goal) said after → done s (Replied said) ≡ Some (n, t)
    → Left s sh t after
open_leaves c s t sh after conn id actor goal said n conn_is want asks is = by_said (asked_open sh after s.actor conn id actor goal said asks) where
  by_said : Opened sh after s.actor (call.Open conn id actor goal) said ⊎ Full sh after said → Left s sh t after
  by_said (inl x) =
      let opened : Answer = Replied (reply.Opened x.tunnel x.routes) in
      let same : done s opened ≡ Some (n, t) = done_with s (Replied said) opened (Some (n, t)) (ap Replied x.said_is) is in
      let left = opened_next s t n conn id actor goal x.tunnel x.routes (tail_opens c s conn_is) want same in
      let alive = open_alive c s conn id actor goal conn_is want in
      record {
        number = left.0;
        actor = left.1;
        goes = opens_with s sh t.tunnels after conn id actor goal x.tunnel x.routes _ alive.1 alive.2 x.tunnel_is left.3 x.wrote;
        next = inl (done_seeks s t n (Replied said) is);
      }
  by_said (inr x) =
      let full : Answer = Replied (reply.HistoryFull x.entries x.live) in
      let same : done s full ≡ Some (n, t) = done_with s (Replied said) full (Some (n, t)) (ap Replied x.said_is) is in
      left_kept s t sh after (kept_full s t n x.entries x.live (tail_opens c s conn_is) same) (done_seeks s t n (Replied said) is) x.book

bind_leaves : (c : Core) (s t : Conn) (sh after : Shared) (id : ℕ) (goal : Goal) (did : Bool) (n : Note) → IsConn c s → want_of s ≡ Bind id goal → after ≡ sh
    → done s (Bound did) ≡ Some (n, t) → Left s sh t after
bind_leaves c s t sh after id goal true n conn want after_is is =
    let bound = bound_next s t n id goal want is in
    left_same s t sh after (record { number = bound.0; actor = bound.1; tunnels = bound.2; next = done_seeks s t n (Bound true) is }) after_is
bind_leaves c s t sh after id goal false n conn want after_is is =
    left_kept s t sh after (kept_refused s t n (tail_opens c s conn) is) (done_seeks s t n (Bound false) is) (ap (λ (x : Shared). x.book) after_is)

-- addresses or ways are asked for, or its tunnel closes, where the history has no place for that
tell_leaves : (s t : Conn) (sh after : Shared) (tunnel : ℕ) (asked : Call) (said : Reply) (n : Note) → IsFor tunnel asked → Fronted s (Ask asked)
    → Asks sh s.actor asked said after → done s (Replied said) ≡ Some (n, t) → Left s sh t after
tell_leaves s t sh after tunnel asked said n of f asks is = by_said (asked_told sh after s.actor tunnel asked said of asks) where
  by_said : Told sh after s.actor asked said ⊎ Shut sh after s.actor tunnel said → Left s sh t after
  by_said (inl x) =
      let shaped = told_shaped s t (Ask asked) f said n x.is is in
      record {
        number = shaped.number;
        actor = shaped.actor;
        goes = tells_with s sh t.tunnels after tunnel asked said of shaped.shapes x.wrote;
        next = inl shaped.next;
      }
  by_said (inr x) =
      let same : f.t.id ≡ tunnel = asks_of f.t f.a asked tunnel of f.wants in
      let closed : done s (Replied reply.Closed) ≡ Some (n, t) = done_with s (Replied said) (Replied reply.Closed) (Some (n, t)) (ap Replied x.said_is) is in
      let shut = front_shuts s t (Ask asked) f n closed in
      let W : ℕ → Type 0 = λ k. Wrote sh s.actor (call.Close k) reply.Closed after in
      record {
        number = shut.number;
        actor = shut.actor;
        goes = closes_with s sh t.tunnels after f.t (found_all (λ (u : Tunnel). Contains s.tunnels u) (λ (u : Tunnel). u.stream == f.id) s.tunnels f.t (All-contains_itself s.tunnels) f.on)
            shut.tunnels (subst W (sym same) x.wrote);
        next = inl (done_seeks s t n (Replied said) is);
      }

-- a push leaves the book
pushing_book : (did : Bool) (sh : Shared) (parcel : Parcel) → (pushing did sh parcel).book ≡ sh.book
pushing_book true sh parcel = refl
pushing_book false sh parcel = refl

ask_leaves : (c : Core) (s t : Conn) (sh after : Shared) (asked : Call) (said : Reply) (n : Note) → IsConn c s → want_of s ≡ Ask asked
    → Asks sh s.actor asked said after → done s (Replied said) ≡ Some (n, t) → Left s sh t after
ask_leaves c s t sh after (call.Open conn id actor goal) said n conn_is want asks is =
    open_leaves c s t sh after conn id actor goal said n conn_is want asks is
ask_leaves c s t sh after (call.Close tunnel) said n conn_is want asks is =
    let live = close_live c s tunnel conn_is want in
    let same : live.0.id ≡ tunnel = found_id s.tunnels live.0 tunnel live.1 in
    let A : ℕ → Type 0 = λ k. Asks sh s.actor (call.Close k) said after in
    close_leaves s t sh after live.0 (Replied said) n (has_found s tunnel live.0 live.1) (want ∙ ap (λ (k : ℕ). Ask (call.Close k)) (sym same))
    (close_opens c s tunnel conn_is want) (subst A (sym same) asks) is
ask_leaves c s t sh after (call.Assign tunnel list) said n conn_is want asks is =
    tell_leaves s t sh after tunnel (call.Assign tunnel list) said n refl (fronted s (Ask (call.Assign tunnel list)) want tt) asks is
ask_leaves c s t sh after (call.Advertise tunnel ranges) said n conn_is want asks is =
    tell_leaves s t sh after tunnel (call.Advertise tunnel ranges) said n refl (fronted s (Ask (call.Advertise tunnel ranges)) want tt) asks is

say_leaves : (c : Core) (s t : Conn) (sh after : Shared) (n : Note) → IsConn c s → after ≡ sh → done s Said ≡ Some (n, t) → Left s sh t after
say_leaves c s t sh after n conn after_is is =
    left_kept s t sh after (kept_said s t n (tail_opens c s conn) is) (done_seeks s t n Said is) (ap (λ (x : Shared). x.book) after_is)

want_leaves : (c : Core) (s t : Conn) (sh after : Shared) (w : Want) (a : Answer) (n : Note) → IsConn c s → want_of s ≡ w → IsNotOver w
    → Answers s.actor sh w a after → done s a ≡ Some (n, t) → Left s sh t after
want_leaves c s t sh after Nothing a n conn want over answers is = absurd answers
want_leaves c s t sh after Say Said n conn want over answers is = say_leaves c s t sh after n conn answers is
want_leaves c s t sh after Say (Bound did) n conn want over answers is = absurd answers
want_leaves c s t sh after Say (Replied said) n conn want over answers is = absurd answers
want_leaves c s t sh after Say (Judged v at) n conn want over answers is = absurd answers
want_leaves c s t sh after Say (Pushed did) n conn want over answers is = absurd answers
want_leaves c s t sh after Say (Put port limit) n conn want over answers is = absurd answers
want_leaves c s t sh after (Bind id goal) Said n conn want over answers is = absurd answers
want_leaves c s t sh after (Bind id goal) (Bound did) n conn want over answers is = bind_leaves c s t sh after id goal did n conn want answers is
want_leaves c s t sh after (Bind id goal) (Replied said) n conn want over answers is = absurd answers
want_leaves c s t sh after (Bind id goal) (Judged v at) n conn want over answers is = absurd answers
want_leaves c s t sh after (Bind id goal) (Pushed did) n conn want over answers is = absurd answers
want_leaves c s t sh after (Bind id goal) (Put port limit) n conn want over answers is = absurd answers
want_leaves c s t sh after (Ask asked) Said n conn want over answers is = absurd answers
want_leaves c s t sh after (Ask asked) (Bound did) n conn want over answers is = absurd answers
want_leaves c s t sh after (Ask asked) (Replied said) n conn want over answers is = ask_leaves c s t sh after asked said n conn want answers is
want_leaves c s t sh after (Ask asked) (Judged v at) n conn want over answers is = absurd answers
want_leaves c s t sh after (Ask asked) (Pushed did) n conn want over answers is = absurd answers
want_leaves c s t sh after (Ask asked) (Put port limit) n conn want over answers is = absurd answers
want_leaves c s t sh after (Judge tunnel k flow) Said n conn want over answers is = absurd answers
want_leaves c s t sh after (Judge tunnel k flow) (Bound did) n conn want over answers is = absurd answers
want_leaves c s t sh after (Judge tunnel k flow) (Replied said) n conn want over answers is = absurd answers
want_leaves c s t sh after (Judge tunnel k flow) (Judged v at) n conn want over answers is =
    let w : Want = Judge tunnel k flow in shaped_left s t sh after (judged_shaped s t w (fronted s w want tt) v at n is) answers.2
want_leaves c s t sh after (Judge tunnel k flow) (Pushed did) n conn want over answers is = absurd answers
want_leaves c s t sh after (Judge tunnel k flow) (Put port limit) n conn want over answers is = absurd answers
want_leaves c s t sh after (Push parcel) Said n conn want over answers is = absurd answers
want_leaves c s t sh after (Push parcel) (Bound did) n conn want over answers is = absurd answers
want_leaves c s t sh after (Push parcel) (Replied said) n conn want over answers is = absurd answers
want_leaves c s t sh after (Push parcel) (Judged v at) n conn want over answers is = absurd answers
want_leaves c s t sh after (Push parcel) (Pushed did) n conn want over answers is =
    let w : Want = Push parcel in
    shaped_book s t sh after (pushed_shaped s t w (fronted s w want tt) did n is) (ap (λ (x : Shared). x.book) answers.1 ∙ pushing_book did sh parcel)
want_leaves c s t sh after (Push parcel) (Put port limit) n conn want over answers is = absurd answers
want_leaves c s t sh after (Send tunnel k payload) Said n conn want over answers is = absurd answers
want_leaves c s t sh after (Send tunnel k payload) (Bound did) n conn want over answers is = absurd answers
want_leaves c s t sh after (Send tunnel k payload) (Replied said) n conn want over answers is = absurd answers
want_leaves c s t sh after (Send tunnel k payload) (Judged v at) n conn want over answers is = absurd answers
want_leaves c s t sh after (Send tunnel k payload) (Pushed did) n conn want over answers is = absurd answers
want_leaves c s t sh after (Send tunnel k payload) (Put port limit) n conn want over answers is =
    left_kept s t sh after (kept_put s t n port limit (tail_opens c s conn) is) (done_seeks s t n (Put port limit) is) (ap (λ (x : Shared). x.book) answers)
want_leaves c s t sh after (Over why) a n conn want over answers is = absurd over

act_leaves : (c : Core) (old new : Held) (sh after : Shared) (answer : Answer) (said : Note) → IsConn c old.conn → ActNext old sh answer said (Some new) after
    → Left old.conn sh new.conn after
act_leaves c old new sh after answer said conn next =
    let did = acted_done old new (want_of old.conn) answer said next.is in
    want_leaves c old.conn new.conn sh after (want_of old.conn) answer said conn refl did.over next.answers did.is

-- ---- what it does beside its wants

frame_leaves : (s t : Conn) (sh after : Shared) (n : Note) → framed s ≡ Some (n, t) → after ≡ sh → Left s sh t after
frame_leaves s t sh after n is after_is =
    let f = framed_leaves s t n is in
    record { number = f.number; actor = f.actor; goes = stays_with s sh t.tunnels after f.shapes after_is; next = inr (f.tunnel, framed_has s t f, f.next) }

received_shaped : (s t : Conn) (o : Option Tunnel) (from : From) (k : ℕ) (datagram : List ℕ) (n : Note)
    → option_map (λ (u : Tunnel). settled_note (queued s u from k datagram)) o ≡ Some (n, t) → Shaped s t
received_shaped s t None from k datagram n is = absurd cc
received_shaped s t (Some u) from k datagram n is =
    each_at (Shaped s) (Some (settled_note (queued s u from k datagram))) n t (queued_leaves s u from k datagram) is

receive_leaves : (old new : Held) (p : Port) (waiting : List (List ℕ)) (sh after : Shared) (n : Note) → received_from old p waiting ≡ Some (n, Some new)
    → after ≡ sh
    → Left old.conn sh new.conn after
receive_leaves old new p [] sh after n is after_is = absurd cc
receive_leaves old new p (datagram ∷ others) sh after n is after_is =
    let h : Held = record old { ports = at_port p.tunnel port_received old.ports } in
    let got : received old.conn p datagram ≡ Some (n, new.conn) = mapped h new (received old.conn p datagram) n is in
    let shaped = received_shaped old.conn new.conn (tunnel_of old.conn p.tunnel) (source.Port p.tunnel) p.received datagram n got in
    shaped_left old.conn new.conn sh after shaped after_is

-- ---- failures

link_over : (bytes : List ℕ) → over_want end.Link bytes ≡ Over end.Link
link_over [] = refl
link_over (b ∷ bytes) = refl

-- one that has no tunnel ends
failed_over : (s : Conn) → s.tunnels ≡ [] → IsNotOver (want_of (failed s)) → ⊥
failed_over s none over = subst IsNotOver (ap (λ (ts : List Tunnel). ending_want (failed s) end.Link ts) none ∙ link_over (owed (failed s))) over

-- a connection whose link failed closes its first tunnel
failed_leaves : (s : Conn) (h new : Held) (sh after : Shared) (answer : Answer) (said : Note)
    → ActNext (record h { conn = failed s }) sh answer said (Some new) after
    → Left s sh new.conn after
failed_leaves s h new sh after answer said next = by_tunnels s.tunnels refl where
  did : Acted (record h { conn = failed s }) (want_of (failed s)) answer said new.conn
  did = acted_done (record h { conn = failed s }) new (want_of (failed s)) answer said next.is

  by_tunnels : (us : List Tunnel) → s.tunnels ≡ us → Left s sh new.conn after
  by_tunnels [] none = absurd (failed_over s none did.over)
  by_tunnels (u ∷ us) are =
      let A : Want → Type 0 = λ w. Answers s.actor sh w answer after in
      let C : List Tunnel → Type 0 = λ ts. Contains ts u in
      let want : want_of (failed s) ≡ Ask (call.Close u.id) = ap (λ (ts : List Tunnel). ending_want (failed s) end.Link ts) are in
      let left = close_leaves (failed s) new.conn sh after u answer said (subst C (sym are) (contains_head u us)) want no_opens_nil (subst A want next.answers) did.is in
      left_before s (failed s) new.conn sh after (failed_same s) left

-- a connection that waits isn't ending, where it has a tunnel
live_waits : (s : Conn) (id : ℕ) (t : Tunnel) → may_wait (want_of s) ≡ true → tunnel_of s id ≡ Some t → s.ending ≡ None
live_waits s id t wait found = by_case (alive_by s s.ending refl wait) where
  test : Tunnel → Bool
  test u = u.id == id

  by_case : (s.ending ≡ None) ⊎ (s.tunnels ≡ []) → s.ending ≡ None
  by_case (inl alive) = alive
  by_case (inr none) = let e : find test [] ≡ Some t = ap (λ (ts : List Tunnel). find test ts) (sym none) ∙ found in absurd cc

-- a connection whose port failed closes the tunnel of that
port_leaves : (c : Core) (s : Conn) (id : ℕ) (t : Tunnel) (h new : Held) (sh after : Shared) (answer : Answer) (said : Note) → IsConn c s
    → may_wait (want_of s) ≡ true → tunnel_of s id ≡ Some t
    → ActNext (record h { conn = port_failed s t }) sh answer said (Some new) after → Left s sh new.conn after
port_leaves c s id t h new sh after answer said conn wait found next =
    let x : Conn = port_failed s t in
    let did = acted_done (record h { conn = x }) new (want_of x) answer said next.is in
    let A : Want → Type 0 = λ w. Answers s.actor sh w answer after in
    let on : tunnel_on x t.stream ≡ Some t = own_stream c s id t conn found in
    let want : want_of x ≡ Ask (call.Close t.id) =
    ap (λ (e : Option End). want_by x e) (live_waits s id t wait found) ∙ ap (λ (o : Option Tunnel). tunnel_want o (stream.Close why.Port)) on in
    let opens = (port_failed_keeps s t (waits_opens c s conn wait)).opens in
    left_before s x new.conn sh after (port_same s t) (close_leaves x new.conn sh after t answer said (has_found s id t found) want opens (subst A want next.answers) did.is)

-- ---- a try that leaves the connection

write_leaves : (old new : Held) (sh after : Shared) (fails : Bool) (answer : Answer) (said : Note)
    → WriteNext fails old sh answer said (Some new) after → Left old.conn sh new.conn after
write_leaves old new sh after true answer said next =
    failed_leaves old.conn (record old { link = record old.link { write_fails = false } }) new sh after answer said next
write_leaves old new sh after false answer said next =
    let P : Conn → Type 0 = λ x. Same old.conn x in
    let h : Held = record old { link = record old.link { room = room_left old.link.room (write_count old) } } in
    let behind_it = conn_of h new (wrote old.conn (write_count old)) said next.is in
    left_same old.conn new.conn sh after (subst P behind_it (wrote_leaves old.conn (write_count old))) next.after_is

takes_same : (setup : Setup) (old new : Held) (pieces : List (List ℕ)) (said : Note) → TakesNext setup old pieces said (Some new) → Same old.conn new.conn
takes_same setup old new [] said next =
    let P : Conn → Type 0 = λ x. Same old.conn x in
    subst P (conn_of old new (finished old.conn next.inside) said next.is) (finished_leaves old.conn next.inside)
takes_same setup old new (first ∷ others) said next =
    let P : Conn → Type 0 = λ x. Same old.conn x in
    let h : Held = record old { conn = next.conn; link = record old.link { pieces = behind (drop most_read first) others } } in
    let some : Some new ≡ Some h = next.new_is in
    let held : h ≡ new = cc in
    subst P (ap (λ (x : Held). x.conn) held) (took_leaves setup old.conn next.conn (take most_read first) next.took)

read_leaves : (setup : Setup) (old new : Held) (sh after : Shared) (fails : Bool) (answer : Answer) (said : Note)
    → ReadNext fails setup old sh answer said (Some new) after → Left old.conn sh new.conn after
read_leaves setup old new sh after true answer said next =
    failed_leaves old.conn (record old { link = record old.link { read_fails = false } }) new sh after answer said next
read_leaves setup old new sh after false answer said next =
    left_same old.conn new.conn sh after (takes_same setup old new old.link.pieces said next.1) next.2

receive_fails_leaves : (c : Core) (old new : Held) (sh after : Shared) (p : Port) (o : Option Tunnel) (answer : Answer) (said : Note) → IsConn c old.conn → may_wait (want_of old.conn) ≡ true
    → tunnel_of old.conn p.tunnel ≡ o
    → ActNext (receive_failed old p o) sh answer said (Some new) after → Left old.conn sh new.conn after
receive_fails_leaves c old new sh after p None answer said conn wait found next = act_leaves c old new sh after answer said conn next
receive_fails_leaves c old new sh after p (Some t) answer said conn wait found next = port_leaves c old.conn p.tunnel t old new sh after answer said conn wait found next

port_next_leaves : (c : Core) (old new : Held) (sh after : Shared) (p : Port) (fails : Bool) (answer : Answer) (said : Note) → IsConn c old.conn → may_wait (want_of old.conn) ≡ true
    → PortNext fails old p sh answer said (Some new) after → Left old.conn sh new.conn after
port_next_leaves c old new sh after p true answer said conn wait next =
    receive_fails_leaves c old new sh after p (tunnel_of old.conn p.tunnel) answer said conn wait refl next
port_next_leaves c old new sh after p false answer said conn wait next = receive_leaves old new p p.arrived sh after said next.is next.after_is

receive_next_leaves : (c : Core) (old new : Held) (sh after : Shared) (o : Option Port) (answer : Answer) (said : Note) → IsConn c old.conn → may_wait (want_of old.conn) ≡ true
    → ReceiveNext o old sh answer said (Some new) after → Left old.conn sh new.conn after
receive_next_leaves c old new sh after None answer said conn wait next = absurd next
receive_next_leaves c old new sh after (Some p) answer said conn wait next = port_next_leaves c old new sh after p p.receive_fails answer said conn wait next

-- a connection receives only while its want waits
receive_waits : (h : Held) (tunnel : ℕ) → first_of tries_of h ≡ Some (Receive tunnel) → may_wait (want_of h.conn) ≡ true
receive_waits h tunnel is = by_act (can_try h Act) refl is where
  rest : List Try
  rest = Frame ∷ Write ∷ Read ∷ map (λ (p : Port). Receive p.tunnel) h.ports

  by_act : (b : Bool) → can_try h Act ≡ b → cond b (Some Act) (find (can_try h) rest) ≡ Some (Receive tunnel) → may_wait (want_of h.conn) ≡ true
  by_act true so e = absurd cc
  by_act false so e = vain_waits h.ports (want_of h.conn) so

-- a step that did this try
pub try_leaves : (setup : Setup) (c d : Core) (old : Held) (sh after : Shared) (try : Try) (answer : Answer) (said : Note) (new : Held)
    → IsConn c old.conn → IsConn d new.conn → first_of tries_of old ≡ Some try → TryNext setup old sh try answer said (Some new) after
    → Left old.conn sh new.conn after
try_leaves setup c d old sh after Act answer said new conn left is next = act_leaves c old new sh after answer said conn next
try_leaves setup c d old sh after Frame answer said new conn left is next =
    frame_leaves old.conn new.conn sh after said (mapped old new (framed old.conn) said next.is) next.after_is
try_leaves setup c d old sh after Write answer said new conn left is next = write_leaves old new sh after old.link.write_fails answer said next
try_leaves setup c d old sh after Read answer said new conn left is next = read_leaves setup old new sh after old.link.read_fails answer said next
try_leaves setup c d old sh after (Receive tunnel) answer said new conn left is next =
    receive_next_leaves c old new sh after (port_of old.ports tunnel) answer said conn (receive_waits old tunnel is) next

-- ---- a try with which it ends

-- with which the connection ended
pub try_ends : (setup : Setup) (c : Core) (old : Held) (sh after : Shared) (try : Try) (answer : Answer) (said : Note)
    → IsConn c old.conn → first_of tries_of old ≡ Some try → TryNext setup old sh try answer said None after
    → Ends old.conn sh after
try_ends setup c old sh after Act answer said conn is next = act_ends old sh after answer said next
try_ends setup c old sh after Frame answer said conn is next = absurd (unmapped old (framed old.conn) said next.is)
try_ends setup c old sh after Write answer said conn is next = write_ends old sh after old.link.write_fails answer said next
try_ends setup c old sh after Read answer said conn is next = read_ends setup old sh after old.link.read_fails answer said next
try_ends setup c old sh after (Receive tunnel) answer said conn is next = receive_ends old sh after (port_of old.ports tunnel) answer said next

-- ---- a step that was refused memory

-- one for which memory was refused
pub starved_goes : (c : Core) (old : Held) (sh after : Shared) (asked : Bool) (try : Try) (answer : Answer) (tunnels : List Tunnel)
    → IsConn c old.conn → Heard asked old sh try answer tunnels after → Goes old.conn sh tunnels after
starved_goes c old sh after false try answer tunnels conn heard = stays_with old.conn sh tunnels after (ap shapes_of heard.1) heard.2
starved_goes c old sh after true try answer tunnels conn heard =
    want_heard c old.conn sh after (want_of old.conn) answer tunnels conn refl heard.takes heard.place heard.answers heard.tunnels_are
