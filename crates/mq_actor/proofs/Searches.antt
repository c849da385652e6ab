-- Each answer leaves the tunnel from which the next frame is sought, and the end of an act leaves all but what is due.
use Rattle.std.proofs.Common.{◌≡◌, cond, Bool, true, false, List, [], ◌∷◌, length, nat_lt, Option, Some, None, refl, sym, subst, ◌∙◌}
use Rattle.std.specs.Prelude.{option_map}
use Rattle.mq_outside.specs.declared.PortPut.{PortPut}
use Rattle.mq_outside.specs.declared.PortPut.TheVariants as put
use Rattle.mq_talk.specs.declared.book.Reply.TheVariants as reply
use Rattle.mq_talk.specs.declared.note.End.{End}
use Rattle.mq_talk.specs.declared.note.Note.{Note}
use Rattle.mq_talk.specs.declared.place.Cause.TheVariants as cause
use Rattle.mq_talk.specs.declared.place.Verdict.TheVariants as verdict
use Rattle.mq_machine.specs.declared.act.Act.{Act}
use Rattle.mq_machine.specs.declared.act.Act.TheVariants as act
use Rattle.mq_machine.specs.declared.act.StreamAct.{StreamAct}
use Rattle.mq_machine.specs.declared.act.StreamAct.TheVariants as stream
use Rattle.mq_machine.specs.declared.act.Due.{Due}
use Rattle.mq_machine.specs.declared.act.Due.TheVariants as due
use Rattle.mq_machine.proofs.Settling.{settled_rests}
use Rattle.mq_machine.specs.Settle.{settle, passing, spending}
use Rattle.mq_machine.specs.State.{Conn, Tunnel, tunnel_on}
use Rattle.mq_machine.specs.Want.{Answer, Said, Bound, Replied, Judged, Pushed, Put}
use Rattle.mq_machine.specs.Done.{Done, done, done_by, due_done, act_done, tunnel_done, stream_done, ending_done, dropped, sent}
use Rattle.mq_machine.specs.Steps.{settled_note}

-- ---- the end of an act

-- number, actor, tunnels and the next tunnel stay
pub record Same (c t : Conn) : Type 0 where
  pub number : t.number ≡ c.number
  pub actor : t.actor ≡ c.actor
  pub tunnels : t.tunnels ≡ c.tunnels
  pub next : t.next_tunnel ≡ c.next_tunnel

passing_same : (ds : List Due) (x : Conn) → Same x (passing ds x)
passing_same [] x = record { number = refl; actor = refl; tunnels = refl; next = refl }
passing_same (due.Do a ∷ rest) x = record { number = refl; actor = refl; tunnels = refl; next = refl }
passing_same (due.Spend id size ∷ rest) x =
    let same = passing_same rest (record x { front = spending x.front id size }) in
    record { number = same.number; actor = same.actor; tunnels = same.tunnels; next = same.next }
passing_same (due.Fault code ∷ rest) x = record { number = refl; actor = refl; tunnels = refl; next = refl }

-- the end of an act leaves them
pub settle_same : (x : Conn) → Same x (settle x)
settle_same x =
    let same = passing_same x.due x in
    let P : Conn → Type 0 = λ y. Same x y in
    subst P (sym (settled_rests (passing x.due x))) (record { number = same.number; actor = same.actor; tunnels = same.tunnels; next = same.next })

-- ---- what is true of the connection behind an answer

abbrev pub Each : (Conn → Type 0) → Done → Type 0
Each P None = Unit {0}
Each P (Some d) = P d.1

-- of the one that an answer led to
pub each_at : (P : Conn → Type 0) (o : Done) (n : Note) (t : Conn) → Each P o → o ≡ Some (n, t) → P t
each_at P o n t each is = let Q : Done → Type 0 = λ x. Each P x in subst Q is each

-- and behind the end of the act
pub each_settled : (P : Conn → Type 0) (o : Done) → ((x : Conn) → P x → P (settle x)) → Each P o → Each P (option_map settled_note o)
each_settled P None goes each = tt
each_settled P (Some d) goes each = goes d.1 each

-- ---- the next tunnel

abbrev Seeks : Conn → Conn → Type 0
Seeks c t = t.next_tunnel ≡ c.next_tunnel

stream_seeks : (x : Conn) (t : Tunnel) (a : StreamAct) (answer : Answer) → Each (Seeks x) (stream_done x t a answer)
stream_seeks x t (stream.Payload n payload) Said = tt
stream_seeks x t (stream.Payload n payload) (Bound done) = tt
stream_seeks x t (stream.Payload n payload) (Replied r) = tt
stream_seeks x t (stream.Payload n payload) (Judged v at) = tt
stream_seeks x t (stream.Payload n payload) (Pushed done) = tt
stream_seeks x t (stream.Payload n payload) (Put port limit) = by_long (nat_lt limit (length payload)) port where
  by_long : (b : Bool) (o : PortPut) → Each (Seeks x) (cond b (Some (dropped x t n cause.TooLong)) (sent x t n payload o))
  by_long true o = refl
  by_long false put.Sent = refl
  by_long false put.Failed = refl
  by_long false put.NotNow = tt
stream_seeks x t (stream.Packet n packet flow) Said = tt
stream_seeks x t (stream.Packet n packet flow) (Bound done) = tt
stream_seeks x t (stream.Packet n packet flow) (Replied r) = tt
stream_seeks x t (stream.Packet n packet flow) (Judged (verdict.Pass to) at) = refl
stream_seeks x t (stream.Packet n packet flow) (Judged verdict.Source at) = refl
stream_seeks x t (stream.Packet n packet flow) (Judged verdict.NoRoute at) = refl
stream_seeks x t (stream.Packet n packet flow) (Pushed done) = tt
stream_seeks x t (stream.Packet n packet flow) (Put port limit) = tt
stream_seeks x t (stream.Push n to packet) Said = tt
stream_seeks x t (stream.Push n to packet) (Bound done) = tt
stream_seeks x t (stream.Push n to packet) (Replied r) = tt
stream_seeks x t (stream.Push n to packet) (Judged v at) = tt
stream_seeks x t (stream.Push n to packet) (Pushed true) = refl
stream_seeks x t (stream.Push n to packet) (Pushed false) = refl
stream_seeks x t (stream.Push n to packet) (Put port limit) = tt
stream_seeks x t (stream.Drop n cause) Said = refl
stream_seeks x t (stream.Drop n cause) (Bound done) = tt
stream_seeks x t (stream.Drop n cause) (Replied r) = tt
stream_seeks x t (stream.Drop n cause) (Judged v at) = tt
stream_seeks x t (stream.Drop n cause) (Pushed done) = tt
stream_seeks x t (stream.Drop n cause) (Put port limit) = tt
stream_seeks x t (stream.Assign asked) Said = tt
stream_seeks x t (stream.Assign asked) (Bound done) = tt
stream_seeks x t (stream.Assign asked) (Replied (reply.Opened tunnel routes)) = tt
stream_seeks x t (stream.Assign asked) (Replied (reply.HistoryFull entries live)) = tt
stream_seeks x t (stream.Assign asked) (Replied (reply.Assigned list at)) = refl
stream_seeks x t (stream.Assign asked) (Replied (reply.Accepted accepts at)) = tt
stream_seeks x t (stream.Assign asked) (Replied reply.Closed) = refl
stream_seeks x t (stream.Assign asked) (Judged v at) = tt
stream_seeks x t (stream.Assign asked) (Pushed done) = tt
stream_seeks x t (stream.Assign asked) (Put port limit) = tt
stream_seeks x t (stream.Advertise ranges) Said = tt
stream_seeks x t (stream.Advertise ranges) (Bound done) = tt
stream_seeks x t (stream.Advertise ranges) (Replied (reply.Opened tunnel routes)) = tt
stream_seeks x t (stream.Advertise ranges) (Replied (reply.HistoryFull entries live)) = tt
stream_seeks x t (stream.Advertise ranges) (Replied (reply.Assigned list at)) = tt
stream_seeks x t (stream.Advertise ranges) (Replied (reply.Accepted accepts at)) = refl
stream_seeks x t (stream.Advertise ranges) (Replied reply.Closed) = refl
stream_seeks x t (stream.Advertise ranges) (Judged v at) = tt
stream_seeks x t (stream.Advertise ranges) (Pushed done) = tt
stream_seeks x t (stream.Advertise ranges) (Put port limit) = tt
stream_seeks x t (stream.Close why) Said = tt
stream_seeks x t (stream.Close why) (Bound done) = tt
stream_seeks x t (stream.Close why) (Replied (reply.Opened tunnel routes)) = tt
stream_seeks x t (stream.Close why) (Replied (reply.HistoryFull entries live)) = tt
stream_seeks x t (stream.Close why) (Replied (reply.Assigned list at)) = tt
stream_seeks x t (stream.Close why) (Replied (reply.Accepted accepts at)) = tt
stream_seeks x t (stream.Close why) (Replied reply.Closed) = refl
stream_seeks x t (stream.Close why) (Judged v at) = tt
stream_seeks x t (stream.Close why) (Pushed done) = tt
stream_seeks x t (stream.Close why) (Put port limit) = tt

tunnel_seeks : (x : Conn) (o : Option Tunnel) (a : StreamAct) (answer : Answer) → Each (Seeks x) (tunnel_done x o a answer)
tunnel_seeks x None a answer = tt
tunnel_seeks x (Some t) a answer = stream_seeks x t a answer

act_seeks : (x : Conn) (a : Act) (answer : Answer) → Each (Seeks x) (act_done x a answer)
act_seeks x (act.Bind id goal) Said = tt
act_seeks x (act.Bind id goal) (Bound true) = refl
act_seeks x (act.Bind id goal) (Bound false) = refl
act_seeks x (act.Bind id goal) (Replied r) = tt
act_seeks x (act.Bind id goal) (Judged v at) = tt
act_seeks x (act.Bind id goal) (Pushed done) = tt
act_seeks x (act.Bind id goal) (Put port limit) = tt
act_seeks x (act.Open id goal) Said = tt
act_seeks x (act.Open id goal) (Bound done) = tt
act_seeks x (act.Open id goal) (Replied (reply.Opened tunnel routes)) = refl
act_seeks x (act.Open id goal) (Replied (reply.HistoryFull entries live)) = refl
act_seeks x (act.Open id goal) (Replied (reply.Assigned list at)) = tt
act_seeks x (act.Open id goal) (Replied (reply.Accepted accepts at)) = tt
act_seeks x (act.Open id goal) (Replied reply.Closed) = tt
act_seeks x (act.Open id goal) (Judged v at) = tt
act_seeks x (act.Open id goal) (Pushed done) = tt
act_seeks x (act.Open id goal) (Put port limit) = tt
act_seeks x (act.Refuse id status rule) Said = refl
act_seeks x (act.Refuse id status rule) (Bound done) = tt
act_seeks x (act.Refuse id status rule) (Replied r) = tt
act_seeks x (act.Refuse id status rule) (Judged v at) = tt
act_seeks x (act.Refuse id status rule) (Pushed done) = tt
act_seeks x (act.Refuse id status rule) (Put port limit) = tt
act_seeks x (act.Reset id code) Said = refl
act_seeks x (act.Reset id code) (Bound done) = tt
act_seeks x (act.Reset id code) (Replied r) = tt
act_seeks x (act.Reset id code) (Judged v at) = tt
act_seeks x (act.Reset id code) (Pushed done) = tt
act_seeks x (act.Reset id code) (Put port limit) = tt
act_seeks x (act.OfStream id a) answer = tunnel_seeks x (tunnel_on x id) a answer

due_seeks : (c : Conn) (ds : List Due) (answer : Answer) → Each (Seeks c) (due_done c ds answer)
due_seeks c [] answer = tt
due_seeks c (due.Do a ∷ rest) answer = act_seeks (record c { due = rest }) a answer
due_seeks c (due.Spend id size ∷ rest) answer = tt
due_seeks c (due.Fault code ∷ rest) answer = tt

ending_seeks : (c : Conn) (ts : List Tunnel) (answer : Answer) → Each (Seeks c) (ending_done c ts answer)
ending_seeks c [] answer = tt
ending_seeks c (t ∷ ts) Said = tt
ending_seeks c (t ∷ ts) (Bound done) = tt
ending_seeks c (t ∷ ts) (Replied (reply.Opened tunnel routes)) = tt
ending_seeks c (t ∷ ts) (Replied (reply.HistoryFull entries live)) = tt
ending_seeks c (t ∷ ts) (Replied (reply.Assigned list at)) = tt
ending_seeks c (t ∷ ts) (Replied (reply.Accepted accepts at)) = tt
ending_seeks c (t ∷ ts) (Replied reply.Closed) = refl
ending_seeks c (t ∷ ts) (Judged v at) = tt
ending_seeks c (t ∷ ts) (Pushed done) = tt
ending_seeks c (t ∷ ts) (Put port limit) = tt

by_seeks : (c : Conn) (e : Option End) (answer : Answer) → Each (Seeks c) (done_by c e answer)
by_seeks c None answer = due_seeks c c.due answer
by_seeks c (Some why) answer = ending_seeks c c.tunnels answer

settle_seeks : (c x : Conn) → Seeks c x → Seeks c (settle x)
settle_seeks c x seeks = (settle_same x).next ∙ seeks

-- each answer leaves the next tunnel
pub done_seeks : (c t : Conn) (n : Note) (answer : Answer) → done c answer ≡ Some (n, t) → t.next_tunnel ≡ c.next_tunnel
done_seeks c t n answer is =
    each_at (Seeks c) (done c answer) n t (each_settled (Seeks c) (done_by c c.ending answer) (settle_seeks c) (by_seeks c c.ending answer)) is
