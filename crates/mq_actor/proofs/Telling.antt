-- What a connection does first for a tunnel for IP packets: it judges, pushes, and asks for addresses or ways.
use Rattle.std.proofs.Common.{◌≡◌, ℕ, ◌==◌, cond, Bool, true, false, not, List, nat_le, Option, Some, refl, sym, ap, ◌∙◌, subst}
use Rattle.std.specs.Prelude.{filter, option_map}
use Rattle.mq_talk.specs.declared.book.Call.{Call}
use Rattle.mq_talk.specs.declared.book.Call.TheVariants as call
use Rattle.mq_talk.specs.declared.book.Reply.{Reply}
use Rattle.mq_talk.specs.declared.book.Reply.TheVariants as reply
use Rattle.mq_talk.specs.declared.note.Note.{Note}
use Rattle.mq_talk.specs.declared.note.End.{End}
use Rattle.mq_talk.specs.declared.place.Verdict.{Verdict}
use Rattle.mq_talk.specs.declared.place.Verdict.TheVariants as verdict
use Rattle.mq_machine.specs.declared.act.StreamAct.{StreamAct}
use Rattle.mq_machine.specs.declared.act.StreamAct.TheVariants as stream
use Rattle.mq_machine.specs.declared.act.Due.{Due}
use Rattle.mq_machine.specs.State.{Conn, Tunnel, values}
use Rattle.mq_machine.specs.Want.{Want, Ask, Answer, Replied, Judged, Pushed, stream_want, most_values}
use Rattle.mq_machine.specs.Done.{Done, done, done_by, due_done, tunnel_done, stream_done}
use Rattle.mq_machine.specs.Settle.{settle}
use Rattle.mq_machine.specs.Steps.{settled_note}
use Rattle.mq_held.specs.Answers.{IsFor}
use Rattle.mq_held.proofs.Streams.{Fronted}
use Rattle.mq_actor.proofs.Beside.{Shaped, shaped_settled}
use Rattle.mq_actor.proofs.Replies.{IsTold}
use Rattle.mq_actor.proofs.Searches.{settle_same, Each, each_at, each_settled}
use Rattle.mq_actor.proofs.Shapes.{waits_shapes}

-- behind the act that is first
abbrev left : (s : Conn) (w : Want) → Fronted s w → Conn
left s w f = record s { due = f.rest }

-- an answer to that act is the one to the connection
done_front : (s : Conn) (w : Want) (f : Fronted s w) (answer : Answer) → done s answer ≡ option_map settled_note (stream_done (left s w f) f.t f.a answer)
done_front s w f answer =
    ap (λ (e : Option End). option_map settled_note (done_by s e answer)) f.alive
    ∙ ap (λ (ds : List Due). option_map settled_note (due_done s ds answer)) f.due_is
    ∙ ap (λ (o : Option Tunnel). option_map settled_note (tunnel_done (left s w f) o f.a answer)) f.on

-- ---- answers that leave its tunnels

judged_shapes : (x : Conn) (t : Tunnel) (a : StreamAct) (v : Verdict) (at : ℕ) → Each (Shaped x) (stream_done x t a (Judged v at))
judged_shapes x t (stream.Payload n payload) v at = tt
judged_shapes x t (stream.Packet n packet flow) (verdict.Pass to) at = record { number = refl; actor = refl; shapes = refl; next = refl }
judged_shapes x t (stream.Packet n packet flow) verdict.Source at = record { number = refl; actor = refl; shapes = refl; next = refl }
judged_shapes x t (stream.Packet n packet flow) verdict.NoRoute at = record { number = refl; actor = refl; shapes = refl; next = refl }
judged_shapes x t (stream.Push n to packet) v at = tt
judged_shapes x t (stream.Drop n cause) v at = tt
judged_shapes x t (stream.Assign asked) v at = tt
judged_shapes x t (stream.Advertise ranges) v at = tt
judged_shapes x t (stream.Close why) v at = tt

pushed_shapes : (x : Conn) (t : Tunnel) (a : StreamAct) (did : Bool) → Each (Shaped x) (stream_done x t a (Pushed did))
pushed_shapes x t (stream.Payload n payload) did = tt
pushed_shapes x t (stream.Packet n packet flow) did = tt
pushed_shapes x t (stream.Push n to packet) true = record { number = refl; actor = refl; shapes = refl; next = refl }
pushed_shapes x t (stream.Push n to packet) false = record { number = refl; actor = refl; shapes = refl; next = refl }
pushed_shapes x t (stream.Drop n cause) did = tt
pushed_shapes x t (stream.Assign asked) did = tt
pushed_shapes x t (stream.Advertise ranges) did = tt
pushed_shapes x t (stream.Close why) did = tt

told_shapes : (x : Conn) (t : Tunnel) (a : StreamAct) (said : Reply) → IsTold said → Each (Shaped x) (stream_done x t a (Replied said))
told_shapes x t a (reply.Opened tunnel routes) is = absurd is
told_shapes x t a (reply.HistoryFull entries live) is = absurd is
told_shapes x t a reply.Closed is = absurd is
told_shapes x t (stream.Payload n payload) (reply.Assigned list at) is = tt
told_shapes x t (stream.Packet n packet flow) (reply.Assigned list at) is = tt
told_shapes x t (stream.Push n to packet) (reply.Assigned list at) is = tt
told_shapes x t (stream.Drop n cause) (reply.Assigned list at) is = tt
told_shapes x t (stream.Assign asked) (reply.Assigned list at) is = record { number = refl; actor = refl; shapes = waits_shapes t.id _ x.tunnels; next = refl }
told_shapes x t (stream.Advertise ranges) (reply.Assigned list at) is = tt
told_shapes x t (stream.Close why) (reply.Assigned list at) is = tt
told_shapes x t (stream.Payload n payload) (reply.Accepted accepts at) is = tt
told_shapes x t (stream.Packet n packet flow) (reply.Accepted accepts at) is = tt
told_shapes x t (stream.Push n to packet) (reply.Accepted accepts at) is = tt
told_shapes x t (stream.Drop n cause) (reply.Accepted accepts at) is = tt
told_shapes x t (stream.Assign asked) (reply.Accepted accepts at) is = tt
told_shapes x t (stream.Advertise ranges) (reply.Accepted accepts at) is = record { number = refl; actor = refl; shapes = refl; next = refl }
told_shapes x t (stream.Close why) (reply.Accepted accepts at) is = tt

front_shaped : (s t : Conn) (w : Want) (f : Fronted s w) (answer : Answer) (n : Note) → Each (Shaped (left s w f)) (stream_done (left s w f) f.t f.a answer)
    → done s answer ≡ Some (n, t) → Shaped s t
front_shaped s t w f answer n each is =
    let x : Conn = left s w f in
    let o : Done = stream_done x f.t f.a answer in
    let shaped = each_at (Shaped x) (option_map settled_note o) n t (each_settled (Shaped x) o (shaped_settled x) each) (sym (done_front s w f answer) ∙ is) in
    record { number = shaped.number; actor = shaped.actor; shapes = shaped.shapes; next = shaped.next }

-- a verdict
pub judged_shaped : (s t : Conn) (w : Want) (f : Fronted s w) (v : Verdict) (at : ℕ) (n : Note) → done s (Judged v at) ≡ Some (n, t) → Shaped s t
judged_shaped s t w f v at n is = front_shaped s t w f (Judged v at) n (judged_shapes (left s w f) f.t f.a v at) is

-- whether a push was taken
pub pushed_shaped : (s t : Conn) (w : Want) (f : Fronted s w) (did : Bool) (n : Note) → done s (Pushed did) ≡ Some (n, t) → Shaped s t
pushed_shaped s t w f did n is = front_shaped s t w f (Pushed did) n (pushed_shapes (left s w f) f.t f.a did) is

-- addresses or ways
pub told_shaped : (s t : Conn) (w : Want) (f : Fronted s w) (said : Reply) (n : Note) → IsTold said → done s (Replied said) ≡ Some (n, t) → Shaped s t
told_shaped s t w f said n is_told is = front_shaped s t w f (Replied said) n (told_shapes (left s w f) f.t f.a said is_told) is

-- ---- the history had no place, and the tunnel closes

-- the tunnel of this number is gone
pub record Shuts (c : Conn) (tunnel : ℕ) (t : Conn) : Type 0 where
  pub number : t.number ≡ c.number
  pub actor : t.actor ≡ c.actor
  pub tunnels : t.tunnels ≡ filter (λ (u : Tunnel). not (u.id == tunnel)) c.tunnels

shuts : (x : Conn) (t : Tunnel) (a : StreamAct) → Each (Shuts x t.id) (stream_done x t a (Replied reply.Closed))
shuts x t (stream.Payload n payload) = tt
shuts x t (stream.Packet n packet flow) = tt
shuts x t (stream.Push n to packet) = tt
shuts x t (stream.Drop n cause) = tt
shuts x t (stream.Assign asked) = record { number = refl; actor = refl; tunnels = refl }
shuts x t (stream.Advertise ranges) = record { number = refl; actor = refl; tunnels = refl }
shuts x t (stream.Close why) = record { number = refl; actor = refl; tunnels = refl }

shuts_settled : (c x : Conn) (tunnel : ℕ) → Shuts c tunnel x → Shuts c tunnel (settle x)
shuts_settled c x tunnel is =
    let same = settle_same x in
    record { number = same.number ∙ is.number; actor = same.actor ∙ is.actor; tunnels = same.tunnels ∙ is.tunnels }

pub front_shuts : (s t : Conn) (w : Want) (f : Fronted s w) (n : Note) → done s (Replied reply.Closed) ≡ Some (n, t) → Shuts s f.t.id t
front_shuts s t w f n is =
    let x : Conn = left s w f in
    let o : Done = stream_done x f.t f.a (Replied reply.Closed) in
    let P : Conn → Type 0 = λ y. Shuts x f.t.id y in
    let shut = each_at P (option_map settled_note o) n t (each_settled P o (λ y. shuts_settled x y f.t.id) (shuts x f.t f.a)) (sym (done_front s w f (Replied reply.Closed)) ∙ is) in
    record { number = shut.number; actor = shut.actor; tunnels = shut.tunnels }

-- the tunnel that addresses or ways are asked for
pub asks_of : (t : Tunnel) (a : StreamAct) (asked : Call) (tunnel : ℕ) → IsFor tunnel asked → stream_want t a ≡ Ask asked → t.id ≡ tunnel
asks_of t (stream.Payload n payload) asked tunnel of is = absurd cc
asks_of t (stream.Packet n packet flow) asked tunnel of is = absurd cc
asks_of t (stream.Push n to packet) asked tunnel of is = absurd cc
asks_of t (stream.Drop n cause) asked tunnel of is = absurd cc
asks_of t (stream.Assign list) asked tunnel of is = by_full (nat_le most_values (values t)) is where
  by_full : (b : Bool) → cond b (Ask (call.Close t.id)) (Ask (call.Assign t.id list)) ≡ Ask asked → t.id ≡ tunnel
  by_full true e = let same : asked ≡ call.Close t.id = cc in absurd (subst (IsFor tunnel) same of)
  by_full false e = let same : asked ≡ call.Assign t.id list = cc in subst (IsFor tunnel) same of
asks_of t (stream.Advertise ranges) asked tunnel of is = let same : asked ≡ call.Advertise t.id ranges = cc in subst (IsFor tunnel) same of
asks_of t (stream.Close why) asked tunnel of is = let same : asked ≡ call.Close t.id = cc in absurd (subst (IsFor tunnel) same of)
