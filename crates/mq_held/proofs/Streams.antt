-- What a connection wants for a live tunnel for IP packets, and the act that is first then.
use Rattle.std.proofs.Common.{◌≡◌, ℕ, cond, List, [], ◌∷◌, Option, Some, None, refl, sym, ap, subst, ◌∙◌, Bool, true, false}
use Rattle.std.specs.Prelude.{option_map, nat_le, is_some}
use Rattle.mq_addr.specs.declared.kind.Kind.{Kind}
use Rattle.mq_addr.specs.declared.entry.Asked.{Asked}
use Rattle.mq_addr.specs.declared.range.Flow.{Flow}
use Rattle.mq_addr.specs.declared.range.Range.{Range}
use Rattle.mq_talk.specs.declared.book.Call.{Call}
use Rattle.mq_talk.specs.declared.book.Call.TheVariants as call
use Rattle.mq_talk.specs.declared.book.Config.{Config}
use Rattle.mq_talk.specs.declared.book.Reply.{Reply}
use Rattle.mq_talk.specs.declared.book.Reply.TheVariants as reply
use Rattle.mq_talk.specs.declared.note.End.{End}
use Rattle.mq_talk.specs.declared.place.Origin.TheVariants as origin
use Rattle.mq_talk.specs.declared.place.Parcel.{Parcel}
use Rattle.mq_talk.specs.declared.place.Verdict.{Verdict}
use Rattle.mq_talk.specs.Answers.{IsAnswer}
use Rattle.mq_talk.specs.Book.{History}
use Rattle.mq_talk.specs.Mails.{IsParcel}
use Rattle.mq_machine.specs.declared.act.Act.{Act}
use Rattle.mq_machine.specs.declared.act.Act.TheVariants as act
use Rattle.mq_machine.specs.declared.act.StreamAct.{StreamAct}
use Rattle.mq_machine.specs.declared.act.StreamAct.TheVariants as stream
use Rattle.mq_machine.specs.declared.act.Due.{Due}
use Rattle.mq_machine.specs.declared.act.Due.TheVariants as due
use Rattle.mq_machine.specs.Lawful.{Follows, IsAsked, IsAskedOf, IsLawful, kind_on}
use Rattle.mq_machine.specs.Settle.{gives_up}
use Rattle.mq_machine.specs.Shared.{asked_by}
use Rattle.mq_machine.specs.State.{Conn, Tunnel, kind_of, owed, tunnel_on, values}
use Rattle.mq_machine.specs.Steps.{settled_note}
use Rattle.mq_machine.specs.Want.{Want, Nothing, Say, Bind, Ask, Judge, Push, Send, Over, Answer, Replied, Judged, Pushed, want_of, want_by, ending_want, over_want, due_want, act_want, tunnel_want, stream_want, most_values}
use Rattle.mq_machine.specs.Done.{done, stream_done, tunnel_done}
use Rattle.mq_held.specs.Answers.{IsFor}
use Rattle.mq_held.proofs.Fronts.{some_first}

-- it comes of what the data stream of a tunnel for IP packets asks for, or of a verdict
abbrev pub IsOfTunnel : Want → Type 0
IsOfTunnel Nothing = ⊥
IsOfTunnel Say = ⊥
IsOfTunnel (Bind id goal) = ⊥
IsOfTunnel (Ask (call.Open conn id actor goal)) = ⊥
IsOfTunnel (Ask (call.Assign tunnel asked)) = Unit {0}
IsOfTunnel (Ask (call.Advertise tunnel ranges)) = Unit {0}
IsOfTunnel (Ask (call.Close tunnel)) = ⊥
IsOfTunnel (Judge tunnel n flow) = Unit {0}
IsOfTunnel (Push parcel) = Unit {0}
IsOfTunnel (Send tunnel n payload) = Unit {0}
IsOfTunnel (Over why) = ⊥

-- the act that is first, with its live tunnel
pub record Fronted (s : Conn) (w : Want) : Type 0 where
  pub id : ℕ
  pub a : StreamAct
  pub rest : List Due
  pub t : Tunnel
  pub alive : s.ending ≡ None
  pub due_is : s.due ≡ due.Do (act.OfStream id a) ∷ rest
  pub on : tunnel_on s id ≡ Some t
  pub wants : stream_want t a ≡ w

not_of : (v w : Want) → v ≡ w → IsOfTunnel w → IsOfTunnel v
not_of v w is of = let P : Want → Type 0 = λ x. IsOfTunnel x in subst P (sym is) of

over_not : (why : End) (bytes : List ℕ) (w : Want) → over_want why bytes ≡ w → IsOfTunnel w → ⊥
over_not why [] w is of = not_of (Over why) w is of
over_not why (b ∷ bytes) w is of = by_case (gives_up why) is where
  by_case : (g : Bool) → cond g (Over why) Nothing ≡ w → ⊥
  by_case true e = not_of (Over why) w e of
  by_case false e = not_of Nothing w e of

ending_not : (s : Conn) (why : End) (ts : List Tunnel) (w : Want) → ending_want s why ts ≡ w → IsOfTunnel w → ⊥
ending_not s why [] w is of = over_not why (owed s) w is of
ending_not s why (t ∷ ts) w is of = not_of (Ask (call.Close t.id)) w is of

act_fronted : (s : Conn) (a : Act) (rest : List Due) (w : Want) → s.ending ≡ None → s.due ≡ due.Do a ∷ rest → act_want s a ≡ w → IsOfTunnel w → Fronted s w
act_fronted s (act.Bind id goal) rest w alive first is of = absurd (not_of (Bind id goal) w is of)
act_fronted s (act.Open id goal) rest w alive first is of = absurd (not_of (Ask (call.Open s.number id s.actor goal)) w is of)
act_fronted s (act.Refuse id status rule) rest w alive first is of = absurd (not_of Say w is of)
act_fronted s (act.Reset id code) rest w alive first is of = absurd (not_of Say w is of)
act_fronted s (act.OfStream id a) rest w alive first is of = by_tunnel (tunnel_on s id) refl is where
  by_tunnel : (o : Option Tunnel) → tunnel_on s id ≡ o → tunnel_want o a ≡ w → Fronted s w
  by_tunnel None on e = absurd (not_of Nothing w e of)
  by_tunnel (Some t) on e = record { id = id; a = a; rest = rest; t = t; alive = alive; due_is = first; on = on; wants = e }

due_fronted : (s : Conn) (ds : List Due) (w : Want) → s.ending ≡ None → s.due ≡ ds → due_want s ds ≡ w → IsOfTunnel w → Fronted s w
due_fronted s [] w alive first is of = absurd (not_of Nothing w is of)
due_fronted s (due.Do a ∷ rest) w alive first is of = act_fronted s a rest w alive first is of
due_fronted s (due.Spend id size ∷ rest) w alive first is of = absurd (not_of Nothing w is of)
due_fronted s (due.Fault code ∷ rest) w alive first is of = absurd (not_of Nothing w is of)

by_fronted : (s : Conn) (e : Option End) (w : Want) → s.ending ≡ e → want_by s e ≡ w → IsOfTunnel w → Fronted s w
by_fronted s None w ending is of = due_fronted s s.due w ending refl is of
by_fronted s (Some why) w ending is of = absurd (ending_not s why s.tunnels w is of)

pub fronted : (s : Conn) (w : Want) → want_of s ≡ w → IsOfTunnel w → Fronted s w
fronted s w is of = by_fronted s s.ending w refl is of

-- an answer to that act is one to the connection
done_fronted : (s : Conn) (w : Want) (f : Fronted s w) (answer : Answer)
    → ((x : Conn) → is_some (option_map settled_note (stream_done x f.t f.a answer)) ≡ true) → is_some (done s answer) ≡ true
done_fronted s w f answer some =
    let x : Conn = record s { due = f.rest } in
    some_first s (act.OfStream f.id f.a) f.rest answer f.alive f.due_is
    (ap (λ (o : Option Tunnel). is_some (option_map settled_note (tunnel_done x o f.a answer))) f.on ∙ some x)

-- ---- verdicts

stream_judges : (x : Conn) (t : Tunnel) (a : StreamAct) (tunnel n at : ℕ) (flow : Flow) (v : Verdict) → stream_want t a ≡ Judge tunnel n flow
    → is_some (option_map settled_note (stream_done x t a (Judged v at))) ≡ true
stream_judges x t (stream.Payload m payload) tunnel n at flow v is = absurd cc
stream_judges x t (stream.Packet m packet on) tunnel n at flow v is = refl
stream_judges x t (stream.Push m to packet) tunnel n at flow v is = absurd cc
stream_judges x t (stream.Drop m cause) tunnel n at flow v is = absurd cc
stream_judges x t (stream.Assign asked) tunnel n at flow v is = absurd (by_case (nat_le most_values (values t)) is) where
  by_case : (g : Bool) → cond g (Ask (call.Close t.id)) (Ask (call.Assign t.id asked)) ≡ Judge tunnel n flow → ⊥
  by_case true e = cc
  by_case false e = cc
stream_judges x t (stream.Advertise ranges) tunnel n at flow v is = absurd cc
stream_judges x t (stream.Close why) tunnel n at flow v is = absurd cc

pub judge_some : (s : Conn) (tunnel n at : ℕ) (flow : Flow) (v : Verdict) → want_of s ≡ Judge tunnel n flow → is_some (done s (Judged v at)) ≡ true
judge_some s tunnel n at flow v is =
    let f = fronted s (Judge tunnel n flow) is tt in
    done_fronted s (Judge tunnel n flow) f (Judged v at) (λ x. stream_judges x f.t f.a tunnel n at flow v f.wants)

-- ---- pushes

stream_pushes : (x : Conn) (t : Tunnel) (a : StreamAct) (parcel : Parcel) (taken : Bool) → stream_want t a ≡ Push parcel
    → is_some (option_map settled_note (stream_done x t a (Pushed taken))) ≡ true
stream_pushes x t (stream.Payload m payload) parcel taken is = absurd cc
stream_pushes x t (stream.Packet m packet flow) parcel taken is = absurd cc
stream_pushes x t (stream.Push m to packet) parcel true is = refl
stream_pushes x t (stream.Push m to packet) parcel false is = refl
stream_pushes x t (stream.Drop m cause) parcel taken is = absurd cc
stream_pushes x t (stream.Assign asked) parcel taken is = absurd (by_case (nat_le most_values (values t)) is) where
  by_case : (g : Bool) → cond g (Ask (call.Close t.id)) (Ask (call.Assign t.id asked)) ≡ Push parcel → ⊥
  by_case true e = cc
  by_case false e = cc
stream_pushes x t (stream.Advertise ranges) parcel taken is = absurd cc
stream_pushes x t (stream.Close why) parcel taken is = absurd cc

pub push_some : (s : Conn) (parcel : Parcel) (taken : Bool) → want_of s ≡ Push parcel → is_some (done s (Pushed taken)) ≡ true
push_some s parcel taken is =
    let f = fronted s (Push parcel) is tt in
    done_fronted s (Push parcel) f (Pushed taken) (λ x. stream_pushes x f.t f.a parcel taken f.wants)

-- the packet of a push is well formed
stream_packet : (t : Tunnel) (a : StreamAct) (kind : Kind) (parcel : Parcel) → IsAsked kind a → stream_want t a ≡ Push parcel → IsParcel parcel
stream_packet t (stream.Payload m payload) kind parcel asked is = absurd cc
stream_packet t (stream.Packet m packet flow) kind parcel asked is = absurd cc
stream_packet t (stream.Push m to packet) kind parcel asked is =
    let same : record { from = origin.Tunnel t.id; n = m; to = to; packet = packet } ≡ parcel = cc in
    let P : Parcel → Type 0 = λ p. IsParcel p in subst P same asked.1
stream_packet t (stream.Drop m cause) kind parcel asked is = absurd cc
stream_packet t (stream.Assign list) kind parcel asked is = absurd (by_case (nat_le most_values (values t)) is) where
  by_case : (g : Bool) → cond g (Ask (call.Close t.id)) (Ask (call.Assign t.id list)) ≡ Push parcel → ⊥
  by_case true e = cc
  by_case false e = cc
stream_packet t (stream.Advertise ranges) kind parcel asked is = absurd cc
stream_packet t (stream.Close why) kind parcel asked is = absurd cc

pub push_packet : (s : Conn) (parcel : Parcel) → IsLawful s → want_of s ≡ Push parcel → IsParcel parcel
push_packet s parcel lawful is =
    let f = fronted s (Push parcel) is tt in
    let F : List Due → Type 0 = λ ds. Follows (kind_on s.tunnels) ds in
    let follows = subst F f.due_is lawful.loose.follows in
    let K : Option Kind → Type 0 = λ o. IsAskedOf o f.a in
    let kind_is : kind_on s.tunnels f.id ≡ Some (kind_of f.t.goal) = ap (λ (o : Option Tunnel). option_map (λ (t : Tunnel). kind_of t.goal) o) f.on in
    stream_packet f.t f.a (kind_of f.t.goal) parcel (subst K kind_is follows.0) f.wants

-- ---- addresses and ways

assign_told : (x : Conn) (t : Tunnel) (a : StreamAct) (of actor : ℕ) (list : List Asked) (config : Config) (h : History) (said : Reply)
    → stream_want t a ≡ Ask (call.Assign of list) → IsAnswer config h (call.Assign of list) said
    → is_some (option_map settled_note (stream_done x t a (Replied (asked_by h actor (call.Assign of list) said).reply))) ≡ true
assign_told x t (stream.Payload m payload) of actor list config h said is answer = absurd cc
assign_told x t (stream.Packet m packet flow) of actor list config h said is answer = absurd cc
assign_told x t (stream.Push m to packet) of actor list config h said is answer = absurd cc
assign_told x t (stream.Drop m cause) of actor list config h said is answer = absurd cc
assign_told x t (stream.Assign asked) of actor list config h (reply.Assigned given at) is answer = refl
assign_told x t (stream.Assign asked) of actor list config h (reply.HistoryFull entries live) is answer = refl
assign_told x t (stream.Assign asked) of actor list config h (reply.Opened tunnel routes) is answer = absurd answer
assign_told x t (stream.Assign asked) of actor list config h (reply.Accepted accepts at) is answer = absurd answer
assign_told x t (stream.Assign asked) of actor list config h reply.Closed is answer = absurd answer
assign_told x t (stream.Advertise ranges) of actor list config h said is answer = absurd cc
assign_told x t (stream.Close why) of actor list config h said is answer = absurd cc

advertise_told : (x : Conn) (t : Tunnel) (a : StreamAct) (of actor : ℕ) (list : List Range) (config : Config) (h : History) (said : Reply)
    → stream_want t a ≡ Ask (call.Advertise of list) → IsAnswer config h (call.Advertise of list) said
    → is_some (option_map settled_note (stream_done x t a (Replied (asked_by h actor (call.Advertise of list) said).reply))) ≡ true
advertise_told x t (stream.Payload m payload) of actor list config h said is answer = absurd cc
advertise_told x t (stream.Packet m packet flow) of actor list config h said is answer = absurd cc
advertise_told x t (stream.Push m to packet) of actor list config h said is answer = absurd cc
advertise_told x t (stream.Drop m cause) of actor list config h said is answer = absurd cc
advertise_told x t (stream.Assign asked) of actor list config h said is answer = absurd (by_case (nat_le most_values (values t)) is) where
  by_case : (g : Bool) → cond g (Ask (call.Close t.id)) (Ask (call.Assign t.id asked)) ≡ Ask (call.Advertise of list) → ⊥
  by_case true e = cc
  by_case false e = cc
advertise_told x t (stream.Advertise ranges) of actor list config h (reply.Accepted accepts at) is answer = refl
advertise_told x t (stream.Advertise ranges) of actor list config h (reply.HistoryFull entries live) is answer = refl
advertise_told x t (stream.Advertise ranges) of actor list config h (reply.Opened tunnel routes) is answer = absurd answer
advertise_told x t (stream.Advertise ranges) of actor list config h (reply.Assigned given at) is answer = absurd answer
advertise_told x t (stream.Advertise ranges) of actor list config h reply.Closed is answer = absurd answer
advertise_told x t (stream.Close why) of actor list config h said is answer = absurd cc

pub told_some : (s : Conn) (c : Call) (tunnel actor : ℕ) (config : Config) (h : History) (said : Reply) → IsFor tunnel c → want_of s ≡ Ask c → IsAnswer config h c said
    → is_some (done s (Replied (asked_by h actor c said).reply)) ≡ true
told_some s (call.Open conn id names goal) tunnel actor config h said of is answer = absurd of
told_some s (call.Close on) tunnel actor config h said of is answer = absurd of
told_some s (call.Assign on list) tunnel actor config h said of is answer =
    let f = fronted s (Ask (call.Assign on list)) is tt in
    done_fronted s (Ask (call.Assign on list)) f (Replied (asked_by h actor (call.Assign on list) said).reply) (λ x. assign_told x f.t f.a on actor list config h said f.wants answer)
told_some s (call.Advertise on list) tunnel actor config h said of is answer =
    let f = fronted s (Ask (call.Advertise on list)) is tt in
    done_fronted s (Ask (call.Advertise on list)) f (Replied (asked_by h actor (call.Advertise on list) said).reply) (λ x. advertise_told x f.t f.a on actor list config h said f.wants answer)
