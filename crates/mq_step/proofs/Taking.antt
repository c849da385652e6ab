-- A read keeps number, actor and tunnels, and what it asks for is no opening. And what is known of a connection that can read.
use Rattle.std.proofs.Common.{◌≡◌, ℕ, Bool, true, false, not, ◌&&◌, List, [], ◌∷◌, ◌++◌, length, nat_le, All, Option, Some, None, refl, sym, ap, ◌∙◌, subst}
use Rattle.std.proofs.lemmas.List.Elements.{All-cons, All-head, All-tail, All-nil, All-append}
use Rattle.mq_addr.specs.declared.addr.Addr.{Addr}
use Rattle.mq_talk.specs.declared.book.Call.TheVariants as call
use Rattle.mq_talk.specs.declared.goal.Goal.{Goal}
use Rattle.mq_talk.specs.declared.goal.Goal.TheVariants as goal
use Rattle.mq_talk.specs.declared.note.End.{End}
use Rattle.mq_machine.specs.declared.act.Act.TheVariants as act
use Rattle.mq_machine.specs.declared.act.StreamAct.{StreamAct}
use Rattle.mq_machine.specs.declared.act.Due.{Due}
use Rattle.mq_machine.specs.declared.act.Due.TheVariants as due
use Rattle.mq_machine.specs.declared.setup.Setup.{Setup}
use Rattle.mq_machine.proofs.Settling.{settled_rests}
use Rattle.mq_machine.specs.Settle.{passing, spending}
use Rattle.mq_machine.specs.State.{Conn, Tunnel, Stream, owed}
use Rattle.mq_machine.specs.Want.{Want, Nothing, Say, Bind, Ask, Judge, Push, Send, Over, want_of, want_by, due_want, may_wait}
use Rattle.mq_machine.specs.Steps.{is_nothing, is_ending, can_go_on, can_read, most_owed, finished}
use Rattle.mq_machine.specs.Reading.{TookNext, StreamEvent, Request, Malformed, Content, Reset, ConnectionError, Leads, Refused, EventAsks, EventsAsk, ContentAsks, on_stream, mark_of, goal_act, ended_acts, error_acts, reset_acts, stream_of}
use Rattle.mq_conn.specs.declared.conn.Conn.{Conn as Core}
use Rattle.mq_conn.specs.Conns.{IsConn}
use Rattle.mq_step.proofs.Keeping.{Kept, no_open, no_opens_cons, no_opens_nil, nothing_due, finished_keeps}
use Rattle.mq_step.proofs.Cores.{WantsNoOpen, none_opens, open_alive, go_on_opens}

-- ---- what a read asks for

-- an opening for UDP, which comes behind a bind alone
abbrev is_udp_open : Due → Bool
is_udp_open (due.Do (act.Open id (goal.Udp addr port))) = true
is_udp_open (due.Do (act.Open id (goal.Ip area protocol))) = false
is_udp_open (due.Do (act.Bind id g)) = false
is_udp_open (due.Do (act.Refuse id status rule)) = false
is_udp_open (due.Do (act.Reset id code)) = false
is_udp_open (due.Do (act.OfStream id a)) = false
is_udp_open (due.Spend id size) = false
is_udp_open (due.Fault code) = false

abbrev IsBound : Due → Type 0
IsBound d = is_udp_open d ≡ false

-- no opening for UDP is among these
abbrev Bounds : List Due → Type 0
Bounds ds = All IsBound ds

bounds_nil : Bounds []
bounds_nil = All-nil IsBound

bounds_cons : (d : Due) (ds : List Due) → is_udp_open d ≡ false → Bounds ds → Bounds (d ∷ ds)
bounds_cons d ds isnt none = All-cons IsBound d ds isnt none

bounds_one : (d : Due) → is_udp_open d ≡ false → Bounds (d ∷ [])
bounds_one d isnt = bounds_cons d [] isnt bounds_nil

goal_bound : (id : ℕ) (g : Goal) → is_udp_open (due.Do (goal_act id g)) ≡ false
goal_bound id (goal.Udp addr port) = refl
goal_bound id (goal.Ip area protocol) = refl

ended_bound : (id : ℕ) (ends : Bool) → Bounds (ended_acts id ends)
ended_bound id false = bounds_nil
ended_bound id true = bounds_one _ refl

mark_bound : (id : ℕ) (size : Option ℕ) → Bounds (mark_of id size)
mark_bound id None = bounds_nil
mark_bound id (Some size) = bounds_one _ refl

error_bound : (id code : ℕ) (o : Option Tunnel) → Bounds (error_acts id code o)
error_bound id code None = bounds_one _ refl
error_bound id code (Some t) = bounds_one _ refl

reset_bound : (id : ℕ) (o : Option Tunnel) → Bounds (reset_acts id o)
reset_bound id None = bounds_nil
reset_bound id (Some t) = bounds_one _ refl

stream_bound : (id : ℕ) (asked : List StreamAct) → Bounds (on_stream id asked)
stream_bound id [] = bounds_nil
stream_bound id (a ∷ asked) = bounds_cons (due.Do (act.OfStream id a)) (on_stream id asked) refl (stream_bound id asked)

content_bound : (mtu id : ℕ) (bytes : List ℕ) (size : Option ℕ) (ends : Bool) (o : Option Stream) (acts : List Due) → ContentAsks mtu id bytes size ends o acts → Bounds acts
content_bound mtu id bytes size ends None acts asks = subst Bounds (sym asks) (mark_bound id size)
content_bound mtu id bytes size ends (Some s) acts asks =
    subst Bounds (sym asks.2) (All-append IsBound (on_stream id asks.0) (mark_of id size) (stream_bound id asks.0) (mark_bound id size))

event_bound : (mtu : ℕ) (ts : List Tunnel) (old : List Stream) (e : StreamEvent) (acts : List Due) (new : List Stream) → EventAsks mtu ts old e acts new → Bounds acts
event_bound mtu ts old (Request id (Refused status rule) ends) acts new asks = subst Bounds (sym asks.0) (bounds_one _ refl)
event_bound mtu ts old (Request id (Leads g) ends) acts new asks =
    subst Bounds (sym asks.0) (bounds_cons (due.Do (goal_act id g)) (ended_acts id ends) (goal_bound id g) (ended_bound id ends))
event_bound mtu ts old (Malformed id code) acts new asks = subst Bounds (sym asks.0) (error_bound id code _)
event_bound mtu ts old (Content id bytes size ends) acts new asks = content_bound mtu id bytes size ends (stream_of old id) acts asks.0
event_bound mtu ts old (Reset id) acts new asks = subst Bounds (sym asks.0) (reset_bound id _)
event_bound mtu ts old (ConnectionError code) acts new asks = subst Bounds (sym asks.0) (bounds_one _ refl)

events_bound : (mtu : ℕ) (ts : List Tunnel) (old : List Stream) (events : List StreamEvent) (acts : List Due) (new : List Stream) → EventsAsk mtu ts old events acts new → Bounds acts
events_bound mtu ts old [] acts new asks = subst Bounds (sym asks.0) bounds_nil
events_bound mtu ts old (e ∷ events) acts new asks =
    subst Bounds (sym asks.5)
    (All-append IsBound asks.0 asks.2 (event_bound mtu ts old e asks.0 asks.1 asks.3) (events_bound mtu ts asks.1 events asks.2 new asks.4))

-- ---- the end of the act

passing_bound : (ds : List Due) (x : Conn) → Bounds ds → Bounds (passing ds x).due
passing_bound [] x bounds = bounds_nil
passing_bound (due.Do a ∷ rest) x bounds = bounds
passing_bound (due.Spend id size ∷ rest) x bounds = passing_bound rest (record x { front = spending x.front id size }) (All-tail IsBound (due.Spend id size) rest bounds)
passing_bound (due.Fault code ∷ rest) x bounds = bounds_nil

abbrev Same : Conn → Conn → Type 0
Same x y = (y.number ≡ x.number) × (y.actor ≡ x.actor) × (y.tunnels ≡ x.tunnels)

passing_same : (ds : List Due) (x : Conn) → Same x (passing ds x)
passing_same [] x = (refl, refl, refl)
passing_same (due.Do a ∷ rest) x = (refl, refl, refl)
passing_same (due.Spend id size ∷ rest) x = passing_same rest (record x { front = spending x.front id size })
passing_same (due.Fault code ∷ rest) x = (refl, refl, refl)

-- ---- what is wanted then

bound_opens : (x : Conn) (ds : List Due) (conn id actor : ℕ) (addr : Addr) (port : ℕ) → Bounds ds → due_want x ds ≡ Ask (call.Open conn id actor (goal.Udp addr port)) → ⊥
bound_opens x [] conn id actor addr port bounds w = cc
bound_opens x (due.Do (act.Bind on h) ∷ rest) conn id actor addr port bounds w = cc
bound_opens x (due.Do (act.Open on h) ∷ rest) conn id actor addr port bounds w =
    let same : h ≡ goal.Udp addr port = cc in
    let isnt = ap (λ (g : Goal). is_udp_open (due.Do (act.Open on g))) (sym same) ∙ All-head IsBound (due.Do (act.Open on h)) rest bounds in
    cc
bound_opens x (due.Do (act.Refuse on status rule) ∷ rest) conn id actor addr port bounds w = cc
bound_opens x (due.Do (act.Reset on code) ∷ rest) conn id actor addr port bounds w = cc
bound_opens x (due.Do (act.OfStream on a) ∷ rest) conn id actor addr port bounds w =
    let y : Conn = record x { due = due.Do (act.OfStream on a) ∷ []; ending = None } in
    no_open y conn id actor addr port (no_opens_cons (due.Do (act.OfStream on a)) [] refl no_opens_nil) w
bound_opens x (due.Spend on size ∷ rest) conn id actor addr port bounds w = cc
bound_opens x (due.Fault code ∷ rest) conn id actor addr port bounds w = cc

wants_bound : (c : Core) (t : Conn) → IsConn c t → Bounds t.due → WantsNoOpen t
wants_bound c t is bounds conn id actor addr port w =
    let alive : t.ending ≡ None = (open_alive c t conn id actor (goal.Udp addr port) is w).0 in
    bound_opens t t.due conn id actor addr port bounds (ap (λ (e : Option End). want_by t e) (sym alive) ∙ w)

-- a read keeps number, actor and tunnels, and what it asks for is no opening
pub took_keeps : (setup : Setup) (c : Core) (s t : Conn) (bytes : List ℕ) → TookNext setup s bytes t → IsConn c t → Kept s t
took_keeps setup c s t bytes took is =
    let x : Conn = record s { front = took.front; streams = took.streams; due = took.acts; out = s.out ++ took.text } in
    let same = passing_same took.acts x in
    let new_is = took.new_is ∙ settled_rests (passing took.acts x) in
    let bounds = passing_bound took.acts x (events_bound setup.mtu s.tunnels s.streams took.events took.acts took.streams took.asks) in
    record {
      number = ap (λ (y : Conn). y.number) new_is ∙ same.0;
      actor = ap (λ (y : Conn). y.actor) new_is ∙ same.1;
      tunnels = ap (λ (y : Conn). y.tunnels) new_is ∙ same.2;
      opens = none_opens c t is (wants_bound c t is (subst (λ (y : Conn). Bounds y.due) (sym new_is) bounds));
    }

-- ---- a connection that can read, or go on

both : (a b : Bool) → (a && b) ≡ true → (a ≡ true) × (b ≡ true)
both true b is = (refl, is)
both false b is = absurd cc

-- one that can read can go on
pub can_go : (s : Conn) → can_read s ≡ true → can_go_on s ≡ true
can_go s is = (both (can_go_on s) (not s.is_finished) is).0

alive_by : (e : Option End) → not (is_ending e) ≡ true → e ≡ None
alive_by None is = refl
alive_by (Some why) is = absurd cc

-- it isn't ending
pub go_alive : (s : Conn) → can_go_on s ≡ true → s.ending ≡ None
go_alive s is = alive_by s.ending (both (is_nothing (want_of s) && nat_le (length (owed s)) most_owed) (not (is_ending s.ending)) is).1

nothing_by : (w : Want) → is_nothing w ≡ true → w ≡ Nothing
nothing_by Nothing is = refl
nothing_by Say is = absurd cc
nothing_by (Bind id g) is = absurd cc
nothing_by (Ask asked) is = absurd cc
nothing_by (Judge tunnel n flow) is = absurd cc
nothing_by (Push parcel) is = absurd cc
nothing_by (Send tunnel n payload) is = absurd cc
nothing_by (Over why) is = absurd cc

-- it wants nothing
pub go_wants : (s : Conn) → can_go_on s ≡ true → want_of s ≡ Nothing
go_wants s is = nothing_by (want_of s) (nothing_due s is)

-- the end of its link
pub finished_alone : (c : Core) (s : Conn) (inside : Bool) → IsConn c s → can_read s ≡ true → Kept s (finished s inside).1
finished_alone c s inside is can = finished_keeps s inside (go_on_opens c s is (can_go s can))

-- one that waits for its client or its port opens nothing
pub waits_unopened : (w : Want) → may_wait w ≡ true → (conn id actor : ℕ) (goal : Goal) → w ≡ Ask (call.Open conn id actor goal) → ⊥
waits_unopened Nothing is conn id actor g e = cc
waits_unopened Say is conn id actor g e = cc
waits_unopened (Bind on h) is conn id actor g e = cc
waits_unopened (Ask asked) is conn id actor g e = cc
waits_unopened (Judge tunnel n flow) is conn id actor g e = cc
waits_unopened (Push parcel) is conn id actor g e = cc
waits_unopened (Send tunnel n payload) is conn id actor g e = cc
waits_unopened (Over why) is conn id actor g e = cc
