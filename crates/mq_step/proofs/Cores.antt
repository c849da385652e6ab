-- What is known of a connection whose core stands for it. Nothing else above the core looks at how it stands: these facts hold
-- of a connection with any number of tunnels, too.
use Rattle.std.proofs.Common.{◌≡◌, ◌⊎◌, ℕ, ◌==◌, ◌+◌, cond, Bool, true, false, nat_le, inl, inr, List, [], ◌∷◌, drop, Option, Some, None, refl, sym, ap, ◌∙◌, subst, eqb-true, ne_eqb, ◌≢◌}
use Rattle.std.specs.Prelude.{find, option_map}
use Rattle.std.specs.List.{list_any}
use Rattle.mq_addr.specs.declared.addr.Addr.{Addr}
use Rattle.mq_addr.specs.declared.entry.Asked.{Asked}
use Rattle.mq_addr.specs.declared.kind.Kind.{Kind}
use Rattle.mq_addr.specs.declared.range.Flow.{Flow}
use Rattle.mq_addr.specs.declared.range.Range.{Range}
use Rattle.mq_talk.specs.declared.book.Call.{Call}
use Rattle.mq_talk.specs.declared.book.Call.TheVariants as call
use Rattle.mq_talk.specs.declared.goal.Goal.{Goal}
use Rattle.mq_talk.specs.declared.goal.Goal.TheVariants as goal
use Rattle.mq_talk.specs.declared.note.End.{End}
use Rattle.mq_talk.specs.declared.place.Parcel.{Parcel}
use Rattle.mq_talk.specs.declared.place.Place.{Place}
use Rattle.mq_talk.specs.Mails.{HasInbox}
use Rattle.mq_machine.specs.declared.act.Act.TheVariants as act
use Rattle.mq_machine.specs.declared.act.StreamAct.{StreamAct}
use Rattle.mq_machine.specs.declared.act.StreamAct.TheVariants as stream
use Rattle.mq_machine.specs.declared.act.Due.{Due}
use Rattle.mq_machine.specs.declared.act.Due.TheVariants as due
use Rattle.mq_machine.specs.Laws.{BeginsWithAct}
use Rattle.mq_machine.specs.Lawful.{AreNumbered, IsAsked, IsAskedOf, IsOfUdp, IsOver, Alone, Follows, Numbered, has_number, is_open, kind_on, has_on}
use Rattle.mq_machine.specs.Placing.{ArePlaced, IsStreamPlaced}
use Rattle.mq_machine.specs.Settle.{gives_up, passing, settled}
use Rattle.mq_machine.specs.State.{Conn, Tunnel, kind_of, owed, tunnel_of, tunnel_on, values}
use Rattle.mq_machine.specs.Want.{Want, Nothing, Say, Bind, Ask, Judge, Push, Send, Over, want_of, want_by, ending_want, over_want, due_want, stream_want, tunnel_want, most_values}
use Rattle.mq_machine.specs.Steps.{is_nothing, can_go_on, wrote}
use Rattle.mq_machine.proofs.Lawful.Idle as lawful
use Rattle.mq_machine.proofs.Lawful.Lists.{itself, or_false, unless_true, never, In, found_in, in_has, in_number}
use Rattle.mq_machine.proofs.Settling.{settled_rests}
use Rattle.mq_conn.specs.declared.conn.Conn.{Conn as Core}
use Rattle.mq_conn.specs.Wants.{HandsOver}
use Rattle.mq_conn.specs.Conns.{IsConn}
use Rattle.mq_held.specs.Answers.{IsFor}
use Rattle.mq_held.proofs.Streams.{fronted}
use Rattle.mq_step.specs.Holds.{port_number}
use Rattle.mq_step.proofs.Keeping.{NoOpens, nothing_due, no_opens_nil, no_opens_cons}
use Rattle.mq_machine.specs.Silent.{may_starve}

-- ---- openings

none_open : (ds : List Due) → list_any is_open ds ≡ false → NoOpens ds
none_open [] h = no_opens_nil
none_open (d ∷ ds) h = let x = or_false (is_open d) (list_any is_open ds) h in no_opens_cons d ds x.0 (none_open ds x.1)

-- behind what is due first no tunnel for UDP opens
pub tail_opens : (c : Core) (s : Conn) → IsConn c s → NoOpens (drop 1 s.due)
tail_opens c s is = none_open (drop 1 s.due) is.lawful.loose.opens

-- what it wants, by what is due first
wants_first : (s : Conn) (ds : List Due) → s.ending ≡ None → s.due ≡ ds → want_of s ≡ due_want s ds
wants_first s ds ending first = ap (λ (e : Option End). want_by s e) ending ∙ ap (λ (x : List Due). due_want s x) first

wants_ending : (s : Conn) (why : End) → s.ending ≡ Some why → want_of s ≡ ending_want s why s.tunnels
wants_ending s why ending = ap (λ (e : Option End). want_by s e) ending

-- a connection that wants no opening of a tunnel for UDP
abbrev pub WantsNoOpen : Conn → Type 0
WantsNoOpen s = (conn id actor : ℕ) (addr : Addr) (port : ℕ) → want_of s ≡ Ask (call.Open conn id actor (goal.Udp addr port)) → ⊥

none_first : (s : Conn) (ds : List Due) → BeginsWithAct ds → NoOpens (drop 1 ds) → s.ending ≡ None → s.due ≡ ds → WantsNoOpen s → NoOpens ds
none_first s [] begins tail ending first none = no_opens_nil
none_first s (due.Do (act.Bind id goal) ∷ rest) begins tail ending first none = no_opens_cons _ rest refl tail
none_first s (due.Do (act.Open id (goal.Udp addr port)) ∷ rest) begins tail ending first none =
    absurd (none s.number id s.actor addr port (wants_first s (due.Do (act.Open id (goal.Udp addr port)) ∷ rest) ending first))
none_first s (due.Do (act.Open id (goal.Ip area protocol)) ∷ rest) begins tail ending first none = no_opens_cons _ rest refl tail
none_first s (due.Do (act.Refuse id status rule) ∷ rest) begins tail ending first none = no_opens_cons _ rest refl tail
none_first s (due.Do (act.Reset id code) ∷ rest) begins tail ending first none = no_opens_cons _ rest refl tail
none_first s (due.Do (act.OfStream id a) ∷ rest) begins tail ending first none = no_opens_cons _ rest refl tail
none_first s (due.Spend id size ∷ rest) begins tail ending first none = absurd begins
none_first s (due.Fault code ∷ rest) begins tail ending first none = absurd begins

none_by : (s : Conn) (e : Option End) → IsOver e s.due → BeginsWithAct s.due → NoOpens (drop 1 s.due) → s.ending ≡ e → WantsNoOpen s → NoOpens s.due
none_by s None over begins tail ending none = none_first s s.due begins tail ending refl none
none_by s (Some why) over begins tail ending none = subst NoOpens (sym over) no_opens_nil

-- so none is due
pub none_opens : (c : Core) (s : Conn) → IsConn c s → WantsNoOpen s → NoOpens s.due
none_opens c s is none = none_by s s.ending is.lawful.loose.over is.lawful.settled (tail_opens c s is) refl none

over_asks_nothing : (why : End) (bytes : List ℕ) (asked : Call) → over_want why bytes ≡ Ask asked → ⊥
over_asks_nothing why [] asked w = cc
over_asks_nothing why (b ∷ bytes) asked w = by_case (gives_up why) w where
  by_case : (g : Bool) → cond g (Over why) Nothing ≡ Ask asked → ⊥
  by_case true e = cc
  by_case false e = cc

-- ---- an opening

tunnel_opens : (o : Option Tunnel) (a : StreamAct) (conn id actor : ℕ) (goal : Goal) → tunnel_want o a ≡ Ask (call.Open conn id actor goal) → ⊥
tunnel_opens None a conn id actor goal w = cc
tunnel_opens (Some t) (stream.Payload n payload) conn id actor goal w = cc
tunnel_opens (Some t) (stream.Packet n packet flow) conn id actor goal w = cc
tunnel_opens (Some t) (stream.Push n to packet) conn id actor goal w = cc
tunnel_opens (Some t) (stream.Drop n cause) conn id actor goal w = cc
tunnel_opens (Some t) (stream.Assign asked) conn id actor goal w = by_case (nat_le most_values (values t)) w
  where
    by_case : (b : Bool) → cond b (Ask (call.Close t.id)) (Ask (call.Assign t.id asked)) ≡ Ask (call.Open conn id actor goal) → ⊥
    by_case true e = cc
    by_case false e = cc
tunnel_opens (Some t) (stream.Advertise ranges) conn id actor goal w = cc
tunnel_opens (Some t) (stream.Close why) conn id actor goal w = cc

-- it names itself and its actor
abbrev NamesItself : Conn → ℕ → ℕ → Type 0
NamesItself s conn actor = (conn ≡ s.number) × (actor ≡ s.actor)

due_opens : (s : Conn) (ds : List Due) (conn id actor : ℕ) (goal : Goal) → Follows (kind_on s.tunnels) ds → due_want s ds ≡ Ask (call.Open conn id actor goal) → NamesItself s conn actor
due_opens s [] conn id actor goal h w = absurd cc
due_opens s (due.Do (act.Bind on g) ∷ rest) conn id actor goal h w = absurd cc
due_opens s (due.Do (act.Open on g) ∷ rest) conn id actor goal h w = (cc, cc)
due_opens s (due.Do (act.Refuse on status rule) ∷ rest) conn id actor goal h w = absurd cc
due_opens s (due.Do (act.Reset on code) ∷ rest) conn id actor goal h w = absurd cc
due_opens s (due.Do (act.OfStream on a) ∷ rest) conn id actor goal h w = absurd (tunnel_opens (tunnel_on s on) a conn id actor goal w)
due_opens s (due.Spend on size ∷ rest) conn id actor goal h w = absurd cc
due_opens s (due.Fault code ∷ rest) conn id actor goal h w = absurd cc

ending_opens : (s : Conn) (why : End) (ts : List Tunnel) (conn id actor : ℕ) (goal : Goal) → ending_want s why ts ≡ Ask (call.Open conn id actor goal) → ⊥
ending_opens s why [] conn id actor goal w = over_asks_nothing why (owed s) (call.Open conn id actor goal) w
ending_opens s why (t ∷ ts) conn id actor goal w = cc

opens_by : (s : Conn) (e : Option End) (conn id actor : ℕ) (goal : Goal) → s.ending ≡ e → Follows (kind_on s.tunnels) s.due → want_by s e ≡ Ask (call.Open conn id actor goal)
    → (s.ending ≡ None) × (conn ≡ s.number) × (actor ≡ s.actor)
opens_by s None conn id actor goal ending h w = let names = due_opens s s.due conn id actor goal h w in (ending, names.0, names.1)
opens_by s (Some why) conn id actor goal ending h w = absurd (ending_opens s why s.tunnels conn id actor goal w)

-- a connection that opens a tunnel isn't ending, and names itself and its actor
pub open_alive : (c : Core) (s : Conn) (conn id actor : ℕ) (goal : Goal) → IsConn c s → want_of s ≡ Ask (call.Open conn id actor goal)
    → (s.ending ≡ None) × (conn ≡ s.number) × (actor ≡ s.actor)
open_alive c s conn id actor goal is w = opens_by s s.ending conn id actor goal refl is.lawful.loose.follows w

-- ---- a close

-- a live tunnel of this number
abbrev HasTunnel : Conn → ℕ → Type 0
HasTunnel s tunnel = (t : Tunnel) × In t s.tunnels × (t.id ≡ tunnel)

find_some : (test : Tunnel → Bool) (ts : List Tunnel) (t : Tunnel) → In t ts → test t ≡ true → (u : Tunnel) × (find test ts ≡ Some u)
find_some test [] t i h = absurd i
find_some test (v ∷ vs) t (inl e) h = (v, ap {B = Option Tunnel} (λ (b : Bool). cond b (Some v) (find test vs)) (ap test e ∙ h))
find_some test (v ∷ vs) t (inr i) h = by_test (test v) (find_some test vs t i h) where
  by_test : (b : Bool) → (u : Tunnel) × (find test vs ≡ Some u) → (u : Tunnel) × (cond b (Some v) (find test vs) ≡ Some u)
  by_test true found = (v, refl)
  by_test false found = found

-- the look-up of its number finds one
looked_up : (s : Conn) (tunnel : ℕ) → HasTunnel s tunnel → (t : Tunnel) × (tunnel_of s tunnel ≡ Some t)
looked_up s tunnel (t, live, same) = find_some (λ (x : Tunnel). x.id == tunnel) s.tunnels t live (ap (λ (k : ℕ). k == tunnel) same ∙ itself tunnel)

-- a tunnel that was looked up by its stream is live
on_live : (s : Conn) (on : ℕ) (u : Tunnel) (tunnel : ℕ) → tunnel_on s on ≡ Some u → u.id ≡ tunnel → HasTunnel s tunnel
on_live s on u tunnel is same = (u, (found_in (λ (x : Tunnel). x.stream == on) s.tunnels u is).1, same)

tunnel_closes : (s : Conn) (on : ℕ) (x : Option Tunnel) (a : StreamAct) (tunnel : ℕ) → tunnel_on s on ≡ x → tunnel_want x a ≡ Ask (call.Close tunnel) → HasTunnel s tunnel
tunnel_closes s on None a tunnel is w = absurd cc
tunnel_closes s on (Some u) (stream.Payload n payload) tunnel is w = absurd cc
tunnel_closes s on (Some u) (stream.Packet n packet flow) tunnel is w = absurd cc
tunnel_closes s on (Some u) (stream.Push n to packet) tunnel is w = absurd cc
tunnel_closes s on (Some u) (stream.Drop n cause) tunnel is w = absurd cc
tunnel_closes s on (Some u) (stream.Assign asked) tunnel is w = by_case (nat_le most_values (values u)) w
  where
    by_case : (b : Bool) → cond b (Ask (call.Close u.id)) (Ask (call.Assign u.id asked)) ≡ Ask (call.Close tunnel) → HasTunnel s tunnel
    by_case true e = on_live s on u tunnel is cc
    by_case false e = absurd cc
tunnel_closes s on (Some u) (stream.Advertise ranges) tunnel is w = absurd cc
tunnel_closes s on (Some u) (stream.Close why) tunnel is w = on_live s on u tunnel is cc

due_closes : (s : Conn) (ds : List Due) (tunnel : ℕ) → Follows (kind_on s.tunnels) ds → due_want s ds ≡ Ask (call.Close tunnel) → HasTunnel s tunnel
due_closes s [] tunnel h w = absurd cc
due_closes s (due.Do (act.Bind on g) ∷ rest) tunnel h w = absurd cc
due_closes s (due.Do (act.Open on g) ∷ rest) tunnel h w = absurd cc
due_closes s (due.Do (act.Refuse on status rule) ∷ rest) tunnel h w = absurd cc
due_closes s (due.Do (act.Reset on code) ∷ rest) tunnel h w = absurd cc
due_closes s (due.Do (act.OfStream on a) ∷ rest) tunnel h w = tunnel_closes s on (tunnel_on s on) a tunnel refl w
due_closes s (due.Spend on size ∷ rest) tunnel h w = absurd cc
due_closes s (due.Fault code ∷ rest) tunnel h w = absurd cc

ending_closes : (s : Conn) (why : End) (ts : List Tunnel) (tunnel : ℕ) → ending_want s why ts ≡ Ask (call.Close tunnel) → (t : Tunnel) × In t ts × (t.id ≡ tunnel)
ending_closes s why [] tunnel w = absurd (over_asks_nothing why (owed s) (call.Close tunnel) w)
ending_closes s why (t ∷ ts) tunnel w = (t, inl refl, cc)

closes_by : (s : Conn) (e : Option End) (tunnel : ℕ) → Follows (kind_on s.tunnels) s.due → want_by s e ≡ Ask (call.Close tunnel) → HasTunnel s tunnel
closes_by s None tunnel h w = due_closes s s.due tunnel h w
closes_by s (Some why) tunnel h w = ending_closes s why s.tunnels tunnel w

-- a tunnel that it closes is one of its own
pub close_live : (c : Core) (s : Conn) (tunnel : ℕ) → IsConn c s → want_of s ≡ Ask (call.Close tunnel) → (t : Tunnel) × (tunnel_of s tunnel ≡ Some t)
close_live c s tunnel is w = looked_up s tunnel (closes_by s s.ending tunnel is.lawful.loose.follows w)

-- ---- a send

-- a payload goes to the port of its tunnel, which is for UDP
send_of : (t : Tunnel) (a : StreamAct) (tunnel n : ℕ) (payload : List ℕ) (kind : Kind) → stream_want t a ≡ Send tunnel n payload → IsAsked kind a → (t.id ≡ tunnel) × IsOfUdp kind
send_of t (stream.Payload k bytes) tunnel n payload kind w asked = (cc, asked)
send_of t (stream.Packet k packet flow) tunnel n payload kind w asked = absurd cc
send_of t (stream.Push k to packet) tunnel n payload kind w asked = absurd cc
send_of t (stream.Drop k cause) tunnel n payload kind w asked = absurd cc
send_of t (stream.Assign list) tunnel n payload kind w asked = absurd (by_case (nat_le most_values (values t)) w) where
  by_case : (b : Bool) → cond b (Ask (call.Close t.id)) (Ask (call.Assign t.id list)) ≡ Send tunnel n payload → ⊥
  by_case true e = cc
  by_case false e = cc
send_of t (stream.Advertise ranges) tunnel n payload kind w asked = absurd cc
send_of t (stream.Close why) tunnel n payload kind w asked = absurd cc

-- the look-up of a number finds the one tunnel that has it
number_finds : (ts : List Tunnel) (t : Tunnel) → Numbered ts → In t ts → find (λ (u : Tunnel). u.id == t.id) ts ≡ Some t
number_finds [] t numbered i = absurd i
number_finds (v ∷ vs) t numbered (inl e) =
    ap {B = Option Tunnel} (λ (b : Bool). cond b (Some v) (find (λ (u : Tunnel). u.id == t.id) vs)) (ap (λ (u : Tunnel). u.id == t.id) e ∙ itself t.id) ∙ ap {B = Option Tunnel} (λ (u : Tunnel). Some u) e
number_finds (v ∷ vs) t numbered (inr i) =
    let other : v.id ≢ t.id = λ same. let e : true ≡ false = sym (ap (has_number vs) same ∙ in_number vs t i) ∙ numbered.0 in cc in
    ap {B = Option Tunnel} (λ (b : Bool). cond b (Some v) (find (λ (u : Tunnel). u.id == t.id) vs)) (ne_eqb v.id t.id other) ∙ number_finds vs t numbered.1 i

pub numbered_by : (e : Option End) (ts : List Tunnel) → e ≡ None → AreNumbered e ts → Numbered ts
numbered_by None ts alive numbered = numbered
numbered_by (Some why) ts alive numbered = absurd cc

udp_number : (g : Goal) (id : ℕ) → IsOfUdp (kind_of g) → port_number g id ≡ id ∷ []
udp_number (goal.Udp addr port) id udp = refl
udp_number (goal.Ip area protocol) id udp = absurd udp

-- an ending connection sends, says and binds nothing
abbrev IsEndingWant : Want → Type 0
IsEndingWant Nothing = Unit {0}
IsEndingWant Say = ⊥
IsEndingWant (Bind id goal) = ⊥
IsEndingWant (Ask asked) = Unit {0}
IsEndingWant (Judge tunnel n flow) = ⊥
IsEndingWant (Push parcel) = ⊥
IsEndingWant (Send tunnel n payload) = ⊥
IsEndingWant (Over why) = Unit {0}

over_ends : (why : End) (bytes : List ℕ) → IsEndingWant (over_want why bytes)
over_ends why [] = tt
over_ends why (b ∷ bytes) = by_case (gives_up why) where
  by_case : (g : Bool) → IsEndingWant (cond g (Over why) Nothing)
  by_case true = tt
  by_case false = tt

ending_ends : (s : Conn) (why : End) (ts : List Tunnel) → IsEndingWant (ending_want s why ts)
ending_ends s why [] = over_ends why (owed s)
ending_ends s why (t ∷ ts) = tt

ends_not : (s : Conn) (why : End) (w : Want) → ending_want s why s.tunnels ≡ w → IsEndingWant w
ends_not s why w is = subst IsEndingWant is (ending_ends s why s.tunnels)

-- a tunnel to whose port it sends is one of its own, for UDP, and it isn't ending
pub send_live : (c : Core) (s : Conn) (tunnel n : ℕ) (payload : List ℕ) → IsConn c s → want_of s ≡ Send tunnel n payload
    → (t : Tunnel) × (tunnel_of s tunnel ≡ Some t) × (s.ending ≡ None) × (port_number t.goal t.id ≡ t.id ∷ [])
send_live c s tunnel n payload is w =
    let f = fronted s (Send tunnel n payload) w tt in
    let F : List Due → Type 0 = λ ds. Follows (kind_on s.tunnels) ds in
    let K : Option Kind → Type 0 = λ o. IsAskedOf o f.a in
    let kind_is : kind_on s.tunnels f.id ≡ Some (kind_of f.t.goal) = ap (λ (o : Option Tunnel). option_map (λ (u : Tunnel). kind_of u.goal) o) f.on in
    let of = send_of f.t f.a tunnel n payload (kind_of f.t.goal) f.wants (subst K kind_is (subst F f.due_is is.lawful.loose.follows).0) in
    let there = (found_in (λ (u : Tunnel). u.stream == f.id) s.tunnels f.t f.on).1 in
    let found = number_finds s.tunnels f.t (numbered_by s.ending s.tunnels f.alive is.lawful.loose.numbered) there in
    (f.t, ap (λ (k : ℕ). find (λ (u : Tunnel). u.id == k) s.tunnels) (sym of.0) ∙ found, f.alive, udp_number f.t.goal f.t.id of.1)

-- ---- what it does while it isn't ending

say_by : (s : Conn) (e : Option End) → s.ending ≡ e → want_by s e ≡ Say → s.ending ≡ None
say_by s None ending w = ending
say_by s (Some why) ending w = absurd (ends_not s why Say w)

pub said_alive : (c : Core) (s : Conn) → IsConn c s → want_of s ≡ Say → s.ending ≡ None
said_alive c s is w = say_by s s.ending refl w

bind_by : (s : Conn) (e : Option End) (id : ℕ) (goal : Goal) → s.ending ≡ e → want_by s e ≡ Bind id goal → s.ending ≡ None
bind_by s None id goal ending w = ending
bind_by s (Some why) id goal ending w = absurd (ends_not s why (Bind id goal) w)

pub bind_alive : (c : Core) (s : Conn) (id : ℕ) (goal : Goal) → IsConn c s → want_of s ≡ Bind id goal → s.ending ≡ None
bind_alive c s id goal is w = bind_by s s.ending id goal refl w

-- ---- a tunnel for IP packets

-- a verdict is asked for a packet of a live tunnel
pub judge_live : (s : Conn) (tunnel n : ℕ) (flow : Flow) → want_of s ≡ Judge tunnel n flow → (t : Tunnel) × (tunnel_of s tunnel ≡ Some t)
judge_live s tunnel n flow w =
    let f = fronted s (Judge tunnel n flow) w tt in
    looked_up s tunnel (on_live s f.id f.t tunnel f.on (judge_of f.t f.a tunnel n flow f.wants)) where
      judge_of : (t : Tunnel) (a : StreamAct) (tunnel n : ℕ) (flow : Flow) → stream_want t a ≡ Judge tunnel n flow → t.id ≡ tunnel
      judge_of t (stream.Payload m payload) tunnel n flow is = absurd cc
      judge_of t (stream.Packet m packet on) tunnel n flow is = cc
      judge_of t (stream.Push m to packet) tunnel n flow is = absurd cc
      judge_of t (stream.Drop m cause) tunnel n flow is = absurd cc
      judge_of t (stream.Assign asked) tunnel n flow is = by_case (nat_le most_values (values t)) is where
        by_case : (b : Bool) → cond b (Ask (call.Close t.id)) (Ask (call.Assign t.id asked)) ≡ Judge tunnel n flow → t.id ≡ tunnel
        by_case true e = absurd cc
        by_case false e = absurd cc
      judge_of t (stream.Advertise ranges) tunnel n flow is = absurd cc
      judge_of t (stream.Close why) tunnel n flow is = absurd cc

-- addresses and ways are asked for a live tunnel
assign_of : (t : Tunnel) (a : StreamAct) (tunnel : ℕ) (list : List Asked) → stream_want t a ≡ Ask (call.Assign tunnel list) → t.id ≡ tunnel
assign_of t (stream.Payload m payload) tunnel list is = absurd cc
assign_of t (stream.Packet m packet flow) tunnel list is = absurd cc
assign_of t (stream.Push m to packet) tunnel list is = absurd cc
assign_of t (stream.Drop m cause) tunnel list is = absurd cc
assign_of t (stream.Assign asked) tunnel list is = by_case (nat_le most_values (values t)) is where
  by_case : (b : Bool) → cond b (Ask (call.Close t.id)) (Ask (call.Assign t.id asked)) ≡ Ask (call.Assign tunnel list) → t.id ≡ tunnel
  by_case true e = absurd cc
  by_case false e = cc
assign_of t (stream.Advertise ranges) tunnel list is = absurd cc
assign_of t (stream.Close why) tunnel list is = absurd cc

advertise_of : (t : Tunnel) (a : StreamAct) (tunnel : ℕ) (list : List Range) → stream_want t a ≡ Ask (call.Advertise tunnel list) → t.id ≡ tunnel
advertise_of t (stream.Payload m payload) tunnel list is = absurd cc
advertise_of t (stream.Packet m packet flow) tunnel list is = absurd cc
advertise_of t (stream.Push m to packet) tunnel list is = absurd cc
advertise_of t (stream.Drop m cause) tunnel list is = absurd cc
advertise_of t (stream.Assign asked) tunnel list is = by_case (nat_le most_values (values t)) is where
  by_case : (b : Bool) → cond b (Ask (call.Close t.id)) (Ask (call.Assign t.id asked)) ≡ Ask (call.Advertise tunnel list) → t.id ≡ tunnel
  by_case true e = absurd cc
  by_case false e = absurd cc
advertise_of t (stream.Advertise ranges) tunnel list is = cc
advertise_of t (stream.Close why) tunnel list is = absurd cc

pub tell_live : (s : Conn) (asked : Call) (tunnel : ℕ) → IsFor tunnel asked → want_of s ≡ Ask asked → (t : Tunnel) × (tunnel_of s tunnel ≡ Some t)
tell_live s (call.Open conn id actor goal) tunnel of w = absurd of
tell_live s (call.Close on) tunnel of w = absurd of
tell_live s (call.Assign on list) tunnel of w =
    let f = fronted s (Ask (call.Assign on list)) w tt in
    looked_up s tunnel (on_live s f.id f.t tunnel f.on (assign_of f.t f.a on list f.wants ∙ of))
tell_live s (call.Advertise on list) tunnel of w =
    let f = fronted s (Ask (call.Advertise on list)) w tt in
    looked_up s tunnel (on_live s f.id f.t tunnel f.on (advertise_of f.t f.a on list f.wants ∙ of))

-- and such a connection isn't ending
pub tell_alive : (s : Conn) (asked : Call) (tunnel : ℕ) → IsFor tunnel asked → want_of s ≡ Ask asked → s.ending ≡ None
tell_alive s (call.Open conn id actor goal) tunnel of w = absurd of
tell_alive s (call.Close on) tunnel of w = absurd of
tell_alive s (call.Assign on list) tunnel of w = (fronted s (Ask (call.Assign on list)) w tt).alive
tell_alive s (call.Advertise on list) tunnel of w = (fronted s (Ask (call.Advertise on list)) w tt).alive

-- a list that is handed over takes memory
pub hands_starve : (w : Want) → HandsOver w → may_starve w ≡ true
hands_starve Nothing hands = absurd hands
hands_starve Say hands = absurd hands
hands_starve (Bind id goal) hands = absurd hands
hands_starve (Ask (call.Open conn id actor goal)) hands = absurd hands
hands_starve (Ask (call.Close on)) hands = absurd hands
hands_starve (Ask (call.Assign on list)) hands = refl
hands_starve (Ask (call.Advertise on list)) hands = refl
hands_starve (Judge tunnel n flow) hands = absurd hands
hands_starve (Push parcel) hands = absurd hands
hands_starve (Send tunnel n payload) hands = absurd hands
hands_starve (Over why) hands = absurd hands

-- what it pushes is due first
push_placed : (t : Tunnel) (a : StreamAct) (workers : ℕ) (parcel : Parcel) → IsStreamPlaced workers a → stream_want t a ≡ Push parcel → HasInbox workers parcel.to
push_placed t (stream.Payload m payload) workers parcel placed is = absurd cc
push_placed t (stream.Packet m packet flow) workers parcel placed is = absurd cc
push_placed t (stream.Push m to packet) workers parcel placed is =
    let same : to ≡ parcel.to = cc in
    let P : Place → Type 0 = λ p. HasInbox workers p in subst P same placed
push_placed t (stream.Drop m cause) workers parcel placed is = absurd cc
push_placed t (stream.Assign asked) workers parcel placed is = absurd (by_case (nat_le most_values (values t)) is) where
  by_case : (b : Bool) → cond b (Ask (call.Close t.id)) (Ask (call.Assign t.id asked)) ≡ Push parcel → ⊥
  by_case true e = cc
  by_case false e = cc
push_placed t (stream.Advertise ranges) workers parcel placed is = absurd cc
push_placed t (stream.Close why) workers parcel placed is = absurd cc

-- and goes to an inbox that there is
pub push_has : (s : Conn) (workers : ℕ) (parcel : Parcel) → ArePlaced workers s.due → want_of s ≡ Push parcel → HasInbox workers parcel.to
push_has s workers parcel places w =
    let f = fronted s (Push parcel) w tt in
    let P : List Due → Type 0 = λ ds. ArePlaced workers ds in
    push_placed f.t f.a workers parcel (subst P f.due_is places).0 f.wants

-- ---- a failure

over_gives_up : (why : End) (bytes : List ℕ) → gives_up why ≡ true → over_want why bytes ≡ Over why
over_gives_up why [] fails = refl
over_gives_up why (b ∷ bytes) fails = ap (λ (g : Bool). cond g (Over why) Nothing) fails

ending_gives_up : (s : Conn) (why : End) (ts : List Tunnel) → gives_up why ≡ true → ((tunnel : ℕ) × (ending_want s why ts ≡ Ask (call.Close tunnel))) ⊎ (ending_want s why ts ≡ Over why)
ending_gives_up s why [] fails = inr (over_gives_up why (owed s) fails)
ending_gives_up s why (t ∷ ts) fails = inl (t.id, refl)

-- a connection whose link or memory failed wants only its close or its end
pub gives_up_wants : (s : Conn) (why : End) → gives_up why ≡ true → s.ending ≡ Some why → ((tunnel : ℕ) × (want_of s ≡ Ask (call.Close tunnel))) ⊎ (want_of s ≡ Over why)
gives_up_wants s why fails ending =
    let P : Want → Type 0 = λ w. ((tunnel : ℕ) × (w ≡ Ask (call.Close tunnel))) ⊎ (w ≡ Over why) in
    subst P (sym (wants_ending s why ending)) (ending_gives_up s why s.tunnels fails)

-- ---- what it does beside its wants

-- a connection that wants to close its tunnel has no such opening due
pub close_opens : (c : Core) (s : Conn) (tunnel : ℕ) → IsConn c s → want_of s ≡ Ask (call.Close tunnel) → NoOpens s.due
close_opens c s tunnel is w = none_opens c s is (λ conn id actor addr port e. let f : Ask (call.Close tunnel) ≡ Ask (call.Open conn id actor (goal.Udp addr port)) = sym w ∙ e in cc)

-- where it wants nothing, nothing is due
pub idle_due : (c : Core) (s : Conn) → IsConn c s → is_nothing (want_of s) ≡ true → s.due ≡ []
idle_due c s is idle = lawful.idle_due s is.lawful idle

-- nor where it can go on
pub go_on_due : (c : Core) (s : Conn) → IsConn c s → can_go_on s ≡ true → s.due ≡ []
go_on_due c s is goes = idle_due c s is (nothing_due s goes)

pub go_on_opens : (c : Core) (s : Conn) → IsConn c s → can_go_on s ≡ true → NoOpens s.due
go_on_opens c s is goes = subst NoOpens (sym (go_on_due c s is goes)) no_opens_nil

-- no mark is in front of what is due
no_mark : (ds : List Due) (x : Conn) → BeginsWithAct ds → passing ds x ≡ record x { due = ds }
no_mark [] x begins = refl
no_mark (due.Do a ∷ rest) x begins = refl
no_mark (due.Spend id size ∷ rest) x begins = absurd begins
no_mark (due.Fault code ∷ rest) x begins = absurd begins

-- What a write leaves. In HTTP/2 it may put a WINDOW_UPDATE.
pub record Wrote (s t : Conn) : Type 0 where
  pub number : t.number ≡ s.number
  pub actor : t.actor ≡ s.actor
  pub streams : t.streams ≡ s.streams
  pub dues : t.due ≡ s.due
  pub is_finished : t.is_finished ≡ s.is_finished
  pub ending : t.ending ≡ s.ending
  pub tunnels : t.tunnels ≡ s.tunnels
  pub next_tunnel : t.next_tunnel ≡ s.next_tunnel

pub wrote_leaves : (c : Core) (s : Conn) (count : ℕ) → IsConn c s → Wrote s (wrote s count).1
wrote_leaves c s count is =
    let x : Conn = record s { given = s.given + count } in
    let P : Conn → Type 0 = λ t. Wrote s t in
    subst P (sym (ap settled (no_mark s.due x is.lawful.settled) ∙ settled_rests x)) (record {
      number = refl;
      actor = refl;
      streams = refl;
      dues = refl;
      is_finished = refl;
      ending = refl;
      tunnels = refl;
      next_tunnel = refl;
    })

-- ---- its tunnels

alone_on : (ts : List Tunnel) (t : Tunnel) → Alone ts → In t ts → find (λ (x : Tunnel). x.stream == t.stream) ts ≡ Some t
alone_on [] t alone i = absurd i
alone_on (u ∷ us) t alone (inl e) =
    ap {B = Option Tunnel} (λ (b : Bool). cond b (Some u) (find (λ (x : Tunnel). x.stream == t.stream) us)) (ap (λ (x : Tunnel). x.stream == t.stream) e ∙ itself t.stream)
    ∙ ap (λ (x : Tunnel). Some x) e
alone_on (u ∷ us) t alone (inr i) =
    let other : (u.stream == t.stream) ≡ false = unless_true (u.stream == t.stream) (λ e. never (has_on us u.stream) (ap (has_on us) (eqb-true u.stream t.stream e) ∙ in_has us t i) alone.0) in
    ap {B = Option Tunnel} (λ (b : Bool). cond b (Some u) (find (λ (x : Tunnel). x.stream == t.stream) us)) other ∙ alone_on us t alone.1 i

-- each has its stream for itself
pub own_stream : (c : Core) (s : Conn) (id : ℕ) (t : Tunnel) → IsConn c s → tunnel_of s id ≡ Some t → tunnel_on s t.stream ≡ Some t
own_stream c s id t is at = alone_on s.tunnels t is.lawful.loose.alone (found_in (λ (x : Tunnel). x.id == id) s.tunnels t at).1

-- ---- whose it is

-- a core stands for connections of one actor alone
pub same_actor : (c : Core) (s t : Conn) → IsConn c s → IsConn c t → s.actor ≡ t.actor
same_actor c s t x y = ap (λ (z : Conn). z.actor) x.stands.is ∙ sym (ap (λ (z : Conn). z.actor) y.stands.is)

-- and so are their tunnels
pub same_tunnels : (c : Core) (s t : Conn) → IsConn c s → IsConn c t → s.tunnels ≡ t.tunnels
same_tunnels c s t x y = ap (λ (z : Conn). z.tunnels) x.stands.is ∙ sym (ap (λ (z : Conn). z.tunnels) y.stands.is)
