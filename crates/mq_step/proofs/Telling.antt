-- What comes of what a connection wants for its tunnels for IP packets: a verdict, a push, and addresses and ways.
use Rattle.std.proofs.Common.{◌≡◌, ◌≢◌, inl, inr, ℕ, ◌==◌, ◌+◌, cond, Bool, true, false, not, List, [], ◌∷◌, ◌++◌, map, length, drop, All, Option, Some, None, Err, refl, sym, ap, subst, ◌∙◌, arith, ne_eqb}
use Rattle.std.specs.Prelude.{option_map}
use Rattle.std.proofs.lemmas.List.{length-set}
use Rattle.std.proofs.lemmas.List.Elements.{All-cons, All-head, All-tail, All-nil}
use Rattle.slab.specs.Slab.{Slab}
use Rattle.mq_wire.specs.declared.NoMemory.{NoMemory}
use Rattle.mq_addr.specs.declared.kind.Kind.{Kind}
use Rattle.mq_addr.specs.declared.range.Flow.{Flow}
use Rattle.mq_outside.specs.Counts.{PortCounts}
use Rattle.mq_outside.specs.Ports.{PortHolds}
use Rattle.mq_talk.specs.declared.book.Call.{Call}
use Rattle.mq_talk.specs.declared.book.Call.TheVariants as call
use Rattle.mq_talk.specs.declared.book.Config.{Config}
use Rattle.mq_talk.specs.declared.book.Entry.{Entry}
use Rattle.mq_talk.specs.declared.book.Reply.{Reply}
use Rattle.mq_talk.specs.declared.book.Reply.TheVariants as reply
use Rattle.mq_talk.specs.declared.goal.Goal.{Goal}
use Rattle.mq_talk.specs.declared.goal.Goal.TheVariants as goal
use Rattle.mq_talk.specs.declared.note.End.TheVariants as end
use Rattle.mq_talk.specs.declared.note.Note.{Note}
use Rattle.mq_talk.specs.declared.place.Parcel.{Parcel}
use Rattle.mq_talk.specs.declared.place.Place.{Place}
use Rattle.mq_talk.specs.declared.place.Place.TheVariants as place
use Rattle.mq_talk.specs.declared.place.Pushed.{Pushed as WasPushed}
use Rattle.mq_talk.specs.declared.place.Pushed.TheVariants as pushed
use Rattle.mq_talk.specs.Answers.{IsAnswer}
use Rattle.mq_talk.specs.Mails.{Boxes, IsTold, PushDoes, PushGives, has_room, inbox_in, with_parcel, Inboxes}
use Rattle.mq_talk.specs.Offices.{Seen}
use Rattle.mq_machine.specs.declared.act.StreamAct.{StreamAct}
use Rattle.mq_machine.specs.declared.act.StreamAct.TheVariants as stream
use Rattle.mq_machine.specs.declared.act.Act.TheVariants as act
use Rattle.mq_machine.specs.declared.act.Due.{Due}
use Rattle.mq_machine.specs.Acting.{Outside, Binder, PortsTold}
use Rattle.mq_machine.specs.Done.{Done, done, stream_done, tunnel_done, value}
use Rattle.mq_machine.specs.Lawful.{Follows, IsAsked, IsAskedOf, IsOfIp, Numbered, has_number, kind_on}
use Rattle.mq_machine.specs.Silent.{takes_memory, tunnels_after}
use Rattle.mq_machine.specs.Shared.{Asks, asked_by, inbox_of, pushing}
use Rattle.mq_machine.specs.State.{Conn, Held, Orders, Port, Shared, Tunnel, kind_of}
use Rattle.mq_machine.specs.Steps.{settled_note}
use Rattle.mq_machine.specs.Want.{Want, Nothing, Say, Bind, Send, Over, Ask, Judge, Judged, Push, Pushed, Replied, stream_want, want_of}
use Rattle.mq_machine.specs.Turn.{can_do}
use Rattle.mq_machine.specs.Words.{assign_value}
use Rattle.mq_machine.proofs.Lawful.Lists.{In, found_in, in_number, itself, or_false}
use Rattle.mq_conn.specs.Conns.{IsConn}
use Rattle.mq_conn.specs.declared.conn.Conn.{Conn as Core}
use Rattle.mq_conn.specs.Wants.{HandsOver, is_taken}
use Rattle.mq_held.specs.declared.held.Held.{Held as HeldBy}
use Rattle.mq_held.specs.declared.held.PortSeat.{PortSeat}
use Rattle.mq_held.specs.Answers.{IsFor, TellGives, Told}
use Rattle.mq_held.specs.Packets.{Judges, Pushes}
use Rattle.mq_held.proofs.Fronts.{done_first}
use Rattle.mq_held.proofs.Streams.{Fronted, fronted}
use Rattle.mq_step.specs.Holds.{ArePorts, AreServed, HasInboxes, IsBound, IsHeld, numbers_of, port_number, tunnels_of}
use Rattle.mq_step.specs.Sights.{filled_port, idle}
use Rattle.mq_step.specs.Wanted.{WantDone}
use Rattle.mq_step.proofs.Wanting.{Mailed, sees_same, shared_by}
use Rattle.mq_step.proofs.Places.{left_numbers, others_of}
use Rattle.mq_step.proofs.Filling.{alive_served, all_kept, are_filled, are_kept, served_any, tunnels_filled}
use Rattle.mq_step.proofs.Keeping.{Each, IsKept, Kept, NoOpens, each_at, each_settled, kept_judged, kept_pushed, no_opens_without, settle_is_kept, waits_numbers}
use Rattle.mq_step.proofs.Cores.{numbered_by, tail_opens, tell_alive}
use Rattle.mq_step.proofs.Standing.{bound_none, same_apart, stands}
use Rattle.mq_step.proofs.Doing.{NeedsNoPort, left, left_stands, left_told, want_done}
use Rattle.mq_step.proofs.Opening.{Comes}
use Rattle.mq_step.proofs.Refusing.{Fails, Sinks, sinks_before, sinks_behind}
use Rattle.mq_step.proofs.Binding.{Stays, held_back}
use Rattle.mq_talk.proofs.Mails.{nothing_moved, push_moved}

-- ---- inboxes

-- the last inbox is the pump's
inbox_is : (boxes : Boxes) (to : Place) (workers : ℕ) → length boxes ≡ workers + 1 → inbox_of boxes to ≡ inbox_in workers to
inbox_is boxes (place.Tunnel u actor) workers long = refl
inbox_is [] place.Net workers long = absurd (omega (arith, long))
inbox_is (box ∷ boxes) place.Net workers long = omega (arith, long)

-- what a push does to what is shared
push_answers : (seen : Seen) (before after : Boxes) (orders : Orders) (workers : ℕ) (parcel : Parcel) (p : WasPushed) → length before ≡ workers + 1 → PushDoes p before (inbox_in workers parcel.to) parcel after
    → (is_taken p ≡ has_room before (inbox_of before parcel.to)) × (shared_by seen seen.entries after orders ≡ pushing (is_taken p) (shared_by seen seen.entries before orders) parcel)
push_answers seen before after orders workers parcel pushed.Taken long does =
    let at = inbox_is before parcel.to workers long in (
      sym (ap (λ (i : ℕ). has_room before i) at ∙ does.0),
      ap (λ (b : Boxes). shared_by seen seen.entries b orders) (does.1 ∙ ap (λ (i : ℕ). with_parcel before i parcel) (sym at)),
    )
push_answers seen before after orders workers parcel (pushed.Full back) long does =
    let at = inbox_is before parcel.to workers long in (
      sym (ap (λ (i : ℕ). has_room before i) at ∙ does.0),
      ap (λ (b : Boxes). shared_by seen seen.entries b orders) does.1,
    )

push_length : (p : WasPushed) (before after : Boxes) (to : ℕ) (parcel : Parcel) → PushDoes p before to parcel after → length after ≡ length before
push_length pushed.Taken before after to parcel does = ap (λ (b : Boxes). length b) does.1 ∙ length-set before to _
push_length (pushed.Full back) before after to parcel does = ap (λ (b : Boxes). length b) does.1

told_length : (told : Option Boxes) (after shown : Boxes) (n : ℕ) → IsTold told after → length after ≡ n → told ≡ Some shown → length shown ≡ n
told_length None after shown n is long e = absurd cc
told_length (Some boxes) after shown n is long e = cc

-- there are as many inboxes as before
pub push_keeps : (seen : Seen) (count to : ℕ) (mail mail_after : Inboxes) (parcel : Parcel) (p : WasPushed) → HasInboxes seen count mail → PushGives count mail to parcel p mail_after
    → HasInboxes seen count mail_after
push_keeps seen count to mail mail_after parcel p has gives = record {
  count_is = has.count_is;
  size = λ shown e. told_length mail_after.told gives.after shown count gives.is (push_length p gives.before gives.after to parcel gives.does ∙ gives.size) e;
}

-- ---- what was told to a tunnel

-- an act that asks for addresses or ways
abbrev IsTellAct : StreamAct → Type 0
IsTellAct (stream.Payload n payload) = ⊥
IsTellAct (stream.Packet n packet flow) = ⊥
IsTellAct (stream.Push n to packet) = ⊥
IsTellAct (stream.Drop n cause) = ⊥
IsTellAct (stream.Assign asked) = Unit {0}
IsTellAct (stream.Advertise ranges) = Unit {0}
IsTellAct (stream.Close why) = ⊥

-- the call asks for them
abbrev IsTell : Call → Type 0
IsTell (call.Open conn id actor goal) = ⊥
IsTell (call.Assign tunnel asked) = Unit {0}
IsTell (call.Advertise tunnel ranges) = Unit {0}
IsTell (call.Close tunnel) = ⊥

for_tell : (tunnel : ℕ) (asked : Call) → IsFor tunnel asked → IsTell asked
for_tell tunnel (call.Open conn id actor goal) of = of
for_tell tunnel (call.Assign on list) of = tt
for_tell tunnel (call.Advertise on list) of = tt
for_tell tunnel (call.Close on) of = of

tell_act : (t : Tunnel) (a : StreamAct) (asked : Call) → IsTell asked → stream_want t a ≡ Ask asked → IsTellAct a
tell_act t (stream.Payload n payload) asked tell is = absurd cc
tell_act t (stream.Packet n packet flow) asked tell is = absurd cc
tell_act t (stream.Push n to packet) asked tell is = absurd cc
tell_act t (stream.Drop n cause) asked tell is = absurd cc
tell_act t (stream.Assign list) asked tell is = tt
tell_act t (stream.Advertise ranges) asked tell is = tt
tell_act t (stream.Close why) asked tell is =
    let same : call.Close t.id ≡ asked = cc in
    let P : Call → Type 0 = λ c. IsTell c in subst P (sym same) tell

-- it is asked of a tunnel for IP packets
ip_act : (kind : Kind) (a : StreamAct) → IsTellAct a → IsAsked kind a → IsOfIp kind
ip_act kind (stream.Payload n payload) tell is = absurd tell
ip_act kind (stream.Packet n packet flow) tell is = absurd tell
ip_act kind (stream.Push n to packet) tell is = absurd tell
ip_act kind (stream.Drop n cause) tell is = absurd tell
ip_act kind (stream.Assign list) tell is = is
ip_act kind (stream.Advertise ranges) tell is = is
ip_act kind (stream.Close why) tell is = absurd tell

-- whose number no tunnel for UDP has
others_all : (n : ℕ) (ns : List ℕ) → All (λ (k : ℕ). k ≢ n) ns → others_of n ns ≡ ns
others_all n [] all = refl
others_all n (k ∷ ns) all =
    let N : ℕ → Type 0 = λ j. j ≢ n in
    ap {B = List ℕ} (λ (b : Bool). cond (not b) (k ∷ others_of n ns) (others_of n ns)) (ne_eqb k n (All-head N k ns all))
    ∙ ap (λ (xs : List ℕ). k ∷ xs) (others_all n ns (All-tail N k ns all))

numbers_but : (ts : List Tunnel) (n : ℕ) → has_number ts n ≡ false → All (λ (k : ℕ). k ≢ n) (numbers_of ts)
numbers_but [] n none = All-nil (λ (k : ℕ). k ≢ n)
numbers_but (t ∷ ts) n none = let x = or_false (t.id == n) (has_number ts n) none in by_goal t.goal x.0 (numbers_but ts n x.1) where
  by_goal : (g : Goal) → (t.id == n) ≡ false → All (λ (k : ℕ). k ≢ n) (numbers_of ts) → All (λ (k : ℕ). k ≢ n) (port_number g t.id ++ numbers_of ts)
  by_goal (goal.Udp addr port) ne rest = All-cons (λ (k : ℕ). k ≢ n) t.id (numbers_of ts) (λ same. let e : true ≡ false = sym (ap (λ (k : ℕ). k == n) same ∙ itself n) ∙ ne in cc) rest
  by_goal (goal.Ip area protocol) ne rest = rest

ip_apart : (ts : List Tunnel) (t : Tunnel) → Numbered ts → In t ts → IsOfIp (kind_of t.goal) → All (λ (k : ℕ). k ≢ t.id) (numbers_of ts)
ip_apart [] t numbered i ip = absurd i
ip_apart (u ∷ us) t numbered (inl e) ip = subst P e (by_goal u.goal refl) where
  P : Tunnel → Type 0
  P v = All (λ (k : ℕ). k ≢ v.id) (numbers_of (u ∷ us))

  kind_is : IsOfIp (kind_of u.goal)
  kind_is = let K : Tunnel → Type 0 = λ v. IsOfIp (kind_of v.goal) in subst K (sym e) ip

  by_goal : (g : Goal) → u.goal ≡ g → P u
  by_goal (goal.Udp addr port) is = let K : Goal → Type 0 = λ g. IsOfIp (kind_of g) in absurd (subst K is kind_is)
  by_goal (goal.Ip area protocol) is =
      let N : Goal → Type 0 = λ g. All (λ (k : ℕ). k ≢ u.id) (port_number g u.id ++ numbers_of us) in
      subst N (sym is) (numbers_but us u.id numbered.0)
ip_apart (u ∷ us) t numbered (inr i) ip = by_goal u.goal (ip_apart us t numbered.1 i ip) where
  other : u.id ≢ t.id
  other same = let e : true ≡ false = sym (ap (has_number us) same ∙ in_number us t i) ∙ numbered.0 in cc

  by_goal : (g : Goal) → All (λ (k : ℕ). k ≢ t.id) (numbers_of us) → All (λ (k : ℕ). k ≢ t.id) (port_number g u.id ++ numbers_of us)
  by_goal (goal.Udp addr port) rest = All-cons (λ (k : ℕ). k ≢ t.id) u.id (numbers_of us) other rest
  by_goal (goal.Ip area protocol) rest = rest

-- so the ports stay where it closes
told_kept : (c : Conn) (rest : List Due) (u : Tunnel) (a : StreamAct) (told : Reply) → IsTellAct a → NoOpens rest → others_of u.id (numbers_of c.tunnels) ≡ numbers_of c.tunnels
    → Each (IsKept c) (stream_done (record c { due = rest }) u a (Replied told))
told_kept c rest u (stream.Payload n payload) told tell opens apart = absurd tell
told_kept c rest u (stream.Packet n packet flow) told tell opens apart = absurd tell
told_kept c rest u (stream.Push n to packet) told tell opens apart = absurd tell
told_kept c rest u (stream.Drop n cause) told tell opens apart = absurd tell
told_kept c rest u (stream.Assign asked) (reply.Assigned list at) tell opens apart = (refl, refl, opens, waits_numbers u.id (value 1 (assign_value list)) c.tunnels)
told_kept c rest u (stream.Assign asked) reply.Closed tell opens apart = (refl, refl, no_opens_without u.stream rest opens, left_numbers u.id c.tunnels ∙ apart)
told_kept c rest u (stream.Assign asked) (reply.Opened tunnel routes) tell opens apart = tt
told_kept c rest u (stream.Assign asked) (reply.HistoryFull entries live) tell opens apart = tt
told_kept c rest u (stream.Assign asked) (reply.Accepted accepts at) tell opens apart = tt
told_kept c rest u (stream.Advertise ranges) (reply.Accepted accepts at) tell opens apart = (refl, refl, opens, refl)
told_kept c rest u (stream.Advertise ranges) reply.Closed tell opens apart = (refl, refl, no_opens_without u.stream rest opens, left_numbers u.id c.tunnels ∙ apart)
told_kept c rest u (stream.Advertise ranges) (reply.Opened tunnel routes) tell opens apart = tt
told_kept c rest u (stream.Advertise ranges) (reply.HistoryFull entries live) tell opens apart = tt
told_kept c rest u (stream.Advertise ranges) (reply.Assigned list at) tell opens apart = tt
told_kept c rest u (stream.Close why) told tell opens apart = absurd tell

tell_leaves : (c : Core) (s t : Conn) (asked : Call) (tunnel : ℕ) (told : Reply) (said : Note) → IsConn c s → IsFor tunnel asked → want_of s ≡ Ask asked → done s (Replied told) ≡ Some (said, t) → IsKept s t
tell_leaves c s t asked tunnel told said is of want does =
    let f = fronted_tell s asked tunnel of want in
    let act = act.OfStream f.id f.a in
    let tell = tell_act f.t f.a asked (for_tell tunnel asked of) f.wants in
    let F : List Due → Type 0 = λ ds. Follows (kind_on s.tunnels) ds in
    let K : Option Kind → Type 0 = λ o. IsAskedOf o f.a in
    let kind_is : kind_on s.tunnels f.id ≡ Some (kind_of f.t.goal) = ap (λ (o : Option Tunnel). option_map (λ (u : Tunnel). kind_of u.goal) o) f.on in
    let ip = ip_act (kind_of f.t.goal) f.a tell (subst K kind_is (subst F f.due_is is.lawful.loose.follows).0) in
    let there = (found_in (λ (u : Tunnel). u.stream == f.id) s.tunnels f.t f.on).1 in
    let apart = others_all f.t.id (numbers_of s.tunnels) (ip_apart s.tunnels f.t (numbered_by s.ending s.tunnels f.alive is.lawful.loose.numbered) there ip) in
    let N : List Due → Type 0 = λ ds. NoOpens (drop 1 ds) in
    let opens = subst N f.due_is (tail_opens c s is) in
    let x : Conn = record s { due = f.rest } in
    let each = each_settled (IsKept s) (stream_done x f.t f.a (Replied told)) (settle_is_kept s) (told_kept s f.rest f.t f.a told tell opens apart) in
    let T : Option Tunnel → Type 0 = λ o. Each (IsKept s) (option_map settled_note (tunnel_done x o f.a (Replied told))) in
    let D : Done → Type 0 = λ o. Each (IsKept s) o in
    each_at (IsKept s) (done s (Replied told)) said t
    (subst D (sym (done_first s act f.rest (Replied told) f.alive f.due_is)) (subst T (sym f.on) each)) does
  where
    fronted_tell : (s : Conn) (asked : Call) (tunnel : ℕ) → IsFor tunnel asked → want_of s ≡ Ask asked → Fronted s (Ask asked)
    fronted_tell s (call.Open conn id actor goal) tunnel of want = absurd of
    fronted_tell s (call.Assign on list) tunnel of want = fronted s (Ask (call.Assign on list)) want tt
    fronted_tell s (call.Advertise on list) tunnel of want = fronted s (Ask (call.Advertise on list)) want tt
    fronted_tell s (call.Close on) tunnel of want = absurd of

tell_needs : (n : Outside) (asked : Call) (tunnel actor : ℕ) (config : Config) (h : List Entry) (said : Reply) → IsFor tunnel asked → IsAnswer config h asked said
    → NeedsNoPort n (Ask asked) (Replied (asked_by h actor asked said).reply)
tell_needs n (call.Open conn id names goal) tunnel actor config h said of answer = absurd of
tell_needs n (call.Close on) tunnel actor config h said of answer = absurd of
tell_needs n (call.Assign on list) tunnel actor config h (reply.Assigned given at) of answer = record { lives = tt; can = λ ports. refl; ports = λ ports. refl; answers = λ ports. tt; plain = λ h. refl }
tell_needs n (call.Assign on list) tunnel actor config h (reply.HistoryFull entries live) of answer = record { lives = tt; can = λ ports. refl; ports = λ ports. refl; answers = λ ports. tt; plain = λ h. refl }
tell_needs n (call.Assign on list) tunnel actor config h (reply.Opened u routes) of answer = absurd answer
tell_needs n (call.Assign on list) tunnel actor config h (reply.Accepted accepts at) of answer = absurd answer
tell_needs n (call.Assign on list) tunnel actor config h reply.Closed of answer = absurd answer
tell_needs n (call.Advertise on list) tunnel actor config h (reply.Accepted accepts at) of answer = record { lives = tt; can = λ ports. refl; ports = λ ports. refl; answers = λ ports. tt; plain = λ h. refl }
tell_needs n (call.Advertise on list) tunnel actor config h (reply.HistoryFull entries live) of answer = record { lives = tt; can = λ ports. refl; ports = λ ports. refl; answers = λ ports. tt; plain = λ h. refl }
tell_needs n (call.Advertise on list) tunnel actor config h (reply.Opened u routes) of answer = absurd answer
tell_needs n (call.Advertise on list) tunnel actor config h (reply.Assigned given at) of answer = absurd answer
tell_needs n (call.Advertise on list) tunnel actor config h reply.Closed of answer = absurd answer

-- it takes memory to hear it, and opens no tunnel
tell_takes : (tunnel : ℕ) (asked : Call) → IsFor tunnel asked → takes_memory (Ask asked) ≡ true
tell_takes tunnel (call.Open conn id names goal) of = absurd of
tell_takes tunnel (call.Assign on list) of = refl
tell_takes tunnel (call.Advertise on list) of = refl
tell_takes tunnel (call.Close on) of = absurd of

tell_opens : (tunnel : ℕ) (asked : Call) (told : Reply) (ts : List Tunnel) → IsFor tunnel asked → tunnels_after (Ask asked) (Replied told) ts ≡ ts
tell_opens tunnel (call.Open conn id names goal) told ts of = absurd of
tell_opens tunnel (call.Assign on list) told ts of = refl
tell_opens tunnel (call.Advertise on list) told ts of = refl
tell_opens tunnel (call.Close on) told ts of = absurd of

-- and no port is bound
pub told_none : {Q : Type 0} (most : Q → ℕ) (table : Slab Q) (seats : List PortSeat) (w : Want) (bound : Option ℕ) (asked : Call) (tunnel : ℕ) → IsFor tunnel asked → w ≡ Ask asked → IsBound most table seats w bound → bound ≡ None
told_none {Q} most table seats w bound asked tunnel of want is = by_call asked of (subst B want is) where
  B : Want → Type 0
  B v = IsBound most table seats v bound

  by_call : (asked : Call) → IsFor tunnel asked → B (Ask asked) → bound ≡ None
  by_call (call.Open conn id actor goal) of is = absurd of
  by_call (call.Assign on list) of is = is
  by_call (call.Advertise on list) of is = is
  by_call (call.Close on) of is = absurd of

-- ---- what a connection does

module _ {L Q : Type 0} (most : Q → ℕ) (holds : Q → Option PortHolds) (counts : Q → PortCounts) (binds binds_after : Binder) (table after : Slab Q) (h g : HeldBy L) (o n : Outside) (s : Held) where
  -- what is left where the tunnels stay
  stays_left : (x : Stays most holds counts binds binds_after table after h g o n s) (t : Conn) → s.conn.ending ≡ None → g.bound ≡ None → Kept s.conn t → IsConn g.conn t → IsHeld most after g (left o s t)
  stays_left x t alive bound kept conn =
      left_stands most table after h g o s t x.held x.keeps x.seats x.number bound
      (served_any t.ending s.conn.tunnels s.ports (alive_served s.conn.ending s.conn.tunnels s.ports alive x.held.served)) kept conn

  stays_told : (x : Stays most holds counts binds binds_after table after h g o n s) (t : Conn) → PortsTold n (left o s t).ports
  stays_told x t = left_told most holds counts binds binds_after table after h g o n s t x.held x.keeps x.seats x.sees x.sees_after

  -- its packet was judged
  pub judges : (x : Stays most holds counts binds binds_after table after h g o n s) (seen seen_after : Seen) (m : Mailed seen) (orders : Orders) (said : Note) (tunnel k : ℕ) (flow : Flow)
      → want_of s.conn ≡ Judge tunnel k flow → g.bound ≡ h.bound → binds_after ≡ binds → Judges seen seen_after (IsConn g.conn) s.conn tunnel flow said → Comes most after g o n seen seen_after m orders s said
  judges x seen seen_after m orders said tunnel k flow want same stays d =
      let sh : Shared = shared_by seen seen_after.entries m.boxes orders in
      let v = d.judged.verdict in
      let at = d.judged.at in
      let alive = (fronted s.conn (Judge tunnel k flow) want tt).alive in
      let bound : g.bound ≡ None = same ∙ bound_none most table h.ports.items (want_of s.conn) (Judge tunnel k flow) h.bound x.held.bound want in
      let needs : NeedsNoPort n (Judge tunnel k flow) (Judged v at) = record { lives = tt; can = λ ports. refl; ports = λ ports. refl; answers = λ ports. tt; plain = λ h. refl } in
      record {
        left_is = left o s d.t;
        done_is = want_done o n seen seen_after m.mail m.mail orders s (Judge tunnel k flow) (Judged v at) said d.t sh sh want needs d.does (d.gives.at, d.gives.verdict, refl)
            (record { config = refl; same = d.gives.same; book = d.gives.sees; wrote = refl; boxes = m.told; count = m.count; boxes_after = m.told; moves = nothing_moved m.mail m.mail m.boxes refl; orders_are = refl })
            (held_back most holds counts binds binds_after table after h g o n s x stays);
        stands_for = stays_left x d.t alive bound (kept_judged s.conn d.t said v at (tail_opens h.conn s.conn x.held.conn) d.does) d.stands_for;
        told_is = stays_told x d.t;
      }

  -- its parcel was pushed
  pub pushes : (x : Stays most holds counts binds binds_after table after h g o n s) (seen : Seen) (count workers : ℕ) (mail mail_after : Inboxes) (orders : Orders) (said : Note) (parcel : Parcel)
      → HasInboxes seen count mail → workers ≡ seen.config.workers → want_of s.conn ≡ Push parcel → g.bound ≡ h.bound → binds_after ≡ binds → Pushes count mail mail_after workers (IsConn g.conn) s.conn parcel said
      → (t : Held) × WantDone o n seen seen mail mail_after orders s said (Some t) × IsHeld most after g t × PortsTold n t.ports
  pushes x seen count workers mail mail_after orders said parcel has staff want same stays d =
      let p = d.gives in
      let sh : Shared = shared_by seen seen.entries p.before orders in
      let sh_after : Shared = shared_by seen seen.entries p.after orders in
      let taken = is_taken d.pushed in
      let alive = (fronted s.conn (Push parcel) want tt).alive in
      let bound : g.bound ≡ None = same ∙ bound_none most table h.ports.items (want_of s.conn) (Push parcel) h.bound x.held.bound want in
      let many : length p.before ≡ seen.config.workers + 1 = p.size ∙ has.count_is in
      let long : length p.before ≡ workers + 1 = many ∙ ap (λ (k : ℕ). k + 1) (sym staff) in
      let needs : NeedsNoPort n (Push parcel) (Pushed taken) = record { lives = tt; can = λ ports. refl; ports = λ ports. refl; answers = λ ports. tt; plain = λ h. refl } in
      let answers = push_answers seen p.before p.after orders workers parcel d.pushed long p.does in (
        left o s d.t,
        want_done o n seen seen mail mail_after orders s (Push parcel) (Pushed taken) said d.t sh sh_after want needs d.does answers
            (record { config = refl; same = record { config = refl; whole = refl }; book = sees_same seen; wrote = refl; boxes = p.was; count = many; boxes_after = p.is; moves = push_moved count (inbox_in workers parcel.to) mail mail_after parcel d.pushed p; orders_are = refl })
            (held_back most holds counts binds binds_after table after h g o n s x stays),
        stays_left x d.t alive bound (kept_pushed s.conn d.t said taken (tail_opens h.conn s.conn x.held.conn) d.does) d.stands_for,
        stays_told x d.t,
      )

  -- its tunnel was told what the book answered
  pub tells : (x : Stays most holds counts binds binds_after table after h g o n s) (actor : ℕ) (seen seen_after : Seen) (m : Mailed seen) (orders : Orders) (said : Note) (asked : Call) (tunnel : ℕ)
      → s.conn.actor ≡ actor → IsFor tunnel asked → want_of s.conn ≡ Ask asked → g.bound ≡ None → binds_after ≡ binds → Told actor seen asked seen_after (IsConn g.conn) s.conn said
      → Comes most after g o n seen seen_after m orders s said
  tells x actor seen seen_after m orders said asked tunnel mine of want bound stays d =
      let a = d.asks in
      let sh : Shared = shared_by seen a.book m.boxes orders in
      let sh_after : Shared = shared_by seen (asked_by a.book actor asked a.said).book m.boxes orders in
      let R : Reply → Type 0 = λ r. NeedsNoPort n (Ask asked) (Replied r) in
      let B : ℕ → Type 0 = λ who. Asks sh who asked d.told sh_after in
      let kept = tell_leaves h.conn s.conn d.t asked tunnel d.told said x.held.conn of want d.does in
      let alive = tell_alive s.conn asked tunnel of want in
      let A : List PortSeat → Type 0 = λ xs. ArePorts most after xs (map (filled_port o idle) s.ports) in
      let served : tunnels_of (map (filled_port o idle) s.ports) ≡ numbers_of d.t.tunnels =
      tunnels_filled o idle s.ports ∙ alive_served s.conn.ending s.conn.tunnels s.ports alive x.held.served ∙ sym kept.3 in
      let asks_is : Asks sh actor asked d.told sh_after = record { said = a.said; is = a.is; reply_is = a.told_is; after_is = refl } in
      record {
        left_is = left o s d.t;
        done_is = want_done o n seen seen_after m.mail m.mail orders s (Ask asked) (Replied d.told) said d.t sh sh_after want
            (subst R (sym a.told_is) (tell_needs n asked tunnel actor seen.config a.book a.said of a.is)) d.does (subst B (sym mine) asks_is)
            (record { config = refl; same = a.same; book = a.sees; wrote = a.wrote; boxes = m.told; count = m.count; boxes_after = m.told; moves = nothing_moved m.mail m.mail m.boxes refl; orders_are = refl })
            (held_back most holds counts binds binds_after table after h g o n s x stays);
        stands_for = stands most after g (left o s d.t) d.stands_for (kept.0 ∙ x.held.number ∙ sym x.number)
            (subst A (sym x.seats) (are_filled most after o idle h.ports.items s.ports (are_kept most table after h.ports.items s.ports x.keeps x.held.ports)))
            (same_apart h.ports.items g.ports.items x.seats x.held.apart) (served_any d.t.ending d.t.tunnels (map (filled_port o idle) s.ports) served) kept.2 bound;
        told_is = stays_told x d.t;
      }

  -- memory was refused to the book, or to the connection as it heard what the book answered
  pub tell_fails : (x : Stays most holds counts binds binds_after table after h g o n s) (actor : ℕ) (seen seen_after : Seen) (m : Mailed seen) (orders : Orders) (asked : Call) (tunnel : ℕ) (refused : NoMemory)
      → s.conn.actor ≡ actor → IsFor tunnel asked → want_of s.conn ≡ Ask asked → g.bound ≡ None → binds_after ≡ binds → TellGives actor seen asked seen_after (IsConn g.conn) s.conn (Err refused)
      → Sinks most after g o n seen seen_after m orders s
  tell_fails x actor seen seen_after m orders asked tunnel refused mine of want bound stays gives = by_case gives where
    fails : Fails most holds counts table after h g o n actor s asked
    fails = record {
      held = x.held;
      mine = mine;
      want = want;
      number = x.held.number ∙ sym x.number;
      seats = x.seats;
      bound = bound;
      keeps = all_kept table after h.ports.items x.keeps;
      sees = x.sees.ports;
      sees_after = x.sees_after.ports;
      binds = held_back most holds counts binds binds_after table after h g o n s x stays;
    }

    alive : s.conn.ending ≡ None
    alive = tell_alive s.conn asked tunnel of want

    by_case : TellGives actor seen asked seen_after (IsConn g.conn) s.conn (Err refused) → Sinks most after g o n seen seen_after m orders s
    by_case (inl before) = sinks_before most holds counts table after h g o n actor seen seen_after m orders s asked (tell_takes tunnel asked of) fails before.0.0 before.0.1 before.1
    by_case (inr behind) =
        let a = behind.asks in
        let all = alive_served s.conn.ending s.conn.tunnels s.ports alive x.held.served in
        let S : List Tunnel → Type 0 = λ ts. AreServed (Some end.NoMemory) ts s.ports in
        let asks_is : Asks (shared_by seen a.book m.boxes orders) actor asked behind.told (shared_by seen seen_after.entries m.boxes orders) =
        record { said = a.said; is = a.is; reply_is = a.told_is; after_is = ap (λ (book : List Entry). shared_by seen book m.boxes orders) a.wrote } in
        sinks_behind most holds counts table after h g o n actor seen seen_after m orders s asked behind.told a.book (tell_takes tunnel asked of)
        (subst S (sym (tell_opens tunnel asked behind.told s.conn.tunnels of)) (inl all)) fails a.sees a.same behind.open_is behind.stands_for asks_is

-- ---- a list that couldn't be handed over

pub hands_can : (w : Want) → HandsOver w → (ports : List Port) → can_do ports w ≡ true
hands_can Nothing hands ports = absurd hands
hands_can Say hands ports = absurd hands
hands_can (Bind id goal) hands ports = absurd hands
hands_can (Ask asked) hands ports = refl
hands_can (Judge tunnel n flow) hands ports = absurd hands
hands_can (Push parcel) hands ports = absurd hands
hands_can (Send tunnel n payload) hands ports = absurd hands
hands_can (Over why) hands ports = absurd hands

pub hands_unbound : {Q : Type 0} (most : Q → ℕ) (table : Slab Q) (seats : List PortSeat) (w : Want) (bound : Option ℕ) → HandsOver w → IsBound most table seats w bound → bound ≡ None
hands_unbound most table seats Nothing bound hands is = absurd hands
hands_unbound most table seats Say bound hands is = absurd hands
hands_unbound most table seats (Bind id goal) bound hands is = absurd hands
hands_unbound most table seats (Ask (call.Open conn id actor goal)) bound hands is = absurd hands
hands_unbound most table seats (Ask (call.Assign tunnel asked)) bound hands is = is
hands_unbound most table seats (Ask (call.Advertise tunnel ranges)) bound hands is = is
hands_unbound most table seats (Ask (call.Close tunnel)) bound hands is = absurd hands
hands_unbound most table seats (Judge tunnel n flow) bound hands is = absurd hands
hands_unbound most table seats (Push parcel) bound hands is = absurd hands
hands_unbound most table seats (Send tunnel n payload) bound hands is = absurd hands
hands_unbound most table seats (Over why) bound hands is = absurd hands
