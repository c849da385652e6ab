-- What an answer leaves of a connection: its number, its actor and its tunnels, and whether an opening is due.
use Rattle.std.proofs.Common.{◌≡◌, ℕ, ◌==◌, ◌+◌, cond, Bool, true, false, not, ◌&&◌, List, [], ◌∷◌, ◌++◌, drop, take, length, nat_lt, nat_le, All, Option, Some, None, refl, sym, ap, ◌∙◌, subst}
use Rattle.std.specs.Prelude.{filter, find, option_map, option_and_then, is_some}
use Rattle.std.proofs.lemmas.List.Elements.{All-cons, All-head, All-tail, All-nil, All-filter}
use Rattle.mq_talk.specs.declared.book.Call.{Call}
use Rattle.mq_talk.specs.declared.book.Call.TheVariants as call
use Rattle.mq_talk.specs.declared.book.Reply.TheVariants as reply
use Rattle.mq_addr.specs.declared.range.Range.{Range}
use Rattle.mq_capsule.specs.Writing.{capsule_text, datagram}
use Rattle.mq_addr.specs.declared.addr.Addr.{Addr}
use Rattle.mq_talk.specs.declared.goal.Goal.{Goal}
use Rattle.mq_talk.specs.declared.goal.Goal.TheVariants as goal
use Rattle.mq_talk.specs.declared.note.End.{End}
use Rattle.mq_talk.specs.declared.note.From.{From}
use Rattle.mq_talk.specs.declared.note.Note.{Note}
use Rattle.mq_talk.specs.declared.note.Note.TheVariants as note
use Rattle.mq_talk.specs.declared.note.Why.{Why}
use Rattle.mq_talk.specs.declared.note.Why.TheVariants as reason
use Rattle.mq_talk.specs.declared.place.Cause.TheVariants as cause
use Rattle.mq_talk.specs.declared.place.Verdict.{Verdict}
use Rattle.mq_talk.specs.declared.place.Verdict.TheVariants as verdict
use Rattle.mq_outside.specs.declared.PortPut.{PortPut}
use Rattle.mq_outside.specs.declared.PortPut.TheVariants as put
use Rattle.mq_machine.specs.declared.act.Act.{Act}
use Rattle.mq_machine.specs.declared.act.Act.TheVariants as act
use Rattle.mq_machine.specs.declared.act.StreamAct.{StreamAct}
use Rattle.mq_machine.specs.declared.act.StreamAct.TheVariants as stream
use Rattle.mq_machine.specs.declared.act.Due.{Due}
use Rattle.mq_machine.specs.declared.act.Due.TheVariants as due
use Rattle.mq_machine.specs.Putting.{Putting, first_of, putting}
use Rattle.mq_machine.specs.Settle.{settle, settled, passing, spending, gives_up}
use Rattle.mq_machine.specs.State.{Conn, Tunnel, Waiting, Packet, Front, Head, OverHttp1, OverHttp2, owed, values, kind_of, tunnel_on}
use Rattle.mq_machine.specs.Lawful.{is_open}
use Rattle.mq_machine.specs.Want.{Nothing, Bind, Ask, Over, Answer, Said, Bound, Replied, Judged, Pushed, Put, want_of, want_by, ending_want, over_want, due_want, act_want, tunnel_want, most_values}
use Rattle.mq_machine.specs.Done.{Done, closing, done, done_by, due_done, act_done, tunnel_done, ending_done, first_waiting, is_on, waits, with_waiting, closed, dropped, sent}
use Rattle.mq_machine.specs.Steps.{settled_note, is_nothing, is_ending, can_go_on, most_owed, can_frame, tunnels_from, framed, framed_front, framed_by, framing, frame_size, whole_note, next_framed, set_waiting, wrote, finished, finish_by, queued, port_failed}
use Rattle.mq_machine.proofs.Settling.{settled_rests}
use Rattle.mq_step.specs.Holds.{numbers_of, port_number}

-- ---- openings that are due, of tunnels for UDP

abbrev pub IsNoOpen : Due → Type 0
IsNoOpen d = is_open d ≡ false

abbrev pub NoOpens : List Due → Type 0
NoOpens ds = All IsNoOpen ds

pub no_opens_nil : NoOpens []
no_opens_nil = All-nil IsNoOpen

pub no_opens_cons : (d : Due) (ds : List Due) → is_open d ≡ false → NoOpens ds → NoOpens (d ∷ ds)
no_opens_cons d ds isnt none = All-cons IsNoOpen d ds isnt none

pub no_opens_tail : (ds : List Due) → NoOpens ds → NoOpens (drop 1 ds)
no_opens_tail [] none = none
no_opens_tail (d ∷ ds) none = All-tail IsNoOpen d ds none

-- of what is left once nothing more is asked of a stream
pub no_opens_without : (id : ℕ) (ds : List Due) → NoOpens ds → NoOpens (filter (λ d. not (is_on id d)) ds)
no_opens_without id ds none = All-filter (λ d. not (is_on id d)) IsNoOpen ds none

-- The answer leaves number, actor and tunnels, and no opening is due behind it.
pub record Kept (c t : Conn) : Type 0 where
  pub number : t.number ≡ c.number
  pub actor : t.actor ≡ c.actor
  pub tunnels : t.tunnels ≡ c.tunnels
  pub opens : NoOpens t.due

-- ---- the end of an act

passing_kept : (ds : List Due) (c x : Conn) → x.number ≡ c.number → x.actor ≡ c.actor → x.tunnels ≡ c.tunnels → NoOpens ds → Kept c (passing ds x)
passing_kept [] c x number actor tunnels opens = record { number = number; actor = actor; tunnels = tunnels; opens = no_opens_nil }
passing_kept (due.Do a ∷ rest) c x number actor tunnels opens = record { number = number; actor = actor; tunnels = tunnels; opens = opens }
passing_kept (due.Spend id size ∷ rest) c x number actor tunnels opens = passing_kept rest c (record x { front = spending x.front id size }) number actor tunnels (All-tail IsNoOpen (due.Spend id size) rest opens)
passing_kept (due.Fault code ∷ rest) c x number actor tunnels opens = record { number = number; actor = actor; tunnels = tunnels; opens = no_opens_nil }

settled_kept : (c x : Conn) → Kept c x → Kept c (settled x)
settled_kept c x kept =
    let P : Conn → Type 0 = λ y. Kept c y in
    subst P (sym (settled_rests x)) (record { number = kept.number; actor = kept.actor; tunnels = kept.tunnels; opens = kept.opens })

pub settle_kept : (c x : Conn) → Kept c x → Kept c (settle x)
settle_kept c x kept = settled_kept c (passing x.due x) (passing_kept x.due c x kept.number kept.actor kept.tunnels kept.opens)

-- the end of an act alone
pub settles : (x : Conn) → NoOpens x.due → Kept x (settle x)
settles x opens = settled_kept x (passing x.due x) (passing_kept x.due x x refl refl refl opens)

-- ---- what is true of the connection behind an answer

abbrev pub Each : (Conn → Type 0) → Done → Type 0
Each P None = Unit {0}
Each P (Some d) = P d.1

pub each_at : (P : Conn → Type 0) (o : Done) (n : Note) (t : Conn) → Each P o → o ≡ Some (n, t) → P t
each_at P o n t each is = let Q : Done → Type 0 = λ x. Each P x in subst Q is each

pub each_settled : (P : Conn → Type 0) (o : Done) → ((x : Conn) → P x → P (settle x)) → Each P o → Each P (option_map settled_note o)
each_settled P None goes each = tt
each_settled P (Some d) goes each = goes d.1 each

-- ---- answers that leave the tunnels

ending_none_said : (c : Conn) (ts : List Tunnel) → Each (Kept c) (ending_done c ts Said)
ending_none_said c [] = tt
ending_none_said c (t ∷ ts) = tt

tunnel_said : (c : Conn) (rest : List Due) (o : Option Tunnel) (a : StreamAct) → NoOpens rest → Each (Kept c) (tunnel_done (record c { due = rest }) o a Said)
tunnel_said c rest None a opens = tt
tunnel_said c rest (Some t) (stream.Payload n payload) opens = tt
tunnel_said c rest (Some t) (stream.Packet n packet flow) opens = tt
tunnel_said c rest (Some t) (stream.Push n to packet) opens = tt
tunnel_said c rest (Some t) (stream.Drop n cause) opens = record { number = refl; actor = refl; tunnels = refl; opens = opens }
tunnel_said c rest (Some t) (stream.Assign asked) opens = tt
tunnel_said c rest (Some t) (stream.Advertise ranges) opens = tt
tunnel_said c rest (Some t) (stream.Close why) opens = tt

act_said : (c : Conn) (rest : List Due) (a : Act) → NoOpens rest → Each (Kept c) (act_done (record c { due = rest }) a Said)
act_said c rest (act.Bind id goal) opens = tt
act_said c rest (act.Open id goal) opens = tt
act_said c rest (act.Refuse id status rule) opens = record { number = refl; actor = refl; tunnels = refl; opens = no_opens_without id rest opens }
act_said c rest (act.Reset id code) opens = record { number = refl; actor = refl; tunnels = refl; opens = opens }
act_said c rest (act.OfStream id a) opens = tunnel_said c rest (tunnel_on c id) a opens

due_said : (c : Conn) (ds : List Due) → NoOpens (drop 1 ds) → Each (Kept c) (due_done c ds Said)
due_said c [] opens = tt
due_said c (due.Do a ∷ rest) opens = act_said c rest a opens
due_said c (due.Spend id size ∷ rest) opens = tt
due_said c (due.Fault code ∷ rest) opens = tt

by_said : (c : Conn) (e : Option End) → NoOpens (drop 1 c.due) → Each (Kept c) (done_by c e Said)
by_said c None opens = due_said c c.due opens
by_said c (Some why) opens = ending_none_said c c.tunnels

pub kept_said : (c t : Conn) (n : Note) → NoOpens (drop 1 c.due) → done c Said ≡ Some (n, t) → Kept c t
kept_said c t n opens is = each_at (Kept c) (done c Said) n t (each_settled (Kept c) (done_by c c.ending Said) (settle_kept c) (by_said c c.ending opens)) is

-- the port wasn't bound

ending_none_refused : (c : Conn) (ts : List Tunnel) → Each (Kept c) (ending_done c ts (Bound false))
ending_none_refused c [] = tt
ending_none_refused c (t ∷ ts) = tt

tunnel_refused : (c x : Conn) (o : Option Tunnel) (a : StreamAct) → Each (Kept c) (tunnel_done x o a (Bound false))
tunnel_refused c x None a = tt
tunnel_refused c x (Some t) (stream.Payload n payload) = tt
tunnel_refused c x (Some t) (stream.Packet n packet flow) = tt
tunnel_refused c x (Some t) (stream.Push n to packet) = tt
tunnel_refused c x (Some t) (stream.Drop n cause) = tt
tunnel_refused c x (Some t) (stream.Assign asked) = tt
tunnel_refused c x (Some t) (stream.Advertise ranges) = tt
tunnel_refused c x (Some t) (stream.Close why) = tt

act_refused : (c : Conn) (rest : List Due) (a : Act) → NoOpens rest → Each (Kept c) (act_done (record c { due = rest }) a (Bound false))
act_refused c rest (act.Bind id goal) opens = record { number = refl; actor = refl; tunnels = refl; opens = no_opens_without id rest opens }
act_refused c rest (act.Open id goal) opens = tt
act_refused c rest (act.Refuse id status rule) opens = tt
act_refused c rest (act.Reset id code) opens = tt
act_refused c rest (act.OfStream id a) opens = tunnel_refused c (record c { due = rest }) (tunnel_on c id) a

due_refused : (c : Conn) (ds : List Due) → NoOpens (drop 1 ds) → Each (Kept c) (due_done c ds (Bound false))
due_refused c [] opens = tt
due_refused c (due.Do a ∷ rest) opens = act_refused c rest a opens
due_refused c (due.Spend id size ∷ rest) opens = tt
due_refused c (due.Fault code ∷ rest) opens = tt

by_refused : (c : Conn) (e : Option End) → NoOpens (drop 1 c.due) → Each (Kept c) (done_by c e (Bound false))
by_refused c None opens = due_refused c c.due opens
by_refused c (Some why) opens = ending_none_refused c c.tunnels

pub kept_refused : (c t : Conn) (n : Note) → NoOpens (drop 1 c.due) → done c (Bound false) ≡ Some (n, t) → Kept c t
kept_refused c t n opens is =
    each_at (Kept c) (done c (Bound false)) n t (each_settled (Kept c) (done_by c c.ending (Bound false)) (settle_kept c) (by_refused c c.ending opens)) is

-- what the port answered

ending_none_put : (c : Conn) (ts : List Tunnel) (port : PortPut) (limit : ℕ) → Each (Kept c) (ending_done c ts (Put port limit))
ending_none_put c [] port limit = tt
ending_none_put c (t ∷ ts) port limit = tt

tunnel_put : (c : Conn) (rest : List Due) (o : Option Tunnel) (a : StreamAct) (port : PortPut) (limit : ℕ) → NoOpens rest → Each (Kept c) (tunnel_done (record c { due = rest }) o a (Put port limit))
tunnel_put c rest None a port limit opens = tt
tunnel_put c rest (Some t) (stream.Payload n payload) port limit opens = by_long (nat_lt limit (length payload)) port where
  behind : Kept c (record c { due = rest })
  behind = record { number = refl; actor = refl; tunnels = refl; opens = opens }

  by_long : (b : Bool) (o : PortPut)
      → Each (Kept c) (cond b (Some (dropped (record c { due = rest }) t n cause.TooLong)) (sent (record c { due = rest }) t n payload o))
  by_long true o = behind
  by_long false put.Sent = behind
  by_long false put.Failed = behind
  by_long false put.NotNow = tt
tunnel_put c rest (Some t) (stream.Packet n packet flow) port limit opens = tt
tunnel_put c rest (Some t) (stream.Push n to packet) port limit opens = tt
tunnel_put c rest (Some t) (stream.Drop n cause) port limit opens = tt
tunnel_put c rest (Some t) (stream.Assign asked) port limit opens = tt
tunnel_put c rest (Some t) (stream.Advertise ranges) port limit opens = tt
tunnel_put c rest (Some t) (stream.Close why) port limit opens = tt

act_put : (c : Conn) (rest : List Due) (a : Act) (port : PortPut) (limit : ℕ) → NoOpens rest → Each (Kept c) (act_done (record c { due = rest }) a (Put port limit))
act_put c rest (act.Bind id goal) port limit opens = tt
act_put c rest (act.Open id goal) port limit opens = tt
act_put c rest (act.Refuse id status rule) port limit opens = tt
act_put c rest (act.Reset id code) port limit opens = tt
act_put c rest (act.OfStream id a) port limit opens = tunnel_put c rest (tunnel_on c id) a port limit opens

due_put : (c : Conn) (ds : List Due) (port : PortPut) (limit : ℕ) → NoOpens (drop 1 ds) → Each (Kept c) (due_done c ds (Put port limit))
due_put c [] port limit opens = tt
due_put c (due.Do a ∷ rest) port limit opens = act_put c rest a port limit opens
due_put c (due.Spend id size ∷ rest) port limit opens = tt
due_put c (due.Fault code ∷ rest) port limit opens = tt

by_put : (c : Conn) (e : Option End) (port : PortPut) (limit : ℕ) → NoOpens (drop 1 c.due) → Each (Kept c) (done_by c e (Put port limit))
by_put c None port limit opens = due_put c c.due port limit opens
by_put c (Some why) port limit opens = ending_none_put c c.tunnels port limit

pub kept_put : (c t : Conn) (n : Note) (port : PortPut) (limit : ℕ) → NoOpens (drop 1 c.due) → done c (Put port limit) ≡ Some (n, t) → Kept c t
kept_put c t n port limit opens is =
    each_at (Kept c) (done c (Put port limit)) n t (each_settled (Kept c) (done_by c c.ending (Put port limit)) (settle_kept c) (by_put c c.ending port limit opens)) is

-- the book's history is full

ending_none_full : (c : Conn) (ts : List Tunnel) (entries live : ℕ) → Each (Kept c) (ending_done c ts (Replied (reply.HistoryFull entries live)))
ending_none_full c [] entries live = tt
ending_none_full c (t ∷ ts) entries live = tt

tunnel_full : (c x : Conn) (o : Option Tunnel) (a : StreamAct) (entries live : ℕ) → Each (Kept c) (tunnel_done x o a (Replied (reply.HistoryFull entries live)))
tunnel_full c x None a entries live = tt
tunnel_full c x (Some t) (stream.Payload n payload) entries live = tt
tunnel_full c x (Some t) (stream.Packet n packet flow) entries live = tt
tunnel_full c x (Some t) (stream.Push n to packet) entries live = tt
tunnel_full c x (Some t) (stream.Drop n cause) entries live = tt
tunnel_full c x (Some t) (stream.Assign asked) entries live = tt
tunnel_full c x (Some t) (stream.Advertise ranges) entries live = tt
tunnel_full c x (Some t) (stream.Close why) entries live = tt

act_full : (c : Conn) (rest : List Due) (a : Act) (entries live : ℕ) → NoOpens rest → Each (Kept c) (act_done (record c { due = rest }) a (Replied (reply.HistoryFull entries live)))
act_full c rest (act.Bind id goal) entries live opens = tt
act_full c rest (act.Open id goal) entries live opens = record { number = refl; actor = refl; tunnels = refl; opens = no_opens_without id rest opens }
act_full c rest (act.Refuse id status rule) entries live opens = tt
act_full c rest (act.Reset id code) entries live opens = tt
act_full c rest (act.OfStream id a) entries live opens = tunnel_full c (record c { due = rest }) (tunnel_on c id) a entries live

due_full : (c : Conn) (ds : List Due) (entries live : ℕ) → NoOpens (drop 1 ds) → Each (Kept c) (due_done c ds (Replied (reply.HistoryFull entries live)))
due_full c [] entries live opens = tt
due_full c (due.Do a ∷ rest) entries live opens = act_full c rest a entries live opens
due_full c (due.Spend id size ∷ rest) entries live opens = tt
due_full c (due.Fault code ∷ rest) entries live opens = tt

by_full : (c : Conn) (e : Option End) (entries live : ℕ) → NoOpens (drop 1 c.due) → Each (Kept c) (done_by c e (Replied (reply.HistoryFull entries live)))
by_full c None entries live opens = due_full c c.due entries live opens
by_full c (Some why) entries live opens = ending_none_full c c.tunnels entries live

pub kept_full : (c t : Conn) (n : Note) (entries live : ℕ) → NoOpens (drop 1 c.due) → done c (Replied (reply.HistoryFull entries live)) ≡ Some (n, t) → Kept c t
kept_full c t n entries live opens is =
    let said : Answer = Replied (reply.HistoryFull entries live) in
    each_at (Kept c) (done c said) n t (each_settled (Kept c) (done_by c c.ending said) (settle_kept c) (by_full c c.ending entries live opens)) is

-- ---- a packet was judged, or pushed

ending_none_judged : (c : Conn) (ts : List Tunnel) (said : Verdict) (at : ℕ) → Each (Kept c) (ending_done c ts (Judged said at))
ending_none_judged c [] said at = tt
ending_none_judged c (t ∷ ts) said at = tt

tunnel_judged : (c : Conn) (rest : List Due) (o : Option Tunnel) (a : StreamAct) (said : Verdict) (at : ℕ) → NoOpens rest → Each (Kept c) (tunnel_done (record c { due = rest }) o a (Judged said at))
tunnel_judged c rest None a said at opens = tt
tunnel_judged c rest (Some t) (stream.Payload n payload) said at opens = tt
tunnel_judged c rest (Some t) (stream.Packet n packet flow) (verdict.Pass to) at opens =
    record { number = refl; actor = refl; tunnels = refl; opens = no_opens_cons (due.Do (act.OfStream t.stream (stream.Push n to packet))) rest refl opens }
tunnel_judged c rest (Some t) (stream.Packet n packet flow) verdict.Source at opens = record { number = refl; actor = refl; tunnels = refl; opens = opens }
tunnel_judged c rest (Some t) (stream.Packet n packet flow) verdict.NoRoute at opens = record { number = refl; actor = refl; tunnels = refl; opens = opens }
tunnel_judged c rest (Some t) (stream.Push n to packet) said at opens = tt
tunnel_judged c rest (Some t) (stream.Drop n cause) said at opens = tt
tunnel_judged c rest (Some t) (stream.Assign asked) said at opens = tt
tunnel_judged c rest (Some t) (stream.Advertise ranges) said at opens = tt
tunnel_judged c rest (Some t) (stream.Close why) said at opens = tt

act_judged : (c : Conn) (rest : List Due) (a : Act) (said : Verdict) (at : ℕ) → NoOpens rest → Each (Kept c) (act_done (record c { due = rest }) a (Judged said at))
act_judged c rest (act.Bind id goal) said at opens = tt
act_judged c rest (act.Open id goal) said at opens = tt
act_judged c rest (act.Refuse id status rule) said at opens = tt
act_judged c rest (act.Reset id code) said at opens = tt
act_judged c rest (act.OfStream id a) said at opens = tunnel_judged c rest (tunnel_on c id) a said at opens

due_judged : (c : Conn) (ds : List Due) (said : Verdict) (at : ℕ) → NoOpens (drop 1 ds) → Each (Kept c) (due_done c ds (Judged said at))
due_judged c [] said at opens = tt
due_judged c (due.Do a ∷ rest) said at opens = act_judged c rest a said at opens
due_judged c (due.Spend id size ∷ rest) said at opens = tt
due_judged c (due.Fault code ∷ rest) said at opens = tt

by_judged : (c : Conn) (e : Option End) (said : Verdict) (at : ℕ) → NoOpens (drop 1 c.due) → Each (Kept c) (done_by c e (Judged said at))
by_judged c None said at opens = due_judged c c.due said at opens
by_judged c (Some why) said at opens = ending_none_judged c c.tunnels said at

pub kept_judged : (c t : Conn) (n : Note) (said : Verdict) (at : ℕ) → NoOpens (drop 1 c.due) → done c (Judged said at) ≡ Some (n, t) → Kept c t
kept_judged c t n said at opens is = each_at (Kept c) (done c (Judged said at)) n t (each_settled (Kept c) (done_by c c.ending (Judged said at)) (settle_kept c) (by_judged c c.ending said at opens)) is

ending_none_pushed : (c : Conn) (ts : List Tunnel) (taken : Bool) → Each (Kept c) (ending_done c ts (Pushed taken))
ending_none_pushed c [] taken = tt
ending_none_pushed c (t ∷ ts) taken = tt

tunnel_pushed : (c : Conn) (rest : List Due) (o : Option Tunnel) (a : StreamAct) (taken : Bool) → NoOpens rest → Each (Kept c) (tunnel_done (record c { due = rest }) o a (Pushed taken))
tunnel_pushed c rest None a taken opens = tt
tunnel_pushed c rest (Some t) (stream.Payload n payload) taken opens = tt
tunnel_pushed c rest (Some t) (stream.Packet n packet flow) taken opens = tt
tunnel_pushed c rest (Some t) (stream.Push n to packet) true opens = record { number = refl; actor = refl; tunnels = refl; opens = opens }
tunnel_pushed c rest (Some t) (stream.Push n to packet) false opens = record { number = refl; actor = refl; tunnels = refl; opens = opens }
tunnel_pushed c rest (Some t) (stream.Drop n cause) taken opens = tt
tunnel_pushed c rest (Some t) (stream.Assign asked) taken opens = tt
tunnel_pushed c rest (Some t) (stream.Advertise ranges) taken opens = tt
tunnel_pushed c rest (Some t) (stream.Close why) taken opens = tt

act_pushed : (c : Conn) (rest : List Due) (a : Act) (taken : Bool) → NoOpens rest → Each (Kept c) (act_done (record c { due = rest }) a (Pushed taken))
act_pushed c rest (act.Bind id goal) taken opens = tt
act_pushed c rest (act.Open id goal) taken opens = tt
act_pushed c rest (act.Refuse id status rule) taken opens = tt
act_pushed c rest (act.Reset id code) taken opens = tt
act_pushed c rest (act.OfStream id a) taken opens = tunnel_pushed c rest (tunnel_on c id) a taken opens

due_pushed : (c : Conn) (ds : List Due) (taken : Bool) → NoOpens (drop 1 ds) → Each (Kept c) (due_done c ds (Pushed taken))
due_pushed c [] taken opens = tt
due_pushed c (due.Do a ∷ rest) taken opens = act_pushed c rest a taken opens
due_pushed c (due.Spend id size ∷ rest) taken opens = tt
due_pushed c (due.Fault code ∷ rest) taken opens = tt

by_pushed : (c : Conn) (e : Option End) (taken : Bool) → NoOpens (drop 1 c.due) → Each (Kept c) (done_by c e (Pushed taken))
by_pushed c None taken opens = due_pushed c c.due taken opens
by_pushed c (Some why) taken opens = ending_none_pushed c c.tunnels taken

pub kept_pushed : (c t : Conn) (n : Note) (taken : Bool) → NoOpens (drop 1 c.due) → done c (Pushed taken) ≡ Some (n, t) → Kept c t
kept_pushed c t n taken opens is = each_at (Kept c) (done c (Pushed taken)) n t (each_settled (Kept c) (done_by c c.ending (Pushed taken)) (settle_kept c) (by_pushed c c.ending taken opens)) is

-- ---- what is wanted

tunnel_wants_no_open : (o : Option Tunnel) (a : StreamAct) (conn id actor : ℕ) (goal : Goal) → tunnel_want o a ≡ Ask (call.Open conn id actor goal) → ⊥
tunnel_wants_no_open None a conn id actor goal w = cc
tunnel_wants_no_open (Some t) (stream.Payload n payload) conn id actor goal w = cc
tunnel_wants_no_open (Some t) (stream.Packet n packet flow) conn id actor goal w = cc
tunnel_wants_no_open (Some t) (stream.Push n to packet) conn id actor goal w = cc
tunnel_wants_no_open (Some t) (stream.Drop n cause) conn id actor goal w = cc
tunnel_wants_no_open (Some t) (stream.Assign asked) conn id actor goal w = by_full (nat_le most_values (values t)) w where
  by_full : (b : Bool) → cond b (Ask (call.Close t.id)) (Ask (call.Assign t.id asked)) ≡ Ask (call.Open conn id actor goal) → ⊥
  by_full true e = cc
  by_full false e = cc
tunnel_wants_no_open (Some t) (stream.Advertise ranges) conn id actor goal w = cc
tunnel_wants_no_open (Some t) (stream.Close why) conn id actor goal w = cc

over_asks_nothing : (why : End) (bytes : List ℕ) (asked : Call) → over_want why bytes ≡ Ask asked → ⊥
over_asks_nothing why [] asked w = cc
over_asks_nothing why (b ∷ bytes) asked w = by_case (gives_up why) w where
  by_case : (g : Bool) → cond g (Over why) Nothing ≡ Ask asked → ⊥
  by_case true e = cc
  by_case false e = cc

ending_wants_no_open : (c : Conn) (why : End) (ts : List Tunnel) (conn id actor : ℕ) (goal : Goal) → ending_want c why ts ≡ Ask (call.Open conn id actor goal) → ⊥
ending_wants_no_open c why [] conn id actor goal w = over_asks_nothing why (owed c) (call.Open conn id actor goal) w
ending_wants_no_open c why (t ∷ ts) conn id actor goal w = cc

-- an opening of a tunnel for UDP that is wanted is due
abbrev opens_udp : ℕ → ℕ → ℕ → Addr → ℕ → Call
opens_udp conn id actor addr port = call.Open conn id actor (goal.Udp addr port)

due_no_open : (c : Conn) (ds : List Due) (conn id actor : ℕ) (addr : Addr) (port : ℕ) → NoOpens ds → due_want c ds ≡ Ask (opens_udp conn id actor addr port) → ⊥
due_no_open c [] conn id actor addr port opens w = cc
due_no_open c (due.Do (act.Bind on g) ∷ rest) conn id actor addr port opens w = cc
due_no_open c (due.Do (act.Open on (goal.Udp a p)) ∷ rest) conn id actor addr port opens w = let e = All-head IsNoOpen (due.Do (act.Open on (goal.Udp a p))) rest opens in cc
due_no_open c (due.Do (act.Open on (goal.Ip area protocol)) ∷ rest) conn id actor addr port opens w = cc
due_no_open c (due.Do (act.Refuse on status rule) ∷ rest) conn id actor addr port opens w = cc
due_no_open c (due.Do (act.Reset on code) ∷ rest) conn id actor addr port opens w = cc
due_no_open c (due.Do (act.OfStream on a) ∷ rest) conn id actor addr port opens w = tunnel_wants_no_open (tunnel_on c on) a conn id actor (goal.Udp addr port) w
due_no_open c (due.Spend on size ∷ rest) conn id actor addr port opens w = cc
due_no_open c (due.Fault code ∷ rest) conn id actor addr port opens w = cc

by_no_open : (c : Conn) (e : Option End) (conn id actor : ℕ) (addr : Addr) (port : ℕ) → NoOpens c.due → want_by c e ≡ Ask (opens_udp conn id actor addr port) → ⊥
by_no_open c None conn id actor addr port opens w = due_no_open c c.due conn id actor addr port opens w
by_no_open c (Some why) conn id actor addr port opens w = ending_wants_no_open c why c.tunnels conn id actor (goal.Udp addr port) w

-- where no opening of a tunnel for UDP is due, none is wanted
pub no_open : (c : Conn) (conn id actor : ℕ) (addr : Addr) (port : ℕ) → NoOpens c.due → want_of c ≡ Ask (opens_udp conn id actor addr port) → ⊥
no_open c conn id actor addr port opens w = by_no_open c c.ending conn id actor addr port opens w

-- ---- a port is bound

-- its tunnel is to open next
abbrev pub IsBoundNext : Conn → ℕ → Goal → Conn → Type 0
IsBoundNext c id goal t = (t.number ≡ c.number) × (t.actor ≡ c.actor) × (t.tunnels ≡ c.tunnels) × (want_of t ≡ Ask (call.Open t.number id t.actor goal))

tunnel_bound : (P : Conn → Type 0) (x : Conn) (o : Option Tunnel) (a : StreamAct) → Each P (option_map settled_note (tunnel_done x o a (Bound true)))
tunnel_bound P x None a = tt
tunnel_bound P x (Some t) (stream.Payload n payload) = tt
tunnel_bound P x (Some t) (stream.Packet n packet flow) = tt
tunnel_bound P x (Some t) (stream.Push n to packet) = tt
tunnel_bound P x (Some t) (stream.Drop n cause) = tt
tunnel_bound P x (Some t) (stream.Assign asked) = tt
tunnel_bound P x (Some t) (stream.Advertise ranges) = tt
tunnel_bound P x (Some t) (stream.Close why) = tt

act_bound : (c : Conn) (rest : List Due) (a : Act) (id : ℕ) (goal : Goal) → c.ending ≡ None → act_want c a ≡ Bind id goal
    → Each (IsBoundNext c id goal) (option_map settled_note (act_done (record c { due = rest }) a (Bound true)))
act_bound c rest (act.Bind on g) id goal ending w =
    let x : Conn = record c { due = due.Do (act.Open on g) ∷ rest } in
    let y : Conn = record x { front = (settled x).front; out = (settled x).out } in
    let opens : want_by y None ≡ Ask (call.Open c.number id c.actor goal) = cc in
    let P : Conn → Type 0 = λ z. IsBoundNext c id goal z in
    subst P (sym (settled_rests x)) (refl, refl, refl, ap (λ (e : Option End). want_by y e) ending ∙ opens)
act_bound c rest (act.Open on g) id goal ending w = tt
act_bound c rest (act.Refuse on status rule) id goal ending w = tt
act_bound c rest (act.Reset on code) id goal ending w = tt
act_bound c rest (act.OfStream on a) id goal ending w = tunnel_bound (IsBoundNext c id goal) (record c { due = rest }) (tunnel_on c on) a

due_bound : (c : Conn) (ds : List Due) (id : ℕ) (goal : Goal) → c.ending ≡ None → due_want c ds ≡ Bind id goal → Each (IsBoundNext c id goal) (option_map settled_note (due_done c ds (Bound true)))
due_bound c [] id goal ending w = tt
due_bound c (due.Do a ∷ rest) id goal ending w = act_bound c rest a id goal ending w
due_bound c (due.Spend on size ∷ rest) id goal ending w = tt
due_bound c (due.Fault code ∷ rest) id goal ending w = tt

ending_bound : (P : Conn → Type 0) (c : Conn) (ts : List Tunnel) → Each P (option_map settled_note (ending_done c ts (Bound true)))
ending_bound P c [] = tt
ending_bound P c (t ∷ ts) = tt

by_bound : (c : Conn) (e : Option End) (id : ℕ) (goal : Goal) → c.ending ≡ e → want_by c e ≡ Bind id goal → Each (IsBoundNext c id goal) (option_map settled_note (done_by c e (Bound true)))
by_bound c None id goal ending w = due_bound c c.due id goal ending w
by_bound c (Some why) id goal ending w = ending_bound (IsBoundNext c id goal) c c.tunnels

-- a port is bound: its tunnel is to open next
pub bound_next : (c t : Conn) (n : Note) (id : ℕ) (goal : Goal) → want_of c ≡ Bind id goal → done c (Bound true) ≡ Some (n, t)
    → (t.number ≡ c.number) × (t.actor ≡ c.actor) × (t.tunnels ≡ c.tunnels) × (want_of t ≡ Ask (call.Open t.number id t.actor goal))
bound_next c t n id goal w is = each_at (IsBoundNext c id goal) (done c (Bound true)) n t (by_bound c c.ending id goal refl w) is

-- ---- a tunnel opened or closed

-- no opening is due behind it, and these are the tunnels
pub record Leaves (c : Conn) (ts : List Tunnel) (t : Conn) : Type 0 where
  pub number : t.number ≡ c.number
  pub actor : t.actor ≡ c.actor
  pub opens : NoOpens t.due
  pub tunnels : t.tunnels ≡ ts

settle_leaves : (c : Conn) (ts : List Tunnel) (x : Conn) → Leaves c ts x → Leaves c ts (settle x)
settle_leaves c ts x leaves =
    let k = settles x leaves.opens in
    record { number = k.number ∙ leaves.number; actor = k.actor ∙ leaves.actor; opens = k.opens; tunnels = k.tunnels ∙ leaves.tunnels }

abbrev pub opened_tunnel : ℕ → ℕ → Goal → List Range → Tunnel
opened_tunnel tunnel id goal routes = record { id = tunnel; stream = id; goal = goal; waiting = first_waiting (kind_of goal) routes }

act_opened : (c : Conn) (rest : List Due) (a : Act) (conn id actor : ℕ) (goal : Goal) (tunnel : ℕ) (routes : List Range) → NoOpens rest → act_want c a ≡ Ask (call.Open conn id actor goal)
    → Each (Leaves c (c.tunnels ++ opened_tunnel tunnel id goal routes ∷ [])) (act_done (record c { due = rest }) a (Replied (reply.Opened tunnel routes)))
act_opened c rest (act.Bind on g) conn id actor goal tunnel routes opens w = tt
act_opened c rest (act.Open on g) conn id actor goal tunnel routes opens w =
    let id_is : on ≡ id = cc in
    let goal_is : g ≡ goal = cc in
    record {
      number = refl;
      actor = refl;
      opens = opens;
      tunnels = ap (λ (k : ℕ). c.tunnels ++ opened_tunnel tunnel k g routes ∷ []) id_is ∙ ap (λ (h : Goal). c.tunnels ++ opened_tunnel tunnel id h routes ∷ []) goal_is;
    }
act_opened c rest (act.Refuse on status rule) conn id actor goal tunnel routes opens w = tt
act_opened c rest (act.Reset on code) conn id actor goal tunnel routes opens w = tt
act_opened c rest (act.OfStream on a) conn id actor goal tunnel routes opens w = absurd (tunnel_wants_no_open (tunnel_on c on) a conn id actor goal w)

due_opened : (c : Conn) (ds : List Due) (conn id actor : ℕ) (goal : Goal) (tunnel : ℕ) (routes : List Range) → NoOpens (drop 1 ds) → due_want c ds ≡ Ask (call.Open conn id actor goal)
    → Each (Leaves c (c.tunnels ++ opened_tunnel tunnel id goal routes ∷ [])) (due_done c ds (Replied (reply.Opened tunnel routes)))
due_opened c [] conn id actor goal tunnel routes opens w = tt
due_opened c (due.Do a ∷ rest) conn id actor goal tunnel routes opens w = act_opened c rest a conn id actor goal tunnel routes opens w
due_opened c (due.Spend on size ∷ rest) conn id actor goal tunnel routes opens w = tt
due_opened c (due.Fault code ∷ rest) conn id actor goal tunnel routes opens w = tt

by_opened : (c : Conn) (e : Option End) (conn id actor : ℕ) (goal : Goal) (tunnel : ℕ) (routes : List Range) → NoOpens (drop 1 c.due) → want_by c e ≡ Ask (call.Open conn id actor goal)
    → Each (Leaves c (c.tunnels ++ opened_tunnel tunnel id goal routes ∷ [])) (done_by c e (Replied (reply.Opened tunnel routes)))
by_opened c None conn id actor goal tunnel routes opens w = due_opened c c.due conn id actor goal tunnel routes opens w
by_opened c (Some why) conn id actor goal tunnel routes opens w = absurd (ending_wants_no_open c why c.tunnels conn id actor goal w)

-- a tunnel opened
pub opened_next : (c t : Conn) (n : Note) (conn id actor : ℕ) (goal : Goal) (tunnel : ℕ) (routes : List Range) → NoOpens (drop 1 c.due) → want_of c ≡ Ask (call.Open conn id actor goal)
    → done c (Replied (reply.Opened tunnel routes)) ≡ Some (n, t)
    → (t.number ≡ c.number) × (t.actor ≡ c.actor) × NoOpens t.due
    × (t.tunnels ≡ c.tunnels ++ record { id = tunnel; stream = id; goal = goal; waiting = first_waiting (kind_of goal) routes } ∷ [])
opened_next c t n conn id actor goal tunnel routes opens w is =
    let said : Answer = Replied (reply.Opened tunnel routes) in
    let ts : List Tunnel = c.tunnels ++ opened_tunnel tunnel id goal routes ∷ [] in
    let l = each_at (Leaves c ts) (done c said) n t
    (each_settled (Leaves c ts) (done_by c c.ending said) (settle_leaves c ts) (by_opened c c.ending conn id actor goal tunnel routes opens w)) is in
    (l.number, l.actor, l.opens, l.tunnels)

abbrev pub without_id : ℕ → List Tunnel → List Tunnel
without_id tunnel ts = filter (λ (u : Tunnel). not (u.id == tunnel)) ts

-- the tunnel of this number is closed, behind which nothing more is asked of its stream
closed_leaves : (c x : Conn) (t : Tunnel) (why : Why) (tunnel : ℕ) → x.number ≡ c.number → x.actor ≡ c.actor → x.tunnels ≡ c.tunnels → NoOpens x.due → t.id ≡ tunnel
    → Leaves c (without_id tunnel c.tunnels) (closed x t why).1
closed_leaves c x t why tunnel number actor tunnels opens is = record {
  number = number;
  actor = actor;
  opens = no_opens_without t.stream x.due opens;
  tunnels = ap (λ (k : ℕ). without_id k x.tunnels) is ∙ ap (λ (ts : List Tunnel). without_id tunnel ts) tunnels;
}

tunnel_closed : (c : Conn) (rest : List Due) (o : Option Tunnel) (a : StreamAct) (tunnel : ℕ) → NoOpens rest → tunnel_want o a ≡ Ask (call.Close tunnel)
    → Each (Leaves c (without_id tunnel c.tunnels)) (tunnel_done (record c { due = rest }) o a (Replied reply.Closed))
tunnel_closed c rest None a tunnel opens w = tt
tunnel_closed c rest (Some t) (stream.Payload n payload) tunnel opens w = tt
tunnel_closed c rest (Some t) (stream.Packet n packet flow) tunnel opens w = tt
tunnel_closed c rest (Some t) (stream.Push n to packet) tunnel opens w = tt
tunnel_closed c rest (Some t) (stream.Drop n cause) tunnel opens w = tt
tunnel_closed c rest (Some t) (stream.Assign asked) tunnel opens w = by_full (nat_le most_values (values t)) w where
  by_full : (b : Bool) → cond b (Ask (call.Close t.id)) (Ask (call.Assign t.id asked)) ≡ Ask (call.Close tunnel)
      → Leaves c (without_id tunnel c.tunnels) (closed (record c { due = rest }) t reason.Full).1
  by_full true e = closed_leaves c (record c { due = rest }) t reason.Full tunnel refl refl refl opens cc
  by_full false e = absurd cc
tunnel_closed c rest (Some t) (stream.Advertise ranges) tunnel opens w = absurd cc
tunnel_closed c rest (Some t) (stream.Close why) tunnel opens w = closed_leaves c (record c { due = rest }) t why tunnel refl refl refl opens cc

act_closed : (c : Conn) (rest : List Due) (a : Act) (tunnel : ℕ) → NoOpens rest → act_want c a ≡ Ask (call.Close tunnel)
    → Each (Leaves c (without_id tunnel c.tunnels)) (act_done (record c { due = rest }) a (Replied reply.Closed))
act_closed c rest (act.Bind on g) tunnel opens w = tt
act_closed c rest (act.Open on g) tunnel opens w = tt
act_closed c rest (act.Refuse on status rule) tunnel opens w = tt
act_closed c rest (act.Reset on code) tunnel opens w = tt
act_closed c rest (act.OfStream on a) tunnel opens w = tunnel_closed c rest (tunnel_on c on) a tunnel opens w

due_closed : (c : Conn) (ds : List Due) (tunnel : ℕ) → NoOpens ds → due_want c ds ≡ Ask (call.Close tunnel) → Each (Leaves c (without_id tunnel c.tunnels)) (due_done c ds (Replied reply.Closed))
due_closed c [] tunnel opens w = tt
due_closed c (due.Do a ∷ rest) tunnel opens w = act_closed c rest a tunnel (All-tail IsNoOpen (due.Do a) rest opens) w
due_closed c (due.Spend on size ∷ rest) tunnel opens w = tt
due_closed c (due.Fault code ∷ rest) tunnel opens w = tt

ending_closed : (c : Conn) (why : End) (ts : List Tunnel) (tunnel : ℕ) → NoOpens c.due → ending_want c why ts ≡ Ask (call.Close tunnel) → Each (Leaves c (without_id tunnel c.tunnels)) (ending_done c ts (Replied reply.Closed))
ending_closed c why [] tunnel opens w = tt
ending_closed c why (t ∷ ts) tunnel opens w = closed_leaves c c t reason.Conn tunnel refl refl refl opens cc

by_closed : (c : Conn) (e : Option End) (tunnel : ℕ) → NoOpens c.due → want_by c e ≡ Ask (call.Close tunnel) → Each (Leaves c (without_id tunnel c.tunnels)) (done_by c e (Replied reply.Closed))
by_closed c None tunnel opens w = due_closed c c.due tunnel opens w
by_closed c (Some why) tunnel opens w = ending_closed c why c.tunnels tunnel opens w

-- A tunnel closed. An ending connection may do so before what is due, so none of that is an opening.
pub closed_next : (c t : Conn) (n : Note) (tunnel : ℕ) → NoOpens c.due → want_of c ≡ Ask (call.Close tunnel) → done c (Replied reply.Closed) ≡ Some (n, t)
    → (t.number ≡ c.number) × (t.actor ≡ c.actor) × NoOpens t.due × (t.tunnels ≡ filter (λ (u : Tunnel). not (u.id == tunnel)) c.tunnels)
closed_next c t n tunnel opens w is =
    let ts : List Tunnel = without_id tunnel c.tunnels in
    let l = each_at (Leaves c ts) (done c (Replied reply.Closed)) n t
    (each_settled (Leaves c ts) (done_by c c.ending (Replied reply.Closed)) (settle_leaves c ts) (by_closed c c.ending tunnel opens w)) is in
    (l.number, l.actor, l.opens, l.tunnels)

-- ---- an ending connection goes on to end

abbrev IsToEnd : Conn → Type 0
IsToEnd c = is_some c.ending ≡ true

passing_ends : (ds : List Due) (x : Conn) → IsToEnd x → IsToEnd (passing ds x)
passing_ends [] x is = is
passing_ends (due.Do a ∷ rest) x is = is
passing_ends (due.Spend id size ∷ rest) x is = passing_ends rest (record x { front = spending x.front id size }) is
passing_ends (due.Fault code ∷ rest) x is = refl

settle_ends : (x : Conn) → IsToEnd x → IsToEnd (settle x)
settle_ends x is =
    let y : Conn = passing x.due x in
    let P : Conn → Type 0 = λ z. IsToEnd z in
    subst P (sym (settled_rests y)) (passing_ends x.due x is)

first_ends : (a b : Option End) → is_some a ≡ true → is_some (first_of a b) ≡ true
first_ends None b is = absurd cc
first_ends (Some why) None is = refl
first_ends (Some why) (Some later) is = refl

close_ends : (c : Conn) (ts : List Tunnel) → IsToEnd c → Each IsToEnd (ending_done c ts (Replied reply.Closed))
close_ends c [] is = tt
close_ends c (t ∷ ts) is = first_ends c.ending (closing c.front t reason.Conn).ending is

by_ends : (c : Conn) (e : Option End) → c.ending ≡ e → is_some e ≡ true → Each IsToEnd (done_by c e (Replied reply.Closed))
by_ends c None same is = absurd cc
by_ends c (Some why) same is = close_ends c c.tunnels (ap (λ (e : Option End). is_some e) same)

-- one that closes a tunnel while it is ending is ending then
pub closed_ends : (c t : Conn) (n : Note) → done c (Replied reply.Closed) ≡ Some (n, t) → is_some c.ending ≡ true → is_some t.ending ≡ true
closed_ends c t n does is =
    each_at IsToEnd (done c (Replied reply.Closed)) n t (each_settled IsToEnd (done_by c c.ending (Replied reply.Closed)) settle_ends (by_ends c c.ending refl is)) does

-- ---- what a connection does beside its wants

-- It leaves number, actor and the numbers of tunnels for UDP, and no opening is due behind it.
abbrev pub IsKept : Conn → Conn → Type 0
IsKept c t = (t.number ≡ c.number) × (t.actor ≡ c.actor) × NoOpens t.due × (numbers_of t.tunnels ≡ numbers_of c.tunnels)

pub settle_is_kept : (c x : Conn) → IsKept c x → IsKept c (settle x)
settle_is_kept c x kept =
    let k = settles x kept.2 in
    (k.number ∙ kept.0, k.actor ∙ kept.1, k.opens, ap numbers_of k.tunnels ∙ kept.3)

set_numbers : (on : ℕ) (ws : List Waiting) (ts : List Tunnel) → numbers_of (set_waiting on ws ts) ≡ numbers_of ts
set_numbers on ws [] = refl
set_numbers on ws (t ∷ ts) = same (t.stream == on) (set_numbers on ws ts) where
  same : (b : Bool) → numbers_of (set_waiting on ws ts) ≡ numbers_of ts → numbers_of (cond b (record t { waiting = ws } ∷ ts) (t ∷ set_waiting on ws ts)) ≡ numbers_of (t ∷ ts)
  same true rest = refl
  same false rest = ap (λ (ids : List ℕ). port_number t.goal t.id ++ ids) rest

pub waits_numbers : (id : ℕ) (w : Waiting) (ts : List Tunnel) → numbers_of (waits id w ts) ≡ numbers_of ts
waits_numbers id w [] = refl
waits_numbers id w (t ∷ ts) = same (t.id == id) (waits_numbers id w ts) where
  same : (b : Bool) → numbers_of (waits id w ts) ≡ numbers_of ts → numbers_of (cond b (record t { waiting = t.waiting ++ w ∷ [] } ∷ ts) (t ∷ waits id w ts)) ≡ numbers_of (t ∷ ts)
  same true rest = refl
  same false rest = ap (λ (ids : List ℕ). port_number t.goal t.id ++ ids) rest

-- bytes put
framing_kept : (c : Conn) (put : Putting) (ts : List Tunnel) (next : ℕ) → NoOpens c.due → numbers_of ts ≡ numbers_of c.tunnels
    → IsKept c (record (putting c put) { tunnels = ts; next_tunnel = next })
framing_kept c put ts next opens numbers = (refl, refl, opens, numbers)

framed_by_kept : (c : Conn) (t : Tunnel) (w : Waiting) (ws : List Waiting) (count : ℕ) → NoOpens c.due → IsKept c (framed_by c t w ws count).1
framed_by_kept c t w ws count opens = by_whole (nat_le (length w.capsule) (w.framed + count)) where
  put : Putting
  put = framing c.front t.stream (take count (drop w.framed w.capsule))

  left : List Waiting
  left = record w { framed = w.framed + count } ∷ ws

  by_whole : (b : Bool) → IsKept c (cond {A = Note × Conn} b
      (whole_note t w w.what, record (putting c put) { tunnels = set_waiting t.stream ws c.tunnels; next_tunnel = t.id + 1 })
      (note.Part t.id count, record (putting c put) { tunnels = set_waiting t.stream left c.tunnels; next_tunnel = t.id + 1 })).1
  by_whole true = framing_kept c put (set_waiting t.stream ws c.tunnels) (t.id + 1) opens (set_numbers t.stream ws c.tunnels)
  by_whole false = framing_kept c put (set_waiting t.stream left c.tunnels) (t.id + 1) opens (set_numbers t.stream left c.tunnels)

front_kept : (c : Conn) (t : Tunnel) (ws : List Waiting) → NoOpens c.due → Each (IsKept c) (framed_front c t ws)
front_kept c t [] opens = tt
front_kept c t (w ∷ ws) opens = framed_by_kept c t w ws (frame_size c.front t.stream (length (drop w.framed w.capsule))) opens

next_kept : (c : Conn) (o : Option Tunnel) → NoOpens c.due → Each (IsKept c) (option_and_then (λ (t : Tunnel). framed_front c t t.waiting) o)
next_kept c None opens = tt
next_kept c (Some t) opens = front_kept c t t.waiting opens

-- a frame
pub framed_keeps : (c t : Conn) (n : Note) → NoOpens c.due → framed c ≡ Some (n, t)
    → (t.number ≡ c.number) × (t.actor ≡ c.actor) × NoOpens t.due × (numbers_of t.tunnels ≡ numbers_of c.tunnels)
framed_keeps c t n opens is =
    let o : Done = option_and_then (λ (u : Tunnel). framed_front c u u.waiting) (next_framed c) in
    each_at (IsKept c) (framed c) n t (each_settled (IsKept c) o (settle_is_kept c) (next_kept c (next_framed c) opens)) is

go_on_by : (b : Bool) (c : Conn) (o : Option Tunnel) (n : Note) (t : Conn)
    → option_map settled_note (option_and_then (λ (u : Tunnel). framed_front c u u.waiting) (cond b o None)) ≡ Some (n, t) → b ≡ true
go_on_by true c o n t is = refl
go_on_by false c o n t is = absurd cc

-- a connection that frames can go on
pub framed_goes_on : (c t : Conn) (n : Note) → framed c ≡ Some (n, t) → can_go_on c ≡ true
framed_goes_on c t n is = go_on_by (can_go_on c) c (find (can_frame c) (tunnels_from c.next_tunnel c.tunnels)) n t is

-- a write
pub wrote_keeps : (c : Conn) (count : ℕ) → NoOpens c.due → Kept c (wrote c count).1
wrote_keeps c count opens =
    let x : Conn = record c { given = c.given + count } in
    settle_kept c x (record { number = refl; actor = refl; tunnels = refl; opens = opens })

-- the end of its link
finish_kept : (c : Conn) (f : Front) (inside : Bool) → NoOpens c.due → Kept c (finish_by (record c { is_finished = true }) f inside)
finish_kept c (Head []) inside opens = record { number = refl; actor = refl; tunnels = refl; opens = opens }
finish_kept c (Head (b ∷ bytes)) inside opens = record { number = refl; actor = refl; tunnels = refl; opens = opens }
finish_kept c (OverHttp2 h) inside opens = record { number = refl; actor = refl; tunnels = refl; opens = opens }
finish_kept c OverHttp1 inside opens = record { number = refl; actor = refl; tunnels = refl; opens = no_opens_cons _ c.due refl opens }

pub finished_keeps : (c : Conn) (inside : Bool) → NoOpens c.due → Kept c (finished c inside).1
finished_keeps c inside opens = settle_kept c (finish_by (record c { is_finished = true }) c.front inside) (finish_kept c c.front inside opens)

-- a packet comes to a tunnel
pub queued_keeps : (c : Conn) (t : Tunnel) (from : From) (k : ℕ) (packet : List ℕ) → NoOpens c.due → IsKept c (settled_note (queued c t from k packet)).1
queued_keeps c t from k packet opens = settle_is_kept c (queued c t from k packet).1 (by_room _) where
  by_room : (b : Bool) → IsKept c (cond {A = Note × Conn} b (note.Dropped from k cause.QueueFull, c)
      (note.Queued from k t.id, with_waiting t.id (record { what = Packet from k packet; capsule = capsule_text (datagram packet); framed = 0 }) c)).1
  by_room true = (refl, refl, opens, refl)
  by_room false = (refl, refl, opens, waits_numbers t.id _ c.tunnels)

-- the port of a tunnel failed
pub port_failed_keeps : (c : Conn) (t : Tunnel) → NoOpens c.due → Kept c (port_failed c t)
port_failed_keeps c t opens = record { number = refl; actor = refl; tunnels = refl; opens = no_opens_cons _ c.due refl opens }

-- ---- a connection that can go on

both : (a b : Bool) → (a && b) ≡ true → (a ≡ true) × (b ≡ true)
both true b is = (refl, is)
both false b is = absurd cc

-- it wants nothing
pub nothing_due : (c : Conn) → can_go_on c ≡ true → is_nothing (want_of c) ≡ true
nothing_due c is =
    let free = both (is_nothing (want_of c) && nat_le (length (owed c)) most_owed) (not (is_ending c.ending)) is in
    (both (is_nothing (want_of c)) (nat_le (length (owed c)) most_owed) free.0).0
