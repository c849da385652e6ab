-- A connection that waits for its client, the end of its link, ports that fail, and answers that it has no memory to hear.
use Rattle.std.proofs.Common.{◌≡◌, ℕ, ◌==◌, Bool, true, false, not, cond, ◌&&◌, ◌||◌, List, [], ◌∷◌, ◌++◌, length, drop, nat_le, Option, Some, None, refl, sym, ap, ◌∙◌, subst, arith}
use Rattle.std.specs.List.{AllByRecursion, list_any}
use Rattle.std.specs.Option.{is_some}
use Rattle.std.proofs.lemmas.Bool.{and_parts}
use Rattle.mq_talk.specs.declared.book.Call.TheVariants as call
use Rattle.mq_talk.specs.declared.book.Reply.{Reply}
use Rattle.mq_talk.specs.declared.book.Reply.TheVariants as reply
use Rattle.mq_talk.specs.declared.goal.Goal.{Goal}
use Rattle.mq_talk.specs.declared.note.End.{End}
use Rattle.mq_talk.specs.declared.note.End.TheVariants as end
use Rattle.mq_talk.specs.declared.note.Why.TheVariants as why
use Rattle.mq_machine.specs.declared.act.Act.{Act}
use Rattle.mq_machine.specs.declared.act.Act.TheVariants as act
use Rattle.mq_machine.specs.declared.act.StreamAct.{StreamAct}
use Rattle.mq_machine.specs.declared.act.StreamAct.TheVariants as stream
use Rattle.mq_machine.specs.declared.act.Due.{Due}
use Rattle.mq_machine.specs.declared.act.Due.TheVariants as due
use Rattle.mq_machine.specs.Laws.{BeginsWithAct}
use Rattle.mq_machine.specs.Settle.{gives_up}
use Rattle.mq_machine.specs.State.{Conn, Front, Head, OverHttp1, OverHttp2, Stream, Tunnel, owed, tunnel_of, tunnel_on, values}
use Rattle.mq_machine.specs.Want.{Want, Nothing, Say, Ask, Answer, Replied, Over, Bind, most_values, want_of, want_by, due_want, act_want, tunnel_want, stream_want, ending_want, over_want, may_wait}
use Rattle.mq_machine.specs.Done.{done}
use Rattle.mq_machine.specs.Steps.{is_nothing, is_ending, most_owed, can_go_on, can_read, finish_by, finished, starved, port_failed}
use Rattle.mq_machine.specs.Silent.{tunnels_after}
use Rattle.mq_h2.specs.Laws.{may_come}
use Rattle.mq_machine.specs.Lawful.{IsAskedOf, kind_on, Follows, NoOpens, begins_on, IsOfZero, IsOneRequest, Fits, IsOver, Loose, IsLoose, IsLawful}
use Rattle.mq_machine.proofs.Lawful.Lists.{either, itself, each_append, some_asked, closes_asked, found_in, In, in_each, in_has, kind_there, none_there, alone_one_more}
use Rattle.mq_machine.proofs.Lawful.Steps.{nothing_left, given_front, settle_lawful}

-- ---- where it wants nothing, nothing is due

wants_stream : (o : Option Tunnel) (a : StreamAct) → is_some o ≡ true → is_nothing (tunnel_want o a) ≡ true → ⊥
wants_stream None a some h = absurd cc
wants_stream (Some t) (stream.Payload n payload) some h = absurd cc
wants_stream (Some t) (stream.Packet n packet flow) some h = absurd cc
wants_stream (Some t) (stream.Push n to packet) some h = absurd cc
wants_stream (Some t) (stream.Drop n cause) some h = absurd cc
wants_stream (Some t) (stream.Assign list) some h =
    either (nat_le most_values (values t)) (λ (w : Want). is_nothing w ≡ true → ⊥) (Ask (call.Close t.id)) (Ask (call.Assign t.id list)) (λ e. cc) (λ e. cc) h
wants_stream (Some t) (stream.Advertise ranges) some h = absurd cc
wants_stream (Some t) (stream.Close reason) some h = absurd cc

wants_act : (c : Conn) (a : Act) (rest : List Due) → Follows (kind_on c.tunnels) (due.Do a ∷ rest) → is_nothing (act_want c a) ≡ true → ⊥
wants_act c (act.Bind id goal) rest f h = absurd cc
wants_act c (act.Open id goal) rest f h = absurd cc
wants_act c (act.Refuse id status rule) rest f h = absurd cc
wants_act c (act.Reset id code) rest f h = absurd cc
wants_act c (act.OfStream id a) rest f h = wants_stream (tunnel_on c id) a (sym (kind_there c.tunnels id) ∙ some_asked (kind_on c.tunnels id) a f.0) h

nothing_due : (c : Conn) (ds : List Due) → BeginsWithAct ds → Follows (kind_on c.tunnels) ds → is_nothing (due_want c ds) ≡ true → ds ≡ []
nothing_due c [] begins f h = refl
nothing_due c (due.Do a ∷ rest) begins f h = absurd (wants_act c a rest f h)
nothing_due c (due.Spend id size ∷ rest) begins f h = absurd begins
nothing_due c (due.Fault code ∷ rest) begins f h = absurd begins

idle_by : (c : Conn) (e : Option End) → IsOver e c.due → BeginsWithAct c.due → Follows (kind_on c.tunnels) c.due → is_nothing (want_by c e) ≡ true → c.due ≡ []
idle_by c None over begins f h = nothing_due c c.due begins f h
idle_by c (Some reason) over begins f h = over

pub idle_due : (c : Conn) → IsLawful c → is_nothing (want_of c) ≡ true → c.due ≡ []
idle_due c h none = idle_by c c.ending h.loose.over h.settled h.loose.follows none

-- it isn't ending, and nothing is due
pub record IsIdle (c : Conn) : Type 0 where
  pub ending : c.ending ≡ None
  pub due : c.due ≡ []

none_ending : (e : Option End) → not (is_ending e) ≡ true → e ≡ None
none_ending None h = refl
none_ending (Some reason) h = absurd cc

pub reads_idle : (c : Conn) → IsLawful c → can_read c ≡ true → IsIdle c
reads_idle c h can =
    let a = and_parts (can_go_on c) (not c.is_finished) can in
    let b = and_parts (is_nothing (want_of c) && nat_le (length (owed c)) most_owed) (not (is_ending c.ending)) a.0 in
    let d = and_parts (is_nothing (want_of c)) (nat_le (length (owed c)) most_owed) b.0 in
    record { ending = none_ending c.ending b.1; due = idle_due c h d.0 }

-- ---- the end of the link

ended_front : (reason : End) (ts : List Tunnel) (ss : List Stream) (f : Front) → Fits f None [] ts ss → Fits f (Some reason) [] ts ss
ended_front reason ts ss (Head bytes) h = h
ended_front reason ts ss OverHttp1 h = record { due = tt; used = tt; tunnels = h.tunnels; streams = h.streams }
ended_front reason ts ss (OverHttp2 s) h = h

ended : (reason : End) (ts : List Tunnel) (ss : List Stream) (f : Front) → Loose None [] ts ss f → Loose (Some reason) [] ts ss f
ended reason ts ss f h = nothing_left None reason [] ts ss f h (ended_front reason ts ss f h.front)

data_ends : (inside : Bool) (ts : List Tunnel) (ss : List Stream) → Loose None [] ts ss OverHttp1
    → Loose None (due.Do (act.OfStream 0 (stream.Close (cond inside why.Truncated why.End))) ∷ []) ts ss OverHttp1
data_ends inside ts ss h = record {
  over = tt;
  follows = (asks inside, tt);
  opens = refl;
  seated = h.seated;
  alone = h.alone;
  numbered = h.numbered;
  front = record { due = (refl, tt); used = tt; tunnels = h.front.tunnels; streams = h.front.streams };
}
  where
    asks : (inside : Bool) → IsAskedOf (kind_on ts 0) (stream.Close (cond inside why.Truncated why.End))
    asks true = closes_asked (kind_on ts 0) why.Truncated (kind_there ts 0 ∙ h.front.used) (λ e. cc)
    asks false = closes_asked (kind_on ts 0) why.End (kind_there ts 0 ∙ h.front.used) (λ e. cc)

finish_loose : (d : Conn) (f : Front) (inside : Bool) → Loose None [] d.tunnels d.streams f → IsLoose (finish_by (record d { ending = None; due = []; front = f; is_finished = true }) f inside)
finish_loose d (Head []) inside h = ended end.Done d.tunnels d.streams (Head []) h
finish_loose d (Head (b ∷ bytes)) inside h = ended end.Truncated d.tunnels d.streams (Head (b ∷ bytes)) h
finish_loose d OverHttp1 inside h = data_ends inside d.tunnels d.streams h
finish_loose d (OverHttp2 s) inside h = ended (cond inside end.Truncated end.Done) d.tunnels d.streams (OverHttp2 s) h

pub finished_loose : (c : Conn) (inside : Bool) → IsLawful c → can_read c ≡ true → IsLoose (finish_by (record c { is_finished = true }) c.front inside)
finished_loose c inside h can =
    let idle = reads_idle c h can in
    let P : Option End → Type 0 = λ e. Loose e [] c.tunnels c.streams c.front → IsLoose (finish_by (record c { ending = e; due = []; is_finished = true }) c.front inside) in
    let Q : List Due → Type 0 = λ ds. Loose c.ending ds c.tunnels c.streams c.front → IsLoose (finish_by (record c { due = ds; is_finished = true }) c.front inside) in
    let all = subst Q (sym idle.due) (subst P (sym idle.ending) (finish_loose c c.front inside)) in
    all h.loose

pub finished_lawful : (c : Conn) (inside : Bool) → IsLawful c → can_read c ≡ true → IsLawful (finished c inside).1
finished_lawful c inside h can = settle_lawful (finish_by (record c { is_finished = true }) c.front inside) (finished_loose c inside h can)

-- ---- a port that failed

-- it waits, so that no opening is in front
waits_open : (c : Conn) (ds : List Due) → BeginsWithAct ds → NoOpens (drop 1 ds) → may_wait (due_want c ds) ≡ true → NoOpens ds
waits_open c [] begins o h = refl
waits_open c (due.Do (act.Bind id goal) ∷ rest) begins o h = absurd cc
waits_open c (due.Do (act.Open id goal) ∷ rest) begins o h = absurd cc
waits_open c (due.Do (act.Refuse id status rule) ∷ rest) begins o h = absurd cc
waits_open c (due.Do (act.Reset id code) ∷ rest) begins o h = absurd cc
waits_open c (due.Do (act.OfStream id a) ∷ rest) begins o h = o
waits_open c (due.Spend id size ∷ rest) begins o h = absurd begins
waits_open c (due.Fault code ∷ rest) begins o h = absurd begins

waits_zero : (c : Conn) (ds : List Due) → BeginsWithAct ds → IsOneRequest ds → may_wait (due_want c ds) ≡ true → AllByRecursion IsOfZero ds
waits_zero c [] begins o h = tt
waits_zero c (due.Do (act.Bind id goal) ∷ rest) begins o h = absurd cc
waits_zero c (due.Do (act.Open id goal) ∷ rest) begins o h = absurd cc
waits_zero c (due.Do (act.Refuse id status rule) ∷ rest) begins o h = absurd cc
waits_zero c (due.Do (act.Reset id code) ∷ rest) begins o h = absurd cc
waits_zero c (due.Do (act.OfStream id a) ∷ rest) begins o h = o
waits_zero c (due.Spend id size ∷ rest) begins o h = absurd begins
waits_zero c (due.Fault code ∷ rest) begins o h = absurd begins

-- an ending one doesn't wait before its tunnels are closed
ending_waits : (c : Conn) (reason : End) (t : Tunnel) (ts : List Tunnel) → In t ts → may_wait (ending_want c reason ts) ≡ true → ⊥
ending_waits c reason t [] i h = i
ending_waits c reason t (u ∷ us) i h = absurd cc

port_front : (c : Conn) (t : Tunnel) (ds : List Due) (ts : List Tunnel) (ss : List Stream) (f : Front) → BeginsWithAct ds → may_wait (due_want c ds) ≡ true → In t ts → Fits f None ds ts ss
    → Fits f None (due.Do (act.OfStream t.stream (stream.Close why.Port)) ∷ ds) ts ss
port_front c t ds ts ss (Head bytes) begins w i h = absurd (let P : List Tunnel → Type 0 = λ us. In t us in subst P h.1 i)
port_front c t ds ts ss OverHttp1 begins w i h = record {
  due = (in_each (λ (t : Tunnel). t.stream ≡ 0) ts t h.tunnels i, waits_zero c ds begins h.due w);
  used = tt;
  tunnels = h.tunnels;
  streams = h.streams;
}
port_front c t ds ts ss (OverHttp2 s) begins w i h = record {
  tunnels = h.tunnels;
  dues = h.dues;
  spends = λ k. (let n = h.spends k in omega (arith, n));
}

port_loose : (c : Conn) (t : Tunnel) (e : Option End) → BeginsWithAct c.due → may_wait (want_by c e) ≡ true → In t c.tunnels → Loose e c.due c.tunnels c.streams c.front
    → Loose e (due.Do (act.OfStream t.stream (stream.Close why.Port)) ∷ c.due) c.tunnels c.streams c.front
port_loose c t (Some reason) begins w i h = absurd (ending_waits c reason t c.tunnels i w)
port_loose c t None begins w i h = record {
  over = tt;
  follows = (closes_asked (kind_on c.tunnels t.stream) why.Port (kind_there c.tunnels t.stream ∙ in_has c.tunnels t i) (λ e. cc), h.follows);
  opens = waits_open c c.due begins h.opens w;
  seated = h.seated;
  alone = h.alone;
  numbered = h.numbered;
  front = port_front c t c.due c.tunnels c.streams c.front begins w i h.front;
}

pub port_failed_lawful : (c : Conn) (tunnel : ℕ) (t : Tunnel) → IsLawful c → tunnel_of c tunnel ≡ Some t → may_wait (want_of c) ≡ true → IsLawful (port_failed c t)
port_failed_lawful c tunnel t h found w = record {
  loose = port_loose c t c.ending h.settled w (found_in (λ (t : Tunnel). t.id == tunnel) c.tunnels t found).1 h.loose;
  settled = tt;
}

-- ---- what it has no memory to hear

abbrev NoOpening : Want → Type 0
NoOpening (Ask (call.Open conn id actor goal)) = ⊥
NoOpening want = Unit {0}

same_tunnels : (w : Want) (a : Answer) (ts : List Tunnel) → NoOpening w → tunnels_after w a ts ≡ ts
same_tunnels (Ask (call.Open conn id actor goal)) a ts h = absurd h
same_tunnels w a ts h = refl

over_opens : (reason : End) (bytes : List ℕ) → NoOpening (over_want reason bytes)
over_opens reason [] = tt
over_opens reason (b ∷ bytes) = either (gives_up reason) NoOpening (Over reason) Nothing tt tt

ending_opens : (c : Conn) (reason : End) (ts : List Tunnel) → NoOpening (ending_want c reason ts)
ending_opens c reason [] = over_opens reason (owed c)
ending_opens c reason (t ∷ ts) = tt

stream_opens : (t : Tunnel) (a : StreamAct) → NoOpening (stream_want t a)
stream_opens t (stream.Payload n payload) = tt
stream_opens t (stream.Packet n packet flow) = tt
stream_opens t (stream.Push n to packet) = tt
stream_opens t (stream.Drop n cause) = tt
stream_opens t (stream.Assign asked) = either (nat_le most_values (values t)) NoOpening (Ask (call.Close t.id)) (Ask (call.Assign t.id asked)) tt tt
stream_opens t (stream.Advertise ranges) = tt
stream_opens t (stream.Close reason) = tt

tunnel_opens : (o : Option Tunnel) (a : StreamAct) → NoOpening (tunnel_want o a)
tunnel_opens None a = tt
tunnel_opens (Some t) a = stream_opens t a

given_loose : (e : Option End) (reason : End) (ds : List Due) (ts : List Tunnel) (ss : List Stream) (f : Front) → Loose e ds ts ss f → Loose (Some reason) [] ts [] f
given_loose e reason ds ts ss f h = record {
  over = refl;
  follows = tt;
  opens = refl;
  seated = tt;
  alone = h.alone;
  numbered = tt;
  front = given_front e reason ds ts ss f h.front;
}

same_given : (e : Option End) (reason : End) (ds : List Due) (ts : List Tunnel) (ss : List Stream) (f : Front) (w : Want) (a : Answer) → NoOpening w → Loose e ds ts ss f
    → Loose (Some reason) [] (tunnels_after w a ts) [] f
same_given e reason ds ts ss f w a none h =
    let P : List Tunnel → Type 0 = λ us. Loose (Some reason) [] us [] f in
    subst P (sym (same_tunnels w a ts none)) (given_loose e reason ds ts ss f h)

opened_front : (reason : End) (t : Tunnel) (goal : Goal) (rest : List Due) (ts : List Tunnel) (ss : List Stream) (f : Front) → Fits f None (due.Do (act.Open t.stream goal) ∷ rest) ts ss
    → Fits f (Some reason) [] (ts ++ t ∷ []) []
opened_front reason t goal rest ts ss (Head bytes) h = absurd cc
opened_front reason t goal rest ts ss OverHttp1 h =
    record { due = tt; used = tt; tunnels = each_append (λ (t : Tunnel). t.stream ≡ 0) ts (t ∷ []) h.tunnels (h.due.0, tt); streams = tt }
opened_front reason t goal rest ts ss (OverHttp2 s) h = record {
  tunnels = each_append (λ (t : Tunnel). may_come t.stream s ≡ false) ts (t ∷ []) h.tunnels
      (h.dues t.stream (ap (λ b. b || list_any (begins_on t.stream) rest) (itself t.stream)), tt);
  dues = λ id is. absurd cc;
  spends = λ k. (let n = h.spends k in omega (arith, n));
}

opened_given : (reason : End) (t : Tunnel) (rest : List Due) (ts : List Tunnel) (ss : List Stream) (f : Front) → Loose None (due.Do (act.Open t.stream t.goal) ∷ rest) ts ss f
    → Loose (Some reason) [] (ts ++ t ∷ []) [] f
opened_given reason t rest ts ss f h = record {
  over = refl;
  follows = tt;
  opens = refl;
  seated = tt;
  alone = alone_one_more t ts (none_there ts t.stream h.follows.0) h.alone;
  numbered = tt;
  front = opened_front reason t t.goal rest ts ss f h.front;
}

open_heard : (c : Conn) (reason : End) (id : ℕ) (goal : Goal) (said : Reply) (rest : List Due) (ts : List Tunnel) (ss : List Stream) (f : Front) → Loose None (due.Do (act.Open id goal) ∷ rest) ts ss f
    → Loose (Some reason) [] (tunnels_after (Ask (call.Open c.number id c.actor goal)) (Replied said) ts) [] f
open_heard c reason id goal (reply.Opened tunnel routes) rest ts ss f h = opened_given reason (record { id = tunnel; stream = id; goal = goal; waiting = [] }) rest ts ss f h
open_heard c reason id goal (reply.HistoryFull entries live) rest ts ss f h = given_loose None reason (due.Do (act.Open id goal) ∷ rest) ts ss f h
open_heard c reason id goal (reply.Assigned list at) rest ts ss f h = given_loose None reason (due.Do (act.Open id goal) ∷ rest) ts ss f h
open_heard c reason id goal (reply.Accepted accepts at) rest ts ss f h = given_loose None reason (due.Do (act.Open id goal) ∷ rest) ts ss f h
open_heard c reason id goal reply.Closed rest ts ss f h = given_loose None reason (due.Do (act.Open id goal) ∷ rest) ts ss f h

due_heard : (c : Conn) (reason : End) (said : Reply) (ds : List Due) (ts : List Tunnel) (ss : List Stream) (f : Front) → Loose None ds ts ss f
    → Loose (Some reason) [] (tunnels_after (due_want c ds) (Replied said) ts) [] f
due_heard c reason said [] ts ss f h = same_given None reason [] ts ss f Nothing (Replied said) tt h
due_heard c reason said (due.Do (act.Bind id goal) ∷ rest) ts ss f h = same_given None reason (due.Do (act.Bind id goal) ∷ rest) ts ss f (Bind id goal) (Replied said) tt h
due_heard c reason said (due.Do (act.Open id goal) ∷ rest) ts ss f h = open_heard c reason id goal said rest ts ss f h
due_heard c reason said (due.Do (act.Refuse id status rule) ∷ rest) ts ss f h = same_given None reason (due.Do (act.Refuse id status rule) ∷ rest) ts ss f Say (Replied said) tt h
due_heard c reason said (due.Do (act.Reset id code) ∷ rest) ts ss f h = same_given None reason (due.Do (act.Reset id code) ∷ rest) ts ss f Say (Replied said) tt h
due_heard c reason said (due.Do (act.OfStream id a) ∷ rest) ts ss f h =
    same_given None reason (due.Do (act.OfStream id a) ∷ rest) ts ss f (tunnel_want (tunnel_on c id) a) (Replied said) (tunnel_opens (tunnel_on c id) a) h
due_heard c reason said (due.Spend id size ∷ rest) ts ss f h = same_given None reason (due.Spend id size ∷ rest) ts ss f Nothing (Replied said) tt h
due_heard c reason said (due.Fault code ∷ rest) ts ss f h = same_given None reason (due.Fault code ∷ rest) ts ss f Nothing (Replied said) tt h

heard_by : (c : Conn) (reason : End) (said : Reply) (e : Option End) → Loose e c.due c.tunnels c.streams c.front
    → Loose (Some reason) [] (tunnels_after (want_by c e) (Replied said) c.tunnels) [] c.front
heard_by c reason said None h = due_heard c reason said c.due c.tunnels c.streams c.front h
heard_by c reason said (Some earlier) h =
    same_given (Some earlier) reason c.due c.tunnels c.streams c.front (ending_want c earlier c.tunnels) (Replied said) (ending_opens c earlier c.tunnels) h

pub heard_lawful : (c : Conn) (said : Reply) → IsLawful c → is_some (done c (Replied said)) ≡ true → IsLawful (record (starved c) { tunnels = tunnels_after (want_of c) (Replied said) c.tunnels })
heard_lawful c said h answers = record { loose = heard_by c end.NoMemory said c.ending h.loose; settled = tt }
