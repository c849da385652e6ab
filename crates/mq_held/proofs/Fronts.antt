-- What an answer does to the act that is first, by what the connection wants.
use Rattle.std.proofs.Common.{◌≡◌, ℕ, cond, List, [], ◌∷◌, Option, Some, None, Result, Ok, Err, refl, sym, ap, subst, ◌∙◌, inl, inr, Bool, true, false}
use Rattle.std.specs.Bool.{MatchBool}
use Rattle.std.specs.Prelude.{option_map, nat_le, is_some}
use Rattle.mq_talk.specs.declared.book.Call.{Call}
use Rattle.mq_talk.specs.declared.book.Call.TheVariants as call
use Rattle.mq_talk.specs.declared.book.Reply.{Reply}
use Rattle.mq_talk.specs.declared.book.Reply.TheVariants as reply
use Rattle.mq_talk.specs.declared.goal.Goal.{Goal}
use Rattle.mq_talk.specs.declared.note.End.{End}
use Rattle.mq_talk.specs.declared.note.Note.{Note}
use Rattle.mq_talk.specs.declared.book.Entry.{Entry}
use Rattle.mq_talk.specs.declared.book.Config.{Config}
use Rattle.mq_talk.specs.Answers.{IsAnswer}
use Rattle.mq_machine.specs.declared.act.Act.{Act}
use Rattle.mq_machine.specs.declared.act.Act.TheVariants as act
use Rattle.mq_machine.specs.declared.act.StreamAct.{StreamAct}
use Rattle.mq_machine.specs.declared.act.StreamAct.TheVariants as stream
use Rattle.mq_machine.specs.declared.act.Due.{Due}
use Rattle.mq_machine.specs.declared.act.Due.TheVariants as due
use Rattle.mq_machine.specs.Settle.{gives_up}
use Rattle.mq_machine.specs.State.{Conn, Tunnel, owed, values, tunnel_on}
use Rattle.mq_machine.specs.Steps.{settled_note}
use Rattle.mq_machine.specs.Want.{Nothing, Bind, Ask, Over, Answer, Bound, Replied, want_of, want_by, ending_want, over_want, due_want, act_want, tunnel_want, stream_want, most_values}
use Rattle.mq_machine.specs.Done.{Done, done, done_by, due_done, act_done, tunnel_done, stream_done, ending_done}
use Rattle.mq_wire.specs.declared.NoMemory.{NoMemory}
use Rattle.mq_talk.specs.Offices.{Seen, CallOk}
use Rattle.mq_machine.specs.Cores.{MayAnswer}
use Rattle.mq_machine.specs.Steps.{starved}
use Rattle.mq_conn.specs.declared.conn.Conn.{Conn as Core}
use Rattle.mq_conn.specs.Conns.{IsConn}
use Rattle.mq_held.specs.declared.ask.Heard.{Heard}
use Rattle.mq_held.specs.Answers.{IsPlain, BindGives, OpensFresh, AskGives, HearGives}

-- the first act, and what is behind it
pub done_first : (s : Conn) (a : Act) (rest : List Due) (answer : Answer) → s.ending ≡ None → s.due ≡ due.Do a ∷ rest
    → done s answer ≡ option_map settled_note (act_done (record s { due = rest }) a answer)
done_first s a rest answer ending first =
    ap (λ (e : Option End). option_map settled_note (done_by s e answer)) ending ∙ ap (λ (ds : List Due). option_map settled_note (due_done s ds answer)) first

pub some_first : (s : Conn) (a : Act) (rest : List Due) (answer : Answer) → s.ending ≡ None → s.due ≡ due.Do a ∷ rest
    → is_some (option_map settled_note (act_done (record s { due = rest }) a answer)) ≡ true → is_some (done s answer) ≡ true
some_first s a rest answer ending first some = ap (λ (o : Done). is_some o) (done_first s a rest answer ending first) ∙ some

-- ---- binds

over_binds : (why : End) (bytes : List ℕ) (id : ℕ) (goal : Goal) → over_want why bytes ≡ Bind id goal → ⊥
over_binds why [] id goal w = cc
over_binds why (b ∷ bytes) id goal w = by_case (gives_up why) w where
  by_case : (g : Bool) → cond g (Over why) Nothing ≡ Bind id goal → ⊥
  by_case true e = cc
  by_case false e = cc

ending_binds : (s : Conn) (why : End) (tunnels : List Tunnel) (id : ℕ) (goal : Goal) → ending_want s why tunnels ≡ Bind id goal → ⊥
ending_binds s why [] id goal w = over_binds why (owed s) id goal w
ending_binds s why (t ∷ ts) id goal w = cc

tunnel_binds : (o : Option Tunnel) (a : StreamAct) (id : ℕ) (goal : Goal) → tunnel_want o a ≡ Bind id goal → ⊥
tunnel_binds None a id goal w = cc
tunnel_binds (Some t) (stream.Payload m bytes) id goal w = cc
tunnel_binds (Some t) (stream.Packet m packet flow) id goal w = cc
tunnel_binds (Some t) (stream.Push m to packet) id goal w = cc
tunnel_binds (Some t) (stream.Drop m cause) id goal w = cc
tunnel_binds (Some t) (stream.Assign asked) id goal w = by_case (nat_le most_values (values t)) w where
  by_case : (g : Bool) → cond g (Ask (call.Close t.id)) (Ask (call.Assign t.id asked)) ≡ Bind id goal → ⊥
  by_case true e = cc
  by_case false e = cc
tunnel_binds (Some t) (stream.Advertise ranges) id goal w = cc
tunnel_binds (Some t) (stream.Close why) id goal w = cc

bound_some : (x : Conn) (on : ℕ) (g : Goal) (b : Bool) → is_some (option_map settled_note (act_done x (act.Bind on g) (Bound b))) ≡ true
bound_some x on g true = refl
bound_some x on g false = refl

act_binds : (s : Conn) (rest : List Due) (a : Act) (id : ℕ) (goal : Goal) (b : Bool) → s.ending ≡ None → s.due ≡ due.Do a ∷ rest → act_want s a ≡ Bind id goal → is_some (done s (Bound b)) ≡ true
act_binds s rest (act.Bind on g) id goal b ending first w = some_first s (act.Bind on g) rest (Bound b) ending first (bound_some (record s { due = rest }) on g b)
act_binds s rest (act.Open on g) id goal b ending first w = absurd cc
act_binds s rest (act.Refuse on status rule) id goal b ending first w = absurd cc
act_binds s rest (act.Reset on code) id goal b ending first w = absurd cc
act_binds s rest (act.OfStream on a) id goal b ending first w = absurd (tunnel_binds (tunnel_on s on) a id goal w)

due_binds : (s : Conn) (ds : List Due) (id : ℕ) (goal : Goal) (b : Bool) → s.ending ≡ None → s.due ≡ ds → due_want s ds ≡ Bind id goal → is_some (done s (Bound b)) ≡ true
due_binds s [] id goal b ending first w = absurd cc
due_binds s (due.Do a ∷ rest) id goal b ending first w = act_binds s rest a id goal b ending first w
due_binds s (due.Spend on size ∷ rest) id goal b ending first w = absurd cc
due_binds s (due.Fault code ∷ rest) id goal b ending first w = absurd cc

bind_by : (s : Conn) (e : Option End) (id : ℕ) (goal : Goal) (b : Bool) → s.ending ≡ e → want_by s e ≡ Bind id goal → is_some (done s (Bound b)) ≡ true
bind_by s None id goal b ending w = due_binds s s.due id goal b ending refl w
bind_by s (Some why) id goal b ending w = absurd (ending_binds s why s.tunnels id goal w)

-- a bind is an answer to a connection that wants one
pub bind_some : (s : Conn) (id : ℕ) (goal : Goal) (b : Bool) → want_of s ≡ Bind id goal → is_some (done s (Bound b)) ≡ true
bind_some s id goal b w = bind_by s s.ending id goal b refl w

-- ---- the book

over_asks : (why : End) (bytes : List ℕ) (c : Call) → over_want why bytes ≡ Ask c → ⊥
over_asks why [] c w = cc
over_asks why (b ∷ bytes) c w = by_case (gives_up why) w where
  by_case : (g : Bool) → cond g (Over why) Nothing ≡ Ask c → ⊥
  by_case true e = cc
  by_case false e = cc

ask_same : (c d : Call) → Ask c ≡ Ask d → c ≡ d
ask_same c d is = cc

-- the book's reply to such a call is an answer to this act
stream_asks : (x : Conn) (t : Tunnel) (a : StreamAct) (c : Call) (config : Config) (h : List Entry) (r : Reply) → IsPlain c → stream_want t a ≡ Ask c → IsAnswer config h c r
    → is_some (option_map settled_note (stream_done x t a (Replied r))) ≡ true
stream_asks x t (stream.Payload m bytes) c config h r plain w answer = absurd cc
stream_asks x t (stream.Packet m packet flow) c config h r plain w answer = absurd cc
stream_asks x t (stream.Push m to packet) c config h r plain w answer = absurd cc
stream_asks x t (stream.Drop m cause) c config h r plain w answer = absurd cc
stream_asks x t (stream.Assign asked) c config h r plain w answer = by_case (nat_le most_values (values t)) w where
  by_reply : (r : Reply) → IsAnswer config h (call.Close t.id) r → is_some (option_map settled_note (stream_done x t (stream.Assign asked) (Replied r))) ≡ true
  by_reply reply.Closed a = refl
  by_reply (reply.Opened tunnel routes) a = absurd a
  by_reply (reply.HistoryFull entries live) a = absurd a
  by_reply (reply.Assigned list at) a = absurd a
  by_reply (reply.Accepted accepts at) a = absurd a

  by_case : (g : Bool) → cond g (Ask (call.Close t.id)) (Ask (call.Assign t.id asked)) ≡ Ask c → is_some (option_map settled_note (stream_done x t (stream.Assign asked) (Replied r))) ≡ true
  by_case true e = let P : Call → Type 0 = λ d. IsAnswer config h d r in by_reply r (subst P (sym (ask_same (call.Close t.id) c e)) answer)
  by_case false e = let P : Call → Type 0 = λ d. IsPlain d in absurd (subst P (sym (ask_same (call.Assign t.id asked) c e)) plain)
stream_asks x t (stream.Advertise ranges) c config h r plain w answer = let P : Call → Type 0 = λ d. IsPlain d in absurd (subst P (sym (ask_same (call.Advertise t.id ranges) c w)) plain)
stream_asks x t (stream.Close why) c config h r plain w answer = let P : Call → Type 0 = λ d. IsAnswer config h d r in by_reply r (subst P (sym (ask_same (call.Close t.id) c w)) answer) where
  by_reply : (r : Reply) → IsAnswer config h (call.Close t.id) r → is_some (option_map settled_note (stream_done x t (stream.Close why) (Replied r))) ≡ true
  by_reply reply.Closed a = refl
  by_reply (reply.Opened tunnel routes) a = absurd a
  by_reply (reply.HistoryFull entries live) a = absurd a
  by_reply (reply.Assigned list at) a = absurd a
  by_reply (reply.Accepted accepts at) a = absurd a

tunnel_asks : (x : Conn) (o : Option Tunnel) (a : StreamAct) (c : Call) (config : Config) (h : List Entry) (r : Reply) → IsPlain c → tunnel_want o a ≡ Ask c → IsAnswer config h c r
    → is_some (option_map settled_note (tunnel_done x o a (Replied r))) ≡ true
tunnel_asks x None a c config h r plain w answer = absurd cc
tunnel_asks x (Some t) a c config h r plain w answer = stream_asks x t a c config h r plain w answer

open_asks : (x : Conn) (id : ℕ) (g : Goal) (conn on actor : ℕ) (config : Config) (h : List Entry) (r : Reply) → IsAnswer config h (call.Open conn on actor g) r
    → is_some (option_map settled_note (act_done x (act.Open id g) (Replied r))) ≡ true
open_asks x id g conn on actor config h (reply.Opened tunnel routes) a = refl
open_asks x id g conn on actor config h (reply.HistoryFull entries live) a = refl
open_asks x id g conn on actor config h (reply.Assigned list at) a = absurd a
open_asks x id g conn on actor config h (reply.Accepted accepts at) a = absurd a
open_asks x id g conn on actor config h reply.Closed a = absurd a

act_asks : (s : Conn) (rest : List Due) (a : Act) (c : Call) (config : Config) (h : List Entry) (r : Reply) → s.ending ≡ None → s.due ≡ due.Do a ∷ rest → IsPlain c
    → act_want s a ≡ Ask c → IsAnswer config h c r → is_some (done s (Replied r)) ≡ true
act_asks s rest (act.Bind on g) c config h r ending first plain w answer = absurd cc
act_asks s rest (act.Open on g) c config h r ending first plain w answer =
    let P : Call → Type 0 = λ d. IsAnswer config h d r in
    some_first s (act.Open on g) rest (Replied r) ending first
    (open_asks (record s { due = rest }) on g s.number on s.actor config h r (subst P (sym (ask_same (call.Open s.number on s.actor g) c w)) answer))
act_asks s rest (act.Refuse on status rule) c config h r ending first plain w answer = absurd cc
act_asks s rest (act.Reset on code) c config h r ending first plain w answer = absurd cc
act_asks s rest (act.OfStream on a) c config h r ending first plain w answer =
    some_first s (act.OfStream on a) rest (Replied r) ending first (tunnel_asks (record s { due = rest }) (tunnel_on s on) a c config h r plain w answer)

due_asks : (s : Conn) (ds : List Due) (c : Call) (config : Config) (h : List Entry) (r : Reply) → s.ending ≡ None → s.due ≡ ds → IsPlain c → due_want s ds ≡ Ask c → IsAnswer config h c r
    → is_some (done s (Replied r)) ≡ true
due_asks s [] c config h r ending first plain w answer = absurd cc
due_asks s (due.Do a ∷ rest) c config h r ending first plain w answer = act_asks s rest a c config h r ending first plain w answer
due_asks s (due.Spend on size ∷ rest) c config h r ending first plain w answer = absurd cc
due_asks s (due.Fault code ∷ rest) c config h r ending first plain w answer = absurd cc

ending_asks : (s : Conn) (why : End) (tunnels : List Tunnel) (c : Call) (config : Config) (h : List Entry) (r : Reply) → IsPlain c → ending_want s why tunnels ≡ Ask c → IsAnswer config h c r
    → is_some (option_map settled_note (ending_done s tunnels (Replied r))) ≡ true
ending_asks s why [] c config h r plain w answer = absurd (over_asks why (owed s) c w)
ending_asks s why (t ∷ ts) c config h r plain w answer =
    let P : Call → Type 0 = λ d. IsAnswer config h d r in
    by_reply r (subst P (sym (ask_same (call.Close t.id) c w)) answer) where
      by_reply : (r : Reply) → IsAnswer config h (call.Close t.id) r → is_some (option_map settled_note (ending_done s (t ∷ ts) (Replied r))) ≡ true
      by_reply reply.Closed answer = refl
      by_reply (reply.Opened tunnel routes) answer = absurd answer
      by_reply (reply.HistoryFull entries live) answer = absurd answer
      by_reply (reply.Assigned list at) answer = absurd answer
      by_reply (reply.Accepted accepts at) answer = absurd answer

ask_by : (s : Conn) (e : Option End) (c : Call) (config : Config) (h : List Entry) (r : Reply) → s.ending ≡ e → IsPlain c → want_by s e ≡ Ask c → IsAnswer config h c r
    → is_some (done s (Replied r)) ≡ true
ask_by s None c config h r ending plain w answer = due_asks s s.due c config h r ending refl plain w answer
ask_by s (Some why) c config h r ending plain w answer =
    ap (λ (e : Option End). is_some (option_map settled_note (done_by s e (Replied r)))) ending ∙ ending_asks s why s.tunnels c config h r plain w answer

-- what the book replies is an answer to a connection that wants to ask that
pub ask_some : (s : Conn) (c : Call) (config : Config) (h : List Entry) (r : Reply) → IsPlain c → want_of s ≡ Ask c → IsAnswer config h c r → is_some (done s (Replied r)) ≡ true
ask_some s c config h r plain w answer = ask_by s s.ending c config h r refl plain w answer

-- a close is answered in one way
closed_only : (config : Config) (h : List Entry) (tunnel : ℕ) (r : Reply) → IsAnswer config h (call.Close tunnel) r → r ≡ reply.Closed
closed_only config h tunnel reply.Closed a = refl
closed_only config h tunnel (reply.Opened u routes) a = absurd a
closed_only config h tunnel (reply.HistoryFull entries live) a = absurd a
closed_only config h tunnel (reply.Assigned list at) a = absurd a
closed_only config h tunnel (reply.Accepted accepts at) a = absurd a

-- ---- what the calls give

pub bound_true : (W N : Type 0) (before after : Conn → Type 0) (s : Conn) (result : Result Note NoMemory) → W → before s → is_some (done s (Bound true)) ≡ true
    → MayAnswer before after ((x : Conn) → before x → after (starved x)) (Bound true) result → BindGives after W N s result
bound_true W N before after s (Ok said) was b some may = let d = may s b some in inl (was, (d.0, d.2, d.1))
bound_true W N before after s (Err refused) was b some may = may s b

pub bound_false : (W N : Type 0) (before after : Conn → Type 0) (s : Conn) (result : Result Note NoMemory) → N → before s → is_some (done s (Bound false)) ≡ true
    → MayAnswer before after ((x : Conn) → before x → after (starved x)) (Bound false) result → BindGives after W N s result
bound_false W N before after s (Ok said) was b some may = let d = may s b some in inr (was, (d.0, d.2, d.1))
bound_false W N before after s (Err refused) was b some may = may s b

pub hears : (actor : ℕ) (old : Seen) (asked : Call) (new : Seen) (c d : Core) (s : Conn) (said : Reply) (result : Result Heard NoMemory) → IsConn c s → IsPlain asked → want_of s ≡ Ask asked
    → OpensFresh actor old asked new s.tunnels → CallOk actor old asked said new → HearGives c d said result → AskGives actor old asked new (IsConn d) s result
hears actor old asked new c d s said (Ok h) stands plain w fresh ok gives =
    let some = ask_some s asked old.config ok.book said plain w ok.reply_is in
    let t = gives.1 s stands (fresh said ok) some in
    (t.0, record { said = said; replied = ok; does = t.2; opened = gives.0 }, t.1)
hears actor old asked new c d s said (Err refused) stands plain w fresh ok gives =
    let some = ask_some s asked old.config ok.book said plain w ok.reply_is in
    let t = gives s stands some in
    let P : Call → Type 0 = λ a. IsAnswer old.config ok.book a said in (
      λ tunnel is. t.0 (closed_only old.config ok.book tunnel said (subst P is ok.reply_is)),
      inr (record { said = said; replied = ok; open_is = t.0; stands_for = t.1 }),
    )

pub match_true : (A B : Type 0) (b : Bool) → b ≡ true → MatchBool b A B → A
match_true A B true is m = m
match_true A B false is m = absurd cc

pub match_false : (A B : Type 0) (b : Bool) → b ≡ false → MatchBool b A B → B
match_false A B false is m = m
match_false A B true is m = absurd cc
