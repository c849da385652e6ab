-- What the answer of a port does to a connection that wants to send.
use Rattle.std.proofs.Common.{◌≡◌, inl, inr, ℕ, cond, List, [], ◌∷◌, ◌++◌, length, Option, Some, None, refl, sym, ap, subst, ◌∙◌, nat_lt, Bool, true, false, not, ◌&&◌}
use Rattle.std.specs.Prelude.{option_map, nat_le, is_some}
use Rattle.mq_outside.specs.Counts.{PortCounts}
use Rattle.mq_outside.specs.Ports.{PortHolds, PortPast, PortSends, empty_port, past_sent, after_send}
use Rattle.mq_talk.specs.declared.place.Cause.TheVariants as cause
use Rattle.mq_talk.specs.Mails.{IsTold}
use Rattle.mq_machine.specs.Shared.{put_of, port_answer, port_sent}
use Rattle.mq_machine.specs.Acting.{holds_of, holding}
use Rattle.mq_held.specs.Ports.{PortCalls, PutGives, SendDoes, SendsPast}
use Rattle.mq_outside.specs.declared.PortPut.{PortPut}
use Rattle.mq_outside.specs.declared.PortPut.TheVariants as put
use Rattle.mq_talk.specs.declared.note.End.{End}
use Rattle.mq_talk.specs.declared.note.Note.{Note}
use Rattle.mq_talk.specs.declared.note.Note.TheVariants as note
use Rattle.mq_talk.specs.declared.note.From.TheVariants as source
use Rattle.mq_machine.specs.declared.act.Act.{Act}
use Rattle.mq_machine.specs.declared.act.Act.TheVariants as act
use Rattle.mq_machine.specs.declared.act.StreamAct.{StreamAct}
use Rattle.mq_machine.specs.declared.act.StreamAct.TheVariants as stream
use Rattle.mq_machine.specs.declared.act.Due.{Due}
use Rattle.mq_machine.specs.declared.act.Due.TheVariants as due
use Rattle.mq_machine.specs.Settle.{gives_up}
use Rattle.mq_machine.specs.State.{Conn, Tunnel, Port, owed, values, tunnel_on}
use Rattle.mq_machine.specs.Steps.{settled_note}
use Rattle.mq_machine.specs.Want.{Want, Send, Answer, Put, want_of, want_by, ending_want, over_want, due_want, act_want, tunnel_want, stream_want, most_values}
use Rattle.mq_machine.specs.Done.{Done, done, done_by, due_done, tunnel_done, stream_done, dropped, sent}

-- the payload that is first, and what an answer does to it
pub record FrontSend (s : Conn) (n : ℕ) (payload : List ℕ) : Type 0 where
  pub behind : Conn
  pub tunnel : Tunnel
  pub does : (answer : PortPut) (limit : ℕ) → done s (Put answer limit) ≡ option_map settled_note (stream_done behind tunnel (stream.Payload n payload) (Put answer limit))

over_sends : (why : End) (bytes : List ℕ) (tunnel n : ℕ) (payload : List ℕ) → over_want why bytes ≡ Send tunnel n payload → ⊥
over_sends why [] tunnel n payload w = cc
over_sends why (b ∷ bytes) tunnel n payload w = by_case (gives_up why) w where
  by_case : (g : Bool) → cond g (Rattle.mq_machine.specs.Want.Over why) Rattle.mq_machine.specs.Want.Nothing ≡ Send tunnel n payload → ⊥
  by_case true e = cc
  by_case false e = cc

ending_sends : (s : Conn) (why : End) (tunnels : List Tunnel) (tunnel n : ℕ) (payload : List ℕ) → ending_want s why tunnels ≡ Send tunnel n payload → ⊥
ending_sends s why [] tunnel n payload w = over_sends why (owed s) tunnel n payload w
ending_sends s why (t ∷ ts) tunnel n payload w = cc

stream_sends : (t : Tunnel) (a : StreamAct) (tunnel n : ℕ) (payload : List ℕ) → stream_want t a ≡ Send tunnel n payload → a ≡ stream.Payload n payload
stream_sends t (stream.Payload m bytes) tunnel n payload w = cc
stream_sends t (stream.Packet m packet flow) tunnel n payload w = absurd cc
stream_sends t (stream.Push m to packet) tunnel n payload w = absurd cc
stream_sends t (stream.Drop m cause) tunnel n payload w = absurd cc
stream_sends t (stream.Assign asked) tunnel n payload w = by_case (nat_le most_values (values t)) w where
  by_case : (g : Bool) → cond g (Rattle.mq_machine.specs.Want.Ask (Rattle.mq_talk.specs.declared.book.Call.TheVariants.Close t.id)) (Rattle.mq_machine.specs.Want.Ask (Rattle.mq_talk.specs.declared.book.Call.TheVariants.Assign t.id asked)) ≡ Send tunnel n payload
      → stream.Assign asked ≡ stream.Payload n payload
  by_case true e = absurd cc
  by_case false e = absurd cc
stream_sends t (stream.Advertise ranges) tunnel n payload w = absurd cc
stream_sends t (stream.Close why) tunnel n payload w = absurd cc

tunnel_sends : (s : Conn) (rest : List Due) (id : ℕ) (o : Option Tunnel) (a : StreamAct) (tunnel n : ℕ) (payload : List ℕ) → s.ending ≡ None → s.due ≡ due.Do (act.OfStream id a) ∷ rest
    → tunnel_on s id ≡ o → tunnel_want o a ≡ Send tunnel n payload → FrontSend s n payload
tunnel_sends s rest id None a tunnel n payload ending first on w = absurd cc
tunnel_sends s rest id (Some t) a tunnel n payload ending first on w = record {
  behind = record s { due = rest };
  tunnel = t;
  does = λ answer limit.
      let said : Answer = Put answer limit in
      let is = stream_sends t a tunnel n payload w in
      ap (λ (e : Option End). option_map settled_note (done_by s e said)) ending
      ∙ ap (λ (ds : List Due). option_map settled_note (due_done s ds said)) first
      ∙ ap (λ (o : Option Tunnel). option_map settled_note (tunnel_done (record s { due = rest }) o a said)) on
      ∙ ap (λ (b : StreamAct). option_map settled_note (stream_done (record s { due = rest }) t b said)) is;
}

act_sends : (s : Conn) (rest : List Due) (a : Act) (tunnel n : ℕ) (payload : List ℕ) → s.ending ≡ None → s.due ≡ due.Do a ∷ rest → act_want s a ≡ Send tunnel n payload → FrontSend s n payload
act_sends s rest (act.Bind id goal) tunnel n payload ending first w = absurd cc
act_sends s rest (act.Open id goal) tunnel n payload ending first w = absurd cc
act_sends s rest (act.Refuse id status rule) tunnel n payload ending first w = absurd cc
act_sends s rest (act.Reset id code) tunnel n payload ending first w = absurd cc
act_sends s rest (act.OfStream id a) tunnel n payload ending first w = tunnel_sends s rest id (tunnel_on s id) a tunnel n payload ending first refl w

due_sends : (s : Conn) (ds : List Due) (tunnel n : ℕ) (payload : List ℕ) → s.ending ≡ None → s.due ≡ ds → due_want s ds ≡ Send tunnel n payload → FrontSend s n payload
due_sends s [] tunnel n payload ending first w = absurd cc
due_sends s (due.Do a ∷ rest) tunnel n payload ending first w = act_sends s rest a tunnel n payload ending first w
due_sends s (due.Spend id size ∷ rest) tunnel n payload ending first w = absurd cc
due_sends s (due.Fault code ∷ rest) tunnel n payload ending first w = absurd cc

by_ending : (s : Conn) (e : Option End) (tunnel n : ℕ) (payload : List ℕ) → s.ending ≡ e → want_by s e ≡ Send tunnel n payload → FrontSend s n payload
by_ending s None tunnel n payload ending w = due_sends s s.due tunnel n payload ending refl w
by_ending s (Some why) tunnel n payload ending w = absurd (ending_sends s why s.tunnels tunnel n payload w)

pub front_send : (s : Conn) (tunnel n : ℕ) (payload : List ℕ) → want_of s ≡ Send tunnel n payload → FrontSend s n payload
front_send s tunnel n payload w = by_ending s s.ending tunnel n payload refl w

-- ---- what the port answered

-- a payload that is too long: whatever the port answers
long_done : (s : Conn) (n : ℕ) (payload : List ℕ) (f : FrontSend s n payload) (answer : PortPut) (limit : ℕ) → nat_lt limit (length payload) ≡ true
    → done s (Put answer limit) ≡ Some (settled_note (dropped f.behind f.tunnel n cause.TooLong))
long_done s n payload f answer limit long =
    f.does answer limit ∙ ap (λ (b : Bool). option_map settled_note (cond b (Some (dropped f.behind f.tunnel n cause.TooLong)) (sent f.behind f.tunnel n payload answer))) long

long_some : (s : Conn) (n : ℕ) (payload : List ℕ) (f : FrontSend s n payload) (answer : PortPut) (limit : ℕ) → nat_lt limit (length payload) ≡ true
    → is_some (done s (Put answer limit)) ≡ true
long_some s n payload f answer limit long = ap (λ (o : Done). is_some o) (long_done s n payload f answer limit long)

short_done : (s : Conn) (n : ℕ) (payload : List ℕ) (f : FrontSend s n payload) (answer : PortPut) (limit : ℕ) → nat_lt limit (length payload) ≡ false
    → done s (Put answer limit) ≡ option_map settled_note (sent f.behind f.tunnel n payload answer)
short_done s n payload f answer limit short =
    f.does answer limit ∙ ap (λ (b : Bool). option_map settled_note (cond b (Some (dropped f.behind f.tunnel n cause.TooLong)) (sent f.behind f.tunnel n payload answer))) short

sent_some : (s : Conn) (n : ℕ) (payload : List ℕ) (f : FrontSend s n payload) (limit : ℕ) → nat_lt limit (length payload) ≡ false
    → is_some (done s (Put put.Sent limit)) ≡ true
sent_some s n payload f limit short = ap (λ (o : Done). is_some o) (short_done s n payload f put.Sent limit short)

failed_some : (s : Conn) (n : ℕ) (payload : List ℕ) (f : FrontSend s n payload) (limit : ℕ) → nat_lt limit (length payload) ≡ false
    → is_some (done s (Put put.Failed limit)) ≡ true
failed_some s n payload f limit short = ap (λ (o : Done). is_some o) (short_done s n payload f put.Failed limit short)

waits_long : (a b l : Bool) → l ≡ true → (a && not b && not l) ≡ false
waits_long true true true e = refl
waits_long true false true e = refl
waits_long false b true e = refl
waits_long a b false e = absurd cc

waits_fails : (a b l : Bool) → b ≡ true → (a && not b && not l) ≡ false
waits_fails true true l e = refl
waits_fails false true l e = refl
waits_fails a false l e = absurd cc

waits_goes : (a b l : Bool) → a ≡ false → (a && not b && not l) ≡ false
waits_goes false b l e = refl
waits_goes true b l e = absurd cc

-- on a port that holds this, which takes no such payload
does_long : (holds : PortHolds) (p : Port) (s : Conn) (n : ℕ) (payload : List ℕ) (said : Note) (t : Conn) (f : FrontSend s n payload) → nat_lt p.limit (length payload) ≡ true
    → done s (Put put.Failed p.limit) ≡ Some (said, t) → done s (port_answer (holding holds p)) ≡ Some (said, t)
does_long holds p s n payload said t f long is =
    long_done s n payload f (put_of (holding holds p)) p.limit long ∙ sym (long_done s n payload f put.Failed p.limit long) ∙ is

keeps_long : (holds : PortHolds) (p : Port) (payload : List ℕ) → nat_lt p.limit (length payload) ≡ true → holds_of (port_sent payload (holding holds p)) ≡ holds
keeps_long holds p payload long =
    let q : Port = holding holds p in
    let other : Port = cond q.send_fails (record q { send_fails = false }) (record q { sent = q.sent ++ payload ∷ [] }) in
    ap (λ (b : Bool). holds_of (cond b q other)) long

sends_long : (holds after : Option PortHolds) (counts counts_after : PortCounts) (p : Port) (s : Conn) (n : ℕ) (payload : List ℕ) (said : Note) (t : Conn) (f : FrontSend s n payload)
    → nat_lt p.limit (length payload) ≡ true → after ≡ holds → counts_after ≡ counts → done s (Put put.Failed p.limit) ≡ Some (said, t)
    → SendDoes (record { holds = holds; after = after; counts = counts; counts_after = counts_after }) p s payload said t
sends_long None after counts counts_after p s n payload said t f long rests same is = record {
  holds = empty_port;
  told = tt;
  goes = refl;
  does = does_long empty_port p s n payload said t f long is;
  tells = let P : Option PortHolds → Type 0 = λ o. IsTold o (holds_of (port_sent payload (holding empty_port p))) in subst P (sym rests) tt;
  counts = same ∙ ap (λ (b : Bool). cond b counts (after_send counts put.Sent)) (sym long);
  fails = λ none is. absurd cc;
}
sends_long (Some h) after counts counts_after p s n payload said t f long rests same is = record {
  holds = h;
  told = refl;
  goes = waits_long h.send_waits h.send_fails (nat_lt p.limit (length payload)) long;
  does = does_long h p s n payload said t f long is;
  tells = let P : Option PortHolds → Type 0 = λ o. IsTold o (holds_of (port_sent payload (holding h p))) in subst P (sym rests) (keeps_long h p payload long);
  counts = same ∙ ap (λ (b : Bool). cond b counts (after_send counts (put_of (holding h p)))) (sym long);
  fails = λ none is. absurd cc;
}

keeps_sent : (h : PortHolds) (p : Port) (payload : List ℕ) → nat_lt p.limit (length payload) ≡ false → h.send_fails ≡ false → holds_of (port_sent payload (holding h p)) ≡ h
keeps_sent h p payload short works =
    let q : Port = holding h p in
    let both : Bool → Bool → PortHolds = λ b d. holds_of (cond b q (cond d (record q { send_fails = false }) (record q { sent = q.sent ++ payload ∷ [] }))) in
    ap (λ (b : Bool). both b h.send_fails) short ∙ ap (λ (d : Bool). both false d) works

sends_sent : (holds after : Option PortHolds) (counts counts_after : PortCounts) (p : Port) (s : Conn) (payload : List ℕ) (said : Note) (t : Conn)
    → nat_lt p.limit (length payload) ≡ false → PortSends holds after put.Sent → counts_after ≡ counts → done s (Put put.Sent p.limit) ≡ Some (said, t)
    → SendDoes (record { holds = holds; after = after; counts = counts; counts_after = counts_after }) p s payload said t
sends_sent None after counts counts_after p s payload said t short sends same is = record {
  holds = empty_port;
  told = tt;
  goes = refl;
  does = is;
  tells = let P : Option PortHolds → Type 0 = λ o. IsTold o (holds_of (port_sent payload (holding empty_port p))) in subst P (sym sends) tt;
  counts = same ∙ ap (λ (b : Bool). cond b counts (after_send counts put.Sent)) (sym short);
  fails = λ none is. absurd cc;
}
sends_sent (Some h) after counts counts_after p s payload said t short sends same is =
    let put_is : put_of (holding h p) ≡ put.Sent =
    ap (λ (b : Bool). cond b put.Failed (cond h.send_waits put.NotNow put.Sent)) sends.0 ∙ ap (λ (b : Bool). cond b put.NotNow put.Sent) sends.1 in
    record {
      holds = h;
      told = refl;
      goes = waits_goes h.send_waits h.send_fails (nat_lt p.limit (length payload)) sends.1;
      does = ap (λ (o : PortPut). done s (Put o p.limit)) put_is ∙ is;
      tells = let P : Option PortHolds → Type 0 = λ o. IsTold o (holds_of (port_sent payload (holding h p))) in subst P (sym sends.2) (keeps_sent h p payload short sends.0);
      counts = same ∙ ap (λ (b : Bool). cond b counts (after_send counts put.Sent)) (sym short) ∙ ap (λ (o : PortPut). cond (nat_lt p.limit (length payload)) counts (after_send counts o)) (sym put_is);
      fails = λ none is. absurd cc;
    }

keeps_failed : (h : PortHolds) (p : Port) (payload : List ℕ) → nat_lt p.limit (length payload) ≡ false → h.send_fails ≡ true
    → holds_of (port_sent payload (holding h p)) ≡ record h { send_fails = false }
keeps_failed h p payload short fails =
    let q : Port = holding h p in
    let both : Bool → Bool → PortHolds = λ b d. holds_of (cond b q (cond d (record q { send_fails = false }) (record q { sent = q.sent ++ payload ∷ [] }))) in
    ap (λ (b : Bool). both b h.send_fails) short ∙ ap (λ (d : Bool). both false d) fails

sends_failed : (holds after : Option PortHolds) (counts counts_after : PortCounts) (p : Port) (s : Conn) (payload : List ℕ) (said : Note) (t : Conn)
    → nat_lt p.limit (length payload) ≡ false → PortSends holds after put.Failed → counts_after ≡ after_send counts put.Failed → done s (Put put.Failed p.limit) ≡ Some (said, t)
    → SendDoes (record { holds = holds; after = after; counts = counts; counts_after = counts_after }) p s payload said t
sends_failed None after counts counts_after p s payload said t short sends same is =
    let h : PortHolds = record empty_port { send_fails = true } in
    record {
      holds = h;
      told = tt;
      goes = refl;
      does = is;
      tells = let P : Option PortHolds → Type 0 = λ o. IsTold o (holds_of (port_sent payload (holding h p))) in subst P (sym sends) tt;
      counts = same ∙ ap (λ (b : Bool). cond b counts (after_send counts put.Failed)) (sym short);
      fails = λ none is. same;
    }
sends_failed (Some h) after counts counts_after p s payload said t short sends same is =
    let put_is : put_of (holding h p) ≡ put.Failed = ap (λ (b : Bool). cond b put.Failed (cond h.send_waits put.NotNow put.Sent)) sends.0 in
    record {
      holds = h;
      told = refl;
      goes = waits_fails h.send_waits h.send_fails (nat_lt p.limit (length payload)) sends.0;
      does = ap (λ (o : PortPut). done s (Put o p.limit)) put_is ∙ is;
      tells = let P : Option PortHolds → Type 0 = λ o. IsTold o (holds_of (port_sent payload (holding h p))) in subst P (sym sends.1) (keeps_failed h p payload short sends.0);
      counts = same ∙ ap (λ (b : Bool). cond b counts (after_send counts put.Failed)) (sym short) ∙ ap (λ (o : PortPut). cond (nat_lt p.limit (length payload)) counts (after_send counts o)) (sym put_is);
      fails = λ none is. absurd cc;
    }

-- ---- how a put went

pub put_some : (c : PortCalls) (s : Conn) (n : ℕ) (payload : List ℕ) (f : FrontSend s n payload) (limit : ℕ) (answer : PortPut) → PutGives c limit payload (Some answer)
    → is_some (done s (Put answer limit)) ≡ true
put_some c s n payload f limit answer (inl long) = long_some s n payload f answer limit long.long
put_some c s n payload f limit put.Sent (inr puts) = sent_some s n payload f limit puts.fits
put_some c s n payload f limit put.Failed (inr puts) = failed_some s n payload f limit puts.fits
put_some c s n payload f limit put.NotNow (inr puts) = absurd (puts.ended refl)

pub sends_put : (holds after : Option PortHolds) (counts counts_after : PortCounts) (p : Port) (s : Conn) (n : ℕ) (payload : List ℕ) (said : Note) (t : Conn) (f : FrontSend s n payload) (answer : PortPut)
    → PutGives (record { holds = holds; after = after; counts = counts; counts_after = counts_after }) p.limit payload (Some answer) → done s (Put answer p.limit) ≡ Some (said, t)
    → SendDoes (record { holds = holds; after = after; counts = counts; counts_after = counts_after }) p s payload said t
sends_put holds after counts counts_after p s n payload said t f answer (inl long) is =
    sends_long holds after counts counts_after p s n payload said t f long.long long.after long.counts (ap (λ (o : PortPut). done s (Put o p.limit)) (sym long.fails) ∙ is)
sends_put holds after counts counts_after p s n payload said t f put.Sent (inr puts) is = sends_sent holds after counts counts_after p s payload said t puts.fits puts.sends puts.counts is
sends_put holds after counts counts_after p s n payload said t f put.Failed (inr puts) is = sends_failed holds after counts counts_after p s payload said t puts.fits puts.sends puts.counts is
sends_put holds after counts counts_after p s n payload said t f put.NotNow (inr puts) is = absurd (puts.ended refl)

-- what its note says of what the port sent
pub sends_past : (c : PortCalls) (old new : PortPast) (s : Conn) (n : ℕ) (payload : List ℕ) (said : Note) (t : Conn) (f : FrontSend s n payload) (limit : ℕ) (answer : PortPut)
    → PutGives c limit payload (Some answer) → new ≡ past_sent old payload answer → done s (Put answer limit) ≡ Some (said, t) → SendsPast old new (Some said)
sends_past c old new s n payload said t f limit answer (inl long) past is =
    let both : ◌≡◌ (Some (settled_note (dropped f.behind f.tunnel n cause.TooLong))) (Some (said, t)) = sym (long_done s n payload f answer limit long.long) ∙ is in
    let same : settled_note (dropped f.behind f.tunnel n cause.TooLong) ≡ (said, t) = cc in
    let P : Note × Conn → Type 0 = λ d. SendsPast old new (Some d.0) in
    subst P same (past ∙ ap (λ (a : PortPut). past_sent old payload a) long.fails)
sends_past c old new s n payload said t f limit put.Sent (inr puts) past is =
    let both : ◌≡◌ (option_map settled_note (sent f.behind f.tunnel n payload put.Sent)) (Some (said, t)) = sym (short_done s n payload f put.Sent limit puts.fits) ∙ is in
    let same : settled_note (note.Sent (source.Tunnel f.tunnel.id) n payload, f.behind) ≡ (said, t) = cc in
    let P : Note × Conn → Type 0 = λ d. SendsPast old new (Some d.0) in
    subst P same past
sends_past c old new s n payload said t f limit put.Failed (inr puts) past is =
    let both : ◌≡◌ (option_map settled_note (sent f.behind f.tunnel n payload put.Failed)) (Some (said, t)) = sym (short_done s n payload f put.Failed limit puts.fits) ∙ is in
    let same : settled_note (dropped f.behind f.tunnel n cause.Port) ≡ (said, t) = cc in
    let P : Note × Conn → Type 0 = λ d. SendsPast old new (Some d.0) in
    subst P same past
sends_past c old new s n payload said t f limit put.NotNow (inr puts) past is = absurd (puts.ended refl)

pub some_same : {A : Type 0} (a b : A) → Some a ≡ Some b → a ≡ b
some_same a b is = cc
