-- Each connection of a run is lawful, its tunnels have numbers that the book gave, and no payload is due in it twice.
use Rattle.std.proofs.Common.{◌≡◌, ℕ, Bool, true, false, cond, List, [], ◌∷◌, nat_le, Option, Some, None, option_map, refl, subst, arith}
use Rattle.std.specs.Option.{is_some}
use Rattle.mq_addr.specs.declared.entry.Asked.{Asked}
use Rattle.mq_addr.specs.declared.range.Range.{Range}
use Rattle.mq_talk.specs.declared.book.Call.TheVariants as call
use Rattle.mq_talk.specs.declared.book.Reply.TheVariants as reply
use Rattle.mq_talk.specs.declared.goal.Goal.{Goal}
use Rattle.mq_talk.specs.declared.note.End.{End}
use Rattle.mq_talk.specs.declared.note.End.TheVariants as end
use Rattle.mq_talk.specs.declared.note.Note.{Note}
use Rattle.mq_machine.specs.declared.act.Act.TheVariants as act
use Rattle.mq_machine.specs.declared.act.StreamAct.{StreamAct}
use Rattle.mq_machine.specs.declared.act.StreamAct.TheVariants as stream
use Rattle.mq_machine.specs.declared.act.Due.{Due}
use Rattle.mq_machine.specs.declared.act.Due.TheVariants as due
use Rattle.mq_machine.specs.Done.{due_done, done_by}
use Rattle.mq_machine.specs.Lawful.{IsFresh, IsLawful, StaysLawful}
use Rattle.mq_machine.specs.Settle.{gives_up, settle}
use Rattle.mq_machine.specs.Silent.{tunnels_after}
use Rattle.mq_machine.specs.State.{Conn, Tunnel, owed, tunnel_on, values}
use Rattle.mq_machine.specs.Steps.{starved}
use Rattle.mq_machine.specs.Want.{Want, Nothing, Ask, Over, Answer, Said, Bound, Replied, Judged, Pushed, Put, want_of, want_by, due_want, tunnel_want, stream_want, ending_want, over_want, most_values}
use Rattle.mq_machine.proofs.Lawful.Idle.{heard_lawful}
use Rattle.mq_machine.proofs.Lawful.Lists.{number_above}
use Rattle.mq_play.proofs.Tunnels.{AreGiven, DoneGiven, GivesOne, act_done_given, framed_given, wrote_given, took_given, finished_given, passed_on_given, after_given, given_more}
use Rattle.mq_runs.proofs.Books.{IsGivenAt}
use Rattle.mq_runs.proofs.Coming.{queued_down, framed_down, wrote_calm, finished_calm, given_up_calm, port_failed_calm}
use Rattle.mq_runs.proofs.Doing.{done_down}
use Rattle.mq_runs.proofs.Flight.{Key, FlowsOnce, calm_once}
use Rattle.mq_runs.proofs.Kept.{Keeps}
use Rattle.mq_runs.proofs.Took.{took_down}

-- ---- answers that open a tunnel

fresh : (n m : ℕ) (ts : List Tunnel) (answer : Answer) → AreGiven n ts → IsGivenAt n m answer → IsFresh ts answer
fresh n m ts (Replied (reply.Opened tunnel routes)) h g = rw g.0 (number_above ts n h)
fresh n m ts (Replied (reply.HistoryFull entries live)) h g = tt
fresh n m ts (Replied (reply.Assigned list at)) h g = tt
fresh n m ts (Replied (reply.Accepted accepts at)) h g = tt
fresh n m ts (Replied reply.Closed) h g = tt
fresh n m ts Said h g = tt
fresh n m ts (Bound did) h g = tt
fresh n m ts (Judged said at) h g = tt
fresh n m ts (Pushed did) h g = tt
fresh n m ts (Put did limit) h g = tt

gives : (n m : ℕ) (answer : Answer) → IsGivenAt n m answer → GivesOne m answer
gives n m (Replied (reply.Opened tunnel routes)) g = rw g.0 g.1
gives n m (Replied (reply.HistoryFull entries live)) g = tt
gives n m (Replied (reply.Assigned list at)) g = tt
gives n m (Replied (reply.Accepted accepts at)) g = tt
gives n m (Replied reply.Closed) g = tt
gives n m Said g = tt
gives n m (Bound did) g = tt
gives n m (Judged said at) g = tt
gives n m (Pushed did) g = tt
gives n m (Put did limit) g = tt

-- ---- a tunnel that opened where its connection had no memory to hear it

module _ (c : Conn) (tunnel : ℕ) (routes : List Range) where
  abbrev IsDone : Option End → Type 0
  IsDone e = is_some {T = Note × Conn} (option_map (λ (d : Note × Conn). (d.0, settle d.1)) (done_by c e (Replied (reply.Opened tunnel routes)))) ≡ true

  no_open : (conn on actor : ℕ) (goal : Goal) (b : Bool) (u : ℕ) (asked : List Asked) → cond b (Ask (call.Close u)) (Ask (call.Assign u asked)) ≡ Ask (call.Open conn on actor goal) → ⊥
  no_open conn on actor goal true u asked e = absurd cc
  no_open conn on actor goal false u asked e = absurd cc

  stream_no : (conn on actor : ℕ) (goal : Goal) (t : Tunnel) (a : StreamAct) → stream_want t a ≡ Ask (call.Open conn on actor goal) → ⊥
  stream_no conn on actor goal t (stream.Payload n payload) e = absurd cc
  stream_no conn on actor goal t (stream.Packet n packet flow) e = absurd cc
  stream_no conn on actor goal t (stream.Push n to packet) e = absurd cc
  stream_no conn on actor goal t (stream.Drop n cause) e = absurd cc
  stream_no conn on actor goal t (stream.Assign asked) e = no_open conn on actor goal (nat_le most_values (values t)) t.id asked e
  stream_no conn on actor goal t (stream.Advertise ranges) e = absurd cc
  stream_no conn on actor goal t (stream.Close why) e = absurd cc

  tunnel_no : (conn on actor : ℕ) (goal : Goal) (o : Option Tunnel) (a : StreamAct) → tunnel_want o a ≡ Ask (call.Open conn on actor goal) → ⊥
  tunnel_no conn on actor goal None a e = absurd cc
  tunnel_no conn on actor goal (Some t) a e = stream_no conn on actor goal t a e

  over_no : (conn on actor : ℕ) (goal : Goal) (why : End) (bytes : List ℕ) → over_want why bytes ≡ Ask (call.Open conn on actor goal) → ⊥
  over_no conn on actor goal why [] e = absurd cc
  over_no conn on actor goal why (b ∷ bytes) e = by_kind (gives_up why) e where
    by_kind : (b : Bool) → cond b (Over why) Nothing ≡ Ask (call.Open conn on actor goal) → ⊥
    by_kind true e = absurd cc
    by_kind false e = absurd cc

  due_done_so : (conn on actor : ℕ) (goal : Goal) (ds : List Due) → due_want c ds ≡ Ask (call.Open conn on actor goal)
      → is_some {T = Note × Conn} (option_map (λ (d : Note × Conn). (d.0, settle d.1)) (due_done c ds (Replied (reply.Opened tunnel routes)))) ≡ true
  due_done_so conn on actor goal [] e = absurd cc
  due_done_so conn on actor goal (due.Do (act.Bind id to) ∷ rest) e = absurd cc
  due_done_so conn on actor goal (due.Do (act.Open id to) ∷ rest) e = refl
  due_done_so conn on actor goal (due.Do (act.Refuse id status rule) ∷ rest) e = absurd cc
  due_done_so conn on actor goal (due.Do (act.Reset id code) ∷ rest) e = absurd cc
  due_done_so conn on actor goal (due.Do (act.OfStream id a) ∷ rest) e = absurd (tunnel_no conn on actor goal (tunnel_on c id) a e)
  due_done_so conn on actor goal (due.Spend id size ∷ rest) e = absurd cc
  due_done_so conn on actor goal (due.Fault code ∷ rest) e = absurd cc

  ending_no : (conn on actor : ℕ) (goal : Goal) (why : End) (ts : List Tunnel) → ending_want c why ts ≡ Ask (call.Open conn on actor goal) → ⊥
  ending_no conn on actor goal why [] e = over_no conn on actor goal why (owed c) e
  ending_no conn on actor goal why (t ∷ ts) e = absurd cc

  done_so : (conn on actor : ℕ) (goal : Goal) (o : Option End) → want_by c o ≡ Ask (call.Open conn on actor goal) → IsDone o
  done_so conn on actor goal None e = due_done_so conn on actor goal c.due e
  done_so conn on actor goal (Some why) e = absurd (ending_no conn on actor goal why c.tunnels e)

module _ (stays : StaysLawful) (k : Key) where
  hears_lawful : (c : Conn) (w : Want) (answer : Answer) → IsLawful c → want_of c ≡ w → IsLawful (record (starved c) { tunnels = tunnels_after w answer c.tunnels })
  hears_lawful c (Ask (call.Open conn on actor goal)) (Replied (reply.Opened tunnel routes)) h e =
      let P : Want → Type 0 = λ w. IsLawful (record (starved c) { tunnels = tunnels_after w (Replied (reply.Opened tunnel routes)) c.tunnels }) in
      subst P e (heard_lawful c (reply.Opened tunnel routes) h (done_so c tunnel routes conn on actor goal c.ending e))
  hears_lawful c w answer h e = stays.gives_up end.NoMemory c h

  -- what holds of each connection
  pub record Sound (n : ℕ) (c : Conn) : Type 0 where
    pub lawful : IsLawful c
    pub given : AreGiven n c.tunnels
    pub once : FlowsOnce k c

  pub keeps_sound : Keeps (λ setup n c. Sound n c)
  keeps_sound = record {
    more = λ setup n m c long h. record { lawful = h.lawful; given = given_more n m c.tunnels long h.given; once = h.once };
    begins = λ setup n number actor. record { lawful = stays.begins number actor; given = tt; once = λ id. omega arith };
    answers = λ setup n m c d answer said h long g is. record {
      lawful = stays.answers c d answer said h.lawful (fresh n m c.tunnels answer h.given g) is;
      given = subst (DoneGiven m) is (act_done_given m c answer (given_more n m c.tunnels long h.given) (gives n m answer g));
      once = (done_down k c h.once d answer said is).once h.once;
    };
    frames = λ setup n c d said h is. record {
      lawful = stays.frames c d said h.lawful is;
      given = subst (DoneGiven n) is (framed_given n c h.given);
      once = (framed_down k c (said, d) h.lawful.loose.alone is).once h.once;
    };
    writes = λ setup n c count h. record { lawful = stays.writes c count h.lawful; given = wrote_given n c count h.given; once = calm_once k c _ (wrote_calm k c count) h.once };
    reads = λ setup n c d bytes h took.
        let lawful = stays.reads setup c d bytes h.lawful took in
        record { lawful = lawful; given = took_given n setup c d bytes h.given took; once = (took_down k setup c d bytes h.lawful lawful took).once h.once };
    finishes = λ setup n c inside h can. record { lawful = stays.finishes c inside h.lawful can; given = finished_given n c inside h.given; once = calm_once k c _ (finished_calm k c inside) h.once };
    gives_up = λ setup n reason c h. record { lawful = stays.gives_up reason c h.lawful; given = h.given; once = calm_once k c _ (given_up_calm k c reason) h.once };
    queues = λ setup n c t from number packet h. record {
      lawful = stays.queues c t from number packet h.lawful;
      given = passed_on_given n c t from number (Some packet) h.given;
      once = (queued_down k c t from number packet).once h.once;
    };
    port_fails = λ setup n c tunnel t h is can. record { lawful = stays.port_fails c tunnel t h.lawful is can; given = h.given; once = calm_once k c _ (port_failed_calm k c t) h.once };
    hears = λ setup n m c answer h long g. record {
      lawful = hears_lawful c (want_of c) answer h.lawful refl;
      given = after_given m (want_of c) answer c.tunnels (gives n m answer g) (given_more n m c.tunnels long h.given);
      once = λ id. omega arith;
    };
  }
