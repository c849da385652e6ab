-- Each packet that a connection is to push has an inbox behind its step, too.
use Rattle.std.proofs.Common.{◌≡◌, ℕ, ◌+◌, Bool, true, false, List, [], ◌∷◌, length, drop, take, Option, Some, None, ap, subst, ◌∙◌}
use Rattle.std.specs.Prelude.{option_map}
use Rattle.mq_addr.specs.declared.range.Flow.{Flow}
use Rattle.mq_talk.specs.declared.note.From.{From}
use Rattle.mq_talk.specs.declared.note.From.TheVariants as source
use Rattle.mq_talk.specs.declared.note.Note.{Note}
use Rattle.mq_talk.specs.declared.place.Origin.TheVariants as origin
use Rattle.mq_talk.specs.declared.place.Verdict.{Verdict}
use Rattle.mq_talk.specs.declared.place.Verdict.TheVariants as verdict
use Rattle.mq_talk.specs.Answers.{IsLegal}
use Rattle.mq_talk.specs.Book.{History}
use Rattle.mq_talk.specs.Judging.{IsJudged}
use Rattle.mq_talk.specs.Mails.{Boxes, Inboxes}
use Rattle.mq_talk.specs.Offices.{IsSound, Seen}
use Rattle.mq_book.proofs.Inboxes.{judged_has_inbox}
use Rattle.mq_outside.specs.Links.{behind, room_left}
use Rattle.mq_machine.specs.declared.setup.Setup.{Setup}
use Rattle.mq_machine.specs.Placing.{ArePlaced, IsAnswerPlaced, IsVerdictPlaced}
use Rattle.mq_machine.specs.Shared.{Answers, port_of, at_port}
use Rattle.mq_machine.specs.State.{Conn, Tunnel, Port, Held, Shared, tunnel_of}
use Rattle.mq_machine.specs.Steps.{framed, settled_note, wrote, finished, queued, received, port_received}
use Rattle.mq_machine.specs.Turn.{Try, Act, Frame, Write, Read, Receive, TryNext, ActNext, WriteNext, ReadNext, ReceiveNext, PortNext, TakesNext, received_from, receive_failed, read_failed, write_failed, write_count, most_read}
use Rattle.mq_machine.specs.Want.{Want, Nothing, Say, Bind, Ask, Judge, Push, Send, Over, Answer, Said, Bound, Replied, Judged, Pushed, Put, want_of}
use Rattle.mq_machine.proofs.Placing.{done_placed, finished_placed, framed_placed, queued_placed, settle_placed, took_placed}
use Rattle.mq_step.specs.Holds.{HasInboxes}
use Rattle.mq_actor.proofs.Behind.{mapped, acted_done, conn_of}
use Rattle.mq_actor.proofs.Searches.{each_at}

-- what the office has seen behind a step is sound, and there are as many inboxes as it says
pub record IsFit (seen : Seen) (mail : Inboxes) : Type 0 where
  pub sound : IsSound seen
  pub boxes : (bs : Boxes) → mail.told ≡ Some bs → length bs ≡ seen.config.workers + 1

pub fitting : (seen : Seen) (count : ℕ) (mail : Inboxes) → IsSound seen → HasInboxes seen count mail → IsFit seen mail
fitting seen count mail sound has = record { sound = sound; boxes = λ bs is. has.size bs is ∙ has.count_is }

-- ---- what is answered

verdict_placed : (sh after : Shared) (tunnel : ℕ) (flow : Flow) (v : Verdict) → IsLegal sh.config after.book → IsJudged sh.config sh.book (origin.Tunnel tunnel) flow v → after ≡ sh
    → IsVerdictPlaced sh.config.workers v
verdict_placed sh after tunnel flow (verdict.Pass to) legal judged same =
    let P : History → Type 0 = λ h. IsLegal sh.config h in
    judged_has_inbox sh.config sh.book (origin.Tunnel tunnel) flow to (subst P (ap (λ (x : Shared). x.book) same) legal) judged
verdict_placed sh after tunnel flow verdict.Source legal judged same = tt
verdict_placed sh after tunnel flow verdict.NoRoute legal judged same = tt

judged_placed : (actor : ℕ) (sh after : Shared) (w : Want) (v : Verdict) (at : ℕ) → IsLegal sh.config after.book → Answers actor sh w (Judged v at) after → IsVerdictPlaced sh.config.workers v
judged_placed actor sh after Nothing v at legal answers = absurd answers
judged_placed actor sh after Say v at legal answers = absurd answers
judged_placed actor sh after (Bind id goal) v at legal answers = absurd answers
judged_placed actor sh after (Ask asked) v at legal answers = absurd answers
judged_placed actor sh after (Judge tunnel n flow) v at legal answers = verdict_placed sh after tunnel flow v legal answers.1 answers.2
judged_placed actor sh after (Push parcel) v at legal answers = absurd answers
judged_placed actor sh after (Send tunnel n payload) v at legal answers = absurd answers
judged_placed actor sh after (Over why) v at legal answers = absurd answers

answer_placed : (actor : ℕ) (sh after : Shared) (w : Want) (a : Answer) → IsLegal sh.config after.book → Answers actor sh w a after → IsAnswerPlaced sh.config.workers a
answer_placed actor sh after w Said legal answers = tt
answer_placed actor sh after w (Bound did) legal answers = tt
answer_placed actor sh after w (Replied said) legal answers = tt
answer_placed actor sh after w (Judged v at) legal answers = judged_placed actor sh after w v at legal answers
answer_placed actor sh after w (Pushed did) legal answers = tt
answer_placed actor sh after w (Put port limit) legal answers = tt

-- ---- a try

module _ (sh after : Shared) (legal : IsLegal sh.config after.book) where
  abbrev Placed : Conn → Type 0
  Placed c = ArePlaced sh.config.workers c.due

  act_placed : (old new : Held) (answer : Answer) (said : Note) → Placed old.conn → ActNext old sh answer said (Some new) after → Placed new.conn
  act_placed old new answer said placed next =
      let did = acted_done old new (want_of old.conn) answer said next.is in
      done_placed sh.config.workers old.conn new.conn answer said placed (answer_placed old.conn.actor sh after (want_of old.conn) answer legal next.answers) did.is

  write_placed : (old new : Held) (fails : Bool) (answer : Answer) (said : Note) → Placed old.conn → WriteNext fails old sh answer said (Some new) after → Placed new.conn
  write_placed old new true answer said placed next = act_placed (write_failed old) new answer said tt next
  write_placed old new false answer said placed next =
      let count = write_count old in
      let h : Held = record old { link = record old.link { room = room_left old.link.room count } } in
      subst Placed (conn_of h new (wrote old.conn count) said next.is) (settle_placed sh.config.workers (record old.conn { given = old.conn.given + count }) placed)

  takes_placed : (setup : Setup) (old new : Held) (pieces : List (List ℕ)) (said : Note) → Placed old.conn → TakesNext setup old pieces said (Some new) → Placed new.conn
  takes_placed setup old new [] said placed next =
      subst Placed (conn_of old new (finished old.conn next.inside) said next.is) (finished_placed sh.config.workers old.conn next.inside placed)
  takes_placed setup old new (first ∷ others) said placed next =
      let h : Held = record old { conn = next.conn; link = record old.link { pieces = behind (drop most_read first) others } } in
      let some : Some new ≡ Some h = next.new_is in
      let held : h ≡ new = cc in
      subst Placed (ap (λ (x : Held). x.conn) held) (took_placed sh.config.workers setup old.conn next.conn (take most_read first) next.took)

  read_placed : (setup : Setup) (old new : Held) (fails : Bool) (answer : Answer) (said : Note) → Placed old.conn → ReadNext fails setup old sh answer said (Some new) after → Placed new.conn
  read_placed setup old new true answer said placed next = act_placed (read_failed old) new answer said tt next
  read_placed setup old new false answer said placed next = takes_placed setup old new old.link.pieces said placed next.1

  came_placed : (s t : Conn) (o : Option Tunnel) (from : From) (k : ℕ) (datagram : List ℕ) (n : Note) → Placed s
      → option_map (λ (u : Tunnel). settled_note (queued s u from k datagram)) o ≡ Some (n, t) → Placed t
  came_placed s t None from k datagram n placed is = absurd cc
  came_placed s t (Some u) from k datagram n placed is =
      each_at Placed (Some (settled_note (queued s u from k datagram))) n t (queued_placed sh.config.workers s u from k datagram placed) is

  receive_placed : (old new : Held) (p : Port) (waiting : List (List ℕ)) (n : Note) → Placed old.conn → received_from old p waiting ≡ Some (n, Some new) → Placed new.conn
  receive_placed old new p [] n placed is = absurd cc
  receive_placed old new p (datagram ∷ others) n placed is =
      let h : Held = record old { ports = at_port p.tunnel port_received old.ports } in
      came_placed old.conn new.conn (tunnel_of old.conn p.tunnel) (source.Port p.tunnel) p.received datagram n placed (mapped h new (received old.conn p datagram) n is)

  failed_placed : (old new : Held) (p : Port) (o : Option Tunnel) (answer : Answer) (said : Note) → Placed old.conn → ActNext (receive_failed old p o) sh answer said (Some new) after → Placed new.conn
  failed_placed old new p None answer said placed next = act_placed old new answer said placed next
  failed_placed old new p (Some t) answer said placed next = act_placed (receive_failed old p (Some t)) new answer said (tt, placed) next

  port_placed : (old new : Held) (p : Port) (fails : Bool) (answer : Answer) (said : Note) → Placed old.conn → PortNext fails old p sh answer said (Some new) after → Placed new.conn
  port_placed old new p true answer said placed next = failed_placed old new p (tunnel_of old.conn p.tunnel) answer said placed next
  port_placed old new p false answer said placed next = receive_placed old new p p.arrived said placed next.is

  from_port : (old new : Held) (o : Option Port) (answer : Answer) (said : Note) → Placed old.conn → ReceiveNext o old sh answer said (Some new) after → Placed new.conn
  from_port old new None answer said placed next = absurd next
  from_port old new (Some p) answer said placed next = port_placed old new p p.receive_fails answer said placed next

  -- whichever it was
  pub try_placed : (setup : Setup) (old new : Held) (try : Try) (answer : Answer) (said : Note) → Placed old.conn → TryNext setup old sh try answer said (Some new) after → Placed new.conn
  try_placed setup old new Act answer said placed next = act_placed old new answer said placed next
  try_placed setup old new Frame answer said placed next = framed_placed sh.config.workers old.conn new.conn said placed (mapped old new (framed old.conn) said next.is)
  try_placed setup old new Write answer said placed next = write_placed old new old.link.write_fails answer said placed next
  try_placed setup old new Read answer said placed next = read_placed setup old new old.link.read_fails answer said placed next
  try_placed setup old new (Receive tunnel) answer said placed next = from_port old new (port_of old.ports tunnel) answer said placed next
