-- What a step of a worker leaves of the configuration.
use Rattle.std.proofs.Common.{◌≡◌, ℕ, Bool, true, false, List, Option, Some, None, refl, ap, ◌∙◌}
use Rattle.mq_talk.specs.declared.note.Note.{Note}
use Rattle.mq_talk.specs.declared.place.Parcel.{Parcel}
use Rattle.mq_machine.specs.declared.setup.Setup.{Setup}
use Rattle.mq_machine.specs.State.{Port, Held, Tunnel, Worker, Shared}
use Rattle.mq_machine.specs.Want.{Want, Nothing, Say, Bind, Ask, Judge, Push, Send, Over, Answer, Said, Bound, Replied, Judged, Pushed, Put, want_of}
use Rattle.mq_machine.specs.Shared.{Answers, port_of, pushing}
use Rattle.mq_machine.specs.Silent.{Reached, Heard, SeatStarves}
use Rattle.mq_machine.specs.Turn.{Try, Act, Frame, Write, Read, Receive, ActNext, TryNext, WriteNext, ReadNext, PortNext, ReceiveNext, Seat, Offers, Inbox, Of, SeatNext}

-- ---- behind an answer

still : (sh after : Shared) → after ≡ sh → after.config ≡ sh.config
still sh after is = ap (λ (s : Shared). s.config) is

pushing_keeps : (done : Bool) (sh : Shared) (parcel : Parcel) → (pushing done sh parcel).config ≡ sh.config
pushing_keeps true sh parcel = refl
pushing_keeps false sh parcel = refl

answers_keep : (actor : ℕ) (sh : Shared) (w : Want) (a : Answer) (after : Shared) → Answers actor sh w a after → after.config ≡ sh.config
answers_keep actor sh Nothing Said after is = absurd is
answers_keep actor sh Nothing (Bound done) after is = absurd is
answers_keep actor sh Nothing (Replied said) after is = absurd is
answers_keep actor sh Nothing (Judged verdict at) after is = absurd is
answers_keep actor sh Nothing (Pushed done) after is = absurd is
answers_keep actor sh Nothing (Put put limit) after is = absurd is
answers_keep actor sh Say Said after is = still sh after is
answers_keep actor sh Say (Bound done) after is = absurd is
answers_keep actor sh Say (Replied said) after is = absurd is
answers_keep actor sh Say (Judged verdict at) after is = absurd is
answers_keep actor sh Say (Pushed done) after is = absurd is
answers_keep actor sh Say (Put put limit) after is = absurd is
answers_keep actor sh (Bind stream goal) Said after is = absurd is
answers_keep actor sh (Bind stream goal) (Bound done) after is = still sh after is
answers_keep actor sh (Bind stream goal) (Replied said) after is = absurd is
answers_keep actor sh (Bind stream goal) (Judged verdict at) after is = absurd is
answers_keep actor sh (Bind stream goal) (Pushed done) after is = absurd is
answers_keep actor sh (Bind stream goal) (Put put limit) after is = absurd is
answers_keep actor sh (Ask asked) Said after is = absurd is
answers_keep actor sh (Ask asked) (Bound done) after is = absurd is
answers_keep actor sh (Ask asked) (Replied said) after is = ap (λ (s : Shared). s.config) is.after_is
answers_keep actor sh (Ask asked) (Judged verdict at) after is = absurd is
answers_keep actor sh (Ask asked) (Pushed done) after is = absurd is
answers_keep actor sh (Ask asked) (Put put limit) after is = absurd is
answers_keep actor sh (Judge tunnel n flow) Said after is = absurd is
answers_keep actor sh (Judge tunnel n flow) (Bound done) after is = absurd is
answers_keep actor sh (Judge tunnel n flow) (Replied said) after is = absurd is
answers_keep actor sh (Judge tunnel n flow) (Judged verdict at) after is = still sh after is.2
answers_keep actor sh (Judge tunnel n flow) (Pushed done) after is = absurd is
answers_keep actor sh (Judge tunnel n flow) (Put put limit) after is = absurd is
answers_keep actor sh (Push parcel) Said after is = absurd is
answers_keep actor sh (Push parcel) (Bound done) after is = absurd is
answers_keep actor sh (Push parcel) (Replied said) after is = absurd is
answers_keep actor sh (Push parcel) (Judged verdict at) after is = absurd is
answers_keep actor sh (Push parcel) (Pushed done) after is = still (pushing done sh parcel) after is.1 ∙ pushing_keeps done sh parcel
answers_keep actor sh (Push parcel) (Put put limit) after is = absurd is
answers_keep actor sh (Send tunnel n payload) Said after is = absurd is
answers_keep actor sh (Send tunnel n payload) (Bound done) after is = absurd is
answers_keep actor sh (Send tunnel n payload) (Replied said) after is = absurd is
answers_keep actor sh (Send tunnel n payload) (Judged verdict at) after is = absurd is
answers_keep actor sh (Send tunnel n payload) (Pushed done) after is = absurd is
answers_keep actor sh (Send tunnel n payload) (Put put limit) after is = still sh after is
answers_keep actor sh (Over why) Said after is = still sh after is
answers_keep actor sh (Over why) (Bound done) after is = absurd is
answers_keep actor sh (Over why) (Replied said) after is = absurd is
answers_keep actor sh (Over why) (Judged verdict at) after is = absurd is
answers_keep actor sh (Over why) (Pushed done) after is = absurd is
answers_keep actor sh (Over why) (Put put limit) after is = absurd is

-- ---- behind a try

module _ (setup : Setup) (sh after : Shared) (answer : Answer) (said : Note) (new : Option Held) where
  act_keeps : (h : Held) → ActNext h sh answer said new after → after.config ≡ sh.config
  act_keeps h next = answers_keep h.conn.actor sh (want_of h.conn) answer after next.answers

  write_keeps : (b : Bool) (h : Held) → WriteNext b h sh answer said new after → after.config ≡ sh.config
  write_keeps true h next = act_keeps _ next
  write_keeps false h next = still sh after next.after_is

  read_keeps : (b : Bool) (h : Held) → ReadNext b setup h sh answer said new after → after.config ≡ sh.config
  read_keeps true h next = act_keeps _ next
  read_keeps false h next = still sh after next.2

  port_keeps : (b : Bool) (h : Held) (p : Port) → PortNext b h p sh answer said new after → after.config ≡ sh.config
  port_keeps true h p next = act_keeps _ next
  port_keeps false h p next = still sh after next.after_is

  receive_keeps : (o : Option Port) (h : Held) → ReceiveNext o h sh answer said new after → after.config ≡ sh.config
  receive_keeps None h next = absurd next
  receive_keeps (Some p) h next = port_keeps p.receive_fails h p next

  try_keeps : (try : Try) (h : Held) → TryNext setup h sh try answer said new after → after.config ≡ sh.config
  try_keeps Act h next = act_keeps h next
  try_keeps Frame h next = still sh after next.after_is
  try_keeps Write h next = write_keeps h.link.write_fails h next
  try_keeps Read h next = read_keeps h.link.read_fails h next
  try_keeps (Receive tunnel) h next = receive_keeps (port_of h.ports tunnel) h next

-- ---- behind a turn

pub seat_keeps : (old : Worker) (sh : Shared) (seat : Seat) (answer : Answer) (said : Note) (new : Worker) (after : Shared) → SeatNext old sh seat answer said new after
    → after.config ≡ sh.config
seat_keeps old sh Offers answer said new after next = still sh after next.2
seat_keeps old sh Inbox answer said new after next = ap (λ (s : Shared). s.config) next.1.after_is
seat_keeps old sh (Of conn) answer said new after next = try_keeps old.setup sh after answer said next.became next.try next.held next.next

heard_keeps : (asked : Bool) (old : Held) (sh : Shared) (try : Try) (answer : Answer) (tunnels : List Tunnel) (after : Shared) → Heard asked old sh try answer tunnels after
    → after.config ≡ sh.config
heard_keeps false old sh try answer tunnels after heard = still sh after heard.2
heard_keeps true old sh try answer tunnels after heard = answers_keep old.conn.actor sh (want_of old.conn) answer after heard.answers

-- and where the seat was refused memory
pub starved_keeps : (old : Worker) (sh : Shared) (seat : Seat) (reached : Reached) (answer : Answer) (new : Worker) (after : Shared) → SeatStarves old sh seat reached answer new after
    → after.config ≡ sh.config
starved_keeps old sh Offers reached answer new after x = still sh after x.3
starved_keeps old sh Inbox reached answer new after x = absurd x
starved_keeps old sh (Of number) reached answer new after x = heard_keeps reached.asked x.held sh x.try answer x.tunnels after x.heard
