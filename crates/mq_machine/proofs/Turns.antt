-- A turn is one.
use Rattle.std.proofs.Common.{◌≡◌, ℕ, Bool, true, false, List, [], ◌∷◌, Option, Some, None, refl, sym, ap, subst, ◌∙◌, slice_set, take, drop, length}
use Rattle.std.specs.Option.{unwrap_or}
use Rattle.mq_talk.specs.declared.place.Origin.TheVariants as origin
use Rattle.mq_talk.specs.declared.note.Note.{Note}
use Rattle.mq_talk.specs.declared.place.Parcel.{Parcel}
use Rattle.mq_machine.specs.declared.setup.Setup.{Setup}
use Rattle.mq_machine.specs.State.{Conn, Port, Held, Orders, Worker, Pump, Shared, State, Stream, Front, Head, OverHttp1, OverHttp2, tunnel_of}
use Rattle.mq_h2.specs.State as http2
use Rattle.mq_machine.specs.Want.{Want, Say, Bind, Ask, Judge, Push, Send, Over, Answer, Said, Bound, Replied, Judged, Pushed, Put, want_of}
use Rattle.std.specs.Prelude.{nat_lt}
use Rattle.std.specs.Bool.{MatchBool}
use Rattle.mq_addr.specs.declared.range.Flow.{Flow}
use Rattle.mq_talk.specs.declared.book.Call.{Call}
use Rattle.mq_talk.specs.declared.book.Reply.{Reply}
use Rattle.mq_talk.specs.declared.note.From.TheVariants as source
use Rattle.mq_talk.specs.declared.note.Note.TheVariants as note
use Rattle.mq_talk.specs.declared.place.Cause.TheVariants as cause
use Rattle.mq_talk.specs.declared.place.Verdict.{Verdict}
use Rattle.mq_talk.specs.Judging.{IsJudged}
use Rattle.mq_talk.specs.Mails.{box_at}
use Rattle.mq_talk.specs.Packets.{flow_of}
use Rattle.mq_machine.specs.Shared.{Answers, Asks, PortsAnswer, Ordered, port_of, asked_by}
use Rattle.mq_machine.specs.Steps.{finished}
use Rattle.mq_machine.specs.Reading.{EndsIn, EndsInFrames, EndsBy, stream_of}
use Rattle.mq_outside.specs.Nets.{Arrival}
use Rattle.mq_outside.specs.Links.{behind}
use Rattle.mq_machine.specs.Turn.{Try, Act, Frame, Write, Read, Receive, try_of, acted, ActNext, OwnNext, HeldDone, TakesNext, WriteNext, ReadNext, PortNext, ReceiveNext, TryNext, Seat, Offers, Inbox, Of, SeatNext, WorkerTurn, PumpTry, PushHeld, SendHeld, SendNext, Receives, PumpNext, IsReceived, with_arrivals, IsMet, net_judged, WorkerActs, PumpActs, Actor, WorkerOf, ThePump, Turn, with_held, with_conn, popped, most_read, write_failed, read_failed, receive_failed}
use Rattle.mq_machine.specs.Laws.{ReadsOnce, SaysOne}

-- what is inside
pub some_same : {A : Type 0} {x y : A} → Some x ≡ Some y → x ≡ y
some_same {A} {x} {y} h = ap (λ o. unwrap_or o x) h

pub pair_same : {A B : Type 0} (o : Option (A × B)) (a c : A) (b d : B) → o ≡ Some (a, b) → o ≡ Some (c, d) → (a ≡ c) × (b ≡ d)
pair_same {A} {B} o a c b d x y =
    let same : ◌≡◌ {A = A × B} (a, b) (c, d) = some_same (sym x ∙ y) in
    (ap (λ (p : A × B). p.0) same, ap (λ (p : A × B). p.1) same)

-- ---- answers

module _ (sh : Shared) (one : SaysOne sh.config sh.book) where
  -- the book replies one thing
  one_reply : (actor : ℕ) (call : Call) (r q : Reply) (s t : Shared) → Asks sh actor call r s → Asks sh actor call q t → (r ≡ q) × (s ≡ t)
  one_reply actor call r q s t x y =
      let said = one.answers call x.said y.said x.is y.is in (
        x.reply_is ∙ ap (λ a. (asked_by sh.book actor call a).reply) said ∙ sym y.reply_is,
        x.after_is ∙ ap (λ a. record sh { book = (asked_by sh.book actor call a).book }) said ∙ sym y.after_is,
      )

  -- what is shared is one thing behind an answer
  pub same_after : (actor : ℕ) (want : Want) (a : Answer) (s t : Shared) → Answers actor sh want a s → Answers actor sh want a t → s ≡ t
  same_after actor Say Said s t x y = x ∙ sym y
  same_after actor (Bind stream goal) (Bound done) s t x y = x ∙ sym y
  same_after actor (Ask call) (Replied reply) s t x y = (one_reply actor call reply reply s t x y).1
  same_after actor (Judge tunnel n flow) (Judged verdict at) s t x y = x.2 ∙ sym y.2
  same_after actor (Push parcel) (Pushed done) s t x y = x.1 ∙ sym y.1
  same_after actor (Send tunnel n payload) (Put put limit) s t x y = x ∙ sym y
  same_after actor (Over why) Said s t x y = x ∙ sym y
  same_after actor want a s t x y = absurd x

-- two answers to one want are one
abbrev pub Agree : Shared → Answer → Answer → Type 0
Agree sh a b = (actor : ℕ) (want : Want) (ports : List Port) (s t : Shared) → Answers actor sh want a s → Answers actor sh want b t
    → PortsAnswer ports want a → PortsAnswer ports want b → a ≡ b

-- in a play, where a script orders what fails, they are
module _ (sh : Shared) (one : SaysOne sh.config sh.book) (o p q : Orders) where
  one_said : (actor : ℕ) (want : Want) (a b : Answer) (s t : Shared) → Answers actor sh want a s → Answers actor sh want b t → Ordered o a p → Ordered o b q
      → (ports : List Port) → PortsAnswer ports want a → PortsAnswer ports want b → a ≡ b
  one_said actor Say Said Said s t x y k l ports f g = refl
  one_said actor Say Said b s t x y k l ports f g = absurd y
  one_said actor (Bind stream goal) (Bound d) (Bound e) s t x y k l ports f g = ap Bound (k.0 ∙ sym l.0)
  one_said actor (Bind stream goal) (Bound d) b s t x y k l ports f g = absurd y
  one_said actor (Ask call) (Replied r) (Replied w) s t x y k l ports f g = ap Replied (one_reply sh one actor call r w s t x y).0
  one_said actor (Ask call) (Replied r) b s t x y k l ports f g = absurd y
  one_said actor (Judge tunnel n flow) (Judged v at) (Judged w there) s t x y k l ports f g =
      ap (λ u. Judged u at) (one.judges (origin.Tunnel tunnel) flow v w x.1 y.1) ∙ ap (λ i. Judged w i) (x.0 ∙ sym y.0)
  one_said actor (Judge tunnel n flow) (Judged v at) b s t x y k l ports f g = absurd y
  one_said actor (Push parcel) (Pushed d) (Pushed e) s t x y k l ports f g = ap Pushed (x.0 ∙ sym y.0)
  one_said actor (Push parcel) (Pushed d) b s t x y k l ports f g = absurd y
  one_said actor (Send tunnel n payload) (Put put limit) (Put other bound) s t x y k l ports f g = some_same (sym f ∙ g)
  one_said actor (Send tunnel n payload) (Put put limit) b s t x y k l ports f g = absurd y
  one_said actor (Over why) Said Said s t x y k l ports f g = refl
  one_said actor (Over why) Said b s t x y k l ports f g = absurd y
  one_said actor want a b s t x y k l ports f g = absurd x

  pub orders_agree : (a b : Answer) → Ordered o a p → Ordered o b q → Agree sh a b
  orders_agree a b k l = λ actor want ports s t x y f g. one_said actor want a b s t x y k l ports f g

-- an answer uses up the same orders
pub same_orders : (o p q : Orders) (a : Answer) → Ordered o a p → Ordered o a q → p ≡ q
same_orders o p q (Bound done) x y = x.1 ∙ sym y.1
same_orders o p q Said x y = x ∙ sym y
same_orders o p q (Replied reply) x y = x ∙ sym y
same_orders o p q (Judged verdict at) x y = x ∙ sym y
same_orders o p q (Pushed done) x y = x ∙ sym y
same_orders o p q (Put put limit) x y = x ∙ sym y

-- ---- a connection

-- what a step is: a note, where its owner is then, what is shared, and how it was answered
abbrev pub Same : {A : Type 0} → Note → Note → A → A → Shared → Shared → Answer → Answer → Type 0
Same n m a b s t k l = (n ≡ m) × (a ≡ b) × (s ≡ t) × (k ≡ l)

module _ (sh : Shared) (one : SaysOne sh.config sh.book) (k l : Answer) (agree : Agree sh k l) where
  one_act : (old : Held) (n m : Note) (a b : Option Held) (s t : Shared) → ActNext old sh k n a s → ActNext old sh l m b t → Same n m a b s t k l
  one_act old n m a b s t x y =
      let answers = agree old.conn.actor (want_of old.conn) old.ports s t x.answers y.answers x.ports y.ports in
      let P : Answer → Type 0 = λ answer. acted old answer ≡ Some (m, b) in
      let Q : Answer → Type 0 = λ answer. Answers old.conn.actor sh (want_of old.conn) answer t in
      let same = pair_same (acted old k) n m a b x.is (subst P (sym answers) y.is) in
      (same.0, same.1, same_after sh one old.conn.actor (want_of old.conn) k s t x.answers (subst Q (sym answers) y.answers), answers)

  one_own : (does : HeldDone) (n m : Note) (a b : Option Held) (s t : Shared) → OwnNext sh k n a s does → OwnNext sh l m b t does → Same n m a b s t k l
  one_own does n m a b s t x y =
      let same = pair_same does n m a b x.is y.is in
      (same.0, same.1, x.after_is ∙ sym y.after_is, x.said ∙ sym y.said)

-- a data stream ends inside a capsule, or doesn't
one_inside : (s : Option Stream) (i j : Bool) → EndsIn s i → EndsIn s j → i ≡ j
one_inside None i j x y = x ∙ sym y
one_inside (Some s) true true x y = refl
one_inside (Some s) true false x y = absurd (y x)
one_inside (Some s) false true x y = absurd (x y)
one_inside (Some s) false false x y = refl

-- frames end inside a frame or a header block, or don't
one_in_frames : (h : http2.State) (i j : Bool) → EndsInFrames h i → EndsInFrames h j → i ≡ j
one_in_frames h true true x y = refl
one_in_frames h true false x y = absurd (y x)
one_in_frames h false true x y = absurd (x y)
one_in_frames h false false x y = refl

one_there : (front : Front) (streams : List Stream) (i j : Bool) → EndsBy front streams i → EndsBy front streams j → i ≡ j
one_there (Head bytes) streams i j x y = one_inside (stream_of streams 0) i j x y
one_there OverHttp1 streams i j x y = one_inside (stream_of streams 0) i j x y
one_there (OverHttp2 h) streams i j x y = one_in_frames h i j x y

one_takes : (setup : Setup) → ReadsOnce → (old : Held) (pieces : List (List ℕ)) (n m : Note) (a b : Option Held)
    → TakesNext setup old pieces n a → TakesNext setup old pieces m b → (n ≡ m) × (a ≡ b)
one_takes setup once old [] n m a b x y =
    let P : Bool → Type 0 = λ i. Some (with_conn old (finished old.conn i)) ≡ Some (m, b) in
    let inside = one_there old.conn.front old.conn.streams x.inside y.inside x.ends y.ends in
    pair_same (Some (with_conn old (finished old.conn x.inside))) n m a b x.is (subst P (sym inside) y.is)
one_takes setup once old (first ∷ others) n m a b x y =
    let conn = once setup old.conn x.conn y.conn (take most_read first) x.took y.took in (
      x.note_is ∙ sym y.note_is,
      x.new_is ∙ ap (λ (c : Conn). Some (record old { conn = c; link = record old.link { pieces = behind (drop most_read first) others } })) conn ∙ sym y.new_is,
    )

module _ (sh : Shared) (one : SaysOne sh.config sh.book) (k l : Answer) (agree : Agree sh k l) where
  one_try : (setup : Setup) → ReadsOnce → (old : Held) (try : Try) (n m : Note) (a b : Option Held) (s t : Shared)
      → TryNext setup old sh try k n a s → TryNext setup old sh try l m b t → Same n m a b s t k l
  one_try setup once old Act n m a b s t x y = one_act sh one k l agree old n m a b s t x y
  one_try setup once old Frame n m a b s t x y = one_own sh one k l agree _ n m a b s t x y
  one_try setup once old Write n m a b s t x y = by_failure old.link.write_fails x y where
    by_failure : (fails : Bool) → WriteNext fails old sh k n a s → WriteNext fails old sh l m b t → Same n m a b s t k l
    by_failure true x y = one_act sh one k l agree (write_failed old) n m a b s t x y
    by_failure false x y = one_own sh one k l agree _ n m a b s t x y
  one_try setup once old Read n m a b s t x y = by_failure old.link.read_fails x y where
    by_failure : (fails : Bool) → ReadNext fails setup old sh k n a s → ReadNext fails setup old sh l m b t → Same n m a b s t k l
    by_failure true x y = one_act sh one k l agree (read_failed old) n m a b s t x y
    by_failure false x y =
        let same = one_takes setup once old old.link.pieces n m a b x.1 y.1 in
        (same.0, same.1, x.2 ∙ sym y.2, x.0 ∙ sym y.0)
  one_try setup once old (Receive tunnel) n m a b s t x y = by_port (port_of old.ports tunnel) x y where
    by_failure : (p : Port) (fails : Bool) → PortNext fails old p sh k n a s → PortNext fails old p sh l m b t → Same n m a b s t k l
    by_failure p true x y = one_act sh one k l agree (receive_failed old p (tunnel_of old.conn p.tunnel)) n m a b s t x y
    by_failure p false x y = one_own sh one k l agree _ n m a b s t x y

    by_port : (p : Option Port) → ReceiveNext p old sh k n a s → ReceiveNext p old sh l m b t → Same n m a b s t k l
    by_port None x y = absurd x
    by_port (Some p) x y = by_failure p p.receive_fails x y

-- ---- a worker

module _ (sh : Shared) (one : SaysOne sh.config sh.book) (k l : Answer) (agree : Agree sh k l) where
  one_seat : (old : Worker) → ReadsOnce → (seat : Seat) (n m : Note) (a b : Worker) (s t : Shared)
      → SeatNext old sh seat k n a s → SeatNext old sh seat l m b t → Same n m a b s t k l
  one_seat old once Offers n m a b s t x y =
      let same = pair_same _ n m a b x.1 y.1 in
      (same.0, same.1, x.2 ∙ sym y.2, x.0 ∙ sym y.0)
  one_seat old once Inbox n m a b s t x y =
      let boxes = some_same (sym x.1.box ∙ y.1.box) in
      let parcel : x.1.parcel ≡ y.1.parcel = cc in
      let rest : x.1.rest ≡ y.1.rest = cc in
      let same : ◌≡◌ {A = Note × Worker} (n, a) (m, b) = sym x.1.is ∙ ap (popped old) parcel ∙ y.1.is in (
        ap (λ (p : Note × Worker). p.0) same,
        ap (λ (p : Note × Worker). p.1) same,
        x.1.after_is ∙ ap (λ (box : List Parcel). record sh { boxes = slice_set sh.boxes old.id box }) rest ∙ sym y.1.after_is,
        x.0 ∙ sym y.0,
      )
  one_seat old once (Of conn) n m a b s t x y =
      let held = some_same (sym y.has ∙ x.has) in
      let P : Held → Type 0 = λ h. try_of h ≡ Some y.try in
      let tries = some_same (sym (subst P held y.tries) ∙ x.tries) in
      let Q : Held → Type 0 = λ h. TryNext old.setup h sh y.try l m y.became t in
      let R : Try → Type 0 = λ try. TryNext old.setup x.held sh try l m y.became t in
      let same = one_try sh one k l agree old.setup once x.held x.try n m x.became y.became s t x.next (subst R tries (subst Q held y.next)) in
      (same.0, x.new_is ∙ ap (with_held old conn) same.1 ∙ sym y.new_is, same.2, same.3)

  pub one_worker : (old : Worker) → ReadsOnce → (box : List Parcel) (n m : Note) (a b : Worker) (s t : Shared)
      → WorkerTurn old box sh k n a s → WorkerTurn old box sh l m b t → Same n m a b s t k l
  one_worker old once box n m a b s t x y =
      let P : Seat → Type 0 = λ seat. SeatNext old sh seat l m b t in
      one_seat old once x.seat n m a b s t x.next (subst P (some_same (sym y.turn ∙ x.turn)) y.next)

-- ---- all actors

one_acts : (old : State) → ReadsOnce → SaysOne old.shared.config old.shared.book → (number : ℕ) (n m : Note) (a b : State) → WorkerActs old number n a → WorkerActs old number m b → (n ≡ m) × (a ≡ b)
one_acts old once one number n m a b x y =
    let sh = old.shared in
    let worker = some_same (sym y.at ∙ x.at) in
    let P : Worker → Type 0 = λ w. WorkerTurn w (box_at sh.boxes w.id) sh y.answer m y.next y.shared in
    let agree = orders_agree sh one sh.orders x.after.orders y.after.orders x.answer y.answer x.ordered y.ordered in
    let same = one_worker sh one x.answer y.answer agree x.worker once (box_at sh.boxes x.worker.id) n m x.next y.next x.shared y.shared x.turn (subst P worker y.turn) in
    let Q : Answer → Type 0 = λ answer. Ordered sh.orders answer y.after.orders in
    let orders = same_orders sh.orders x.after.orders y.after.orders x.answer x.ordered (subst Q (sym same.3) y.ordered) in
    let after = x.after_is ∙ ap (λ (s : Shared). record s { orders = x.after.orders }) same.2 ∙ ap (λ (o : Orders). record y.shared { orders = o }) orders ∙ sym y.after_is in (
      same.0,
      x.new_is ∙ ap (λ (w : Worker). record old { workers = slice_set old.workers number w; shared = x.after }) same.1
          ∙ ap (λ (s : Shared). record old { workers = slice_set old.workers number y.next; shared = s }) after ∙ sym y.new_is,
    )

-- what is said of a received packet is one thing
one_met : (p : Pump) (sh : Shared) → SaysOne sh.config sh.book → (n : ℕ) (packet : List ℕ) (flow : Option Flow) (d e : Note × Pump × Shared)
    → IsMet p sh n packet flow d → IsMet p sh n packet flow e → d ≡ e
one_met p sh one n packet None d e x y = x ∙ sym y
one_met p sh one n packet (Some flow) d e x y = by_size (nat_lt p.mtu (length packet)) x y where
  by_size : (b : Bool) → MatchBool b (d ≡ (note.Dropped source.Net n cause.TooLong, p, sh)) ((v : Verdict) × IsJudged sh.config sh.book origin.Net flow v × (d ≡ net_judged p sh n packet v))
      → MatchBool b (e ≡ (note.Dropped source.Net n cause.TooLong, p, sh)) ((v : Verdict) × IsJudged sh.config sh.book origin.Net flow v × (e ≡ net_judged p sh n packet v)) → d ≡ e
  by_size true x y = x ∙ sym y
  by_size false x y = x.2 ∙ ap (net_judged p sh n packet) (one.judges origin.Net flow x.0 y.0 x.1 y.1) ∙ sym y.2

one_received : (p : Pump) (sh : Shared) → SaysOne sh.config sh.book → (arrived : List Arrival) (d e : Note × Pump × Shared) → IsReceived p sh arrived d → IsReceived p sh arrived e → d ≡ e
one_received p sh one [] d e x y = absurd x
one_received p sh one (first ∷ others) d e x y =
    one_met (record p { net = with_arrivals others p.net }) sh one p.net.received first.packet (flow_of first.packet) d e x y

one_pumped : (p : Pump) (sh : Shared) → SaysOne sh.config sh.book → (try : PumpTry) (d e : Note × Pump × Shared) → PumpNext p sh try d → PumpNext p sh try e → d ≡ e
one_pumped p sh one PushHeld d e x y = some_same (sym x ∙ y)
one_pumped p sh one SendHeld d e x y = some_same (sym x ∙ y)
one_pumped p sh one SendNext d e x y = some_same (sym x ∙ y)
one_pumped p sh one Receives d e x y = one_received p sh one p.net.holds.arrived d e x y

one_pump : (old : State) → SaysOne old.shared.config old.shared.book → (n m : Note) (a b : State) → PumpActs old n a → PumpActs old m b → (n ≡ m) × (a ≡ b)
one_pump old one n m a b x y =
    let P : PumpTry → Type 0 = λ try. PumpNext old.pump old.shared try (m, y.pump, y.shared) in
    let same : ◌≡◌ {A = Note × Pump × Shared} (n, x.pump, x.shared) (m, y.pump, y.shared) =
    one_pumped old.pump old.shared one x.turn.try (n, x.pump, x.shared) (m, y.pump, y.shared) x.turn.is (subst P (some_same (sym y.turn.tries ∙ x.turn.tries)) y.turn.is) in (
      ap (λ (d : Note × Pump × Shared). d.0) same,
      x.new_is ∙ ap (λ (d : Note × Pump × Shared). record old { pump = d.1; shared = d.2 }) same ∙ sym y.new_is,
    )

pub one_turn : (old : State) → ReadsOnce → SaysOne old.shared.config old.shared.book → (actor : Actor) (n m : Note) (a b : State) → Turn old actor n a → Turn old actor m b → (n ≡ m) × (a ≡ b)
one_turn old once one (WorkerOf number) n m a b x y = one_acts old once one number n m a b x y
one_turn old once one ThePump n m a b x y = one_pump old one n m a b x y
