-- What a step pushes, and what its note says of that.
use Rattle.std.proofs.Common.{◌≡◌, ◌⊎◌, ℕ, Bool, true, false, List, [], ◌∷◌, length, nat_lt, slice_get, slice_set, Option, Some, None, option_map, refl, sym, subst, ap, ◌∙◌, inl, inr}
use Rattle.std.specs.Bool.{MatchBool}
use Rattle.mq_addr.specs.declared.range.Flow.{Flow}
use Rattle.mq_outside.specs.Nets.{Arrival}
use Rattle.mq_talk.specs.declared.note.From.TheVariants as source
use Rattle.mq_talk.specs.declared.note.Note.{Note}
use Rattle.mq_talk.specs.declared.note.Note.TheVariants as note
use Rattle.mq_talk.specs.declared.place.Origin.TheVariants as origin
use Rattle.mq_talk.specs.declared.place.Parcel.{Parcel}
use Rattle.mq_talk.specs.declared.place.Place.{Place}
use Rattle.mq_talk.specs.declared.place.Verdict.{Verdict}
use Rattle.mq_talk.specs.declared.place.Verdict.TheVariants as verdict
use Rattle.mq_talk.specs.Judging.{IsJudged}
use Rattle.mq_talk.specs.Mails.{box_at, has_room}
use Rattle.mq_talk.specs.Packets.{flow_of}
use Rattle.mq_machine.specs.declared.act.StreamAct.TheVariants as stream
use Rattle.mq_machine.specs.declared.setup.Setup.{Setup}
use Rattle.mq_machine.specs.Done.{Done, tunnel_done, due_done, done_by, done}
use Rattle.mq_machine.specs.Settle.{settle}
use Rattle.mq_machine.specs.Shared.{Answers, inbox_of}
use Rattle.mq_machine.specs.State.{Conn, Held, Worker, Pump, Shared, held_of}
use Rattle.mq_machine.specs.Steps.{failed, port_failed}
use Rattle.mq_machine.specs.Turn.{Try, try_of, TryNext, over_or, ActNext, source_of, Seat, Offers, Inbox, Of, SeatNext, PumpTry, PushHeld, SendHeld, SendNext, Receives, PumpNext, parcel_pushed, net_sent, net_popped, net_judged, IsMet, IsReceived, with_arrivals, last_of}
use Rattle.mq_machine.specs.Want.{Want, Say, Bind, Ask, Judge, Push, Send, Over, Answer, Said, Bound, Replied, Judged, Pushed, Put, want_of}
use Rattle.mq_play.proofs.Lists.{if_both, some_same}
use Rattle.mq_runs.proofs.Boxes.{HeldBoxes, HoldsNet, PushFront, PushesIn, want_push, box_was}
use Rattle.mq_runs.proofs.Facts.{InFront, OnlyCloses, failed_closes, port_failed_closes}
use Rattle.mq_runs.proofs.Walks.{HandlesHeld, try_walk, map_was}

-- the note of a push
abbrev pub pushed_note : Parcel → Note
pushed_note parcel = note.PushedNote (source_of parcel.from) parcel.n parcel.to

-- ---- a connection's step

pub done_push : (c : Conn) (n : ℕ) (to : Place) (packet : List ℕ) (f : InFront c (stream.Push n to packet)) (d : Note × Conn) → done c (Pushed true) ≡ Some d → d.0 ≡ note.PushedNote (source.Tunnel f.t.id) n to
done_push c n to packet f d e =
    let now : Conn = record c { due = f.others } in
    let by : done_by c c.ending (Pushed true) ≡ Some (note.PushedNote (source.Tunnel f.t.id) n to, now) =
    ap (λ o. done_by c o (Pushed true)) f.goes_on ∙ (ap (λ ds. due_done c ds (Pushed true)) f.due_is ∙ ap (λ o. tunnel_done now o (stream.Push n to packet) (Pushed true)) f.serves) in
    let all = sym (ap (λ (o : Done). option_map (λ (d : Note × Conn). (d.0, settle d.1)) o) by) ∙ e in
    sym (ap (λ (d : Note × Conn). d.0) (some_same all))

abbrev pub HeldPushes : Held → Shared → Note → Shared → Type 0
HeldPushes old sh said after = (after.boxes ≡ sh.boxes) ⊎ ((parcel : Parcel) × PushFront old.conn parcel × PushesIn sh parcel after × (said ≡ pushed_note parcel))

push_says : (h : Held) (sh : Shared) (parcel : Parcel) (b : Bool) (said : Note) (new : Option Held) (after : Shared) → want_of h.conn ≡ Push parcel → Answers h.conn.actor sh (Push parcel) (Pushed b) after
    → over_or h (Push parcel) (Pushed b) ≡ Some (said, new) → HeldPushes h sh said after
push_says h sh parcel false said new after wants x e = inl (ap (λ (s : Shared). s.boxes) x.1)
push_says h sh parcel true said new after wants x e =
    let p = want_push h.conn parcel wants in
    let was = map_was _ (done h.conn (Pushed true)) (said, new) e in
    let told : was.0.0 ≡ note.PushedNote (source.Tunnel p.front.t.id) p.n p.to = done_push h.conn p.n p.to p.packet p.front was.0 was.1 in
    let same : was.0.0 ≡ said = ap (λ (d : Note × Option Held). d.0) was.2 in
    inr (parcel, p, record { is = ap (λ (s : Shared). s.boxes) x.1 }, sym same ∙ (told ∙ sym (ap pushed_note p.is)))

acted_pushes : (h : Held) (sh : Shared) (want : Want) (answer : Answer) (said : Note) (new : Option Held) (after : Shared) → want_of h.conn ≡ want → Answers h.conn.actor sh want answer after
    → over_or h want answer ≡ Some (said, new) → HeldPushes h sh said after
acted_pushes h sh Say Said said new after wants x e = inl (ap (λ (s : Shared). s.boxes) x)
acted_pushes h sh (Bind stream goal) (Bound b) said new after wants x e = inl (ap (λ (s : Shared). s.boxes) x)
acted_pushes h sh (Ask c) (Replied r) said new after wants x e = inl (ap (λ (s : Shared). s.boxes) x.after_is)
acted_pushes h sh (Judge tunnel n flow) (Judged v at) said new after wants x e = inl (ap (λ (s : Shared). s.boxes) x.2)
acted_pushes h sh (Push parcel) (Pushed b) said new after wants x e = push_says h sh parcel b said new after wants x e
acted_pushes h sh (Send tunnel n payload) (Put answer limit) said new after wants x e = inl (ap (λ (s : Shared). s.boxes) x)
acted_pushes h sh (Over reason) Said said new after wants x e = inl (ap (λ (s : Shared). s.boxes) x)
acted_pushes h sh want answer said new after wants x e = absurd x

act_pushes : (h : Held) (sh : Shared) (answer : Answer) (said : Note) (new : Option Held) (after : Shared) → ActNext h sh answer said new after → HeldPushes h sh said after
act_pushes h sh answer said new after x = acted_pushes h sh (want_of h.conn) answer said new after refl x.answers x.is

closes_pushes : (old base : Held) (sh : Shared) (said : Note) (after : Shared) → OnlyCloses base.conn → HeldPushes base sh said after → HeldPushes old sh said after
closes_pushes old base sh said after only (inl same) = inl same
closes_pushes old base sh said after only (inr (parcel, p, pushes, says)) = absurd (only (stream.Push p.n p.to p.packet) p.front)

handles_pushes : (setup : Setup) (old : Held) (sh : Shared) → HandlesHeld setup old sh (λ said new after. HeldPushes old sh said after)
handles_pushes setup old sh = record {
  acts = λ answer said new after x. act_pushes old sh answer said new after x;
  link_fails = λ link answer said new after x. let base : Held = record old { conn = failed old.conn; link = link } in closes_pushes old base sh said after (failed_closes old.conn) (act_pushes base sh answer said new after x);
  port_fails = λ p t answer said new after is can x. let base : Held = record old { conn = port_failed old.conn t } in closes_pushes old base sh said after (port_failed_closes old.conn t) (act_pushes base sh answer said new after x);
  frames = λ d is. inl refl;
  writes = inl refl;
  reads = λ first c link took. inl refl;
  ends = λ inside x can. inl refl;
  receives = λ p datagram others d port arrived came. inl refl;
}

-- ---- a worker's turn

pub record SeatPush (w : Worker) (sh : Shared) (said : Note) (after : Shared) : Type 0 where
  pub conn : ℕ
  pub held : Held
  pub parcel : Parcel
  pub has : held_of w conn ≡ Some held
  pub front : PushFront held.conn parcel
  pub pushes : PushesIn sh parcel after
  pub says : said ≡ pushed_note parcel

-- the inboxes are the same, or have a parcel more, or one lost its front
abbrev pub SeatPushes : Worker → Shared → Note → Shared → Type 0
SeatPushes w sh said after = (after.boxes ≡ sh.boxes) ⊎ (SeatPush w sh said after ⊎ ((parcel : Parcel) × (rest : List Parcel) × (slice_get sh.boxes w.id ≡ Some (parcel ∷ rest)) × (after.boxes ≡ slice_set sh.boxes w.id rest)))

held_pushes : (w : Worker) (conn : ℕ) (h : Held) (sh : Shared) (said : Note) (after : Shared) → held_of w conn ≡ Some h → HeldPushes h sh said after → SeatPushes w sh said after
held_pushes w conn h sh said after has (inl same) = inl same
held_pushes w conn h sh said after has (inr (parcel, p, pushes, says)) = inr (inl (record { conn = conn; held = h; parcel = parcel; has = has; front = p; pushes = pushes; says = says }))

pub seat_pushes : (w : Worker) (sh : Shared) (seat : Seat) (answer : Answer) (said : Note) (new : Worker) (after : Shared) → SeatNext w sh seat answer said new after → SeatPushes w sh said after
seat_pushes w sh Offers answer said new after x = inl (ap (λ (s : Shared). s.boxes) x.2)
seat_pushes w sh Inbox answer said new after x = inr (inr (x.1.parcel, x.1.rest, x.1.box, ap (λ (s : Shared). s.boxes) x.1.after_is))
seat_pushes w sh (Of n) answer said new after x =
    held_pushes w n x.held sh said after x.has (try_walk w.setup x.held sh (λ said new after. HeldPushes x.held sh said after) (handles_pushes w.setup x.held sh) x.try answer said x.became after x.tries x.next)

-- ---- the pump's

-- the network's next packet passed, and is held for pushing
pub record Holds (p : Pump) (sh : Shared) (d : Note × Pump × Shared) : Type 0 where
  pub first : Arrival
  pub others : List Arrival
  pub at : ℕ
  pub to : Place
  pub arrived : p.net.holds.arrived ≡ first ∷ others
  pub hand : d.1.to_push ≡ Some (record { from = origin.Net; n = p.net.received; to = to; packet = first.packet })
  pub says : d.0 ≡ note.Passed source.Net p.net.received at to
  pub flow : Flow
  pub flow_is : flow_of first.packet ≡ Some flow
  pub at_is : at ≡ length sh.book
  pub judged : IsJudged sh.config sh.book origin.Net flow (verdict.Pass to)

abbrev pub PumpInboxes : Pump → Shared → Note × Pump × Shared → Type 0
PumpInboxes p sh d =
    (d.2.boxes ≡ sh.boxes) ⊎ (((parcel : Parcel) × (p.to_push ≡ Some parcel) × PushesIn sh parcel d.2 × (d.0 ≡ pushed_note parcel))
    ⊎ ((i : ℕ) × (parcel : Parcel) × (rest : List Parcel) × (slice_get sh.boxes i ≡ Some (parcel ∷ rest)) × (d.2.boxes ≡ slice_set sh.boxes i rest)))

-- a parcel that it holds for sending, or the first of an inbox
abbrev pub HasParcel : Pump → Shared → Parcel → Type 0
HasParcel p sh parcel = (p.to_send ≡ Some parcel) ⊎ ((i : ℕ) × (rest : List Parcel) × (slice_get sh.boxes i ≡ Some (parcel ∷ rest)))

abbrev pub Sends : Pump → Shared → Note → Type 0
Sends p sh (note.Sent from n packet) = (parcel : Parcel) × HasParcel p sh parcel × (from ≡ source_of parcel.from) × (n ≡ parcel.n) × (packet ≡ parcel.packet)
Sends p sh said = Unit {0}

pub record PumpDoes (p : Pump) (sh : Shared) (d : Note × Pump × Shared) : Type 0 where
  pub boxes : PumpInboxes p sh d
  pub push : (d.1.to_push ≡ None) ⊎ ((d.1.to_push ≡ p.to_push) ⊎ Holds p sh d)
  pub send : (d.1.to_send ≡ None) ⊎ ((d.1.to_send ≡ p.to_send) ⊎ ((parcel : Parcel) × HasParcel p sh parcel × (d.1.to_send ≡ Some parcel)))
  pub sends : Sends p sh d.0

pushed_does : (p : Pump) (sh : Shared) (parcel : Parcel) (b : Bool) → p.to_push ≡ Some parcel → PumpDoes p sh (parcel_pushed p sh parcel b)
pushed_does p sh parcel true is = record { boxes = inr (inl (parcel, is, record { is = refl }, refl)); push = inl refl; send = inr (inl refl); sends = tt }
pushed_does p sh parcel false is = record { boxes = inl refl; push = inl refl; send = inr (inl refl); sends = tt }

-- it is sent, fails, or waits
sent_does : (p : Pump) (sh now : Shared) (parcel : Parcel) → HasParcel p sh parcel → ((said : Note) (q : Pump) → PumpInboxes p sh (said, q, now)) → PumpDoes p sh (net_sent p now parcel)
sent_does p sh now parcel has boxes =
    if_both (PumpDoes p sh) p.net.holds.send_fails _ _ (record { boxes = boxes _ p; push = inr (inl refl); send = inl refl; sends = tt })
    (if_both (PumpDoes p sh) p.net.holds.send_waits _ _ (record { boxes = boxes _ p; push = inr (inl refl); send = inr (inr (parcel, has, refl)); sends = tt })
    (record { boxes = boxes _ p; push = inr (inl refl); send = inl refl; sends = (parcel, has, refl, refl, refl) }))

popped_does : (p : Pump) (sh : Shared) (i : ℕ) (box : List Parcel) (d : Note × Pump × Shared) → box_at sh.boxes i ≡ box → net_popped p sh i box ≡ Some d → PumpDoes p sh d
popped_does p sh i [] d is e = absurd cc
popped_does p sh i (parcel ∷ rest) d is e =
    let at = box_was (slice_get sh.boxes i) parcel rest is in
    subst (PumpDoes p sh) (some_same e) (sent_does p sh (record sh { boxes = slice_set sh.boxes i rest }) parcel (inr (i, rest, at)) (λ said q. inr (inr (i, parcel, rest, at, refl))))

module _ (p : Pump) (sh : Shared) (first : Arrival) (others : List Arrival) (arrived : p.net.holds.arrived ≡ first ∷ others) where
  abbrev now : Pump
  now = record p { net = with_arrivals others p.net }

  judged_does : (flow : Flow) (said : Verdict) → flow_of first.packet ≡ Some flow → IsJudged sh.config sh.book origin.Net flow said → PumpDoes p sh (net_judged now sh p.net.received first.packet said)
  judged_does flow (verdict.Pass to) flow_is judged = record {
    boxes = inl refl;
    push = inr (inr (record { first = first; others = others; at = length sh.book; to = to; arrived = arrived; hand = refl; says = refl; flow = flow; flow_is = flow_is; at_is = refl; judged = judged }));
    send = inr (inl refl);
    sends = tt;
  }
  judged_does flow verdict.Source flow_is judged = record { boxes = inl refl; push = inr (inl refl); send = inr (inl refl); sends = tt }
  judged_does flow verdict.NoRoute flow_is judged = record { boxes = inl refl; push = inr (inl refl); send = inr (inl refl); sends = tt }

  fits_does : (b : Bool) (flow : Flow) (early d : Note × Pump × Shared) → flow_of first.packet ≡ Some flow → PumpDoes p sh early
      → MatchBool b (d ≡ early) ((said : Verdict) × IsJudged sh.config sh.book origin.Net flow said × (d ≡ net_judged now sh p.net.received first.packet said)) → PumpDoes p sh d
  fits_does true flow early d flow_is h x = subst (PumpDoes p sh) (sym x) h
  fits_does false flow early d flow_is h x = subst (PumpDoes p sh) (sym x.2) (judged_does flow x.0 flow_is x.1)

  met_does : (o : Option Flow) (d : Note × Pump × Shared) → flow_of first.packet ≡ o → IsMet now sh p.net.received first.packet o d → PumpDoes p sh d
  met_does None d flow_is x = subst (PumpDoes p sh) (sym x) (record { boxes = inl refl; push = inr (inl refl); send = inr (inl refl); sends = tt })
  met_does (Some flow) d flow_is x = fits_does (nat_lt p.mtu (length first.packet)) flow _ d flow_is (record { boxes = inl refl; push = inr (inl refl); send = inr (inl refl); sends = tt }) x

received_does : (p : Pump) (sh : Shared) (arrived : List Arrival) (d : Note × Pump × Shared) → p.net.holds.arrived ≡ arrived → IsReceived p sh arrived d → PumpDoes p sh d
received_does p sh [] d is x = absurd x
received_does p sh (first ∷ others) d is x = met_does p sh first others is (flow_of first.packet) d refl x

pub pump_does : (p : Pump) (sh : Shared) (try : PumpTry) (d : Note × Pump × Shared) → PumpNext p sh try d → PumpDoes p sh d
pump_does p sh PushHeld d x =
    let was = map_was (λ (parcel : Parcel). parcel_pushed p sh parcel (has_room sh.boxes (inbox_of sh.boxes parcel.to))) p.to_push d x in
    subst (PumpDoes p sh) was.2 (pushed_does p sh was.0 (has_room sh.boxes (inbox_of sh.boxes was.0.to)) was.1)
pump_does p sh SendHeld d x = let was = map_was (net_sent p sh) p.to_send d x in subst (PumpDoes p sh) was.2 (sent_does p sh sh was.0 (inl was.1) (λ said q. inl refl))
pump_does p sh SendNext d x = popped_does p sh (last_of sh.boxes) (box_at sh.boxes (last_of sh.boxes)) d refl x
pump_does p sh Receives d x = received_does p sh p.net.holds.arrived d refl x

-- ---- without the notes

held_boxes : (old : Held) (sh : Shared) (said : Note) (after : Shared) → HeldPushes old sh said after → HeldBoxes old sh after
held_boxes old sh said after (inl same) = inl same
held_boxes old sh said after (inr (parcel, front, pushes, says)) = inr (parcel, front, pushes)

pub try_boxes : (setup : Setup) (old : Held) (sh : Shared) (try : Try) (answer : Answer) (said : Note) (new : Option Held) (after : Shared) → try_of old ≡ Some try → TryNext setup old sh try answer said new after → HeldBoxes old sh after
try_boxes setup old sh try answer said new after tries x =
    held_boxes old sh said after (try_walk setup old sh (λ said new after. HeldPushes old sh said after) (handles_pushes setup old sh) try answer said new after tries x)

pub record PumpBoxes (p : Pump) (sh : Shared) (d : Note × Pump × Shared) : Type 0 where
  pub boxes : (d.2.boxes ≡ sh.boxes) ⊎ (((parcel : Parcel) × (p.to_push ≡ Some parcel) × PushesIn sh parcel d.2) ⊎ ((i : ℕ) × (parcel : Parcel) × (rest : List Parcel) × (slice_get sh.boxes i ≡ Some (parcel ∷ rest)) × (d.2.boxes ≡ slice_set sh.boxes i rest)))
  pub hand : HoldsNet d.1.to_push

pub pump_boxes : (p : Pump) (sh : Shared) (try : PumpTry) (d : Note × Pump × Shared) → HoldsNet p.to_push → PumpNext p sh try d → PumpBoxes p sh d
pump_boxes p sh try d h x =
    let did = pump_does p sh try d x in
    record {
      boxes = elim did.boxes [
        | inl same ↦ inl same
        | inr (inl (parcel, is, pushes, says)) ↦ inr (inl (parcel, is, pushes))
        | inr (inr popped) ↦ inr (inr popped)
      ];
      hand = elim did.push [
        | inl none ↦ subst HoldsNet (sym none) tt
        | inr (inl same) ↦ subst HoldsNet (sym same) h
        | inr (inr y) ↦ subst HoldsNet (sym y.hand) refl
      ];
    }
