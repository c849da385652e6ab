-- A step that receives from the network, when nothing was pushed and nothing sent.
use Rattle.std.proofs.Common.{◌≡◌, ◌⊎◌, inl, inr, ℕ, ◌+◌, ◌<◌, ◌&&◌, ◌||◌, Bool, true, false, not, List, [], ◌∷◌, length, nat_lt, take, Option, Some, None, is_some, Ok, Err, MatchOption, refl, sym, ap, ◌∙◌, subst, arith}
use Rattle.std.specs.Bool.{⊤, MatchBool}
use Rattle.std.specs.Option.{unwrap_or}
use Rattle.std.proofs.lemmas.Bool.{lt-ltb}
use Rattle.mq_wire.specs.declared.NoMemory.{NoMemory}
use Rattle.mq_addr.specs.declared.range.Flow.{Flow}
use Rattle.mq_outside.specs.declared.PortGot.{PortGot}
use Rattle.mq_outside.specs.declared.PortGot.TheVariants as got
use Rattle.mq_outside.specs.declared.PortPut.{PortPut}
use Rattle.mq_outside.specs.declared.PortPut.TheVariants as put
use Rattle.mq_outside.specs.Counts.{PortCounts}
use Rattle.mq_outside.specs.Nets.{NetHolds, Arrival, NetSends, NetReceives, net_of, by_itself}
use Rattle.mq_outside.specs.Ports.{after_send, after_receive}
use Rattle.mq_talk.specs.declared.note.Note.{Note}
use Rattle.mq_talk.specs.declared.note.From.TheVariants as source
use Rattle.mq_talk.specs.declared.note.Note.TheVariants as note
use Rattle.mq_talk.specs.declared.book.Config.{Config}
use Rattle.mq_talk.specs.declared.book.Entry.{Entry}
use Rattle.mq_talk.specs.declared.place.Cause.{Cause}
use Rattle.mq_talk.specs.declared.place.Cause.TheVariants as cause
use Rattle.mq_talk.specs.declared.place.Parcel.{Parcel}
use Rattle.mq_talk.specs.declared.place.Verdict.{Verdict}
use Rattle.mq_talk.specs.declared.place.Verdict.TheVariants as verdict
use Rattle.mq_talk.specs.declared.place.Origin.TheVariants as origin
use Rattle.mq_talk.specs.Judging.{IsJudged}
use Rattle.mq_talk.specs.Mails.{Boxes, IsTold, PopGives, box_at, Inboxes}
use Rattle.mq_talk.specs.Offices.{Seen, Sees, IsSame}
use Rattle.mq_talk.specs.Packets.{flow_of}
use Rattle.mq_machine.specs.State as machine
use Rattle.mq_machine.specs.State.{Shared}
use Rattle.mq_machine.specs.Turn.{PumpTry, Receives, IsMet, IsReceived, net_judged, with_arrivals}
use Rattle.mq_machine.specs.Acting.{PumpSight, PumpKnown, PumpSteps, WasInbox, Rose}
use Rattle.mq_pump.specs.declared.pump.Pump.{Pump}
use Rattle.mq_pump.specs.Holds.{IsPump, CanGo, CanSend}
use Rattle.mq_pump.specs.Ready.{WouldGive}
use Rattle.mq_pump.specs.Sends.{NetSeen, OfNext, SendGives, sent_note, waits_after}
use Rattle.mq_pump.specs.Receives.{judged_note, judged_parcel, IsJudgedSo, IsDropped, Comes, is_datagram, GaveNothing, one_more, Takes, TakesNothing}
use Rattle.mq_pump.proofs.Rises.{rose_risen}
use Rattle.mq_pump.proofs.Shared.{was_box, boxes_or, length_or, told_or, is_told, untold, sharing, meets_by, known_by, same_office, sees_new}
use Rattle.mq_pump.proofs.Turns.{with_holds, refills, NoneSent, held_waits, none_next, tries_last}
use Rattle.mq_talk.proofs.Mails.{nothing_moved, popped_same}

-- ---- nothing was sent

-- what is told of a network that takes nothing now
abbrev pub TakesNone : Option NetHolds → Type 0
TakesNone None = ⊤
TakesNone (Some holds) = (holds.send_fails ≡ false) × (holds.send_waits ≡ true)

-- the parcel that is held waits, or none is held and the inbox is empty
abbrev pub IdleBy : Option Parcel → ℕ → PumpSight → NetSeen → Boxes → Type 0
IdleBy None workers old mid before = (mid.counts ≡ old.counts) × (box_at before workers ≡ [])
IdleBy (Some parcel) workers old mid before = (mid.counts ≡ after_send old.counts put.NotNow) × TakesNone old.net

pub record Idled (held : Option Parcel) (workers : ℕ) (old : PumpSight) (mid : NetSeen) (boxes : Inboxes) : Type 0 where
  pub before : Boxes
  pub was : IsTold old.boxes.told before
  pub is : IsTold boxes.told before
  pub stays : boxes ≡ old.boxes
  pub long : length before ≡ workers + 1
  pub same : mid.holds ≡ old.net
  pub by : IdleBy held workers old mid before

abbrev pub seen_of : PumpSight → NetSeen
seen_of old = record { holds = old.net; counts = old.counts }

waited_same : (after : Option NetHolds) (packet : List ℕ) (told : Option NetHolds) → NetSends told after packet put.NotNow → (after ≡ told) × TakesNone told
waited_same after packet None sends = (sends, tt)
waited_same after packet (Some holds) sends = (sends.2, (sends.0, sends.1))

pub idled : (held : Option Parcel) (workers : ℕ) (old : PumpSight) (mid : NetSeen) (boxes : Inboxes) (waits : Option Parcel) → PumpKnown old → old.seen.config.workers ≡ workers
    → SendGives held (workers + 1) old.boxes workers boxes (seen_of old) mid None waits → Idled held workers old mid boxes × (waits ≡ held)
idled None workers old mid boxes waits known same x = by_popped x.popped x.pops x.does where
  by_popped : (popped : Option Parcel) → PopGives (workers + 1) old.boxes workers popped boxes → OfNext (seen_of old) mid popped None waits → Idled None workers old mid boxes × (waits ≡ None)
  by_popped None pops does = (
    record {
      before = pops.before;
      was = pops.was;
      is = subst (λ (b : Boxes). IsTold boxes.told b) pops.does.1 pops.is;
      stays = popped_same old.boxes boxes (workers + 1) workers pops;
      long = pops.size;
      same = ap (λ (m : NetSeen). m.holds) does.0;
      by = (ap (λ (m : NetSeen). m.counts) does.0, pops.does.0);
    },
    does.2,
  )
  by_popped (Some parcel) pops does = absurd (never does.says) where
    never : {n : Note} → None ≡ Some n → ⊥
    never e = cc
idled (Some parcel) workers old mid boxes waits known same x = by_answer x.0.put x.0.sends x.0.counts x.0.says x.0.left where
  by_answer : (answer : PortPut) → NetSends old.net mid.holds parcel.packet answer → mid.counts ≡ after_send old.counts answer → None ≡ sent_note parcel answer → waits ≡ waits_after parcel answer
      → Idled (Some parcel) workers old mid boxes × (waits ≡ Some parcel)
  by_answer put.Sent sends counts says left = absurd cc
  by_answer put.Failed sends counts says left = absurd cc
  by_answer put.NotNow sends counts says left =
      let both = waited_same mid.holds parcel.packet old.net sends in
      let count : ℕ = old.seen.config.workers + 1 in
      let before = boxes_or old.boxes.told count in
      let was : IsTold old.boxes.told before = told_or old.boxes.told _ in
      let many : length before ≡ count = length_or old.boxes.told count known.boxes in (
        record {
          before = before;
          was = was;
          is = subst (λ (b : Inboxes). IsTold b.told before) (sym x.1) was;
          stays = x.1;
          long = omega (arith, many, same);
          same = both.0;
          by = (counts, both.1);
        },
        left,
      )

-- what a network that tells nothing may have held, of which this arrived
abbrev pub made_of : List Arrival → Option Parcel → NetHolds
made_of arrived held = record (net_of []) { arrived = arrived; send_waits = is_some held }

-- then nothing was to be sent
idle_sends : (s : machine.Pump) (held : Option Parcel) (workers : ℕ) (old : PumpSight) (mid : NetSeen) (before : Boxes) (arrived : List Arrival) → s.to_send ≡ held → IdleBy held workers old mid before
    → NoneSent (with_holds s (unwrap_or old.net (made_of arrived held))) (box_at before workers)
idle_sends s None workers old mid before arrived has idle = none_next (with_holds s (unwrap_or old.net (made_of arrived None))) (box_at before workers) has idle.1
idle_sends s (Some parcel) workers old mid before arrived has idle = by_told old.net idle.1 where
  by_told : (told : Option NetHolds) → TakesNone told → NoneSent (with_holds s (unwrap_or told (made_of arrived (Some parcel)))) (box_at before workers)
  by_told None takes = held_waits (with_holds s (made_of arrived (Some parcel))) (box_at before workers) parcel has refl refl
  by_told (Some holds) takes = held_waits (with_holds s holds) (box_at before workers) parcel has takes.1 takes.0

-- what waited was asked for in vain
idle_rose : (held : Option Parcel) (workers : ℕ) (old : PumpSight) (mid : NetSeen) (before : Boxes) (waits : ℕ) → IdleBy held workers old mid before → waits ≡ mid.counts.send_waits
    → (parcel : Parcel) → held ≡ Some parcel → Rose old.counts.send_waits waits
idle_rose None workers old mid before waits idle same parcel has = absurd cc
idle_rose (Some held) workers old mid before waits idle same parcel has =
    rose_risen old.counts.send_waits waits (same ∙ ap (λ (c : PortCounts). c.send_waits) idle.0)

-- ---- a receive that gives nothing

nothing : (fails : Bool) (arrived : List Arrival) → arrived ≡ [] → not fails && nat_lt 0 (length arrived) ≡ false
nothing true arrived empty = refl
nothing false arrived empty = ap (λ (a : List Arrival). nat_lt 0 (length a)) empty

failing : (fails : Bool) (arrived : List Arrival) → fails ≡ true → not fails && nat_lt 0 (length arrived) ≡ false
failing fails arrived is = ap (λ (b : Bool). not b && nat_lt 0 (length arrived)) is

none_came : (told after : Option NetHolds) (made : NetHolds) (buffer : List ℕ) (answer : PortGot) → made.arrived ≡ [] → is_datagram answer ≡ false → NetReceives told after buffer answer
    → (not (unwrap_or told made).receive_fails && nat_lt 0 (length (unwrap_or told made).arrived) ≡ false) × (after ≡ told)
none_came None after made buffer answer empty none receives = (nothing made.receive_fails made.arrived empty, receives)
none_came (Some holds) after made buffer (got.Datagram count) empty none receives = absurd cc
none_came (Some holds) after made buffer got.NotNow empty none receives = (nothing holds.receive_fails holds.arrived receives.1, receives.2)
none_came (Some holds) after made buffer got.Failed empty none receives = (failing holds.receive_fails holds.arrived receives.0, receives.1)

-- a receive counts no waiting send
pub still_waits : (answer : PortGot) (counts : PortCounts) → (after_receive counts answer).send_waits ≡ counts.send_waits
still_waits (got.Datagram count) counts = refl
still_waits got.NotNow counts = refl
still_waits got.Failed counts = refl

-- that was asked for in vain
vain : (answer : PortGot) (old before after : PortCounts) → is_datagram answer ≡ false → before.receive_waits ≡ old.receive_waits → before.faults ≡ old.faults → after ≡ after_receive before answer
    → Rose old.receive_waits after.receive_waits ⊎ Rose old.faults after.faults
vain (got.Datagram count) old before after none waits faults is = absurd cc
vain got.NotNow old before after none waits faults is =
    let grew : after.receive_waits ≡ (after_receive old got.NotNow).receive_waits = ap (λ (c : PortCounts). c.receive_waits) is ∙ ap (λ (n : ℕ). (after_receive (record old { receive_waits = n }) got.NotNow).receive_waits) waits in
    inl (rose_risen old.receive_waits after.receive_waits grew)
vain got.Failed old before after none waits faults is =
    let grew : after.faults ≡ (after_receive old got.Failed).faults = ap (λ (c : PortCounts). c.faults) is ∙ ap (λ (n : ℕ). (after_receive (record old { faults = n }) got.Failed).faults) faults in
    inr (rose_risen old.faults after.faults grew)

-- sends that wait count no other calls
idle_counts : (held : Option Parcel) (workers : ℕ) (old : PumpSight) (mid : NetSeen) (before : Boxes) → IdleBy held workers old mid before
    → (mid.counts.receive_waits ≡ old.counts.receive_waits) × (mid.counts.faults ≡ old.counts.faults)
idle_counts None workers old mid before idle = (ap (λ (c : PortCounts). c.receive_waits) idle.0, ap (λ (c : PortCounts). c.faults) idle.0)
idle_counts (Some parcel) workers old mid before idle = (ap (λ (c : PortCounts). c.receive_waits) idle.0, ap (λ (c : PortCounts). c.faults) idle.0)

-- ---- the pump

-- the pump behind such a step
pub record ReceivedPump {N : Type 0} (p q : Pump N) (n_after : ℕ) (pushes : Option Parcel) : Type 0 where
  pub mtu : q.mtu ≡ p.mtu
  pub workers : q.workers ≡ p.workers
  pub to_send : q.to_send ≡ p.to_send
  pub to_push : q.to_push ≡ pushes
  pub received : q.received ≡ n_after
  pub room : length q.datagrams.room.items ≡ 65535
  pub can_go : MatchOption pushes ⊤ (CanGo p.workers)

received_stands : {N : Type 0} (p q : Pump N) (n_after : ℕ) (pushes : Option Parcel) (s t : machine.Pump) → IsPump p s → ReceivedPump p q n_after pushes → t.mtu ≡ s.mtu → t.to_push ≡ pushes → t.to_send ≡ s.to_send → t.net.received ≡ n_after
    → IsPump q t
received_stands p q n_after pushes s t is r mtu push send n = record {
  mtu = mtu ∙ is.mtu ∙ sym r.mtu;
  to_push = push ∙ sym r.to_push;
  to_send = send ∙ is.to_send ∙ sym r.to_send;
  received = n ∙ sym r.received;
  room = r.room;
  can_go =
      subst (λ (w : ℕ). MatchOption q.to_push ⊤ (CanGo w)) (sym r.workers)
      (subst (λ (o : Option Parcel). MatchOption o ⊤ (CanGo p.workers)) (sym r.to_push) r.can_go);
  can_send = subst (λ (o : Option Parcel). MatchOption o ⊤ CanSend) (sym r.to_send) is.can_send;
}

-- ---- nothing was received

pub received_none : {N : Type 0} (p q : Pump N) (n_after : ℕ) (pushes : Option Parcel) (old new : PumpSight) (mid : NetSeen) → p.to_push ≡ None → ReceivedPump p q n_after pushes → old.seen.config.workers ≡ p.workers
    → (PumpKnown old → Idled p.to_send p.workers old mid new.boxes) → GaveNothing mid (seen_of new) → TakesNothing old.seen new.seen p.received n_after pushes
    → PumpSteps (IsPump p) (IsPump q) old new (Ok None)
received_none p q n_after pushes old new mid none r workers idles gave takes orders o s is known =
    let idle = idles known in
    let made = made_of [] p.to_send in
    let holds = unwrap_or old.net made in
    let now = with_holds s holds in
    let box = box_at idle.before p.workers in
    let there : p.workers < length idle.before = let long = idle.long in omega (arith, long) in
    let came = none_came old.net new.net made gave.buffer gave.got refl gave.none (subst (λ (h : Option NetHolds). NetReceives h new.net gave.buffer gave.got) idle.same gave.receives) in
    let counts = idle_counts p.to_send p.workers old mid idle.before idle.by in
    let long : length idle.before ≡ old.seen.config.workers + 1 = idle.long ∙ ap (λ (w : ℕ). w + 1) (sym workers) in (
      now,
      received_stands p q n_after pushes s now is r refl (is.to_push ∙ none ∙ sym takes.left) refl (is.received ∙ sym takes.counted),
      subst (λ (h : Option NetHolds). IsTold h holds) (sym came.1) (told_or old.net made),
      known_by old new idle.before (same_office old.seen new.seen takes.same) idle.is long,
      record {
        now = now;
        box = box;
        refills = refills old.net made s;
        was = subst (λ (w : ℕ). WasInbox old.boxes.told w box) (sym workers) (was_box old.boxes.told idle.before p.workers idle.was there);
        none = tries_last now box false (is.to_push ∙ none) (idle_sends s p.to_send p.workers old mid idle.before [] is.to_send idle.by) came.0;
        send = λ parcel has. idle_rose p.to_send p.workers old mid idle.before new.counts.send_waits idle.by (ap (λ (c : PortCounts). c.send_waits) gave.counts ∙ still_waits gave.got mid.counts) parcel (sym is.to_send ∙ has);
        receive = vain gave.got old.counts mid.counts new.counts gave.none counts.0 counts.1 gave.counts;
        leaves = record { net = came.1; seen = takes.same; boxes = idle.stays };
        same = refl;
      },
    )

-- ---- memory was refused

can_come : (told : Option NetHolds) (held : Option Parcel) → WouldGive told true
    → not (unwrap_or told (made_of (by_itself [] ∷ []) held)).receive_fails && nat_lt 0 (length (unwrap_or told (made_of (by_itself [] ∷ []) held)).arrived) ≡ true
can_come None held would = refl
can_come (Some holds) held would = sym would

pub received_refused : {N : Type 0} (p q : Pump N) (n_after : ℕ) (pushes : Option Parcel) (old new : PumpSight) (mid : NetSeen) (refused : NoMemory) → p.to_push ≡ None → ReceivedPump p q n_after pushes
    → old.seen.config.workers ≡ p.workers → (PumpKnown old → Idled p.to_send p.workers old mid new.boxes) → WouldGive mid.holds true → seen_of new ≡ mid → TakesNothing old.seen new.seen p.received n_after pushes
    → PumpSteps (IsPump p) (IsPump q) old new (Err refused)
received_refused p q n_after pushes old new mid refused none r workers idles would same takes orders o s is known =
    let idle = idles known in
    let made = made_of (by_itself [] ∷ []) p.to_send in
    let holds = unwrap_or old.net made in
    let now = with_holds s holds in
    let box = box_at idle.before p.workers in
    let there : p.workers < length idle.before = let long = idle.long in omega (arith, long) in
    let still : new.net ≡ old.net = ap (λ (m : NetSeen). m.holds) same ∙ idle.same in
    let can = can_come old.net p.to_send (subst (λ (h : Option NetHolds). WouldGive h true) idle.same would) in
    let long : length idle.before ≡ old.seen.config.workers + 1 = idle.long ∙ ap (λ (w : ℕ). w + 1) (sym workers) in
    let tries = tries_last now box true (is.to_push ∙ none) (idle_sends s p.to_send p.workers old mid idle.before (by_itself [] ∷ []) is.to_send idle.by) can in (
      now,
      received_stands p q n_after pushes s now is r refl (is.to_push ∙ none ∙ sym takes.left) refl (is.received ∙ sym takes.counted),
      subst (λ (h : Option NetHolds). IsTold h holds) (sym still) (told_or old.net made),
      known_by old new idle.before (same_office old.seen new.seen takes.same) idle.is long,
      record {
        now = now;
        box = box;
        refills = refills old.net made s;
        was = subst (λ (w : ℕ). WasInbox old.boxes.told w box) (sym workers) (was_box old.boxes.told idle.before p.workers idle.was there);
        some = ap (λ (t : Option PumpTry). is_some t) tries;
        leaves = record { net = still; seen = takes.same; boxes = idle.stays };
        same = refl;
      },
    )

-- ---- a packet came

abbrev Done : Type 0
Done = Note × machine.Pump × Shared

abbrev AreSame : Done → Done → Type 0
AreSame a b = a ≡ b

-- a step with this note, behind which this is to be pushed
abbrev done : machine.Pump → Shared → Note → Option Parcel → Done
done s sh said pushes = (said, record s { to_push = pushes }, sh)

judged_is : (s : machine.Pump) (sh : Shared) (n at : ℕ) (packet : List ℕ) (v : Verdict) → at ≡ length sh.book → s.to_push ≡ None
    → done s sh (judged_note n at v) (judged_parcel n packet v) ≡ net_judged s sh n packet v
judged_is s sh n at packet (verdict.Pass to) is none = ap (λ (k : ℕ). done s sh (judged_note n k (verdict.Pass to)) (judged_parcel n packet (verdict.Pass to))) is
judged_is s sh n at packet verdict.Source is none = ap (λ (h : Option Parcel). done s sh (judged_note n at verdict.Source) h) (sym none)
judged_is s sh n at packet verdict.NoRoute is none = ap (λ (h : Option Parcel). done s sh (judged_note n at verdict.NoRoute) h) (sym none)

-- what is dropped before it is judged
dropped_is : (s : machine.Pump) (sh : Shared) (old new : Seen) (n : ℕ) (why : Cause) (said : Note) (pushes : Option Parcel) → s.to_push ≡ None → IsDropped old new n why said pushes
    → AreSame (done s sh said pushes) (note.Dropped source.Net n why, s, sh)
dropped_is s sh old new n why said pushes none x =
    ap (λ (h : Option Parcel). done s sh said h) (x.left ∙ sym none) ∙ ap (λ (d : Note). done s sh d s.to_push) x.says

met : (s : machine.Pump) (sh : Shared) (old new : Seen) (n : ℕ) (packet : List ℕ) (flow : Option Flow) (said : Note) (pushes : Option Parcel) → s.to_push ≡ None → sh.config ≡ old.config → sh.book ≡ new.entries
    → Comes old new s.mtu n packet flow said pushes → IsMet s sh n packet flow (done s sh said pushes)
met s sh old new n packet None said pushes none config book x = dropped_is s sh old new n cause.BadHeader said pushes none x
met s sh old new n packet (Some flow) said pushes none config book x = by_length (nat_lt s.mtu (length packet)) x where
  by_length : (b : Bool) → MatchBool b (IsDropped old new n cause.TooLong said pushes) (IsJudgedSo old new n packet flow said pushes)
      → MatchBool b (AreSame (done s sh said pushes) (note.Dropped source.Net n cause.TooLong, s, sh))
      ((v : Verdict) × IsJudged sh.config sh.book origin.Net flow v × AreSame (done s sh said pushes) (net_judged s sh n packet v))
  by_length true y = dropped_is s sh old new n cause.TooLong said pushes none y
  by_length false y = (
    y.judged.verdict,
    subst (λ (c : Config). IsJudged c sh.book origin.Net flow y.judged.verdict) (sym config)
        (subst (λ (b : List Entry). IsJudged old.config b origin.Net flow y.judged.verdict) (sym book) y.gives.verdict),
    ap (λ (d : Note). done s sh d pushes) y.says ∙ ap (λ (h : Option Parcel). done s sh (judged_note n y.judged.at y.judged.verdict) h) y.left
        ∙ judged_is s sh n y.judged.at packet y.judged.verdict (y.gives.at ∙ ap (λ (b : List Entry). length b) (sym book)) none,
  )

-- what a network that gave a packet held
record Held (holds : NetHolds) (after : Option NetHolds) (packet : List ℕ) : Type 0 where
  first : Arrival
  others : List Arrival
  works : holds.receive_fails ≡ false
  arrived_are : holds.arrived ≡ first ∷ others
  packet_is : first.packet ≡ packet
  told : IsTold after (record holds { arrived = others })

packet_held : (told after : Option NetHolds) (held : Option Parcel) (buffer : List ℕ) (count : ℕ) (packet : List ℕ) → packet ≡ take count buffer → NetReceives told after buffer (got.Datagram count)
    → Held (unwrap_or told (made_of (by_itself packet ∷ []) held)) after packet
packet_held None after held buffer count packet is receives = record {
  first = by_itself packet;
  others = [];
  works = refl;
  arrived_are = refl;
  packet_is = refl;
  told = untold after _ receives;
}
packet_held (Some holds) after held buffer count packet is receives = record {
  first = receives.first;
  others = receives.others;
  works = receives.works;
  arrived_are = receives.arrived_are;
  packet_is = sym receives.packet_is ∙ sym is;
  told = is_told after _ receives.after_is;
}

can_take : (holds : NetHolds) (first : Arrival) (others : List Arrival) → holds.receive_fails ≡ false → holds.arrived ≡ first ∷ others → not holds.receive_fails && nat_lt 0 (length holds.arrived) ≡ true
can_take holds first others works are =
    ap (λ (b : Bool). not b && nat_lt 0 (length holds.arrived)) works ∙ ap (λ (a : List Arrival). nat_lt 0 (length a)) are
    ∙ some_there first others where
      some_there : (first : Arrival) (others : List Arrival) → nat_lt 0 (length (first ∷ others)) ≡ true
      some_there first others = lt-ltb 0 (length (first ∷ others)) (omega arith)

works_on : (told : Option NetHolds) (held : Option Parcel) (packet : List ℕ) → told ≡ None
    → (unwrap_or told (made_of (by_itself packet ∷ []) held)).send_fails || (unwrap_or told (made_of (by_itself packet ∷ []) held)).receive_fails ≡ true → ⊥
works_on None held packet none fails = cc
works_on (Some holds) held packet none fails = cc

-- what is received of the machine's network
takes_first : (s : machine.Pump) (sh : Shared) (arrived : List Arrival) (first : Arrival) (others : List Arrival) (n : ℕ) (packet : List ℕ) (d : Note × machine.Pump × Shared) → arrived ≡ first ∷ others → first.packet ≡ packet → s.net.received ≡ n
    → IsMet (record s { net = with_arrivals others s.net }) sh n packet (flow_of packet) d → IsReceived s sh arrived d
takes_first s sh arrived first others n packet d are is counted x =
    subst (λ (a : List Arrival). IsReceived s sh a d) (sym are)
    (subst (λ (k : ℕ). IsMet (record s { net = with_arrivals others s.net }) sh k first.packet (flow_of first.packet) d) (sym counted)
    (subst (λ (b : List ℕ). IsMet (record s { net = with_arrivals others s.net }) sh n b (flow_of b) d) (sym is) x))

comes_sees : (old new : Seen) (mtu n : ℕ) (packet : List ℕ) (flow : Option Flow) (said : Note) (pushes : Option Parcel) → Comes old new mtu n packet flow said pushes → IsSame old new × Sees old new.entries
comes_sees old new mtu n packet None said pushes x = (same_office old new x.same, sees_new old new x.same)
comes_sees old new mtu n packet (Some flow) said pushes x = by_length (nat_lt mtu (length packet)) x where
  by_length : (b : Bool) → MatchBool b (IsDropped old new n cause.TooLong said pushes) (IsJudgedSo old new n packet flow said pushes) → IsSame old new × Sees old new.entries
  by_length true y = (same_office old new y.same, sees_new old new y.same)
  by_length false y = (y.gives.same, y.gives.sees)

pub received_packet : {N : Type 0} (p q : Pump N) (n_after : ℕ) (pushes : Option Parcel) (said : Note) (old new : PumpSight) (mid : NetSeen) → p.to_push ≡ None → ReceivedPump p q n_after pushes
    → old.seen.config.workers ≡ p.workers → (PumpKnown old → Idled p.to_send p.workers old mid new.boxes) → Takes mid (seen_of new) old.seen new.seen p.mtu p.received n_after said pushes
    → PumpSteps (IsPump p) (IsPump q) old new (Ok (Some said))
received_packet p q n_after pushes said old new mid none r workers idles takes orders o s is known =
    let idle = idles known in
    let packet = takes.packet in
    let gave = takes.gave in
    let made = made_of (by_itself packet ∷ []) p.to_send in
    let holds = unwrap_or old.net made in
    let now = with_holds s holds in
    let box = box_at idle.before p.workers in
    let there : p.workers < length idle.before = let long = idle.long in omega (arith, long) in
    let held = packet_held old.net new.net p.to_send gave.buffer gave.count packet gave.packet_is (subst (λ (h : Option NetHolds). NetReceives h new.net gave.buffer (got.Datagram gave.count)) idle.same gave.receives) in
    let long : length idle.before ≡ old.seen.config.workers + 1 = idle.long ∙ ap (λ (w : ℕ). w + 1) (sym workers) in
    let sees = comes_sees old.seen new.seen p.mtu p.received packet (flow_of packet) said pushes takes.comes in
    let sh = sharing old.seen new.seen.entries idle.before orders in
    let behind : machine.Pump = record now { net = with_arrivals held.others now.net } in
    let became : machine.Pump = record behind { to_push = pushes } in
    let comes : Comes old.seen new.seen s.mtu p.received packet (flow_of packet) said pushes =
    subst (λ (m : ℕ). Comes old.seen new.seen m p.received packet (flow_of packet) said pushes) (sym is.mtu) takes.comes in (
      became,
      received_stands p q n_after pushes s became is r refl refl refl (ap (λ (n : ℕ). one_more n) is.received ∙ sym takes.counted),
      held.told,
      known_by old new idle.before sees.0 idle.is long,
      record {
        now = now;
        box = box;
        sh = sh;
        after = sh;
        refills = refills old.net made s;
        was = subst (λ (w : ℕ). WasInbox old.boxes.told w box) (sym workers) (was_box old.boxes.told idle.before p.workers idle.was there);
        meets = meets_by orders o old new idle.before idle.before sees.0 sees.1 idle.was long idle.is (nothing_moved old.boxes new.boxes idle.before idle.stays);
        fails = λ fails none. absurd (works_on old.net p.to_send packet none fails);
        turn = record {
          try = Receives;
          tries =
              tries_last now box true (is.to_push ∙ none) (idle_sends s p.to_send p.workers old mid idle.before (by_itself packet ∷ []) is.to_send idle.by)
              (can_take holds held.first held.others held.works held.arrived_are);
          is =
              takes_first now sh holds.arrived held.first held.others p.received packet (said, became, sh) held.arrived_are held.packet_is is.received
              (met behind sh old.seen new.seen p.received packet (flow_of packet) said pushes (is.to_push ∙ none) refl refl comes);
        };
      },
    )
