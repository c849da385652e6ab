-- A step, by what its parts gave.
use Rattle.std.proofs.Common.{◌≡◌, ℕ, ◌+◌, true, [], length, Option, Some, None, is_some, Result, Ok, Err, MatchOption, refl, ap, ◌∙◌, subst}
use Rattle.std.specs.Bool.{⊤}
use Rattle.mq_wire.specs.declared.NoMemory.{NoMemory}
use Rattle.mq_outside.specs.declared.PortPut.{PortPut}
use Rattle.mq_outside.specs.declared.PortPut.TheVariants as put
use Rattle.mq_outside.specs.Counts.{PortCounts}
use Rattle.mq_outside.specs.Ports.{after_send}
use Rattle.mq_talk.specs.declared.note.Note.{Note}
use Rattle.mq_talk.specs.declared.place.Parcel.{Parcel}
use Rattle.mq_talk.specs.Mails.{PopGives, Inboxes}
use Rattle.mq_talk.specs.Offices.{Seen}
use Rattle.mq_machine.specs.State as machine
use Rattle.mq_machine.specs.State.{new_net}
use Rattle.mq_machine.specs.Acting.{PumpSight, PumpSteps, Rose}
use Rattle.mq_pump.specs.declared.pump.Pump.{Pump}
use Rattle.mq_pump.specs.Holds.{IsPump, CanGo, CanSend}
use Rattle.mq_pump.specs.Sends.{NetSeen, OfNext, SendGives, sent_note, waits_after}
use Rattle.mq_pump.specs.Receives.{ReceiveGives}
use Rattle.mq_pump.proofs.Rises.{rose_risen}
use Rattle.mq_pump.proofs.Sending.{SentPump, sent_held, sent_next}
use Rattle.mq_pump.proofs.Receiving.{seen_of, idled, ReceivedPump, received_none, received_refused, received_packet, still_waits}

-- ---- something was sent

pub sent : {N : Type 0} (p q : Pump N) (held : Option Parcel) (said : Note) (waits : Option Parcel) (old new : PumpSight) → p.to_push ≡ None → p.to_send ≡ held → SentPump p q waits
    → MatchOption waits ⊤ CanSend → old.seen.config.workers ≡ p.workers → SendGives held (p.workers + 1) old.boxes p.workers new.boxes (seen_of old) (seen_of new) (Some said) waits
    → new.seen ≡ old.seen → PumpSteps (IsPump p) (IsPump q) old new (Ok (Some said))
sent p q (Some parcel) said waits old new none has left can workers x seen = sent_held p q parcel said waits old new none has left can x.0 x.1 seen
sent p q None said waits old new none has left can workers x seen = by_popped x.popped x.pops x.does where
  by_popped : (popped : Option Parcel) → PopGives (p.workers + 1) old.boxes p.workers popped new.boxes → OfNext (seen_of old) (seen_of new) popped (Some said) waits
      → PumpSteps (IsPump p) (IsPump q) old new (Ok (Some said))
  by_popped None pops does = absurd (never does.1) where
    never : Some said ≡ None → ⊥
    never e = cc
  by_popped (Some parcel) pops does = sent_next p q parcel said waits old new none has left can workers pops does seen

-- a parcel waits behind a send only where the network took nothing in it
put_rose : (answer : PortPut) (parcel : Parcel) (waits : Option Parcel) (old new : PortCounts) → waits ≡ waits_after parcel answer → new ≡ after_send old answer → is_some waits ≡ true → Rose old.send_waits new.send_waits
put_rose put.Sent parcel waits old new left counts some = absurd cc
put_rose put.NotNow parcel waits old new left counts some = rose_risen old.send_waits new.send_waits (ap (λ (c : PortCounts). c.send_waits) counts)
put_rose put.Failed parcel waits old new left counts some = absurd cc

pub send_rose : (held : Option Parcel) (count : ℕ) (boxes : Inboxes) (actor : ℕ) (boxes_after : Inboxes) (old new : NetSeen) (said : Option Note) (waits : Option Parcel)
    → SendGives held count boxes actor boxes_after old new said waits → is_some waits ≡ true → Rose old.counts.send_waits new.counts.send_waits
send_rose (Some parcel) count boxes actor boxes_after old new said waits x some = put_rose x.0.put parcel waits old.counts new.counts x.0.left x.0.counts some
send_rose None count boxes actor boxes_after old new said waits x some = by_popped x.popped x.does where
  by_popped : (popped : Option Parcel) → OfNext old new popped said waits → Rose old.counts.send_waits new.counts.send_waits
  by_popped None does = absurd (never does.2 some) where
    never : waits ≡ None → is_some waits ≡ true → ⊥
    never e h = cc
  by_popped (Some parcel) does = put_rose does.tries.put parcel waits old.counts new.counts does.tries.left does.tries.counts some

-- a receive counts no waiting send
pub receive_keeps : (mid new : NetSeen) (old_seen new_seen : Seen) (mtu n n_after : ℕ) (pushes : Option Parcel) (result : Result (Option Note) NoMemory)
    → ReceiveGives mid new old_seen new_seen mtu n n_after pushes result → new.counts.send_waits ≡ mid.counts.send_waits
receive_keeps mid new old_seen new_seen mtu n n_after pushes (Ok (Some said)) x = ap (λ (c : PortCounts). c.send_waits) x.gave.counts
receive_keeps mid new old_seen new_seen mtu n n_after pushes (Ok None) x = ap (λ (c : PortCounts). c.send_waits) x.0.counts ∙ still_waits x.0.got mid.counts
receive_keeps mid new old_seen new_seen mtu n n_after pushes (Err refused) x = ap (λ (m : NetSeen). m.counts.send_waits) x.1

-- ---- nothing was sent

pub received : {N : Type 0} (p q : Pump N) (waits : Option Parcel) (n_after : ℕ) (pushes : Option Parcel) (old new : PumpSight) (mid : NetSeen) (result : Result (Option Note) NoMemory) → p.to_push ≡ None
    → ReceivedPump p q n_after pushes → old.seen.config.workers ≡ p.workers → SendGives p.to_send (p.workers + 1) old.boxes p.workers new.boxes (seen_of old) mid None waits
    → ReceiveGives mid (seen_of new) old.seen new.seen p.mtu p.received n_after pushes result → PumpSteps (IsPump p) (IsPump q) old new result
received p q waits n_after pushes old new mid (Ok (Some said)) none r workers sends x =
    received_packet p q n_after pushes said old new mid none r workers (λ known. (idled p.to_send p.workers old mid new.boxes waits known workers sends).0) x
received p q waits n_after pushes old new mid (Ok None) none r workers sends x =
    received_none p q n_after pushes old new mid none r workers (λ known. (idled p.to_send p.workers old mid new.boxes waits known workers sends).0) x.0 x.1
received p q waits n_after pushes old new mid (Err refused) none r workers sends x =
    received_refused p q n_after pushes old new mid refused none r workers (λ known. (idled p.to_send p.workers old mid new.boxes waits known workers sends).0) x.0 x.1 x.2

-- what waits then is what waited
pub still_held : (held : Option Parcel) (count : ℕ) (boxes : Inboxes) (actor : ℕ) (boxes_after : Inboxes) (old new : NetSeen) (waits : Option Parcel)
    → SendGives held count boxes actor boxes_after old new None waits → waits ≡ held
still_held (Some parcel) count boxes actor boxes_after old new waits x = by_answer x.0.put x.0.says x.0.left where
  by_answer : (answer : PortPut) → None ≡ sent_note parcel answer → waits ≡ waits_after parcel answer → waits ≡ Some parcel
  by_answer put.Sent says left = absurd cc
  by_answer put.NotNow says left = left
  by_answer put.Failed says left = absurd cc
still_held None count boxes actor boxes_after old new waits x = by_popped x.popped x.does where
  by_popped : (popped : Option Parcel) → OfNext old new popped None waits → waits ≡ None
  by_popped None does = does.2
  by_popped (Some parcel) does = absurd (never does.says) where
    never : {n : Note} → None ≡ Some n → ⊥
    never e = cc

-- ---- a pump for which the value stands

pub stands_for : {N : Type 0} (q : Pump N) → MatchOption q.to_push ⊤ (CanGo q.workers) → MatchOption q.to_send ⊤ CanSend → length q.datagrams.room.items ≡ 65535 → (s : machine.Pump) × IsPump q s
stands_for q can_go can_send room = (
  record { mtu = q.mtu; to_push = q.to_push; to_send = q.to_send; net = record (new_net []) { received = q.received } },
  record { mtu = refl; to_push = refl; to_send = refl; received = refl; room = room; can_go = can_go; can_send = can_send },
)

pub nothing_to : (workers : ℕ) (held : Option Parcel) → held ≡ None → MatchOption held ⊤ (CanGo workers)
nothing_to workers None none = tt
nothing_to workers (Some parcel) none = absurd cc

pub none_of : {A : Type 0} (o : Option A) → ((a : A) → o ≡ Some a → ⊥) → o ≡ None
none_of None never = refl
none_of (Some a) never = absurd (never a refl)

-- ---- a receive behind a send that gave nothing

pub received_by : {N : Type 0} (p m q : Pump N) (old new : PumpSight) (mid : NetSeen) (result : Result (Option Note) NoMemory) → p.to_push ≡ None → SentPump p m m.to_send → old.seen.config.workers ≡ p.workers
    → SendGives p.to_send (p.workers + 1) old.boxes p.workers new.boxes (seen_of old) mid None m.to_send → ReceiveGives mid (seen_of new) old.seen new.seen m.mtu m.received q.received q.to_push result
    → q.mtu ≡ m.mtu → q.workers ≡ m.workers → q.to_send ≡ m.to_send → length q.datagrams.room.items ≡ 65535 → MatchOption q.to_push ⊤ (CanGo m.workers) → PumpSteps (IsPump p) (IsPump q) old new result
received_by {N} p m q old new mid result none left workers sends gives mtu staff waits room can_go =
    let m_mtu : m.mtu ≡ p.mtu = ap (λ (x : Pump N). x.mtu) left.1 in
    let m_staff : m.workers ≡ p.workers = ap (λ (x : Pump N). x.workers) left.1 in
    let m_count : m.received ≡ p.received = ap (λ (x : Pump N). x.received) left.1 in
    received p q m.to_send q.received q.to_push old new mid result none
    (record {
      mtu = mtu ∙ m_mtu;
      workers = staff ∙ m_staff;
      to_send = waits ∙ still_held p.to_send (p.workers + 1) old.boxes p.workers new.boxes (seen_of old) mid m.to_send sends;
      to_push = refl;
      received = refl;
      room = room;
      can_go = subst (λ (w : ℕ). MatchOption q.to_push ⊤ (CanGo w)) m_staff can_go;
    })
    workers sends
    (subst (λ (n : ℕ). ReceiveGives mid (seen_of new) old.seen new.seen n p.received q.received q.to_push result) m_mtu
    (subst (λ (n : ℕ). ReceiveGives mid (seen_of new) old.seen new.seen m.mtu n q.received q.to_push result) m_count gives))
