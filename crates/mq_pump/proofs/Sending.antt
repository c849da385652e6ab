-- A step that sends what waits for the network, or the next parcel of the inbox.
use Rattle.std.proofs.Common.{◌≡◌, ℕ, ◌+◌, ◌<◌, ◌&&◌, ◌||◌, Bool, true, false, not, List, [], ◌∷◌, length, nat_lt, slice_get, slice_set, Option, Some, None, Ok, MatchOption, refl, sym, ap, ◌∙◌, subst, arith}
use Rattle.std.specs.Bool.{⊤}
use Rattle.std.specs.Option.{unwrap_or, option_map}
use Rattle.std.proofs.lemmas.Bool.{cond-true, cond-false, lt-ltb}
use Rattle.std.proofs.lemmas.List.{length-set}
use Rattle.mq_outside.specs.declared.PortPut.{PortPut}
use Rattle.mq_outside.specs.declared.PortPut.TheVariants as put
use Rattle.mq_outside.specs.Counts.{PortCounts}
use Rattle.mq_outside.specs.Nets.{NetHolds, NetSends, net_of}
use Rattle.mq_outside.specs.Ports.{after_send}
use Rattle.mq_talk.specs.declared.note.Note.{Note}
use Rattle.mq_talk.specs.declared.note.Note.TheVariants.{Waits}
use Rattle.mq_talk.specs.declared.place.Parcel.{Parcel}
use Rattle.mq_talk.specs.declared.place.Place.TheVariants as place
use Rattle.mq_talk.specs.Mails.{Boxes, IsTold, PopGives, box_at, Inboxes}
use Rattle.mq_machine.specs.State as machine
use Rattle.mq_machine.specs.State.{Shared, Net}
use Rattle.mq_machine.specs.Turn.{SendHeld, SendNext, source_of, net_sent, net_popped, with_sent, with_failure, last_of}
use Rattle.mq_machine.specs.Acting.{PumpSight, PumpSteps, Rose}
use Rattle.mq_pump.specs.declared.pump.Pump.{Pump}
use Rattle.mq_pump.specs.Holds.{IsPump, CanSend}
use Rattle.mq_pump.specs.Sends.{Tries, TriesNext, sent_note, waits_after}
use Rattle.mq_pump.proofs.Rises.{rose_risen}
use Rattle.mq_pump.proofs.Shared.{inbox_is, was_box, boxes_or, length_or, told_or, is_told, untold, sharing, meets_by, known_by, same_office, sees_new}
use Rattle.mq_pump.proofs.Turns.{with_holds, refills, tries_held, tries_next}
use Rattle.mq_talk.proofs.Mails.{nothing_moved, pop_moved}

-- ---- one send

-- what a network that tells nothing may have held, where its send was answered so
abbrev pub made_for : PortPut → NetHolds
made_for put.Sent = net_of []
made_for put.NotNow = record (net_of []) { send_waits = true }
made_for put.Failed = record (net_of []) { send_fails = true }

-- a network of these contents answers so
abbrev pub Flags : PortPut → NetHolds → Type 0
Flags put.Sent holds = (holds.send_fails ≡ false) × (holds.send_waits ≡ false)
Flags put.NotNow holds = (holds.send_fails ≡ false) × (holds.send_waits ≡ true)
Flags put.Failed holds = holds.send_fails ≡ true

abbrev pub net_after : PortPut → List ℕ → Net → Net
net_after put.Sent packet net = with_sent packet net
net_after put.NotNow packet net = net
net_after put.Failed packet net = with_failure net

pub sends_flags : (answer : PortPut) (old new : Option NetHolds) (packet : List ℕ) → NetSends old new packet answer → Flags answer (unwrap_or old (made_for answer))
sends_flags put.Sent None new packet sends = (refl, refl)
sends_flags put.Sent (Some holds) new packet sends = (sends.0, sends.1)
sends_flags put.NotNow None new packet sends = (refl, refl)
sends_flags put.NotNow (Some holds) new packet sends = (sends.0, sends.1)
sends_flags put.Failed None new packet sends = refl
sends_flags put.Failed (Some holds) new packet sends = sends.0

pub sends_told : (answer : PortPut) (old new : Option NetHolds) (packet : List ℕ) (net : Net) → NetSends old new packet answer
    → IsTold new (net_after answer packet (record net { holds = unwrap_or old (made_for answer) })).holds
sends_told put.Sent None new packet net sends = untold new _ sends
sends_told put.Sent (Some holds) new packet net sends = is_told new _ sends.2
sends_told put.NotNow None new packet net sends = untold new _ sends
sends_told put.NotNow (Some holds) new packet net sends = is_told new _ sends.2
sends_told put.Failed None new packet net sends = untold new _ sends
sends_told put.Failed (Some holds) new packet net sends = is_told new _ sends.1

-- a network that tells nothing fails only where it failed in this step
pub sends_fails : (answer : PortPut) (old : Option NetHolds) (counts counts_after : PortCounts) → counts_after ≡ after_send counts answer
    → (unwrap_or old (made_for answer)).send_fails || (unwrap_or old (made_for answer)).receive_fails ≡ true → old ≡ None → Rose counts.faults counts_after.faults
sends_fails put.Sent None counts counts_after is fails none = absurd cc
sends_fails put.NotNow None counts counts_after is fails none = absurd cc
sends_fails put.Failed None counts counts_after is fails none = rose_risen counts.faults counts_after.faults (ap (λ (c : PortCounts). c.faults) is)
sends_fails answer (Some holds) counts counts_after is fails none = absurd cc

pub still_received : (answer : PortPut) (packet : List ℕ) (net : Net) → (net_after answer packet net).received ≡ net.received
still_received put.Sent packet net = refl
still_received put.NotNow packet net = refl
still_received put.Failed packet net = refl

-- ---- what that does to the machine's pump

abbrev next_note : Parcel → PortPut → Note
next_note parcel answer = unwrap_or (sent_note parcel answer) (Waits (source_of parcel.from) parcel.n)

abbrev sent_pump : machine.Pump → Parcel → PortPut → machine.Pump
sent_pump s parcel answer = record s { to_send = waits_after parcel answer; net = net_after answer parcel.packet s.net }

send_does : (answer : PortPut) (s : machine.Pump) (sh : Shared) (parcel : Parcel) → Flags answer s.net.holds → net_sent s sh parcel ≡ (next_note parcel answer, sent_pump s parcel answer, sh)
send_does put.Sent s sh parcel flags = cond-false s.net.holds.send_fails _ _ flags.0 ∙ cond-false s.net.holds.send_waits _ _ flags.1
send_does put.NotNow s sh parcel flags = cond-false s.net.holds.send_fails _ _ flags.0 ∙ cond-true s.net.holds.send_waits _ _ flags.1
send_does put.Failed s sh parcel flags = cond-true s.net.holds.send_fails _ _ flags

-- what was sent has a note: the network didn't wait
goes_on : (answer : PortPut) (parcel : Parcel) (said : Note) (holds : NetHolds) → Some said ≡ sent_note parcel answer → Flags answer holds → holds.send_waits && not holds.send_fails ≡ false
goes_on put.Sent parcel said holds says flags = ap (λ (b : Bool). b && not holds.send_fails) flags.1
goes_on put.NotNow parcel said holds says flags = absurd cc
goes_on put.Failed parcel said holds says flags = ap (λ (b : Bool). holds.send_waits && not b) flags ∙ never holds.send_waits where
  never : (b : Bool) → b && false ≡ false
  never true = refl
  never false = refl

said_is : (answer : PortPut) (parcel : Parcel) (said : Note) → Some said ≡ sent_note parcel answer → next_note parcel answer ≡ said
said_is put.Sent parcel said says = cc
said_is put.NotNow parcel said says = absurd cc
said_is put.Failed parcel said says = cc

-- ---- the pump

sent_stands : {N : Type 0} (p : Pump N) (net : N) (s : machine.Pump) (holds : NetHolds) (parcel : Parcel) (answer : PortPut) → IsPump p s → MatchOption (waits_after parcel answer) ⊤ CanSend
    → IsPump (record p { net = net; to_send = waits_after parcel answer }) (sent_pump (with_holds s holds) parcel answer)
sent_stands p net s holds parcel answer is can = record {
  mtu = is.mtu;
  to_push = is.to_push;
  to_send = refl;
  received = still_received answer parcel.packet (with_holds s holds).net ∙ is.received;
  room = is.room;
  can_go = is.can_go;
  can_send = can;
}

-- the pump behind a send
abbrev pub SentPump : {N : Type 0} → Pump N → Pump N → Option Parcel → Type 0
SentPump {N} p q waits = (net : N) × (q ≡ record p { net = net; to_send = waits })

sent_after : {N : Type 0} (p q : Pump N) (waits : Option Parcel) (s : machine.Pump) (holds : NetHolds) (parcel : Parcel) (answer : PortPut) → IsPump p s → SentPump p q waits → waits ≡ waits_after parcel answer
    → MatchOption waits ⊤ CanSend → IsPump q (sent_pump (with_holds s holds) parcel answer)
sent_after {N} p q waits s holds parcel answer is left waits_is can =
    let stands = sent_stands p left.0 s holds parcel answer is (subst (λ (o : Option Parcel). MatchOption o ⊤ CanSend) waits_is can) in
    let q_is : record p { net = left.0; to_send = waits_after parcel answer } ≡ q =
    ap (λ (o : Option Parcel). record p { net = left.0; to_send = o }) (sym waits_is) ∙ sym left.1 in
    subst (λ (r : Pump N). IsPump r (sent_pump (with_holds s holds) parcel answer)) q_is stands

-- what waited was sent
pub sent_held : {N : Type 0} (p q : Pump N) (parcel : Parcel) (said : Note) (waits : Option Parcel) (old new : PumpSight) → p.to_push ≡ None → p.to_send ≡ Some parcel → SentPump p q waits
    → MatchOption waits ⊤ CanSend → Tries (record { holds = old.net; counts = old.counts }) (record { holds = new.net; counts = new.counts }) parcel (Some said) waits
    → new.boxes ≡ old.boxes → new.seen ≡ old.seen → PumpSteps (IsPump p) (IsPump q) old new (Ok (Some said))
sent_held p q parcel said waits old new none has left can x boxes seen orders o s is known =
    let made = made_for x.put in
    let holds = unwrap_or old.net made in
    let now = with_holds s holds in
    let same = same_office old.seen new.seen seen in
    let count = old.seen.config.workers + 1 in
    let before = boxes_or old.boxes.told count in
    let was : IsTold old.boxes.told before = told_or old.boxes.told _ in
    let is_now : IsTold new.boxes.told before = subst (λ (b : Inboxes). IsTold b.told before) (sym boxes) was in
    let long : length before ≡ count = length_or old.boxes.told count known.boxes in
    let there : old.seen.config.workers < length before = omega (arith, long) in
    let flags = sends_flags x.put old.net new.net parcel.packet x.sends in
    let sh = sharing old.seen new.seen.entries before orders in
    let held : s.to_send ≡ Some parcel = is.to_send ∙ has in (
      sent_pump now parcel x.put,
      sent_after p q waits s holds parcel x.put is left x.left can,
      sends_told x.put old.net new.net parcel.packet s.net x.sends,
      known_by old new before same is_now long,
      record {
        now = now;
        box = box_at before old.seen.config.workers;
        sh = sh;
        after = sh;
        refills = refills old.net made s;
        was = was_box old.boxes.told before old.seen.config.workers was there;
        meets = meets_by orders o old new before before same (sees_new old.seen new.seen seen) was long is_now (nothing_moved old.boxes new.boxes before boxes);
        fails = sends_fails x.put old.net old.counts new.counts x.counts;
        turn = record {
          try = SendHeld;
          tries = tries_held now (box_at before old.seen.config.workers) parcel (is.to_push ∙ none) held (goes_on x.put parcel said holds x.says flags);
          is =
              ap (λ (h : Option Parcel). option_map (net_sent now sh) h) held ∙ ap (λ (d : Note × machine.Pump × Shared). Some d) (send_does x.put now sh parcel flags)
              ∙ ap (λ (n : Note). Some (n, sent_pump now parcel x.put, sh)) (said_is x.put parcel said x.says);
        };
      },
    )

-- ---- the inbox

filled : (boxes : Boxes) (i : ℕ) (parcel : Parcel) (rest : List Parcel) → slice_get boxes i ≡ Some (parcel ∷ rest) → box_at boxes i ≡ parcel ∷ rest
filled boxes i parcel rest at = ap (λ (b : Option (List Parcel)). unwrap_or b []) at

-- a pop and its send, in the machine
next_does : (answer : PortPut) (s : machine.Pump) (sh : Shared) (workers : ℕ) (parcel : Parcel) (rest : List Parcel) (after : Boxes) → length sh.boxes ≡ workers + 1
    → slice_get sh.boxes workers ≡ Some (parcel ∷ rest) → after ≡ slice_set sh.boxes workers rest → Flags answer s.net.holds
    → net_popped s sh (last_of sh.boxes) (box_at sh.boxes (last_of sh.boxes)) ≡ Some (next_note parcel answer, sent_pump s parcel answer, record sh { boxes = after })
next_does answer s sh workers parcel rest after long at is flags =
    let last : last_of sh.boxes ≡ workers = inbox_is sh.boxes place.Net workers long in
    ap (λ (i : ℕ). net_popped s sh i (box_at sh.boxes i)) last ∙ ap (λ (b : List Parcel). net_popped s sh workers b) (filled sh.boxes workers parcel rest at)
    ∙ ap (λ (d : Note × machine.Pump × Shared). Some d) (send_does answer s (record sh { boxes = slice_set sh.boxes workers rest }) parcel flags)
    ∙ ap (λ (b : Boxes). Some (next_note parcel answer, sent_pump s parcel answer, record sh { boxes = b })) (sym is)

-- the next parcel of the inbox was sent, or waits now
pub sent_next : {N : Type 0} (p q : Pump N) (parcel : Parcel) (said : Note) (waits : Option Parcel) (old new : PumpSight) → p.to_push ≡ None → p.to_send ≡ None → SentPump p q waits
    → MatchOption waits ⊤ CanSend → old.seen.config.workers ≡ p.workers → PopGives (p.workers + 1) old.boxes p.workers (Some parcel) new.boxes
    → TriesNext (record { holds = old.net; counts = old.counts }) (record { holds = new.net; counts = new.counts }) parcel (Some said) waits
    → new.seen ≡ old.seen → PumpSteps (IsPump p) (IsPump q) old new (Ok (Some said))
sent_next p q parcel said waits old new none free left can workers pops x seen orders o s is known =
    let answer = x.tries.put in
    let made = made_for answer in
    let holds = unwrap_or old.net made in
    let now = with_holds s holds in
    let same = same_office old.seen new.seen seen in
    let before = pops.before in
    let after = pops.after in
    let rest = pops.does.0 in
    let long : length before ≡ old.seen.config.workers + 1 = omega (arith, pops.size, workers) in
    let there : old.seen.config.workers < length before = omega (arith, long) in
    let at : slice_get before old.seen.config.workers ≡ Some (parcel ∷ rest) = ap (λ (i : ℕ). slice_get before i) workers ∙ pops.does.1 in
    let set_is : after ≡ slice_set before old.seen.config.workers rest = pops.does.2 ∙ ap (λ (i : ℕ). slice_set before i rest) (sym workers) in
    let still : length after ≡ old.seen.config.workers + 1 = ap (λ (b : Boxes). length b) set_is ∙ length-set before old.seen.config.workers rest ∙ long in
    let flags = sends_flags answer old.net new.net parcel.packet x.tries.sends in
    let sh = sharing old.seen new.seen.entries before orders in
    let note_is : next_note parcel answer ≡ said = noted x.tries.says x.says in (
      sent_pump now parcel answer,
      sent_after p q waits s holds parcel answer is left x.tries.left can,
      sends_told answer old.net new.net parcel.packet s.net x.tries.sends,
      known_by old new after same pops.is still,
      record {
        now = now;
        box = box_at before old.seen.config.workers;
        sh = sh;
        after = record sh { boxes = after };
        refills = refills old.net made s;
        was = was_box old.boxes.told before old.seen.config.workers pops.was there;
        meets = meets_by orders o old new before after same (sees_new old.seen new.seen seen) pops.was long pops.is (pop_moved (p.workers + 1) p.workers old.boxes new.boxes parcel pops);
        fails = sends_fails answer old.net old.counts new.counts x.tries.counts;
        turn = record {
          try = SendNext;
          tries =
              tries_next now (box_at before old.seen.config.workers) (is.to_push ∙ none) (is.to_send ∙ free)
              (ap (λ (b : List Parcel). nat_lt 0 (length b)) (filled before old.seen.config.workers parcel rest at) ∙ some_there parcel rest);
          is =
              next_does answer now sh old.seen.config.workers parcel rest after long at set_is flags
              ∙ ap (λ (n : Note). Some (n, sent_pump now parcel answer, record sh { boxes = after })) note_is;
        };
      },
    )
  where
    some_there : (first : Parcel) (others : List Parcel) → nat_lt 0 (length (first ∷ others)) ≡ true
    some_there first others = lt-ltb 0 (length (first ∷ others)) (omega arith)

    noted : x.tried ≡ sent_note parcel x.tries.put → Some said ≡ Some (unwrap_or x.tried (Waits (source_of parcel.from) parcel.n)) → next_note parcel x.tries.put ≡ said
    noted tried says = ap (λ (o : Option Note). unwrap_or o (Waits (source_of parcel.from) parcel.n)) (sym tried) ∙ some_same says where
      some_same : Some said ≡ Some (unwrap_or x.tried (Waits (source_of parcel.from) parcel.n)) → unwrap_or x.tried (Waits (source_of parcel.from) parcel.n) ≡ said
      some_same e = cc
