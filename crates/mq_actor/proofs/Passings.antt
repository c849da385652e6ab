-- Connections that were passed over, one after the other.
use Rattle.std.proofs.Common.{◌≡◌, ◌↔◌, ◌⊎◌, inl, inr, ℕ, zero, suc, ◌<◌, List, [], ◌∷◌, map, length, All, slice_get, slice_set}
use Rattle.std.proofs.Common.{Some, None, Result, Ok, refl, sym, ap, subst, ◌∙◌, arith}
use Rattle.std.proofs.lemmas.Bool.{cases_eq}
use Rattle.std.proofs.lemmas.List.{length-set}
use Rattle.std.proofs.lemmas.List.Elements.{All-head, All-tail, All-weaker}
use Rattle.slab.specs.Slab.{Slab}
use Rattle.mq_wire.specs.declared.NoMemory.{NoMemory}
use Rattle.mq_outside.specs.Counts.{no_port_counts}
use Rattle.mq_talk.specs.Offices.{Seen}
use Rattle.mq_machine.specs.declared.setup.Setup.{Setup}
use Rattle.mq_machine.specs.State.{Port, Held}
use Rattle.mq_machine.specs.Want.{Want, Nothing, Say, Bind, Ask, Judge, Push, Send, Over, want_of}
use Rattle.mq_machine.specs.Turn.{Try, Act, Frame, Write, Read, Receive, tries_of}
use Rattle.mq_machine.specs.Acting.{Outside, ConnWaited, Rose, WantWaited, Binder}
use Rattle.mq_held.specs.declared.held.Held.{Held as HeldBy}
use Rattle.mq_step.specs.Notes.{SteppedWith, Quiet}
use Rattle.mq_step.specs.Holds.{IsHeld, IsKnown, SeatsApart}
use Rattle.mq_step.specs.Whole.{Sees}
use Rattle.mq_step.specs.Gives.{Asked, Waited}
use Rattle.mq_step.proofs.Filling.{StaysTold, stay_told, none_changed}
use Rattle.mq_step.proofs.Others.{at_within}
use Rattle.mq_step.proofs.Seeing.{sight_of, sight_sees}
use Rattle.mq_actor.specs.Seen.{Words, Moment, SeesConn}
use Rattle.mq_actor.specs.Holds.{AreHeld, HaveOwnPorts}
use Rattle.mq_actor.specs.Passing.{Tried, TellsSame, PassedOver, PortsStay, PassedAt, Passed, Acts, AreKnown}
use Rattle.mq_actor.proofs.InRing.{all_at, at_all}
use Rattle.mq_actor.proofs.Helds.{held_at, held_length, held_from}
use Rattle.mq_actor.proofs.Lists.{get_map, get_set_same, get_set_other}
use Rattle.mq_actor.proofs.OwnPorts.{all_stay, stay_twice, stay_back, stay_held, stay_seen, ports_stay}

-- ---- who sees a connection alone

-- an outside that tells of one connection, as its link and its ports tell
abbrev pub sight : {L Q : Type 0} → Words L Q → Binder → Slab Q → HeldBy L → Outside
sight words binds table h = sight_of words.port words.port_counts binds table h.ports.items record {
  link = λ conn. words.link h.link;
  link_counts = λ conn. words.link_counts h.link;
  port = λ tunnel. None;
  port_counts = λ tunnel. no_port_counts;
  binds = record { holds = None; faults = 0 };
}

module _ {L Q : Type 0} (words : Words L Q) (binds : Binder) (table : Slab Q) (h : HeldBy L) where
  -- it sees that connection
  pub sight_conn : SeatsApart h.ports.items → SeesConn words table h (sight words binds table h)
  sight_conn apart = record {
    of_link = record { link_is = refl; counts_are = refl };
    of_ports = (sight_sees words.port words.port_counts binds table h.ports.items (sight words binds table h) apart).ports;
  }

  -- and what binds ports
  pub sight_whole : SeatsApart h.ports.items → Sees words.link words.link_counts words.port words.port_counts binds table h (sight words binds table h)
  sight_whole apart = record {
    of_link = record { link_is = refl; counts_are = refl };
    of_table = sight_sees words.port words.port_counts binds table h.ports.items (sight words binds table h) apart;
  }

-- the outside with these failures of what binds ports
abbrev pub with_binds : Binder → Outside → Outside
with_binds binds o = record o { binds = binds }

-- who sees a connection sees those, too
pub sees_binds : {L Q : Type 0} (words : Words L Q) (binds : Binder) (table : Slab Q) (h : HeldBy L) (o : Outside) → SeesConn words table h o
    → Sees words.link words.link_counts words.port words.port_counts binds table h (with_binds binds o)
sees_binds words binds table h o so = record {
  of_link = record { link_is = so.of_link.link_is; counts_are = so.of_link.counts_are };
  of_table = record { ports = so.of_ports; binds_are = refl };
}

-- ---- one connection

-- what is told of a connection whose ports stay is told again
pub told_same : {L Q : Type 0} (words : Words L Q) (table after : Slab Q) (h : HeldBy L) (o n : Outside) (s : Held) → PortsStay table after h
    → SeesConn words table h o → SeesConn words after h n → IsHeld words.most table h s → TellsSame o n s
told_same words table after h o n s stay so sn held =
    let see = stay_seen words table after h o stay so in
    let stands = stay_held words.most table after h s stay held in
    let told = stay_told words.most words.port words.port_counts after after o n h.ports.items s.ports (none_changed after) see.of_ports sn.of_ports
    stands.ports in
    record {
      link = ap n.link held.number ∙ sn.of_link.link_is ∙ sym so.of_link.link_is ∙ ap o.link (sym held.number);
      ports = All-weaker (StaysTold o n) (λ (p : Port). n.port p.tunnel ≡ o.port p.tunnel) (λ p is. is.port) s.ports told;
    }

-- what is told stays twice
pub told_twice : (o m n : Outside) (s : Held) → TellsSame o m s → TellsSame m n s → TellsSame o n s
told_twice o m n s one two =
    let A : Port → Type 0 = λ p. m.port p.tunnel ≡ o.port p.tunnel in
    let B : Port → Type 0 = λ p. n.port p.tunnel ≡ m.port p.tunnel in
    record {
      link = two.link ∙ one.link;
      ports = all_at (λ (p : Port). n.port p.tunnel ≡ o.port p.tunnel) s.ports
          (λ i p at. at_all B s.ports two.ports i p at ∙ at_all A s.ports one.ports i p at);
    }

-- a connection that wasn't tried is as it was
pub untouched : {L Q : Type 0} (words : Words L Q) (old new : Moment L Q) (tried : Tried) (place : ℕ) (h : HeldBy L) → slice_get new.conns place ≡ Some h
    → PortsStay old.table new.table h → (tried place h.number → ⊥) → PassedAt words old new tried place h
untouched words old new tried place h at stay not_so = record {
  now = h;
  at = at;
  number = refl;
  stands = λ s held. stay_held words.most old.table new.table h s stay held;
  told = λ o n so sn s held. told_same words old.table new.table h o n s stay so sn held;
  over = λ is. absurd (not_so is);
  still = λ not_so. (refl, stay);
}

-- ---- none, and others

-- where nothing was tried, nothing changed
pub none_passed : {L Q : Type 0} (words : Words L Q) (m : Moment L Q) (tried : Tried)
    → ((place : ℕ) (h : HeldBy L) → slice_get m.conns place ≡ Some h → tried place h.number → ⊥) → Passed words m m tried
none_passed words m tried none = record {
  size = refl;
  at = λ place h at. untouched words m m tried place h at (all_stay m.table h) (none place h at);
  seen = refl;
  boxes = refl;
  binds = refl;
}

-- the same connections were tried, said otherwise
pub passed_as : {L Q : Type 0} (words : Words L Q) (old new : Moment L Q) (V W : Tried)
    → ((place : ℕ) (h : HeldBy L) → slice_get old.conns place ≡ Some h → V place h.number ↔ W place h.number) → Passed words old new V → Passed words old new W
passed_as words old new V W same p = record {
  size = p.size;
  at = λ place h at. let x = p.at place h at in record {
    now = x.now;
    at = x.at;
    number = x.number;
    stands = x.stands;
    told = x.told;
    over = λ is. x.over ((same place h at).1 is);
    still = λ not_so. x.still (λ is. not_so ((same place h at).0 is));
  };
  seen = p.seen;
  boxes = p.boxes;
  binds = p.binds;
}

-- ---- one after the other

module _ {L Q : Type 0} (words : Words L Q) (old mid new : Moment L Q) (V W : Tried) where
  abbrev either : Tried
  either place number = V place number ⊎ W place number

  then_at : ((place number : ℕ) → V place number → W place number → ⊥) → (place : ℕ) (h : HeldBy L) (a : PassedAt words old mid V place h)
      → PassedAt words mid new W place a.now → PassedAt words old new either place h
  then_at apart place h a b = record {
    now = b.now;
    at = b.at;
    number = b.number ∙ a.number;
    stands = λ s held. b.stands s (a.stands s held);
    told = told;
    over = over;
    still = still;
  } where
    later : W place h.number → W place a.now.number
    later w = let P : ℕ → Type 0 = λ k. W place k in subst P (sym a.number) w

    told : (o n : Outside) → SeesConn words old.table h o → SeesConn words new.table b.now n → (s : Held) → IsHeld words.most old.table h s
        → TellsSame o n s
    told o n so sn s held =
        let stands = a.stands s held in
        let m = sight words (record { holds = None; faults = 0 }) mid.table a.now in
        let sm = sight_conn words (record { holds = None; faults = 0 }) mid.table a.now stands.apart in
        told_twice o m n s (a.told o m so sm s held) (b.told m n sm sn s stands)

    over : either place h.number → (o n : Outside) → SeesConn words old.table h o → SeesConn words new.table b.now n
        → (s : Held) → IsHeld words.most old.table h s → PassedOver o n s
    over (inl v) o n so sn s held =
        let still = b.still (λ w. let P : ℕ → Type 0 = λ k. W place k in apart place h.number v (subst P a.number w)) in
        let P : HeldBy L → Type 0 = λ x. SeesConn words new.table x n in
        let sm = stay_seen words new.table mid.table a.now n (stay_back mid.table new.table a.now still.1) (subst P still.0 sn) in
        a.over v o n so sm s held
    over (inr w) o n so sn s held =
        let still = a.still (λ v. apart place h.number v w) in
        let P : HeldBy L → Type 0 = λ x. SeesConn words mid.table x o in
        let sm = subst P (sym still.0) (stay_seen words old.table mid.table h o still.1 so) in
        b.over (later w) o n sm sn s (a.stands s held)

    still : (either place h.number → ⊥) → (b.now ≡ h) × PortsStay old.table new.table h
    still not_so =
        let one = a.still (λ v. not_so (inl v)) in
        let two = b.still (λ w. let P : ℕ → Type 0 = λ k. W place k in not_so (inr (subst P a.number w))) in
        let P : HeldBy L → Type 0 = λ x. PortsStay mid.table new.table x in
        (two.0 ∙ one.0, stay_twice old.table mid.table new.table h one.1 (subst P one.0 two.1))

  -- What was tried first is untouched behind that, and what was tried then is untouched before.
  pub passed_then : Passed words old mid V → Passed words mid new W → ((place number : ℕ) → V place number → W place number → ⊥)
      → Passed words old new (λ place number. V place number ⊎ W place number)
  passed_then one two apart = record {
    size = two.size ∙ one.size;
    at = λ place h at. let a = one.at place h at in then_at apart place h a (two.at place a.now a.at);
    seen = two.seen ∙ one.seen;
    boxes = two.boxes ∙ one.boxes;
    binds = two.binds ∙ one.binds;
  }

-- ---- what is known stays known

there_is : {A : Type 0} (xs : List A) (i : ℕ) → i < length xs → (x : A) × (slice_get xs i ≡ Some x)
there_is [] i less = absurd (omega (arith, less))
there_is (x ∷ xs) zero less = (x, refl)
there_is (x ∷ xs) (suc i) less = let below : i < length xs = omega (arith, less) in there_is xs i below

-- the connections stand for what they stood for
pub held_passed : {L Q : Type 0} (words : Words L Q) (old new : Moment L Q) (tried : Tried) (ss : List Held) → Passed words old new tried
    → AreHeld words.most old.table old.conns ss → AreHeld words.most new.table new.conns ss
held_passed {L} words old new tried ss p held =
    held_from words.most new.table new.conns ss (p.size ∙ held_length words.most old.table old.conns ss held) each where
      each : (i : ℕ) (h : HeldBy L) (s : Held) → slice_get new.conns i ≡ Some h → slice_get ss i ≡ Some s → IsHeld words.most new.table h s
      each i h s at_h at_s =
          let less = at_within new.conns i h at_h in
          let size = p.size in
          let was = there_is old.conns i (omega (arith, less, size)) in
          let x = p.at i was.0 was.1 in
          let t = held_at words.most old.table old.conns ss i was.0 held was.1 in
          let one : Some x.now ≡ Some h = sym x.at ∙ at_h in
          let e : x.now ≡ h = cc in
          let two : Some t.0 ≡ Some s = sym t.1 ∙ at_s in
          let f : t.0 ≡ s = cc in
          let P : HeldBy L → Type 0 = λ y. IsHeld words.most new.table y s in
          let R : Held → Type 0 = λ y. IsHeld words.most old.table was.0 y in
          subst P e (x.stands s (subst R f t.2))

-- they are known
pub known_passed : {L Q : Type 0} (words : Words L Q) (old new : Moment L Q) (tried : Tried) → Passed words old new tried → AreKnown words old
    → AreKnown words new
known_passed words old new tried p k =
    let P : Seen → Type 0 = λ x. All (λ (s : Held). IsKnown x x.actor s) k.0 in
    (k.0, held_passed words old new tried k.0 p k.1, subst P (sym p.seen) k.2)

-- ---- one was tried

-- of the same connection
pub same_acts : {L Q : Type 0} (words : Words L Q) (setup : Setup) (old new : Moment L Q) (r : Result SteppedWith NoMemory) (held was now : HeldBy L) → held ≡ was
    → Acts words setup old new r held now → Acts words setup old new r was now
same_acts {L} words setup old new r held was now e acts = let P : HeldBy L → Type 0 = λ h. Acts words setup old new r h now in subst P e acts

want_waited : (binds after : Binder) (o n : Outside) (w : Want) → WantWaited (with_binds binds o) (with_binds after n) w → WantWaited o n w
want_waited binds after o n Nothing is = tt
want_waited binds after o n Say is = is
want_waited binds after o n (Bind stream goal) is = is
want_waited binds after o n (Ask asked) is = is
want_waited binds after o n (Judge tunnel k flow) is = is
want_waited binds after o n (Push parcel) is = is
want_waited binds after o n (Send tunnel k payload) is = is
want_waited binds after o n (Over why) is = is

abbrev received : Port → Try
received p = Receive p.tunnel

-- what each of its tries asked is what the connection asked
conn_waited : (binds after : Binder) (o n : Outside) (s : Held) → All (Asked (with_binds binds o) (with_binds after n) s) (tries_of s) → ConnWaited o n s
conn_waited binds after o n s asked = record {
  want = want_waited binds after o n (want_of s.conn) (All-head A Act others asked);
  frame = All-head A Frame (Write ∷ Read ∷ receives) from_frame;
  write = All-head A Write (Read ∷ receives) from_write;
  read = All-head A Read receives from_read;
  ports = all_at (λ (p : Port). Rose (o.port_counts p.tunnel).receive_waits (n.port_counts p.tunnel).receive_waits) s.ports
      (λ i p at. at_all A receives (All-tail A Read receives from_read) i (received p) (get_map received s.ports i p at));
} where
  A : Try → Type 0
  A t = Asked (with_binds binds o) (with_binds after n) s t

  receives : List Try
  receives = map received s.ports

  others : List Try
  others = Frame ∷ Write ∷ Read ∷ receives

  from_frame : All A (Frame ∷ Write ∷ Read ∷ receives)
  from_frame = All-tail A Act others asked

  from_write : All A (Write ∷ Read ∷ receives)
  from_write = All-tail A Frame (Write ∷ Read ∷ receives) from_frame

  from_read : All A (Read ∷ receives)
  from_read = All-tail A Write (Read ∷ receives) from_write

module _ {L Q : Type 0} (words : Words L Q) (setup : Setup) (old new : Moment L Q) (place : ℕ) (was now : HeldBy L) where
  abbrev here : Tried
  here i number = i ≡ place

  -- The connection at a place had its turn, and each of its tries was in vain.
  pub one_passed : AreKnown words old → HaveOwnPorts old.conns → slice_get old.conns place ≡ Some was → new.conns ≡ slice_set old.conns place now
      → Acts words setup old new (Ok Quiet) was now → Passed words old new (λ i number. i ≡ place)
  one_passed known own at_was conns acts = record {
    size = ap (λ (hs : List (HeldBy L)). length hs) conns ∙ length-set old.conns place now;
    at = at;
    seen = (acts.calm refl).0;
    boxes = (acts.calm refl).2;
    binds = (acts.calm refl).1;
  } where
    waited : (p q : Outside) → SeesConn words old.table was p → SeesConn words new.table now q → (s : Held) → IsHeld words.most old.table was s
        → Waited tries_of (with_binds old.binds p) (with_binds new.binds q) old.seen new.seen old.boxes new.boxes s × IsHeld words.most new.table now s
    waited p q so sn s held = acts.gives (with_binds old.binds p) (with_binds new.binds q) (sees_binds words old.binds old.table was p so)
        (sees_binds words new.binds new.table now q sn) s held

    passed : PassedAt words old new here place was
    passed = record {
      now = now;
      at = let P : List (HeldBy L) → Type 0 = λ hs. slice_get hs place ≡ Some now in subst P (sym conns) (get_set_same old.conns place was now at_was);
      number = acts.number;
      stands = λ s held. acts.still refl s held;
      told = λ p q so sn s held. let w = (waited p q so sn s held).0 in record { link = w.told.link; ports = w.told.ports };
      over = λ is p q so sn s held. let w = (waited p q so sn s held).0 in
          record { none = w.none; waited = conn_waited old.binds new.binds p q s w.asked };
      still = λ not_so. absurd (not_so refl);
    }

    at : (i : ℕ) (h : HeldBy L) → slice_get old.conns i ≡ Some h → PassedAt words old new here i h
    at i h at_h = by_case (cases_eq place i) where
      by_case : (place ≡ i) ⊎ (place ≡ i → ⊥) → PassedAt words old new here i h
      by_case (inl same) =
          let P : ℕ → Type 0 = λ k. slice_get old.conns k ≡ Some h in
          let both : Some was ≡ Some h = sym at_was ∙ subst P (sym same) at_h in
          let e : was ≡ h = cc in
          let A : ℕ → Type 0 = λ k. PassedAt words old new here k h in
          let B : HeldBy L → Type 0 = λ x. PassedAt words old new here place x in
          subst A same (subst B e passed)
      by_case (inr ne) =
          let s = held_at words.most old.table old.conns known.0 i h known.1 at_h in
          let stay = ports_stay words.most old.table new.table was now h s.0 acts.others (own place i was h ne at_was at_h) s.2 in
          let P : List (HeldBy L) → Type 0 = λ hs. slice_get hs i ≡ Some h in
          untouched words old new here i h (subst P (sym conns) (get_set_other old.conns place i now ne ∙ at_h)) stay (λ is. ne (sym is))
