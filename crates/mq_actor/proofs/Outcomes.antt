-- What a worker's step gives, where one of its connections acts.
use Rattle.std.proofs.Common.{◌≡◌, ◌≢◌, ℕ, zero, suc, ◌+◌, Bool, List, [], ◌∷◌, remove, slice_get, slice_set, Option, Some, MatchOption, Result, Ok, Err, refl, sym, ap, subst, ◌∙◌, arith}
use Rattle.std.specs.Prelude.{⊤}
use Rattle.mq_wire.specs.declared.NoMemory.{NoMemory}
use Rattle.mq_talk.specs.declared.note.Note.{Note}
use Rattle.mq_talk.specs.Mails.{Inboxes}
use Rattle.mq_talk.specs.Offices.{Seen}
use Rattle.mq_machine.specs.declared.setup.Setup.{Setup}
use Rattle.mq_machine.specs.State.{Offer, Worker, Orders}
use Rattle.mq_machine.specs.Turn.{Of, tries_of}
use Rattle.mq_machine.specs.Acting.{Outside, HasTold, Known, StepGives, Writes}
use Rattle.mq_held.specs.declared.held.Held.{Held as HeldBy}
use Rattle.mq_step.specs.Notes.{SteppedWith, Quiet, Did, Ended, Noteless}
use Rattle.mq_step.specs.Holds.{IsHeld}
use Rattle.mq_step.specs.Rooms.{HasRooms}
use Rattle.mq_step.specs.Whole.{Sees}
use Rattle.mq_step.specs.Gives.{Gives, Anything}
use Rattle.mq_actor.specs.declared.ring.Ring.{Ring}
use Rattle.mq_actor.specs.declared.offer.Offer.{Offer as OfferBy}
use Rattle.mq_actor.specs.Holds.{IsWorker, HaveOwnPorts}
use Rattle.mq_actor.specs.Passing.{Tried, Acts, Acted, LeavesRing}
use Rattle.mq_actor.specs.Seen.{Words, Moment, SeesConn, SeesOffer, SeesRing}
use Rattle.mq_actor.specs.Steps.{sight}
use Rattle.mq_actor.proofs.Acted.{Rest, did_gives, ended_gives, starved_gives}
use Rattle.mq_actor.proofs.Between.{offered_at}
use Rattle.mq_actor.proofs.InRing.{at_all}
use Rattle.mq_actor.proofs.Lists.{get_set_same, get_set_other}
use Rattle.mq_actor.proofs.Neighbours.{Here, here}
use Rattle.mq_actor.proofs.Placing.{IsFit}
use Rattle.mq_actor.proofs.SoFar.{SoFar, Covers}

in_removed : {A : Type 0} (xs : List A) (place j : ℕ) (x : A) → j ≢ place → slice_get xs j ≡ Some x → (k : ℕ) × (slice_get (remove xs place) k ≡ Some x)
in_removed [] zero j x ne at = absurd cc
in_removed [] (suc place) j x ne at = absurd cc
in_removed (y ∷ xs) zero zero x ne at = absurd (ne refl)
in_removed (y ∷ xs) zero (suc j) x ne at = (j, at)
in_removed (y ∷ xs) (suc place) zero x ne at = (0, at)
in_removed (y ∷ xs) (suc place) (suc j) x ne at =
    let rest = in_removed xs place j x (λ e. ne (ap (λ (k : ℕ). suc k) e)) at in (suc rest.0, rest.1)

module _ {L Q : Type 0} (words : Words L Q) (r m : Ring L) (old mid new : Moment L Q) (count : ℕ)
    (tried : Tried) (offers_tried inbox_tried : Type 0) (so : SoFar words r m old mid count tried offers_tried inbox_tried)
    (o n : Outside) (sees : SeesRing words old.table old.binds r o) (x : Worker) (is : IsWorker words.most old.table r x)
    (place : ℕ) (was now : HeldBy L) (at : slice_get mid.conns place ≡ Some was) (untried : tried place was.number → ⊥) (own : HaveOwnPorts mid.conns)
    (covers : Covers r.next_seat tried offers_tried inbox_tried (place + 2) (Of was.number))
    (size : count ≡ old.seen.config.workers + 1) (fit : IsFit new.seen new.boxes) (mine : old.seen.actor ≡ r.id) (known : Known (sight o old.seen old.boxes) x)
    (s : Ring L) (ports : HaveOwnPorts s.conns.items) (rooms : HasRooms s.rooms) (later : SeesRing words new.table new.binds s n) where
  abbrev pub Gave : Orders → Result (Option Note) NoMemory → Type 0
  Gave orders result = (t : Worker) × IsWorker words.most new.table s t × HasTold n t × Known (sight n new.seen new.boxes) t × Writes old.seen new.seen x.id
      × StepGives orders (sight o old.seen old.boxes) (sight n new.seen new.boxes) x result t

  offers_same : s.offered.items ≡ r.offered.items → (i : ℕ) (f : Offer) → slice_get x.offered i ≡ Some f → n.link f.number ≡ o.link f.number
  offers_same same i f at_f =
      let g = offered_at r.offered.items x.offered i f is.offered at_f in
      let before = at_all (SeesOffer words o) r.offered.items sees.offers i g.0 g.1 in
      let behind = at_all (SeesOffer words n) s.offered.items later.offers i g.0 (ap (λ (fs : List (OfferBy L)). slice_get fs i) same ∙ g.1) in
      ap n.link g.2 ∙ behind ∙ sym before ∙ ap o.link (sym g.2)

  acting : Here words r m old mid new count tried offers_tried inbox_tried so o n sees x is place was now at
  acting = here words r m old mid new count tried offers_tried inbox_tried so o n sees x is place was now at untried

  -- what the step of the connection gives, by the worker's setup and by what was seen at first
  given : (stepped : Result SteppedWith NoMemory) → Acts words m.setup mid new stepped was now → SeesConn words new.table now n
      → Gives x.setup tries_of Anything o n old.seen new.seen old.boxes new.boxes (IsHeld words.most new.table now) acting.s stepped
  given stepped acts sees_now =
      let S : Setup → Type 0 = λ z. Gives z tries_of Anything o n mid.seen new.seen mid.boxes new.boxes (IsHeld words.most new.table now) acting.s stepped in
      let E : Seen → Type 0 = λ z. Gives x.setup tries_of Anything o n z new.seen mid.boxes new.boxes (IsHeld words.most new.table now) acting.s stepped in
      let M : Inboxes → Type 0 = λ z. Gives x.setup tries_of Anything o n old.seen new.seen z new.boxes (IsHeld words.most new.table now) acting.s stepped in
      let setup : m.setup ≡ x.setup = ap (λ (z : Ring L). z.setup) so.ring ∙ sym is.setup in
      let before : Sees words.link words.link_counts words.port words.port_counts mid.binds mid.table was o = record {
        of_link = acting.seen.of_link;
        of_table = record { ports = acting.seen.of_ports; binds_are = sees.binds_are ∙ sym so.passed.binds };
      } in
      let behind : Sees words.link words.link_counts words.port words.port_counts new.binds new.table now n = record {
        of_link = sees_now.of_link;
        of_table = record { ports = sees_now.of_ports; binds_are = later.binds_are };
      } in
      subst M so.passed.boxes (subst E so.passed.seen (subst S setup (acts.gives o n before behind acting.s acting.stands)))

  set_beside : s.conns.items ≡ slice_set mid.conns place now → (j : ℕ) (g : HeldBy L) → j ≢ place → slice_get mid.conns j ≡ Some g → SeesConn words new.table g n
  set_beside items j g ne at_g =
      let P : HeldBy L → Type 0 = λ h. SeesConn words new.table h n in
      at_all P s.conns.items later.conns j g (ap (λ (hs : List (HeldBy L)). slice_get hs j) items ∙ get_set_other mid.conns place j now (λ e. ne (sym e)) ∙ at_g)

  set_sees : s.conns.items ≡ slice_set mid.conns place now → SeesConn words new.table now n
  set_sees items =
      let P : HeldBy L → Type 0 = λ h. SeesConn words new.table h n in
      at_all P s.conns.items later.conns place now (ap (λ (hs : List (HeldBy L)). slice_get hs place) items ∙ get_set_same mid.conns place was now at)

  removed_beside : s.conns.items ≡ remove mid.conns place → (j : ℕ) (g : HeldBy L) → j ≢ place → slice_get mid.conns j ≡ Some g → SeesConn words new.table g n
  removed_beside items j g ne at_g =
      let P : HeldBy L → Type 0 = λ h. SeesConn words new.table h n in
      let k = in_removed mid.conns place j g ne at_g in
      at_all P s.conns.items later.conns k.0 g (ap (λ (hs : List (HeldBy L)). slice_get hs k.0) items ∙ k.1)

  ended_sees : s.ended ≡ Some now → SeesConn words new.table now n
  ended_sees e =
      let M : Option (HeldBy L) → Type 0 = λ z. MatchOption z ⊤ (λ h. SeesConn words new.table h n) in
      subst M e later.ended

  by_stepped : (orders : Orders) (stepped : Result SteppedWith NoMemory) (result : Result (Option Note) NoMemory) → Acts words m.setup mid new stepped was now
      → LeavesRing place was now mid.conns m s stepped result → Gave orders result
  by_stepped orders (Ok Quiet) result acts leaves = absurd leaves
  by_stepped orders (Ok Noteless) result acts leaves = absurd leaves
  by_stepped orders (Ok (Did said)) result acts leaves =
      let items = leaves.1 in
      let eq = leaves.2 in
      let offered : s.offered.items ≡ r.offered.items = ap (λ (z : Ring L). z.offered.items) eq ∙ ap (λ (z : Ring L). z.offered.items) so.ring in
      let gives = given (Ok (Did said)) acts (set_sees items) orders in
      let number = acting.stands.number in
      let rest : Rest words r m old mid new count tried offers_tried inbox_tried so o n sees x is place was now at untried own acts.others (set_beside items)
      covers size mine known (offers_same offered) fit acting s (acting.s.conn.number + 2 + 1) = record {
        id = ap (λ (z : Ring L). z.id) eq ∙ ap (λ (z : Ring L). z.id) so.ring;
        setup = ap (λ (z : Ring L). z.setup) eq ∙ ap (λ (z : Ring L). z.setup) so.ring;
        offered = offered;
        next_is = let e = ap (λ (z : Ring L). z.next_seat) eq in omega (arith, e, number);
        rooms = rooms;
        ports = ports;
      } in
      let R : Result (Option Note) NoMemory → Type 0 = λ z. Gave orders z in
      subst R (sym leaves.0) (did_gives words r m old mid new count tried offers_tried inbox_tried so o n sees x is place was now at untried own acts.others (set_beside items)
      covers size mine known (offers_same offered) fit acting said orders gives.0 gives.1 gives.2 s rest items acts.number)
  by_stepped orders (Ok (Ended said)) result acts leaves =
      let items = leaves.1 in
      let eq = leaves.2 in
      let offered : s.offered.items ≡ r.offered.items = ap (λ (z : Ring L). z.offered.items) eq ∙ ap (λ (z : Ring L). z.offered.items) so.ring in
      let gives = given (Ok (Ended said)) acts (ended_sees (ap (λ (z : Ring L). z.ended) eq)) orders in
      let number = acting.stands.number in
      let rest : Rest words r m old mid new count tried offers_tried inbox_tried so o n sees x is place was now at untried own acts.others (removed_beside items)
      covers size mine known (offers_same offered) fit acting s (acting.s.conn.number + 2 + 1) = record {
        id = ap (λ (z : Ring L). z.id) eq ∙ ap (λ (z : Ring L). z.id) so.ring;
        setup = ap (λ (z : Ring L). z.setup) eq ∙ ap (λ (z : Ring L). z.setup) so.ring;
        offered = offered;
        next_is = let e = ap (λ (z : Ring L). z.next_seat) eq in omega (arith, e, number);
        rooms = rooms;
        ports = ports;
      } in
      let R : Result (Option Note) NoMemory → Type 0 = λ z. Gave orders z in
      subst R (sym leaves.0) (ended_gives words r m old mid new count tried offers_tried inbox_tried so o n sees x is place was now at untried own acts.others (removed_beside items)
      covers size mine known (offers_same offered) fit acting said orders gives s rest items)
  by_stepped orders (Err refused) result acts leaves =
      let items = leaves.1 in
      let eq = leaves.2 in
      let offered : s.offered.items ≡ r.offered.items = ap (λ (z : Ring L). z.offered.items) eq ∙ ap (λ (z : Ring L). z.offered.items) so.ring in
      let gives = given (Err refused) acts (set_sees items) orders in
      let rest : Rest words r m old mid new count tried offers_tried inbox_tried so o n sees x is place was now at untried own acts.others (set_beside items)
      covers size mine known (offers_same offered) fit acting s r.next_seat = record {
        id = ap (λ (z : Ring L). z.id) eq ∙ ap (λ (z : Ring L). z.id) so.ring;
        setup = ap (λ (z : Ring L). z.setup) eq ∙ ap (λ (z : Ring L). z.setup) so.ring;
        offered = offered;
        next_is = ap (λ (z : Ring L). z.next_seat) eq ∙ ap (λ (z : Ring L). z.next_seat) so.ring;
        rooms = rooms;
        ports = ports;
      } in
      let R : Result (Option Note) NoMemory → Type 0 = λ z. Gave orders z in
      subst R (sym leaves.0) (starved_gives words r m old mid new count tried offers_tried inbox_tried so o n sees x is place was now at untried own acts.others (set_beside items)
      covers size mine known (offers_same offered) fit acting orders gives.0 gives.1 gives.2 s rest items acts.number)

-- a connection acted behind all that went before
pub acted_gives : {L Q : Type 0} (words : Words L Q) (upper : Bool) (r m s : Ring L) (old mid new : Moment L Q) (count : ℕ) (tried : Tried)
    (offers_tried inbox_tried : Type 0) (place : ℕ) (result : Result (Option Note) NoMemory) → SoFar words r m old mid count tried offers_tried inbox_tried
    → (a : Acted words upper place m s mid new result) → HaveOwnPorts mid.conns → (tried place a.was.number → ⊥)
    → Covers r.next_seat tried offers_tried inbox_tried (place + 2) (Of a.was.number) → HaveOwnPorts s.conns.items → HasRooms s.rooms
    → count ≡ old.seen.config.workers + 1 → IsFit new.seen new.boxes → old.seen.actor ≡ r.id
    → (o n : Outside) → SeesRing words old.table old.binds r o → SeesRing words new.table new.binds s n
    → (orders : Orders) (x : Worker) → IsWorker words.most old.table r x → Known (sight o old.seen old.boxes) x
    → (t : Worker) × IsWorker words.most new.table s t × HasTold n t × Known (sight n new.seen new.boxes) t × Writes old.seen new.seen x.id
    × StepGives orders (sight o old.seen old.boxes) (sight n new.seen new.boxes) x result t
acted_gives words upper r m s old mid new count tried offers_tried inbox_tried place result so a own untried covers ports rooms size fit mine o n sees later orders x is known =
    by_stepped words r m old mid new count tried offers_tried inbox_tried so o n sees x is place a.was a.now a.at untried own covers size fit mine known s ports rooms later
    orders a.stepped result a.acts a.leaves
