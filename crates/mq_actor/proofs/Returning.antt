-- What each way out of a worker's step gives.
use Rattle.std.proofs.Common.{◌≡◌, inl, inr, ℕ, ◌+◌, ◌<◌, Bool, true, false, List, [], ◌∷◌, ◌++◌, length, map, slice_get, All, Contains, Option, Some, None, Result, Ok, Err, refl, sym, ap, subst, ◌∙◌, arith}
use Rattle.std.specs.Prelude.{⊤}
use Rattle.std.specs.Result.{IsErr}
use Rattle.std.proofs.lemmas.List.Elements.{All-contains_itself}
use Rattle.mq_wire.specs.declared.NoMemory.{NoMemory}
use Rattle.mq_talk.specs.declared.note.Note.{Note}
use Rattle.mq_talk.specs.Offices.{IsSound, Seen as SeenBy}
use Rattle.mq_talk.specs.Mails.{Boxes, PopGives, Inboxes}
use Rattle.mq_talk.specs.declared.place.Place.{Place}
use Rattle.mq_talk.specs.declared.place.Place.TheVariants as place
use Rattle.mq_machine.specs.declared.setup.Setup.{Setup}
use Rattle.mq_machine.specs.Placing.{ArePlaced}
use Rattle.mq_machine.specs.State.{Held, Tunnel, Worker}
use Rattle.mq_machine.specs.Acting.{Outside, Known, IsOpen, Writes, Steps}
use Rattle.mq_held.specs.declared.held.Held.{Held as HeldBy}
use Rattle.mq_step.specs.Rooms.{HasRooms}
use Rattle.mq_step.specs.Holds.{HasInboxes, IsKnown}
use Rattle.mq_actor.specs.declared.offer.Offer.{Offer as OfferBy}
use Rattle.mq_actor.specs.declared.ring.Ring.{Ring}
use Rattle.mq_actor.specs.Holds.{IsWorker, AreHeld, AreDistinct, HaveOwnPorts, numbers_of}
use Rattle.mq_actor.specs.Passing.{Tried, Passed, Stopped, PassGives, AreKnown, is_in_part, InPart}
use Rattle.mq_actor.specs.Seats.{OffersWait, Accepts, AcceptGives, ComesTo, Takes, InboxGives}
use Rattle.mq_actor.specs.Seen.{Words, Moment, SeesRing}
use Rattle.mq_actor.specs.Steps.{sight}
use Rattle.mq_actor.proofs.Between.{apart_of, numbers_passed}
use Rattle.mq_actor.proofs.Cores.{AreApart}
use Rattle.mq_actor.proofs.Calm.{idle_gives, refused_gives, taken_gives, accepted_gives}
use Rattle.mq_actor.proofs.Coming.{Own, own_untried, own_upper, own_lower, so_far, first_passed, lower_passed, all_passed, offers_waited}
use Rattle.mq_actor.proofs.InRing.{all_at, at_all}
use Rattle.mq_talk.proofs.Mails.{popped_same}
use Rattle.mq_actor.proofs.Lefts.{numbers_set}
use Rattle.mq_actor.proofs.Lists.{found_at}
use Rattle.mq_actor.proofs.Others.{numbers_moved}
use Rattle.mq_actor.proofs.Outcomes.{acted_gives}
use Rattle.mq_actor.proofs.Parcels.{number_like, own_tunnels_like}
use Rattle.mq_actor.proofs.Passings.{known_passed, held_passed}
use Rattle.mq_actor.proofs.Placing.{IsFit}
use Rattle.mq_actor.proofs.Sighted.{HaveOwnTunnels, sighted, own_tunnels, own_tunnels_pushed}
use Rattle.mq_actor.proofs.Sights.{acted_seen}
use Rattle.mq_actor.proofs.SoFar.{SoFar}
use Rattle.mq_actor.proofs.Stages.{Untried, Upper, AllUpper, Lower, AllTried, InUpper, in_one, all_tried, covers_offers, covers_inbox, covers_upper, covers_offers_later, covers_inbox_later, covers_lower}

-- the link of a connection that ended isn't taken: it is dropped
abbrev pub begun : {L : Type 0} → Ring L → Ring L
begun self = record self { ended = None }

-- what an accept did behind that
pub from_begun : {L : Type 0} (self m s : Ring L) (result : Result (Option Note) NoMemory) → m ≡ begun self → AcceptGives true m s result → AcceptGives true (begun self) s result
from_begun self m s result is gives = subst (λ (r : Ring _). AcceptGives true r s result) is gives

-- a moment in which these are the connections, and the mail tells this
abbrev pub among : {L Q : Type 0} → List (HeldBy L) → Inboxes → Moment L Q → Moment L Q
among hs mail m = record m { conns = hs; boxes = mail }

-- a link that is accepted leaves the numbers as they are
numbers_moved_on : {L : Type 0} (m s : Ring L) (said : Note) → Accepts m s said → numbers_of m.conns.items m.offered.items ≡ numbers_of s.conns.items s.offered.items
numbers_moved_on {L} m s said acc =
    ap (λ (fs : List (OfferBy L)). numbers_of m.conns.items fs) acc.offered
    ∙ sym (numbers_moved m.conns.items acc.held acc.first acc.others acc.number)
    ∙ ap (λ (fs : List (OfferBy L)). numbers_of (m.conns.items ++ acc.held ∷ []) fs) (sym acc.left)
    ∙ ap (λ (hs : List (HeldBy L)). numbers_of hs s.offered.items) (sym acc.conns)

module _ {L Q : Type 0} (words : Words L Q) (self : Ring L) (old : Moment L Q) (starts : old.conns ≡ self.conns.items) (count : ℕ)
    (office : old.seen.actor ≡ self.id) (inboxes : count ≡ old.seen.config.workers + 1) where
  -- what is promised where the ring is left so
  abbrev pub Promise : Ring L → Moment L Q → Result (Option Note) NoMemory → Type 0
  Promise s new result = (o n : Outside) → SeesRing words old.table old.binds (begun self) o → SeesRing words new.table new.binds s n
      → Steps (IsWorker words.most old.table self) (IsWorker words.most new.table s) (sight o old.seen old.boxes) (sight n new.seen new.boxes) result

  -- whoever says that memory was refused
  pub err_promise : (s : Ring L) (new : Moment L Q) (refused : NoMemory) (result : Result (Option Note) NoMemory) → IsErr result
      → Promise s new (Err refused) → Promise s new result
  err_promise s new refused (Ok did) is gives = absurd cc
  err_promise s new refused (Err why) is gives = gives

  -- the note is what was told
  pub told_promise : (s : Ring L) (new : Moment L Q) (told : Option Note) (said : Note) → told ≡ Some said → Promise s new (Ok (Some said)) → Promise s new (Ok told)
  told_promise s new told said is gives = let P : Option Note → Type 0 = λ z. Promise s new (Ok z) in subst P (sym is) gives

  worker_begun : (x : Worker) → IsWorker words.most old.table self x → IsWorker words.most old.table (begun self) x
  worker_begun x is = record {
    id = is.id;
    setup = is.setup;
    offered = is.offered;
    conns = is.conns;
    next = is.next;
    actors = is.actors;
    rooms = is.rooms;
    ports = is.ports;
    numbers = is.numbers;
  }

  own_place : (o : Outside) (x : Worker) → IsWorker words.most old.table self x → Known (sight o old.seen old.boxes) x → self.id < count
  own_place o x is known = let lt = known.id in let e = is.id in let f = inboxes in omega (arith, lt, e, f)

  fit : (o : Outside) (x : Worker) → Known (sight o old.seen old.boxes) x → (bs : Boxes) → old.boxes.told ≡ Some bs → length bs ≡ count
  fit o x known bs e = known.boxes bs e ∙ sym inboxes

  pump_is : (o : Outside) (x : Worker) → IsWorker words.most old.table self x → Known (sight o old.seen old.boxes) x → self.setup.pump ≡ old.seen.config.workers
  pump_is o x is known = ap (λ (z : Setup). z.pump) (sym is.setup) ∙ known.pump

  known_all : (o : Outside) (x : Worker) → IsSound old.seen → IsWorker words.most old.table self x → Known (sight o old.seen old.boxes) x → All (λ (s : Held). IsKnown old.seen old.seen.actor s) x.conns
  known_all o x sound is known = all_at (λ (s : Held). IsKnown old.seen old.seen.actor s) x.conns each where
    each : (i : ℕ) (s : Held) → slice_get x.conns i ≡ Some s → IsKnown old.seen old.seen.actor s
    each i s at =
        let A : Held → Type 0 = λ h. h.conn.actor ≡ x.id in
        let actor = at_all A x.conns is.actors i s at in
        let lt = known.id in
        let e = is.id in
        let f = office in
        record {
          sound = sound;
          worker = omega (arith, lt, e, f);
          actor_is = actor ∙ is.id ∙ sym office;
          tunnels = all_at (λ (t : Tunnel). IsOpen old.seen.entries old.seen.actor t.id s.conn.number t.stream t.goal) s.conn.tunnels (λ j t at_t. open_at i s at j t at_t);
          places = at_all (λ (h : Held). ArePlaced old.seen.config.workers h.conn.due) x.conns known.places i s at;
        } where
          open_at : (i : ℕ) (s : Held) → slice_get x.conns i ≡ Some s → (j : ℕ) (t : Tunnel) → slice_get s.conn.tunnels j ≡ Some t
              → IsOpen old.seen.entries old.seen.actor t.id s.conn.number t.stream t.goal
          open_at i s at j t at_t =
              let W : ℕ → Type 0 = λ k. IsOpen old.seen.entries k t.id s.conn.number t.stream t.goal in
              let C : Tunnel → Type 0 = λ u. Contains s.conn.tunnels u in
              subst W (is.id ∙ sym office) ((known.tunnels t.id s.conn.number t.stream t.goal).0 (record {
                held = s;
                t = t;
                at = found_at x.conns i s (apart_of words.most old.table self x is) at;
                has = at_all C s.conn.tunnels (All-contains_itself s.conn.tunnels) j t at_t;
                id = refl;
                on = refl;
                leads = refl;
              }))

  -- what the calls of a connection need
  pub known_conns : (o : Outside) (x : Worker) → IsSound old.seen → IsWorker words.most old.table self x → Known (sight o old.seen old.boxes) x → AreKnown words old
  known_conns o x sound is known =
      let A : List (HeldBy L) → Type 0 = λ hs. AreHeld words.most old.table hs x.conns in
      (x.conns, subst A (sym starts) is.conns, known_all o x sound is known)

  -- ---- who sees the ring

  -- what is promised without an outside
  abbrev pub Stands : Ring L → Moment L Q → Type 0
  Stands s new = (o : Outside) (x : Worker) → IsWorker words.most old.table self x → Known (sight o old.seen old.boxes) x
      → (t : Worker) × IsWorker words.most new.table s t × Known (sight o new.seen new.boxes) t × Writes old.seen new.seen self.id

  -- an outside that sees the ring behind the step, for each worker
  abbrev pub Seen : Ring L → Moment L Q → Type 0
  Seen s new = (o : Outside) (x : Worker) → IsWorker words.most old.table self x → Known (sight o old.seen old.boxes) x → (n : Outside) × SeesRing words new.table new.binds s n

  pub known_any : (o n : Outside) (seen : SeenBy) (bs : Inboxes) (x : Worker) → Known (sight o seen bs) x → Known (sight n seen bs) x
  known_any o n seen bs x known = record { id = known.id; pump = known.pump; tunnels = known.tunnels; last = known.last; places = known.places; boxes = known.boxes }

  apart : (x : Worker) → IsWorker words.most old.table self x → AreApart x.conns
  apart x is = apart_of words.most old.table self x is

  pub begins : (o : Outside) (x : Worker) → IsWorker words.most old.table self x → Known (sight o old.seen old.boxes) x → (n : Outside) × SeesRing words old.table old.binds (begun self) n
  begins o x is known =
      sighted words old.table old.binds (begun self) refl is.numbers (own_tunnels words.most old.table self.conns.items x o old.seen old.boxes is.conns (apart x is) known)

  write_by : (x : Worker) → IsWorker words.most old.table self x → (seen_after : SeenBy) → Writes old.seen seen_after x.id → Writes old.seen seen_after self.id
  write_by x is seen_after writes = let P : ℕ → Type 0 = λ k. Writes old.seen seen_after k in subst P is.id writes

  -- where what is promised holds for those who see, it holds
  pub stands_by : (s : Ring L) (new : Moment L Q) (result : Result (Option Note) NoMemory) → Promise s new result → Seen s new → Stands s new
  stands_by s new result promise seen o x is known =
      let b = begins o x is known in
      let n = seen o x is known in
      let g = promise b.0 n.0 b.1 n.1 (record { bind = false }) x is (known_any o b.0 old.seen old.boxes x known) in
      (g.0, g.1, known_any n.0 o new.seen new.boxes g.0 g.3, write_by x is new.seen g.4)

  stand_then : (mid : Moment L Q) (tried : Tried) (x : Worker) → Passed words old mid tried → IsWorker words.most old.table self x → AreHeld words.most mid.table mid.conns x.conns
  stand_then mid tried x passed is =
      let A : List (HeldBy L) → Type 0 = λ hs. AreHeld words.most old.table hs x.conns in
      held_passed words old mid tried x.conns passed (subst A (sym starts) is.conns)

  tunnels_then : (mid : Moment L Q) (tried : Tried) (o : Outside) (x : Worker) → Passed words old mid tried → IsWorker words.most old.table self x → Known (sight o old.seen old.boxes) x
      → HaveOwnTunnels mid.conns
  tunnels_then mid tried o x passed is known =
      own_tunnels words.most mid.table mid.conns x o old.seen old.boxes (stand_then mid tried x passed is) (apart x is) known

  numbers_then : (mid : Moment L Q) (tried : Tried) (x : Worker) → Passed words old mid tried → IsWorker words.most old.table self x → AreDistinct (numbers_of mid.conns self.offered.items)
  numbers_then mid tried x passed is =
      let os : List ℕ = map (λ (f : OfferBy L). f.number) self.offered.items in
      let A : List (HeldBy L) → Type 0 = λ hs. AreDistinct (numbers_of hs self.offered.items) in
      subst AreDistinct (ap (λ (ns : List ℕ). ns ++ os) (sym (numbers_passed words old mid tried passed))) (subst A (sym starts) is.numbers)

  -- no connection acted
  pub calm_seen : (s : Ring L) (mid : Moment L Q) (tried : Tried) → Passed words old mid tried → s.conns.items ≡ mid.conns → s.offered.items ≡ self.offered.items → s.ended ≡ None → Seen s mid
  calm_seen s mid tried passed conns offered ended o x is known =
      let T : List (HeldBy L) → Type 0 = λ hs. HaveOwnTunnels hs in
      let A : List (HeldBy L) → Type 0 = λ hs. AreDistinct (numbers_of hs self.offered.items) in
      let N : List (OfferBy L) → Type 0 = λ fs. AreDistinct (numbers_of s.conns.items fs) in
      sighted words mid.table mid.binds s ended (subst N (sym offered) (subst A (sym conns) (numbers_then mid tried x passed is))) (subst T (sym conns) (tunnels_then mid tried o x passed is known))

  -- a packet came through the inbox
  pub taken_seen : (amount : ℕ) (before : Inboxes) (id : ℕ) (m s : Ring L) (mid : Moment L Q) (tried : Tried) (said : Note) (after : Inboxes) → Passed words old mid tried
      → mid.conns ≡ m.conns.items → m.offered.items ≡ self.offered.items → m.ended ≡ None → Takes amount before id m s said after → Seen s mid
  taken_seen amount before id m s mid tried said after passed conns offered ended takes o x is known = by_place takes.parcel.to takes.comes where
    T : List (HeldBy L) → Type 0
    T hs = HaveOwnTunnels hs

    A : List (HeldBy L) → Type 0
    A hs = AreDistinct (numbers_of hs self.offered.items)

    none_left : s.ended ≡ None
    none_left = ap (λ (z : Ring L). z.ended) takes.rest ∙ ended

    same_offers : s.offered.items ≡ self.offered.items
    same_offers = ap (λ (z : Ring L). z.offered.items) takes.rest ∙ offered

    missed : s.conns.items ≡ m.conns.items → (n : Outside) × SeesRing words mid.table mid.binds s n
    missed items = calm_seen s mid tried passed (items ∙ sym conns) same_offers none_left o x is known

    by_place : (to : Place) → ComesTo to takes.parcel m.conns.items s.conns.items said → (n : Outside) × SeesRing words mid.table mid.binds s n
    by_place place.Net misses = missed misses.conns
    by_place (place.Tunnel tunnel actor) (inl (none, misses)) = missed misses.conns
    by_place (place.Tunnel tunnel actor) (inr c) =
        let N : List (OfferBy L) → Type 0 = λ fs. AreDistinct (numbers_of s.conns.items fs) in
        let numbers = numbers_set m.conns.items self.offered.items c.place c.was c.now c.first.at (number_like m.conns.items c.place c.was c.now c.first.at c.rest)
        (subst A conns (numbers_then mid tried x passed is)) in
        let tunnels = own_tunnels_like m.conns.items c.place c.was c.now c.first.at c.rest (subst T conns (tunnels_then mid tried o x passed is known)) in
        sighted words mid.table mid.binds s none_left (subst N (sym same_offers) (subst A (sym c.conns) numbers)) (subst T (sym c.conns) tunnels)

  -- a link was accepted
  pub accepted_seen : (m s : Ring L) (mid : Moment L Q) (tried : Tried) (said : Note) → Passed words old mid tried → mid.conns ≡ m.conns.items → m.offered.items ≡ self.offered.items → m.ended ≡ None
      → Accepts m s said → Seen s mid
  accepted_seen m s mid tried said passed conns offered ended acc o x is known =
      let T : List (HeldBy L) → Type 0 = λ hs. HaveOwnTunnels hs in
      let A : List (HeldBy L) → Type 0 = λ hs. AreDistinct (numbers_of hs self.offered.items) in
      let N : List (OfferBy L) → Type 0 = λ fs. AreDistinct (numbers_of m.conns.items fs) in
      let numbers = subst N (sym offered) (subst A conns (numbers_then mid tried x passed is)) in
      sighted words mid.table mid.binds s (ap (λ (z : Ring L). z.ended) acc.rest ∙ ended) (subst AreDistinct (numbers_moved_on m s said acc) numbers)
      (subst T (sym acc.conns) (own_tunnels_pushed m.conns.items acc.held acc.ports (subst T conns (tunnels_then mid tried o x passed is known))))

  -- ---- the offered links, in the upper part

  pub accept_refused : (s : Ring L) (refused : NoMemory) → AcceptGives true (begun self) s (Err refused) → Promise s old (Err refused)
  accept_refused s refused gives o n sees later orders x is known =
      let own = own_untried old.boxes count self.id (own_place o x is known) (fit o x known) in
      let so = so_far words (begun self) old count starts (begun self) old Untried ⊥ ⊥ (first_passed words (begun self) old count starts) refl (λ never. absurd never) own in
      refused_gives words (begun self) (begun self) s old old count Untried ⊥ ⊥ so starts is.ports is.rooms o n sees later inboxes x (worker_begun x is) known
      orders (covers_offers self.next_seat gives.0) gives.1 gives.2 gives.3

  pub accept_refused_sights : (s : Ring L) (refused : NoMemory) → AcceptGives true (begun self) s (Err refused) → Seen s old
  accept_refused_sights s refused gives =
      (calm_seen s old Untried (first_passed words (begun self) old count starts) (gives.2 ∙ sym starts)
      (ap (λ (z : Ring L). z.offered.items) gives.3) (ap (λ (z : Ring L). z.ended) gives.3))

  pub accept_did : (s : Ring L) (said : Note) → AcceptGives true (begun self) s (Ok (Some said)) → Promise s old (Ok (Some said))
  accept_did s said gives o n sees later orders x is known =
      let own = own_untried old.boxes count self.id (own_place o x is known) (fit o x known) in
      let so = so_far words (begun self) old count starts (begun self) old Untried ⊥ ⊥ (first_passed words (begun self) old count starts) refl (λ never. absurd never) own in
      accepted_gives words (begun self) (begun self) s old old count Untried ⊥ ⊥ so starts is.ports is.rooms o n sees later inboxes x (worker_begun x is) known
      orders said (covers_offers self.next_seat gives.0) gives.1

  pub accept_did_sights : (s : Ring L) (said : Note) → AcceptGives true (begun self) s (Ok (Some said)) → Seen s old
  accept_did_sights s said gives =
      (accepted_seen (begun self) s old Untried said (first_passed words (begun self) old count starts) starts refl refl gives.1)

  -- ---- the inbox there

  pub pop_did : (one s : Ring L) (said : Note) (boxes_after : Inboxes) (id : ℕ) → id ≡ self.id → AcceptGives true (begun self) one (Ok None)
      → InboxGives count old.boxes id true one s (Some said) boxes_after → Promise s (record old { boxes = boxes_after }) (Ok (Some said))
  pop_did one s said after id mine first gives o n sees later orders x is known =
      let G : Ring L → Type 0 = λ z. InboxGives count old.boxes id true z s (Some said) after in
      let I : ℕ → Type 0 = λ k. Takes count old.boxes k (begun self) s said after in
      let gave = subst G first.0 gives in
      let own = own_untried old.boxes count self.id (own_place o x is known) (fit o x known) in
      let so = so_far words (begun self) old count starts (begun self) old Untried (InUpper self.next_seat 0) ⊥ (first_passed words (begun self) old count starts) refl first.1 own in
      taken_gives words (begun self) (begun self) s old old count Untried (InUpper self.next_seat 0) ⊥ so starts is.ports is.rooms o n sees later inboxes x (worker_begun x is)
      known orders said after office (covers_inbox self.next_seat gave.0) (subst I mine gave.1)

  pub pop_did_sights : (one s : Ring L) (said : Note) (boxes_after : Inboxes) (id : ℕ) → id ≡ self.id → AcceptGives true (begun self) one (Ok None)
      → InboxGives count old.boxes id true one s (Some said) boxes_after → Seen s old
  pop_did_sights one s said after id mine first gives =
      let G : Ring L → Type 0 = λ z. InboxGives count old.boxes id true z s (Some said) after in
      let takes = (subst G first.0 gives).1 in
      (taken_seen count old.boxes id (begun self) s old Untried said after (first_passed words (begun self) old count starts) starts refl refl takes)

  -- ---- behind both, in the upper part

  module _ (one two : Ring L) (boxes_one : Inboxes) (id : ℕ) (mine : id ≡ self.id) (first : AcceptGives true (begun self) one (Ok None))
      (popped : InboxGives count old.boxes id true one two None boxes_one) where
    two_is : two ≡ begun self
    two_is = popped.0 ∙ first.0

    pops : InUpper self.next_seat 1 → PopGives count old.boxes self.id None boxes_one
    pops up =
        let P : ℕ → Type 0 = λ k. PopGives count old.boxes k None boxes_one in
        subst P mine (popped.1 (ap (λ (z : Ring L). is_in_part true z.next_seat 1) first.0 ∙ up))

    same_one : boxes_one ≡ old.boxes
    same_one = by_part (is_in_part true self.next_seat 1) refl where
      by_part : (b : Bool) → is_in_part true self.next_seat 1 ≡ b → boxes_one ≡ old.boxes
      by_part true up = popped_same old.boxes boxes_one count self.id (pops up)
      by_part false down = popped.2 (ap (λ (z : Ring L). is_in_part true z.next_seat 1) first.0 ∙ down)

    pub pump_one : (o : Outside) (x : Worker) → IsWorker words.most old.table self x → Known (sight o old.seen old.boxes) x → two.setup.pump ≡ old.seen.config.workers
    pump_one o x is known = ap (λ (z : Ring L). z.setup.pump) two_is ∙ pump_is o x is known

    pub inboxes_one : (k : ℕ) → k ≡ count → (o : Outside) (x : Worker) → Known (sight o old.seen old.boxes) x → HasInboxes old.seen k boxes_one
    inboxes_one k same o x known =
        record { count_is = same ∙ inboxes; size = λ bs is. fit o x known bs (ap (λ (m : Inboxes). m.told) (sym same_one) ∙ is) ∙ sym same }

    -- a connection there acted, or was refused memory
    pub upper_stopped : (s : Ring L) (new : Moment L Q) (result : Result (Option Note) NoMemory) → Stopped words true two s (among two.conns.items boxes_one old) new result → HaveOwnPorts s.conns.items → HasRooms s.rooms
        → IsFit new.seen new.boxes → Promise s new result
    upper_stopped s new result stopped ports rooms fit_now o n sees later orders x is known =
        let S : Ring L → Type 0 = λ z. Stopped words true z s (among z.conns.items boxes_one old) new result in
        let O : List (HeldBy L) → Type 0 = λ hs. Stopped words true (begun self) s (among hs boxes_one old) new result in
        let B : Inboxes → Type 0 = λ bs. Stopped words true (begun self) s (among old.conns bs old) new result in
        let st = subst B same_one (subst O (sym starts) (subst S two_is stopped)) in
        let own = own_upper old.boxes count self.id (own_place o x is known) (fit o x known) self.next_seat boxes_one pops in
        let so = so_far words (begun self) old count starts (begun self) st.mid (Upper self.next_seat st.place) (InUpper self.next_seat 0) (InUpper self.next_seat 1)
        st.passed refl first.1 own in
        acted_gives words true (begun self) (begun self) s old st.mid new count (Upper self.next_seat st.place) (InUpper self.next_seat 0) (InUpper self.next_seat 1) st.place result
        so st.acted st.ports (λ tried. let lt = tried.0 in omega (arith, lt)) (covers_upper self.next_seat st.place st.acted.was.number st.acted.turn) ports rooms inboxes fit_now office o n
        sees later orders x (worker_begun x is) known

    pub upper_stopped_sights : (s : Ring L) (new : Moment L Q) (result : Result (Option Note) NoMemory) → Stopped words true two s (among two.conns.items boxes_one old) new result
        → HaveOwnPorts s.conns.items → HasRooms s.rooms → Seen s new
    upper_stopped_sights s new result stopped ports rooms = seen where
      seen : Seen s new
      seen o x is known =
          let S : Ring L → Type 0 = λ z. Stopped words true z s (among z.conns.items boxes_one old) new result in
          let O : List (HeldBy L) → Type 0 = λ hs. Stopped words true (begun self) s (among hs boxes_one old) new result in
          let B : Inboxes → Type 0 = λ bs. Stopped words true (begun self) s (among old.conns bs old) new result in
          let st = subst B same_one (subst O (sym starts) (subst S two_is stopped)) in
          let own = own_upper old.boxes count self.id (own_place o x is known) (fit o x known) self.next_seat boxes_one pops in
          let so = so_far words (begun self) old count starts (begun self) st.mid (Upper self.next_seat st.place) (InUpper self.next_seat 0) (InUpper self.next_seat 1)
          st.passed refl first.1 own in
          let b = begins o x is known in
          acted_seen words (begun self) (begun self) old st.mid new count (Upper self.next_seat st.place) (InUpper self.next_seat 0) (InUpper self.next_seat 1) so refl b.0 b.1 x
          (worker_begun x is) (known_any o b.0 old.seen old.boxes x known) st.place st.acted.was st.acted.now st.acted.at (λ tried. let lt = tried.0 in omega (arith, lt)) s st.acted.stepped result
          st.acted.acts st.acted.leaves

    -- ---- behind the upper part

    module _ (three : Ring L) (mid : Moment L Q) (at_mid : mid.conns ≡ three.conns.items) (upper : PassGives words true two three (among two.conns.items boxes_one old) mid (Ok None))
        (own_ports : HaveOwnPorts three.conns.items) (has_rooms : HasRooms three.rooms) where
      passed : Passed words old mid (AllUpper self.next_seat)
      passed =
          let P : Ring L → Type 0 = λ z. Passed words (among z.conns.items boxes_one old) mid (λ i number. InPart true z.next_seat number) in
          let O : List (HeldBy L) → Type 0 = λ hs. Passed words (among hs boxes_one old) mid (AllUpper self.next_seat) in
          let B : Inboxes → Type 0 = λ bs. Passed words (among old.conns bs old) mid (AllUpper self.next_seat) in
          subst B same_one (subst O (sym starts) (subst P two_is upper.0))

      three_is : three ≡ record (begun self) { conns = three.conns; rooms = three.rooms }
      three_is = upper.1 ∙ ap (λ (z : Ring L). record z { conns = three.conns; rooms = three.rooms }) two_is

      next_is : three.next_seat ≡ self.next_seat
      next_is = ap (λ (z : Ring L). z.next_seat) three_is

      as_long : length three.conns.items ≡ length self.conns.items
      as_long = ap (λ (hs : List (HeldBy L)). length hs) (sym at_mid) ∙ passed.size ∙ ap (λ (hs : List (HeldBy L)). length hs) starts

      down_is : (seat : ℕ) (b : Bool) → is_in_part false three.next_seat seat ≡ b → is_in_part false self.next_seat seat ≡ b
      down_is seat b is = ap (λ (k : ℕ). is_in_part false k seat) (sym next_is) ∙ is

      so_three : (o : Outside) (x : Worker) → IsWorker words.most old.table self x → Known (sight o old.seen old.boxes) x
          → SoFar words (begun self) three old mid count (AllUpper self.next_seat) (InUpper self.next_seat 0) (InUpper self.next_seat 1)
      so_three o x is known =
          so_far words (begun self) old count starts three mid (AllUpper self.next_seat) (InUpper self.next_seat 0) (InUpper self.next_seat 1) passed three_is first.1
          (own_upper old.boxes count self.id (own_place o x is known) (fit o x known) self.next_seat boxes_one pops)

      -- the mail tells as before
      pub told_later : mid.boxes.told ≡ old.boxes.told
      told_later = ap (λ (m : Inboxes). m.told) passed.boxes

      pub known_later : AreKnown words old → AreKnown words mid
      known_later k = known_passed words old mid (AllUpper self.next_seat) passed k

      pub accept_refused_later : (s : Ring L) (refused : NoMemory) → AcceptGives false three s (Err refused) → Promise s mid (Err refused)
      accept_refused_later s refused gives o n sees later orders x is known =
          refused_gives words (begun self) three s old mid count (AllUpper self.next_seat) (InUpper self.next_seat 0) (InUpper self.next_seat 1) (so_three o x is known) at_mid
          own_ports has_rooms o n sees later inboxes x (worker_begun x is) known orders (covers_offers_later self.next_seat (down_is 0 true gives.0)) gives.1 gives.2 gives.3

      pub accept_refused_later_sights : (s : Ring L) (refused : NoMemory) → AcceptGives false three s (Err refused) → Seen s mid
      accept_refused_later_sights s refused gives =
          (calm_seen s mid (AllUpper self.next_seat) passed (gives.2 ∙ sym at_mid)
          (ap (λ (z : Ring L). z.offered.items) gives.3 ∙ ap (λ (z : Ring L). z.offered.items) three_is) (ap (λ (z : Ring L). z.ended) gives.3 ∙ ap (λ (z : Ring L). z.ended) three_is))

      pub accept_did_later : (s : Ring L) (said : Note) → AcceptGives false three s (Ok (Some said)) → Promise s mid (Ok (Some said))
      accept_did_later s said gives o n sees later orders x is known =
          accepted_gives words (begun self) three s old mid count (AllUpper self.next_seat) (InUpper self.next_seat 0) (InUpper self.next_seat 1) (so_three o x is known) at_mid
          own_ports has_rooms o n sees later inboxes x (worker_begun x is) known orders said (covers_offers_later self.next_seat (down_is 0 true gives.0)) gives.1

      pub accept_did_later_sights : (s : Ring L) (said : Note) → AcceptGives false three s (Ok (Some said)) → Seen s mid
      accept_did_later_sights s said gives =
          (accepted_seen three s mid (AllUpper self.next_seat) said passed at_mid (ap (λ (z : Ring L). z.offered.items) three_is) (ap (λ (z : Ring L). z.ended) three_is) gives.1)

      -- ---- behind the offered links there

      module _ (four : Ring L) (second : AcceptGives false three four (Ok None)) where
        offers_wait : OffersWait (begun self)
        offers_wait = offers_waited words (begun self) old count starts three three_is as_long first.1
            (λ down. second.1 (ap (λ (k : ℕ). is_in_part false k 0) next_is ∙ down))

        -- the next search still begins where it did
        pub seat_later : four.next_seat ≡ one.next_seat
        seat_later = ap (λ (z : Ring L). z.next_seat) second.0 ∙ next_is ∙ ap (λ (z : Ring L). z.next_seat) (sym first.0)

        so_four : (o : Outside) (x : Worker) → IsWorker words.most old.table self x → Known (sight o old.seen old.boxes) x
            → SoFar words (begun self) three old mid count (AllUpper self.next_seat) ⊤ (InUpper self.next_seat 1)
        so_four o x is known =
            so_far words (begun self) old count starts three mid (AllUpper self.next_seat) ⊤ (InUpper self.next_seat 1) passed three_is (λ any. offers_wait)
            (own_upper old.boxes count self.id (own_place o x is known) (fit o x known) self.next_seat boxes_one pops)

        pub pop_did_later : (s : Ring L) (said : Note) (boxes_after : Inboxes) → InboxGives count mid.boxes id false four s (Some said) boxes_after
            → Promise s (record mid { boxes = boxes_after }) (Ok (Some said))
        pop_did_later s said after gives o n sees later orders x is known =
            let G : Ring L → Type 0 = λ z. InboxGives count mid.boxes id false z s (Some said) after in
            let I : ℕ → Type 0 = λ k. Takes count mid.boxes k three s said after in
            let gave = subst G second.0 gives in
            let down = down_is 1 true gave.0 in
            taken_gives words (begun self) three s old mid count (AllUpper self.next_seat) ⊤ (InUpper self.next_seat 1) (so_four o x is known) at_mid own_ports has_rooms o n
            sees later inboxes x (worker_begun x is) known orders said after office (covers_inbox_later self.next_seat down) (subst I mine gave.1)

        pub pop_did_later_sights : (s : Ring L) (said : Note) (boxes_after : Inboxes) → InboxGives count mid.boxes id false four s (Some said) boxes_after → Seen s mid
        pop_did_later_sights s said after gives =
            let G : Ring L → Type 0 = λ z. InboxGives count mid.boxes id false z s (Some said) after in
            let takes = (subst G second.0 gives).1 in
            (taken_seen count mid.boxes id three s mid (AllUpper self.next_seat) said after passed at_mid
            (ap (λ (z : Ring L). z.offered.items) three_is) (ap (λ (z : Ring L). z.ended) three_is) takes)

        -- ---- behind both there

        module _ (five : Ring L) (boxes_two : Inboxes) (popped_later : InboxGives count mid.boxes id false four five None boxes_two) where
          five_is : five ≡ three
          five_is = popped_later.0 ∙ second.0

          pops_later : is_in_part false self.next_seat 1 ≡ true → PopGives count mid.boxes self.id None boxes_two
          pops_later down =
              let P : ℕ → Type 0 = λ k. PopGives count mid.boxes k None boxes_two in
              subst P mine (popped_later.1 (ap (λ (z : Ring L). is_in_part false z.next_seat 1) second.0 ∙ ap (λ (k : ℕ). is_in_part false k 1) next_is ∙ down))

          same_two : boxes_two ≡ mid.boxes
          same_two = by_part (is_in_part false self.next_seat 1) refl where
            by_part : (b : Bool) → is_in_part false self.next_seat 1 ≡ b → boxes_two ≡ mid.boxes
            by_part true down = popped_same mid.boxes boxes_two count self.id (pops_later down)
            by_part false up = popped_later.2 (ap (λ (z : Ring L). is_in_part false z.next_seat 1) second.0 ∙ ap (λ (k : ℕ). is_in_part false k 1) next_is ∙ up)

          pub pump_two : (o : Outside) (x : Worker) → IsWorker words.most old.table self x → Known (sight o old.seen old.boxes) x → five.setup.pump ≡ mid.seen.config.workers
          pump_two o x is known =
              ap (λ (z : Ring L). z.setup.pump) (five_is ∙ three_is) ∙ pump_is o x is known ∙ ap (λ (z : SeenBy). z.config.workers) (sym passed.seen)

          pub inboxes_two : (k l : ℕ) → l ≡ k → HasInboxes mid.seen k mid.boxes → HasInboxes mid.seen l boxes_two
          inboxes_two k l same has = record { count_is = same ∙ has.count_is; size = λ bs is. has.size bs (ap (λ (m : Inboxes). m.told) (sym same_two) ∙ is) ∙ sym same }

          own_five : (o : Outside) (x : Worker) → IsWorker words.most old.table self x → Known (sight o old.seen old.boxes) x → Own old.boxes count self.id ⊤
          own_five o x is known =
              own_lower old.boxes count self.id (own_place o x is known) (fit o x known) self.next_seat boxes_one mid.boxes boxes_two pops passed.boxes pops_later

          pub lower_stopped : (s : Ring L) (new : Moment L Q) (result : Result (Option Note) NoMemory) → Stopped words false five s (among five.conns.items boxes_two mid) new result → HaveOwnPorts s.conns.items
              → HasRooms s.rooms → IsFit new.seen new.boxes → Promise s new result
          lower_stopped s new result stopped ports rooms fit_now o n sees later orders x is known =
              let S : Ring L → Type 0 = λ z. Stopped words false z s (among z.conns.items boxes_two mid) new result in
              let O : List (HeldBy L) → Type 0 = λ hs. Stopped words false three s (among hs boxes_two mid) new result in
              let B : Inboxes → Type 0 = λ bs. Stopped words false three s (among mid.conns bs mid) new result in
              let st = subst B same_two (subst O (sym at_mid) (subst S five_is stopped)) in
              let T : ℕ → Type 0 = λ k. Passed words mid st.mid (λ i number. (i < st.place) × InPart false k number) in
              let lower = lower_passed words (begun self) old count starts mid st.mid st.place passed (subst T next_is st.passed) in
              let so = so_far words (begun self) old count starts three st.mid (Lower self.next_seat st.place) ⊤ ⊤ lower three_is (λ any. offers_wait) (own_five o x is known) in
              let turn : InPart false self.next_seat st.acted.was.number = down_is (st.acted.was.number + 2) true st.acted.turn in
              acted_gives words false (begun self) three s old st.mid new count (Lower self.next_seat st.place) ⊤ ⊤ st.place result so st.acted st.ports
              (λ tried. untried st.place st.acted.was.number turn tried) (covers_lower self.next_seat st.place st.acted.was.number turn) ports rooms inboxes fit_now office o n
              sees later orders x (worker_begun x is) known where
                untried : (k number : ℕ) → InPart false self.next_seat number → Lower self.next_seat k k number → ⊥
                untried k number down (inl up) = in_one self.next_seat (number + 2) up down
                untried k number down (inr (lt, also)) = absurd (omega (arith, lt))

          lower_seen : (s : Ring L) (new : Moment L Q) (result : Result (Option Note) NoMemory) → Stopped words false five s (among five.conns.items boxes_two mid) new result → Seen s new
          lower_seen s new result stopped o x is known =
              let S : Ring L → Type 0 = λ z. Stopped words false z s (among z.conns.items boxes_two mid) new result in
              let O : List (HeldBy L) → Type 0 = λ hs. Stopped words false three s (among hs boxes_two mid) new result in
              let B : Inboxes → Type 0 = λ bs. Stopped words false three s (among mid.conns bs mid) new result in
              let st = subst B same_two (subst O (sym at_mid) (subst S five_is stopped)) in
              let T : ℕ → Type 0 = λ k. Passed words mid st.mid (λ i number. (i < st.place) × InPart false k number) in
              let lower = lower_passed words (begun self) old count starts mid st.mid st.place passed (subst T next_is st.passed) in
              let so = so_far words (begun self) old count starts three st.mid (Lower self.next_seat st.place) ⊤ ⊤ lower three_is (λ any. offers_wait) (own_five o x is known) in
              let turn : InPart false self.next_seat st.acted.was.number = down_is (st.acted.was.number + 2) true st.acted.turn in
              let b = begins o x is known in
              acted_seen words (begun self) three old st.mid new count (Lower self.next_seat st.place) ⊤ ⊤ so refl b.0 b.1 x (worker_begun x is)
              (known_any o b.0 old.seen old.boxes x known) st.place st.acted.was st.acted.now st.acted.at (λ tried. was_untried st.place st.acted.was.number turn tried) s st.acted.stepped result
              st.acted.acts st.acted.leaves where
                was_untried : (k number : ℕ) → InPart false self.next_seat number → Lower self.next_seat k k number → ⊥
                was_untried k number down (inl up) = in_one self.next_seat (number + 2) up down
                was_untried k number down (inr (lt, also)) = absurd (omega (arith, lt))

          pub nothing_did : (s : Ring L) (new : Moment L Q) → new.conns ≡ s.conns.items → PassGives words false five s (among five.conns.items boxes_two mid) new (Ok None) → HaveOwnPorts s.conns.items → HasRooms s.rooms
              → Promise s new (Ok None)
          nothing_did s new at_new gives ports rooms o n sees later orders x is known =
              let P : Ring L → Type 0 = λ z. Passed words (among z.conns.items boxes_two mid) new (λ i number. InPart false z.next_seat number) in
              let O : List (HeldBy L) → Type 0 = λ hs. Passed words (among hs boxes_two mid) new (λ i number. InPart false three.next_seat number) in
              let T : ℕ → Type 0 = λ k. Passed words mid new (λ i number. InPart false k number) in
              let B : Inboxes → Type 0 = λ bs. Passed words (among mid.conns bs mid) new (λ i number. InPart false three.next_seat number) in
              let lower = subst B same_two (subst O (sym at_mid) (subst P five_is gives.0)) in
              let all = all_passed words (begun self) old count starts mid new passed (subst T next_is lower) in
              let ring : s ≡ record (begun self) { conns = s.conns; rooms = s.rooms } =
              gives.1 ∙ ap (λ (z : Ring L). record z { conns = s.conns; rooms = s.rooms }) (five_is ∙ three_is) in
              let so = so_far words (begun self) old count starts s new (AllTried self.next_seat) ⊤ ⊤ all ring (λ any. offers_wait) (own_five o x is known) in
              idle_gives words (begun self) s s old new count (AllTried self.next_seat) ⊤ ⊤ so at_new ports rooms o n sees later inboxes x (worker_begun x is) known
              refl tt tt (λ i number. all_tried self.next_seat i number)

          -- whatever the lower part's connections gave
          pub lower_gives : (s : Ring L) (new : Moment L Q) (result : Result (Option Note) NoMemory) → new.conns ≡ s.conns.items → PassGives words false five s (among five.conns.items boxes_two mid) new result
              → HaveOwnPorts s.conns.items → HasRooms s.rooms → IsFit new.seen new.boxes → Promise s new result
          lower_gives s new (Ok None) at_new gives ports rooms fit_now = nothing_did s new at_new gives ports rooms
          lower_gives s new (Ok (Some said)) at_new gives ports rooms fit_now = lower_stopped s new (Ok (Some said)) gives ports rooms fit_now
          lower_gives s new (Err refused) at_new gives ports rooms fit_now = lower_stopped s new (Err refused) gives ports rooms fit_now

          pub lower_sights : (s : Ring L) (new : Moment L Q) (result : Result (Option Note) NoMemory) → new.conns ≡ s.conns.items
              → PassGives words false five s (among five.conns.items boxes_two mid) new result → HaveOwnPorts s.conns.items → HasRooms s.rooms → Seen s new
          lower_sights s new (Ok None) at_new gives ports rooms =
              let P : Ring L → Type 0 = λ z. Passed words (among z.conns.items boxes_two mid) new (λ i number. InPart false z.next_seat number) in
              let O : List (HeldBy L) → Type 0 = λ hs. Passed words (among hs boxes_two mid) new (λ i number. InPart false three.next_seat number) in
              let T : ℕ → Type 0 = λ k. Passed words mid new (λ i number. InPart false k number) in
              let B : Inboxes → Type 0 = λ bs. Passed words (among mid.conns bs mid) new (λ i number. InPart false three.next_seat number) in
              let lower = subst B same_two (subst O (sym at_mid) (subst P five_is gives.0)) in
              let all = all_passed words (begun self) old count starts mid new passed (subst T next_is lower) in
              let ring : s ≡ record (begun self) { conns = s.conns; rooms = s.rooms } =
              gives.1 ∙ ap (λ (z : Ring L). record z { conns = s.conns; rooms = s.rooms }) (five_is ∙ three_is) in
              (calm_seen s new (AllTried self.next_seat) all (sym at_new) (ap (λ (z : Ring L). z.offered.items) ring) (ap (λ (z : Ring L). z.ended) ring))
          lower_sights s new (Ok (Some said)) at_new gives ports rooms =
              (lower_seen s new (Ok (Some said)) gives)
          lower_sights s new (Err refused) at_new gives ports rooms =
              (lower_seen s new (Err refused) gives)
