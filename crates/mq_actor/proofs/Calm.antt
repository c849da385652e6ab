-- Steps in which no connection acts: a link is accepted, a packet comes through the inbox, an accept is refused memory, or every
-- seat is passed over.
use Rattle.std.proofs.Common.{◌≡◌, ◌⊎◌, inl, inr, ℕ, zero, suc, ◌+◌, ◌<◌, ◌≤◌, List, [], ◌∷◌, ◌++◌, map, length, slice_get, slice_set, Some}
use Rattle.std.proofs.Common.{All, append-nil, refl, sym, ap, subst, ◌∙◌, arith, true, false}
use Rattle.std.proofs.lemmas.Bool.{cases_lt, lt-ltb}
use Rattle.std.proofs.lemmas.List.{map-set}
use Rattle.std.proofs.lemmas.List.Elements.{All-push}
use Rattle.mq_talk.specs.declared.book.Entry.{Entry}
use Rattle.mq_talk.specs.declared.note.Note.{Note}
use Rattle.mq_talk.specs.declared.note.Note.TheVariants as note
use Rattle.mq_talk.specs.declared.place.Parcel.{Parcel}
use Rattle.mq_talk.specs.Mails.{Boxes, IsTold, PopGives, Inboxes, MailMoves}
use Rattle.mq_talk.specs.Offices.{Seen, IsSame}
use Rattle.mq_machine.specs.declared.act.Due.{Due}
use Rattle.mq_machine.specs.Placing.{ArePlaced}
use Rattle.mq_machine.specs.State.{Conn, new_conn, new_link, Port, Offer, Held, Worker, Orders, Shared}
use Rattle.mq_machine.specs.Want.{Said}
use Rattle.mq_machine.specs.Turn.{Seat, Offers, Inbox, most_live, can_act, turn_of, accepted, replace, InboxNext}
use Rattle.mq_machine.specs.Acting.{Outside, ConnsTold, OffersTold, PortsTold, HasTold, FaultsFit, Known, Meets, Binder, Writes}
use Rattle.mq_machine.specs.Acting.{StepDone, StepQuiet, StepSilent}
use Rattle.mq_conn.specs.Conns.{IsConn}
use Rattle.mq_held.specs.declared.held.Held.{Held as HeldBy}
use Rattle.mq_step.specs.Rooms.{HasRooms}
use Rattle.mq_step.specs.Holds.{IsHeld}
use Rattle.mq_step.specs.Sights.{idle}
use Rattle.mq_step.proofs.Receiving.{idle_faults}
use Rattle.mq_step.proofs.Standing.{new_stands}
use Rattle.mq_step.proofs.Wanting.{sees_same}
use Rattle.mq_actor.specs.declared.offer.Offer.{Offer as OfferBy}
use Rattle.mq_actor.specs.declared.ring.Ring.{Ring}
use Rattle.mq_actor.specs.Goes.{shapes_of}
use Rattle.mq_actor.specs.Holds.{AreHeld, AreOffered, AreDistinct, HaveOwnPorts, IsWorker, numbers_of}
use Rattle.mq_actor.specs.Passing.{Tried, TellsSame, PassedOver}
use Rattle.mq_actor.specs.Seats.{OffersWait, Accepts, Takes}
use Rattle.mq_actor.specs.Seen.{Words, Moment, SeesConn, SeesOffer, SeesRing}
use Rattle.mq_actor.specs.Steps.{sight}
use Rattle.mq_actor.proofs.Between.{get_append, get_last, held_refilled, offered_at, offered_none, sees_at, apart_of}
use Rattle.mq_actor.proofs.Helds.{held_at, held_length, held_pushed}
use Rattle.mq_actor.proofs.Between.{numbers_passed, told_so_far, over_so_far, offers_so_far, vain_so_far}
use Rattle.mq_actor.proofs.Cores.{AreApart, cores_of}
use Rattle.mq_actor.proofs.InRing.{Precedes, at_all, all_at}
use Rattle.mq_actor.proofs.Lefts.{AllFine, all_fine, numbers_set}
use Rattle.mq_actor.proofs.Lists.{apart_map, found_at, map_get, replace_sets}
use Rattle.mq_actor.proofs.Neighbours.{Fine}
use Rattle.mq_actor.proofs.Others.{set_length, cores_refilled, cores_pushed, told_refilled, told_pushed}
use Rattle.mq_actor.proofs.Others.{was_box, boxes_told, relinked, ports_pushed, numbers_moved, offered_first, offered_refilled}
use Rattle.mq_actor.proofs.Parcels.{Becomes, Came, One, came, now_at, number_like, own_ports_like, seen_like}
use Rattle.mq_actor.proofs.Passings.{held_passed}
use Rattle.mq_actor.proofs.Pointwise.{Pointwise, pointwise_set, within}
use Rattle.mq_actor.proofs.Refilled.{refill, refilled, reoffered, refills, conns_told, offers_told, faults_refilled}
use Rattle.mq_actor.proofs.SoFar.{Vain, SoFar, Covers}
use Rattle.mq_actor.proofs.Tunnels.{known_same, known_accepted, known_goes}
use Rattle.mq_actor.proofs.Writing.{writes_nothing}
use Rattle.mq_actor.proofs.Turning.{turn_is, no_turn, before_waited, offers_can, all_waited}
use Rattle.mq_talk.proofs.Mails.{nothing_moved, pop_moved}

module _ {L Q : Type 0} (words : Words L Q) (r m s : Ring L) (old mid : Moment L Q) (count : ℕ)
    (tried : Tried) (offers_tried inbox_tried : Type 0) (so : SoFar words r m old mid count tried offers_tried inbox_tried)
    (at_conns : mid.conns ≡ m.conns.items) (own : HaveOwnPorts m.conns.items) (rooms : HasRooms m.rooms) (o n : Outside) (sees : SeesRing words old.table old.binds r o)
    (sees_now : SeesRing words mid.table mid.binds s n) (count_is : count ≡ old.seen.config.workers + 1) (x : Worker)
    (is : IsWorker words.most old.table r x) (known : Known (sight o old.seen old.boxes) x) where
  -- the worker with what is told, where nothing was found
  abbrev now : Worker
  now = refill o 0 idle x

  apart : AreApart x.conns
  apart = apart_of words.most old.table r x is

  -- ---- what is seen

  abbrev SeenNow : Type 0
  SeenNow = (i : ℕ) (g : HeldBy L) → slice_get mid.conns i ≡ Some g → SeesConn words mid.table g n

  seen_with : (more : List (HeldBy L)) → s.conns.items ≡ m.conns.items ++ more → SeenNow
  seen_with more are i g at =
      let P : List (HeldBy L) → Type 0 = λ hs. slice_get hs i ≡ Some g in
      sees_at words mid.table mid.binds s n i g sees_now (subst P (sym are) (get_append m.conns.items more i g (subst P at_conns at)))

  seen_same : s.conns.items ≡ m.conns.items → SeenNow
  seen_same are = seen_with [] (are ∙ sym (append-nil m.conns.items))

  vain : (k : ℕ) (seat : Seat) → Covers r.next_seat tried offers_tried inbox_tried k seat → SeenNow → Vain o n x so.box k seat
  vain k seat covers seen =
      vain_so_far words r m old mid count tried offers_tried inbox_tried so o n sees x is k seat covers
      (λ i g at was_tried. seen i g at)

  tells_same : SeenNow → (i : ℕ) (h : Held) → slice_get x.conns i ≡ Some h → TellsSame o n h
  tells_same seen i h at =
      told_so_far words r m old mid count tried offers_tried inbox_tried so o n sees x is i h at (λ g at_g. seen i g at_g)

  told_at : SeenNow → (i : ℕ) (h : Held) → slice_get now.conns i ≡ Some h → IsTold (n.link h.conn.number) h.link × PortsTold n h.ports
  told_at seen i h at_h = one (map_get (refilled o 0 idle) x.conns i h at_h) where
    one : (y : Held) × (slice_get x.conns i ≡ Some y) × (h ≡ refilled o 0 idle y) → IsTold (n.link h.conn.number) h.link × PortsTold n h.ports
    one (y, at, e) =
        let P : Held → Type 0 = λ z. IsTold (n.link z.conn.number) z.link × PortsTold n z.ports in
        subst P (sym e) (told_refilled o n 0 y (tells_same seen i y at))

  told_now : SeenNow → ConnsTold n now.conns
  told_now seen = conns_told n now.conns (λ i h at. told_at seen i h at)

  -- an offered link tells what it told
  offer_same : s.offered ≡ r.offered → (i : ℕ) (f : Offer) → slice_get x.offered i ≡ Some f → n.link f.number ≡ o.link f.number
  offer_same same i f at = one (offered_at r.offered.items x.offered i f is.offered at) where
    one : (g : OfferBy L) × (slice_get r.offered.items i ≡ Some g) × (f.number ≡ g.number) → n.link f.number ≡ o.link f.number
    one (g, at_g, e) =
        let P : List (OfferBy L) → Type 0 = λ fs. slice_get fs i ≡ Some g in
        let after : n.link g.number ≡ words.link g.link =
        at_all (SeesOffer words n) s.offered.items sees_now.offers i g (subst P (ap (λ q. q.items) (sym same)) at_g) in
        let before : o.link g.number ≡ words.link g.link = at_all (SeesOffer words o) r.offered.items sees.offers i g at_g in
        ap n.link e ∙ after ∙ sym before ∙ ap o.link (sym e)

  offers_same : s.offered ≡ r.offered → OffersTold n now.offered
  offers_same same = offers_told o n x.offered (offer_same same)

  faults : FaultsFit o n now
  faults = faults_refilled o n 0 idle x (λ h has number. idle_faults o n h)

  -- nothing was bound
  nothing_bound : n.binds ≡ o.binds
  nothing_bound = sees_now.binds_are ∙ so.passed.binds ∙ sym sees.binds_are

  held_back : n.binds.holds ≡ o.binds.holds
  held_back = ap (λ (b : Binder). b.holds) nothing_bound

  same_seen : IsSame old.seen mid.seen
  same_seen = record { config = ap (λ (z : Seen). z.config) so.passed.seen; whole = ap (λ (z : Seen). z.is_whole) so.passed.seen }

  nothing_written : Writes old.seen mid.seen x.id
  nothing_written = writes_nothing old.seen mid.seen x.id (ap (λ (z : Seen). z.entries) so.passed.seen)

  -- ---- what is shared

  abbrev shared : Orders → Boxes → Shared
  shared orders b = record { config = old.seen.config; book = old.seen.entries; boxes = b; orders = orders }

  meets : (orders : Orders) (after : Inboxes) (b c : Boxes) → IsTold old.boxes.told b → length b ≡ count → IsTold after.told c → MailMoves old.boxes after b c
      → Meets orders (sight o old.seen old.boxes) (sight n mid.seen after) (shared orders b) (shared orders c)
  meets orders after b c told size tells moves = record {
    config = refl;
    same = same_seen;
    book = sees_same old.seen;
    wrote = ap (λ (z : Seen). z.entries) so.passed.seen;
    boxes = told;
    count = size ∙ count_is;
    boxes_after = tells;
    moves = moves;
    orders_are = refl;
  }

  sized : (after : Inboxes) (c : Boxes) → IsTold after.told c → length c ≡ count
      → (bs : Boxes) → after.told ≡ Some bs → length bs ≡ mid.seen.config.workers + 1
  sized after c tells size bs some =
      let workers : mid.seen.config.workers ≡ old.seen.config.workers = ap (λ (z : Seen). z.config.workers) so.passed.seen in
      boxes_told after.told c count tells size bs some ∙ count_is ∙ ap (λ (k : ℕ). k + 1) (sym workers)

  -- what the mail tells now
  mail_tells : IsTold mid.boxes.told so.mail.boxes
  mail_tells = let P : Inboxes → Type 0 = λ b. IsTold b.told so.mail.boxes in subst P (sym so.passed.boxes) so.mail.told

  -- ---- the ring

  held_now : AreHeld words.most mid.table m.conns.items now.conns
  held_now =
      let P : List (HeldBy L) → Type 0 = λ hs. AreHeld words.most old.table hs x.conns in
      let R : List (HeldBy L) → Type 0 = λ hs. AreHeld words.most mid.table hs now.conns in
      subst R at_conns
      (held_refilled words.most mid.table o 0 idle mid.conns x.conns
      (held_passed words old mid tried x.conns so.passed (subst P (sym so.starts) is.conns)))

  actors_now : All (λ (h : Held). h.conn.actor ≡ x.id) now.conns
  actors_now = all_at (λ (h : Held). h.conn.actor ≡ x.id) now.conns (λ i h at. one i h (map_get (refilled o 0 idle) x.conns i h at)) where
    one : (i : ℕ) (h : Held) → (y : Held) × (slice_get x.conns i ≡ Some y) × (h ≡ refilled o 0 idle y) → h.conn.actor ≡ x.id
    one i h (y, at, e) = ap (λ (z : Held). z.conn.actor) e ∙ at_all (λ (z : Held). z.conn.actor ≡ x.id) x.conns is.actors i y at

  numbers_now : (fs : List (OfferBy L)) → numbers_of m.conns.items fs ≡ numbers_of r.conns.items fs
  numbers_now fs =
      let ns : List (HeldBy L) → List ℕ = λ hs. map (λ (h : HeldBy L). h.number) hs in
      let e : ns m.conns.items ≡ ns r.conns.items = ap ns (sym at_conns) ∙ numbers_passed words old mid tried so.passed ∙ ap ns so.starts in
      ap (λ (ks : List ℕ). ks ++ map (λ (f : OfferBy L). f.number) fs) e

  size_now : length x.conns ≡ length m.conns.items
  size_now =
      let ls : List (HeldBy L) → ℕ = λ hs. length hs in
      sym (held_length words.most old.table r.conns.items x.conns is.conns) ∙ ap ls (sym so.starts) ∙ sym so.passed.size ∙ ap ls at_conns

  id_now : m.id ≡ x.id
  id_now = ap (λ (q : Ring L). q.id) so.ring ∙ sym is.id

  setup_now : m.setup ≡ x.setup
  setup_now = ap (λ (q : Ring L). q.setup) so.ring ∙ sym is.setup

  -- the ring stands for it, where it has the connections and offered links of m
  worker_now : (next : ℕ) → s.id ≡ m.id → s.setup ≡ m.setup → s.offered ≡ r.offered → s.conns.items ≡ m.conns.items → s.rooms ≡ m.rooms
      → s.next_seat ≡ next → IsWorker words.most mid.table s (record now { next_seat = next })
  worker_now next id setup offered conns rooms_are next_is =
      let fs : List (OfferBy L) = r.offered.items in
      let offers : s.offered.items ≡ fs = ap (λ q. q.items) offered in
      let O : List (OfferBy L) → Type 0 = λ gs. AreOffered gs now.offered in
      let C : List (HeldBy L) → Type 0 = λ hs. AreHeld words.most mid.table hs now.conns in
      let numbers : numbers_of s.conns.items s.offered.items ≡ numbers_of r.conns.items fs =
      ap (λ (hs : List (HeldBy L)). numbers_of hs s.offered.items) conns ∙ ap (λ (gs : List (OfferBy L)). numbers_of m.conns.items gs) offers
      ∙ numbers_now fs in
      record {
        id = sym id_now ∙ sym id;
        setup = sym setup_now ∙ sym setup;
        offered = subst O (sym offers) (offered_refilled o fs x.offered is.offered);
        conns = subst C (sym conns) held_now;
        next = sym next_is;
        actors = actors_now;
        rooms = subst HasRooms (sym rooms_are) rooms;
        ports = let P : List (HeldBy L) → Type 0 = λ hs. HaveOwnPorts hs in subst P (sym conns) own;
        numbers = subst AreDistinct (sym numbers) is.numbers;
      }

  -- and the office knows it
  known_now : (next : ℕ) (after : Inboxes) (c : Boxes) → IsTold after.told c → length c ≡ count
      → Known (sight n mid.seen after) (record now { next_seat = next })
  known_now next after c tells size =
      known_same (sight o old.seen old.boxes) (sight n mid.seen after) x (record now { next_seat = next }) known refl refl
      (cores_refilled o 0 idle x.conns) so.passed.seen (sized after c tells size)

  told_all : s.conns.items ≡ m.conns.items → s.offered ≡ r.offered → HasTold n now
  told_all conns offered = (told_now (seen_same conns), offers_same offered)

  -- ---- every seat was passed over

  -- Every seat was tried in vain: only what links and ports hold may have changed.
  pub idle_gives : s ≡ m → offers_tried → inbox_tried → ((i number : ℕ) → tried i number)
      → (t : Worker) × IsWorker words.most mid.table s t × HasTold n t × Known (sight n mid.seen mid.boxes) t × Writes old.seen mid.seen x.id
      × StepQuiet (sight o old.seen old.boxes) (sight n mid.seen mid.boxes) x t
  idle_gives same offers inbox all = (
    now,
    worker_now x.next_seat (part (λ q. q.id)) (part (λ q. q.setup)) offered conns (part (λ q. q.rooms))
        (part (λ q. q.next_seat) ∙ ap (λ (q : Ring L). q.next_seat) so.ring ∙ sym is.next),
    told_all conns offered,
    known_now x.next_seat mid.boxes so.mail.boxes mail_tells so.mail.size,
    nothing_written,
    record {
      now = now;
      box = so.box;
      refills = refills o 0 idle x;
      was = was_box old.boxes.told so.mail.boxes r.id x.id so.box so.mail.told is.id so.mail.at;
      none = no_turn o n x so.box apart
          (offers_so_far words r m old mid count tried offers_tried inbox_tried so o n sees x is (so.offers offers))
          (so.inbox inbox) over;
      waited = all_waited o n x so.box apart
          (offers_so_far words r m old mid count tried offers_tried inbox_tried so o n sees x is (so.offers offers))
          (so.inbox inbox) (λ i h at. (over i h at).waited);
      seen = so.passed.seen;
      outside = record {
        links = all_at LinkSame x.conns (λ i h at. (tells_same (seen_same conns) i h at).link);
        ports = all_at PortsSame x.conns (λ i h at. (tells_same (seen_same conns) i h at).ports);
        offers = all_at OfferSame x.offered (offer_same offered);
      };
      binds = nothing_bound;
      boxes = so.passed.boxes;
      same = (refills o 0 idle x).same;
    },
  ) where
    LinkSame : Held → Type 0
    LinkSame h = n.link h.conn.number ≡ o.link h.conn.number

    PortsSame : Held → Type 0
    PortsSame h = All (λ (p : Port). n.port p.tunnel ≡ o.port p.tunnel) h.ports

    OfferSame : Offer → Type 0
    OfferSame f = n.link f.number ≡ o.link f.number

    part : {A : Type 0} (f : Ring L → A) → f s ≡ f m
    part f = ap f same

    conns : s.conns.items ≡ m.conns.items
    conns = ap (λ (q : Ring L). q.conns.items) same

    offered : s.offered ≡ r.offered
    offered = ap (λ (q : Ring L). q.offered) same ∙ ap (λ (q : Ring L). q.offered) so.ring

    over : (i : ℕ) (h : Held) → slice_get x.conns i ≡ Some h → PassedOver o n h
    over i h at =
        over_so_far words r m old mid count tried offers_tried inbox_tried so o n sees x is i h at
        (all i h.conn.number) (λ j g at_g was_tried. seen_same conns j g at_g)

  -- ---- an accept was refused memory

  refused_turn : (seen : SeenNow) → Covers r.next_seat tried offers_tried inbox_tried 0 Offers → (OffersWait m → ⊥)
      → turn_of now so.box ≡ Some Offers
  refused_turn seen covers may =
      turn_is o n x so.box 0 idle 0 Offers apart refl (λ i h at same. inr refl)
      (offers_can o x so.box 0 idle some (by_size (cases_lt (length x.conns) most_live))) (vain 0 Offers covers seen) where
        some : x.offered ≡ [] → ⊥
        some none =
            may (inl (ap (λ (q : Ring L). q.offered.items) so.ring ∙ offered_none r.offered.items x.offered is.offered none))

        by_size : (length x.conns < most_live) ⊎ (most_live ≤ length x.conns) → length x.conns < most_live
        by_size (inl less) = less
        by_size (inr full) = let same = size_now in absurd (may (inr (omega (arith, full, same))))

  -- A link could be accepted, and there was no memory for that: it stays offered.
  pub refused_gives : (orders : Orders) → Covers r.next_seat tried offers_tried inbox_tried 0 Offers → (OffersWait m → ⊥) → s.conns.items ≡ m.conns.items
      → s ≡ record m { conns = s.conns }
      → (t : Worker) × IsWorker words.most mid.table s t × HasTold n t × Known (sight n mid.seen mid.boxes) t × Writes old.seen mid.seen x.id
      × StepSilent orders (sight o old.seen old.boxes) (sight n mid.seen mid.boxes) x t
  refused_gives orders covers may conns rest = (
    now,
    worker_now x.next_seat (ap (λ (q : Ring L). q.id) rest) (ap (λ (q : Ring L). q.setup) rest) offered conns (ap (λ (q : Ring L). q.rooms) rest)
        (ap (λ (q : Ring L). q.next_seat) rest ∙ ap (λ (q : Ring L). q.next_seat) so.ring ∙ sym is.next),
    told_all conns offered,
    known_now x.next_seat mid.boxes so.mail.boxes mail_tells so.mail.size,
    nothing_written,
    record {
      now = now;
      box = so.box;
      answer = Said;
      sh = shared orders so.mail.boxes;
      after = shared orders so.mail.boxes;
      reached = record { took = false; asked = false };
      refills = refills o 0 idle x;
      was = was_box old.boxes.told so.mail.boxes r.id x.id so.box so.mail.told is.id so.mail.at;
      meets = meets orders mid.boxes so.mail.boxes so.mail.boxes so.mail.told so.mail.size mail_tells (nothing_moved old.boxes mid.boxes so.mail.boxes so.passed.boxes);
      binds = held_back;
      starves = record { seat = Offers; turn = refused_turn (seen_same conns) covers may; starves = (refl, refl, refl, refl) };
    },
  ) where
    offered : s.offered ≡ r.offered
    offered = ap (λ (q : Ring L). q.offered) rest ∙ ap (λ (q : Ring L). q.offered) so.ring

  -- ---- a packet came through the inbox

  not_before : (from : ℕ) → Precedes from 1 Inbox 1 Inbox → ⊥
  not_before from (inl (le, less)) = omega (arith, le, less)
  not_before from (inr (inl (late, later, less))) = omega (arith, less)
  not_before from (inr (inr (early, earlier, less))) = omega (arith, less)

  vain_inbox : (box : List Parcel) → SeenNow → Covers r.next_seat tried offers_tried inbox_tried 1 Inbox → Vain o n x box 1 Inbox
  vain_inbox box seen covers =
      let v = vain 1 Inbox covers seen in
      record { offers = v.offers; inbox = λ before. absurd (not_before x.next_seat before); conns = v.conns }

  apart_now : AreApart now.conns
  apart_now = apart_map (refilled o 0 idle) (λ h. refl) x.conns apart

  -- each connection is fine
  fine_now : SeenNow → Pointwise (Fine words.most mid.table n x.id) m.conns.items now.conns
  fine_now seen = record {
    size = held_length words.most mid.table m.conns.items now.conns held_now;
    at = λ i g u at_g at_u. one i g u at_u (held_at words.most mid.table m.conns.items now.conns i g held_now at_g);
  } where
    one : (i : ℕ) (g : HeldBy L) (u : Held) → slice_get now.conns i ≡ Some u → (h : Held) × (slice_get now.conns i ≡ Some h) × IsHeld words.most mid.table g h
        → Fine words.most mid.table n x.id g u
    one i g u at_u (h, at_h, stands) =
        let both : Some h ≡ Some u = sym at_h ∙ at_u in
        let e : h ≡ u = cc in
        let P : Held → Type 0 = λ z. IsHeld words.most mid.table g z in
        let told = told_at seen i u at_u in
        record { stands = subst P e stands; link = told.0; ports = told.1; actor = at_all (λ (z : Held). z.conn.actor ≡ x.id) now.conns actors_now i u at_u }

  -- what is known of the connections that the ring has now, and of those that the worker has then
  record Taken (us : List Held) : Type 0 where
    pub seen : SeenNow
    pub fine : AllFine words.most mid.table n x.id s.conns.items us
    pub ports : HaveOwnPorts s.conns.items
    pub numbers : AreDistinct (numbers_of s.conns.items r.offered.items)
    pub knows : (after : Inboxes) (c : Boxes) → IsTold after.told c → length c ≡ count → Known (sight n mid.seen after) (record now { conns = us; next_seat = 2 })

  taken_none : (us : List Held) → s.conns.items ≡ m.conns.items → us ≡ now.conns → Taken us
  taken_none us items conns =
      let T : List Held → Type 0 = λ hs. Taken hs in
      let F : List (HeldBy L) → Type 0 = λ hs. AllFine words.most mid.table n x.id hs now.conns in
      let O : List (HeldBy L) → Type 0 = λ hs. HaveOwnPorts hs in
      let N : List (HeldBy L) → Type 0 = λ hs. AreDistinct (numbers_of hs r.offered.items) in
      subst T (sym conns) (record {
        seen = seen_same items;
        fine = subst F (sym items) (all_fine words.most mid.table n x.id m.conns.items now.conns (fine_now (seen_same items)));
        ports = subst O (sym items) own;
        numbers = subst N (sym items) (subst AreDistinct (sym (numbers_now r.offered.items)) is.numbers);
        knows = known_now 2;
      })

  module _ (mine : old.seen.actor ≡ r.id) (us : List Held) (one : One words.most mid.table m.conns.items s.conns.items now held_now apart_now us) where
    abbrev became : Held
    became = record one.h { conn = one.c }

    number_is : one.c.number ≡ one.h.conn.number
    number_is = ap (λ (z : Conn). z.number) one.brings.rest

    seen_one : SeenNow
    seen_one i g at_g =
        let P : List (HeldBy L) → Type 0 = λ hs. slice_get hs i ≡ Some g in
        let a = now_at m.conns.items one.place one.was one.now one.at_was one.rest i g (subst P at_conns at_g) in
        let Q : List (HeldBy L) → Type 0 = λ hs. slice_get hs i ≡ Some a.0 in
        seen_like words mid.table n a.0 g a.2 (sees_at words mid.table mid.binds s n i a.0 sees_now (subst Q (sym one.items) a.1))

    fine_one : Fine words.most mid.table n x.id one.now became
    fine_one =
        let was = (fine_now seen_one).at one.place one.was one.h one.at_was one.at_is in
        let T : ℕ → Type 0 = λ k. IsTold (n.link k) one.h.link in
        record {
          stands = one.stands;
          link = subst T (sym number_is) was.link;
          ports = was.ports;
          actor = ap (λ (z : Conn). z.actor) one.brings.rest ∙ was.actor;
        }

    fine_all : AllFine words.most mid.table n x.id (slice_set m.conns.items one.place one.now) (slice_set now.conns one.place became)
    fine_all =
        let all = fine_now seen_one in
        all_fine words.most mid.table n x.id (slice_set m.conns.items one.place one.now) (slice_set now.conns one.place became)
        (pointwise_set (Fine words.most mid.table n x.id) one.place m.conns.items now.conns one.now became
        (record { size = all.size; at = λ i g u ne at_g at_u. all.at i g u at_g at_u }) fine_one (within m.conns.items one.place one.was one.at_was))

    numbers_one : AreDistinct (numbers_of (slice_set m.conns.items one.place one.now) r.offered.items)
    numbers_one =
        numbers_set m.conns.items r.offered.items one.place one.was one.now one.at_was (number_like m.conns.items one.place one.was one.now one.at_was one.rest)
        (subst AreDistinct (sym (numbers_now r.offered.items)) is.numbers)

    -- the tunnels that the office knows are those that it knew
    knows_one : (after : Inboxes) (c : Boxes) → IsTold after.told c → length c ≡ count
        → Known (sight n mid.seen after) (record now { conns = slice_set now.conns one.place became; next_seat = 2 })
    knows_one after c tells size = by_held (map_get (refilled o 0 idle) x.conns one.place one.h one.at_is) where
      seen_are : mid.seen.entries ≡ old.seen.entries
      seen_are = ap (λ (z : Seen). z.entries) so.passed.seen

      sh : Shared
      sh = shared (record { bind = false }) c

      by_held : (y : Held) × (slice_get x.conns one.place ≡ Some y) × (one.h ≡ refilled o 0 idle y)
          → Known (sight n mid.seen after) (record now { conns = slice_set now.conns one.place became; next_seat = 2 })
      by_held (y, at_y, h_is) =
          let core : one.h.conn ≡ y.conn = ap (λ (z : Held). z.conn) h_is in
          let cores : cores_of (slice_set now.conns one.place became) ≡ cores_of (replace y.conn.number (Some became) x.conns) =
          map-set (λ (h : Held). h.conn) now.conns one.place became
          ∙ ap (λ (cs : List Conn). slice_set cs one.place one.c) (cores_refilled o 0 idle x.conns)
          ∙ sym (map-set (λ (h : Held). h.conn) x.conns one.place became)
          ∙ ap (λ (hs : List Held). cores_of hs) (sym (replace_sets x.conns one.place y became apart at_y)) in
          let last : y.conn.next_tunnel ≤ length old.seen.entries = at_all (λ (h : Held). h.conn.next_tunnel ≤ length old.seen.entries) x.conns known.last one.place y at_y in
          let next : one.c.next_tunnel ≡ y.conn.next_tunnel = ap (λ (z : Conn). z.next_tunnel) one.brings.rest ∙ ap (λ (z : Conn). z.next_tunnel) core in
          let placed = at_all (λ (h : Held). ArePlaced old.seen.config.workers h.conn.due) x.conns known.places one.place y at_y in
          let due : one.c.due ≡ y.conn.due = ap (λ (z : Conn). z.due) one.brings.rest ∙ ap (λ (z : Conn). z.due) core in
          let D : List Due → Type 0 = λ ds. ArePlaced old.seen.config.workers ds in
          let long : length mid.seen.entries ≡ length old.seen.entries = ap (λ (b : List Entry). length b) seen_are in
          known_goes (sight o old.seen old.boxes) (sight n mid.seen after) x (record now { conns = slice_set now.conns one.place became; next_seat = 2 }) y.conn.number y (Some became)
          sh sh known (mine ∙ sym is.id) apart (record { at = found_at x.conns one.place y apart at_y; id = refl; setup = refl; cores = cores })
          (λ g some.
          let e : became ≡ g = cc in
          let P : Held → Type 0 = λ z. (z.conn.number ≡ y.conn.number) × (z.conn.next_tunnel ≤ length mid.seen.entries) × ArePlaced old.seen.config.workers z.conn.due in
          subst P e (number_is ∙ ap (λ (z : Conn). z.number) core, omega (arith, last, next, long), subst D (sym due) placed))
          (at_all (λ (h : Held). h.conn.actor ≡ x.id) x.conns is.actors one.place y at_y) (sees_same old.seen) seen_are same_seen.config
          (inl (record { tunnels_are = one.brings.shapes ∙ ap (λ (z : Conn). shapes_of z.tunnels) core; book = refl })) (sized after c tells size)

    taken_one : Taken us
    taken_one =
        let T : List Held → Type 0 = λ hs. Taken hs in
        let F : List (HeldBy L) → Type 0 = λ hs. AllFine words.most mid.table n x.id hs (slice_set now.conns one.place became) in
        let O : List (HeldBy L) → Type 0 = λ hs. HaveOwnPorts hs in
        let N : List (HeldBy L) → Type 0 = λ hs. AreDistinct (numbers_of hs r.offered.items) in
        subst T (sym one.conns) (record {
          seen = seen_one;
          fine = subst F (sym one.items) fine_all;
          ports = subst O (sym one.items) (own_ports_like m.conns.items one.place one.was one.now one.at_was one.rest own);
          numbers = subst N (sym one.items) numbers_one;
          knows = knows_one;
        })

  taken_by : old.seen.actor ≡ r.id → (us : List Held) → Becomes words.most mid.table m.conns.items s.conns.items now held_now apart_now us → Taken us
  taken_by mine us (inl (items, conns)) = taken_none us items conns
  taken_by mine us (inr one) = taken_one mine us one

  -- The parcel in front of the inbox was taken, and came to its tunnel, or was dropped. The inbox wasn't tried before.
  pub taken_gives : (orders : Orders) (said : Note) (boxes_after : Inboxes) → old.seen.actor ≡ r.id
      → Covers r.next_seat tried offers_tried inbox_tried 1 Inbox → Takes count mid.boxes r.id m s said boxes_after
      → (t : Worker) × IsWorker words.most mid.table s t × HasTold n t × Known (sight n mid.seen boxes_after) t × Writes old.seen mid.seen x.id
      × StepDone orders (sight o old.seen old.boxes) (sight n mid.seen boxes_after) x said t
  taken_gives orders said boxes_after mine covers takes = (
    became_then,
    worker,
    (taken.fine.told, offers_same offered),
    taken.knows boxes_after p.after p.is size,
    nothing_written,
    record {
      now = now;
      box = box;
      seat = Inbox;
      answer = Said;
      sh = shared orders p.before;
      after = shared orders p.after;
      refills = refills o 0 idle x;
      was = was_box old.boxes.told p.before r.id x.id box told is.id p.does.1;
      meets = meets orders boxes_after p.before p.after told p.size p.is moved;
      turn = turn_is o n x box 0 idle 1 Inbox apart refl (λ i h at found. inr refl) can_here vain_here;
      waited = before_waited o n x box 0 idle 1 Inbox apart refl (λ i h at found. inr refl) can_here vain_here;
      faults = faults;
      binds = held_back;
      became = became_then;
      next = (refl, takes_out);
      is = refl;
    },
  ) where
    c : Came words.most mid.table m.conns.items s.conns.items now held_now apart_now takes.parcel said
    c = came words.most mid.table m.conns.items s.conns.items now held_now apart_now takes.parcel said takes.comes

    taken : Taken c.us
    taken = taken_by mine c.us c.becomes

    became_then : Worker
    became_then = record now { conns = c.us; next_seat = 2 }

    p : PopGives count mid.boxes r.id (Some takes.parcel) boxes_after
    p = takes.pops

    rest : List Parcel
    rest = p.does.0

    box : List Parcel
    box = takes.parcel ∷ rest

    told : IsTold old.boxes.told p.before
    told = let P : Inboxes → Type 0 = λ bs. IsTold bs.told p.before in subst P so.passed.boxes p.was

    moved : MailMoves old.boxes boxes_after p.before p.after
    moved =
        let P : Inboxes → Type 0 = λ bs. MailMoves bs boxes_after p.before p.after in
        subst P so.passed.boxes (pop_moved count r.id mid.boxes boxes_after takes.parcel p)

    offered : s.offered ≡ r.offered
    offered = ap (λ (q : Ring L). q.offered) takes.rest ∙ ap (λ (q : Ring L). q.offered) so.ring

    size : length p.after ≡ count
    size = ap (λ (b : Boxes). length b) p.does.2 ∙ set_length p.before r.id rest ∙ p.size

    can_here : can_act now box Inbox ≡ true
    can_here = lt-ltb 0 (length box) (omega arith)

    vain_here : Vain o n x box 1 Inbox
    vain_here = vain_inbox box taken.seen covers

    worker : IsWorker words.most mid.table s became_then
    worker =
        let offers : s.offered.items ≡ r.offered.items = ap (λ q. q.items) offered in
        let setup : s.setup ≡ m.setup = ap (λ (q : Ring L). q.setup) takes.rest in
        let O : List (OfferBy L) → Type 0 = λ gs. AreOffered gs now.offered in
        let N : List (OfferBy L) → Type 0 = λ gs. AreDistinct (numbers_of s.conns.items gs) in
        record {
          id = sym id_now ∙ ap (λ (q : Ring L). q.id) (sym takes.rest);
          setup = sym setup_now ∙ sym setup;
          offered = subst O (sym offers) (offered_refilled o r.offered.items x.offered is.offered);
          conns = taken.fine.held;
          next = ap (λ (q : Ring L). q.next_seat) (sym takes.rest);
          actors = taken.fine.actors;
          rooms = subst HasRooms (ap (λ (q : Ring L). q.rooms) (sym takes.rest)) rooms;
          ports = taken.ports;
          numbers = subst N (sym offers) taken.numbers;
        }

    takes_out : InboxNext now (shared orders p.before) said became_then (shared orders p.after)
    takes_out =
        let P : ℕ → Type 0 = λ k. slice_get p.before k ≡ Some (takes.parcel ∷ rest) in
        record {
          parcel = takes.parcel;
          rest = rest;
          box = subst P (sym is.id) p.does.1;
          is = c.popped_is;
          after_is = ap (shared orders) (p.does.2 ∙ ap (λ (k : ℕ). slice_set p.before k rest) (sym is.id));
        }

  -- ---- a link was accepted

  -- the first offered link and the others, as the worker has them
  record First (first : OfferBy L) (others : List (OfferBy L)) : Type 0 where
    pub f : Offer
    pub fs : List Offer
    pub offered : x.offered ≡ f ∷ fs
    pub number : f.number ≡ first.number
    pub are : AreOffered others fs

  first_of : (first : OfferBy L) (others : List (OfferBy L)) → m.offered.items ≡ first ∷ others → First first others
  first_of first others offered =
      let P : List (OfferBy L) → Type 0 = λ gs. AreOffered gs x.offered in
      let are : AreOffered (first ∷ others) x.offered = subst P (ap (λ (q : Ring L). q.offered.items) (sym so.ring) ∙ offered) is.offered in
      let found = offered_first first others x.offered are in
      record { f = found.0; fs = found.1; offered = found.2; number = found.3; are = found.4 }

  -- The link that was offered first is a connection now.
  pub accepted_gives : (orders : Orders) (said : Note) → Covers r.next_seat tried offers_tried inbox_tried 0 Offers → Accepts m s said
      → (t : Worker) × IsWorker words.most mid.table s t × HasTold n t × Known (sight n mid.seen mid.boxes) t × Writes old.seen mid.seen x.id
      × StepDone orders (sight o old.seen old.boxes) (sight n mid.seen mid.boxes) x said t
  accepted_gives orders said covers acc = (
    became,
    worker,
    (told_pushed n now.conns new (told_now seen) offers_told_now.0 tt, offers_told_now.1),
    known_accepted (sight o old.seen old.boxes) (sight n mid.seen mid.boxes) x became f.number known refl refl cores so.passed.seen
        (sized mid.boxes so.mail.boxes mail_tells so.mail.size),
    nothing_written,
    record {
      now = now;
      box = so.box;
      seat = Offers;
      answer = Said;
      sh = shared orders so.mail.boxes;
      after = shared orders so.mail.boxes;
      refills = refills o 0 idle x;
      was = was_box old.boxes.told so.mail.boxes r.id x.id so.box so.mail.told is.id so.mail.at;
      meets = meets orders mid.boxes so.mail.boxes so.mail.boxes so.mail.told so.mail.size mail_tells (nothing_moved old.boxes mid.boxes so.mail.boxes so.passed.boxes);
      turn = turn_is o n x so.box 0 idle 0 Offers apart refl (λ i h at same. inr refl) can (vain 0 Offers covers seen);
      waited = before_waited o n x so.box 0 idle 0 Offers apart refl (λ i h at same. inr refl) can (vain 0 Offers covers seen);
      faults = faults;
      binds = held_back;
      became = became;
      next = (refl, accepts, refl);
      is = refl;
    },
  ) where
    first : OfferBy L
    first = acc.first

    others : List (OfferBy L)
    others = acc.others

    of : First first others
    of = first_of first others acc.offered

    f : Offer
    f = of.f

    new : Held
    new = record { conn = new_conn f.number x.id; link = (reoffered o f).link; ports = [] }

    became : Worker
    became = record now { offered = map (reoffered o) of.fs; conns = now.conns ++ new ∷ []; next_seat = 1 }

    seen : SeenNow
    seen = seen_with (acc.held ∷ []) acc.conns

    -- ---- the turn

    can : can_act now so.box Offers ≡ true
    can =
        let live = acc.live in
        let same = size_now in
        offers_can o x so.box 0 idle (λ none. let e : ◌≡◌ {A = List Offer} [] (f ∷ of.fs) = sym none ∙ of.offered in absurd cc) (omega (arith, live, same))

    says : note.Accepted f.number x.id ≡ said
    says =
        ap (λ (k : ℕ). note.Accepted k x.id) of.number ∙ ap (λ (k : ℕ). note.Accepted first.number k) (sym id_now) ∙ sym acc.said_is

    accepts : accepted now now.offered ≡ Some (said, became)
    accepts =
        ap (λ (fs : List Offer). accepted now (map (reoffered o) fs)) of.offered ∙ ap (λ (k : Note). Some (k, became)) says

    -- ---- what is told

    links_same : (i : ℕ) (y : Offer) → slice_get (f ∷ of.fs) i ≡ Some y → n.link y.number ≡ o.link y.number
    links_same zero y at =
        let e : f ≡ y = cc in
        let all : r.offered.items ≡ first ∷ others = ap (λ (q : Ring L). q.offered.items) (sym so.ring) ∙ acc.offered in
        let G : List (OfferBy L) → Type 0 = λ gs. slice_get gs 0 ≡ Some first in
        let H : List (HeldBy L) → Type 0 = λ hs. slice_get hs (length m.conns.items) ≡ Some acc.held in
        let held = sees_at words mid.table mid.binds s n (length m.conns.items) acc.held sees_now
        (subst H (sym acc.conns) (get_last m.conns.items acc.held)) in
        let before : o.link first.number ≡ words.link first.link = at_all (SeesOffer words o) r.offered.items sees.offers 0 first (subst G (sym all) refl) in
        let number : y.number ≡ first.number = ap (λ (z : Offer). z.number) (sym e) ∙ of.number in
        ap n.link (number ∙ sym acc.number) ∙ held.of_link.link_is ∙ ap words.link acc.link ∙ sym before ∙ ap o.link (sym number)
    links_same (suc i) y at = behind (offered_at others of.fs i y of.are at) where
      behind : (g : OfferBy L) × (slice_get others i ≡ Some g) × (y.number ≡ g.number) → n.link y.number ≡ o.link y.number
      behind (g, at_g, e) =
          let all : r.offered.items ≡ first ∷ others = ap (λ (q : Ring L). q.offered.items) (sym so.ring) ∙ acc.offered in
          let P : List (OfferBy L) → Type 0 = λ gs. slice_get gs (suc i) ≡ Some g in
          let R : List (OfferBy L) → Type 0 = λ gs. slice_get gs i ≡ Some g in
          let before : o.link g.number ≡ words.link g.link = at_all (SeesOffer words o) r.offered.items sees.offers (suc i) g (subst P (sym all) at_g) in
          let after : n.link g.number ≡ words.link g.link = at_all (SeesOffer words n) s.offered.items sees_now.offers i g (subst R (sym acc.left) at_g) in
          ap n.link e ∙ after ∙ sym before ∙ ap o.link (sym e)

    offers_told_now : OffersTold n (map (reoffered o) (f ∷ of.fs))
    offers_told_now = offers_told o n (f ∷ of.fs) links_same

    -- ---- the ring and the office

    cores : cores_of became.conns ≡ cores_of x.conns ++ new_conn f.number x.id ∷ []
    cores =
        cores_pushed now.conns new ∙ ap (λ (cs : List Conn). cs ++ new_conn f.number x.id ∷ []) (cores_refilled o 0 idle x.conns)

    stands : IsHeld words.most mid.table acc.held new
    stands =
        let A : ℕ → Type 0 = λ k. IsConn acc.held.conn (new_conn k m.id) in
        let B : ℕ → Type 0 = λ k. IsConn acc.held.conn (new_conn f.number k) in
        relinked words.most mid.table acc.held (record { conn = new_conn f.number x.id; link = new_link; ports = [] }) (reoffered o f).link
        (new_stands words.most mid.table acc.held f.number x.id (subst B id_now (subst A (sym of.number) acc.conn)) (acc.number ∙ sym of.number)
        acc.ports acc.bound)

    worker : IsWorker words.most mid.table s became
    worker =
        let O : List (OfferBy L) → Type 0 = λ gs. AreOffered gs (map (reoffered o) of.fs) in
        let C : List (HeldBy L) → Type 0 = λ hs. AreHeld words.most mid.table hs became.conns in
        let P : List (HeldBy L) → Type 0 = λ hs. HaveOwnPorts hs in
        let offers : r.offered.items ≡ first ∷ others = ap (λ (q : Ring L). q.offered.items) (sym so.ring) ∙ acc.offered in
        let numbers : numbers_of s.conns.items s.offered.items ≡ numbers_of r.conns.items r.offered.items =
        ap (λ (hs : List (HeldBy L)). numbers_of hs s.offered.items) acc.conns
        ∙ ap (λ (gs : List (OfferBy L)). numbers_of (m.conns.items ++ acc.held ∷ []) gs) acc.left
        ∙ numbers_moved m.conns.items acc.held first others acc.number ∙ numbers_now (first ∷ others)
        ∙ ap (λ (gs : List (OfferBy L)). numbers_of r.conns.items gs) (sym offers) in
        record {
          id = sym id_now ∙ ap (λ (q : Ring L). q.id) (sym acc.rest);
          setup = sym setup_now ∙ ap (λ (q : Ring L). q.setup) (sym acc.rest);
          offered = subst O (sym acc.left) (offered_refilled o others of.fs of.are);
          conns = subst C (sym acc.conns) (held_pushed words.most mid.table m.conns.items now.conns acc.held new held_now stands);
          next = ap (λ (q : Ring L). q.next_seat) (sym acc.rest);
          actors = All-push (λ (h : Held). h.conn.actor ≡ x.id) now.conns new actors_now refl;
          rooms = subst HasRooms (ap (λ (q : Ring L). q.rooms) (sym acc.rest)) rooms;
          ports = subst P (sym acc.conns) (ports_pushed m.conns.items acc.held acc.ports acc.bound own);
          numbers = subst AreDistinct (sym numbers) is.numbers;
        }
