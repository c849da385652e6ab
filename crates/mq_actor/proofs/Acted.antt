-- A connection acts: what its step gives is what the worker's step gives.
use Rattle.std.proofs.Common.{◌≡◌, ◌≢◌, ◌⊎◌, inl, inr, ℕ, ◌+◌, ◌<◌, ◌≤◌, true, List, [], ◌∷◌, ◌++◌, length, map, remove, Contains, slice_get, slice_set, Option, Some, None, refl, sym, ap, subst, ◌∙◌, arith}
use Rattle.std.specs.Prelude.{option_map}
use Rattle.std.proofs.lemmas.Bool.{cases_eq}
use Rattle.std.proofs.lemmas.List.{map-set, length-map}
use Rattle.std.proofs.lemmas.List.Elements.{All-contains}
use Rattle.slab.specs.Slab.{Slab}
use Rattle.mq_talk.specs.declared.book.Config.{Config}
use Rattle.mq_talk.specs.declared.book.Entry.{Entry}
use Rattle.mq_talk.specs.declared.note.Note.{Note}
use Rattle.mq_talk.specs.declared.place.Parcel.{Parcel}
use Rattle.mq_talk.specs.Answers.{IsLegal}
use Rattle.mq_talk.specs.Mails.{Boxes, IsTold}
use Rattle.mq_machine.specs.Placing.{ArePlaced}
use Rattle.mq_machine.specs.State.{Conn, Held, Offer, Worker, Tunnel, Orders, Shared}
use Rattle.mq_machine.specs.Steps.{starved}
use Rattle.mq_machine.specs.Want.{Answer}
use Rattle.mq_machine.specs.Turn.{Of, Try, try_of, can_act, seats_of, turn_of, replace, with_held, TryNext}
use Rattle.mq_machine.specs.Acting.{Outside, HasTold, Known, OffersTold, Shares, WasInbox, StepDone, StepSilent, FaultsFit as worker_fits, BindFits, with_prepared as worker_prepared, Writes}
use Rattle.mq_conn.specs.Conns.{IsConn}
use Rattle.mq_held.specs.declared.held.Held.{Held as HeldBy}
use Rattle.mq_step.specs.Holds.{IsHeld, KeepsOthers}
use Rattle.mq_step.specs.Rooms.{HasRooms}
use Rattle.mq_step.specs.Sights.{Found}
use Rattle.mq_step.specs.Whole.{filled, FaultsFit as HeldFits}
use Rattle.mq_step.specs.Wanted.{with_prepared}
use Rattle.mq_step.specs.Gives.{Turned, Starved, StandsAsTold, Anything}
use Rattle.mq_machine.specs.Turn.{tries_of}
use Rattle.mq_actor.specs.declared.offer.Offer.{Offer as OfferBy}
use Rattle.mq_actor.specs.declared.ring.Ring.{Ring}
use Rattle.mq_actor.specs.Goes.{Goes, shapes_of}
use Rattle.mq_actor.specs.Holds.{IsWorker, HaveOwnPorts, AreOffered, AreDistinct, numbers_of}
use Rattle.mq_actor.specs.Passing.{Tried}
use Rattle.mq_actor.specs.Seen.{Words, Moment, SeesConn, SeesRing}
use Rattle.mq_actor.specs.Steps.{sight}
use Rattle.mq_actor.proofs.Between.{vain_so_far, apart_of, numbers_passed}
use Rattle.mq_actor.proofs.Cores.{AreApart, cores_of, tunnels_or}
use Rattle.mq_actor.proofs.Books.{open_within}
use Rattle.mq_actor.proofs.Going.{Left, try_leaves, try_ends, starved_goes}
use Rattle.mq_actor.proofs.InRing.{all_at, at_all}
use Rattle.mq_actor.proofs.Lefts.{AllFine, all_fine, numbers_set, numbers_removed}
use Rattle.mq_actor.proofs.Lists.{map_remove, map_get, seat_at, found_at, replace_sets, replace_removes, apart_map, get_map}
use Rattle.mq_actor.proofs.Neighbours.{Harmless, Fine, fine_still, Here, other, others_fine, as_many}
use Rattle.mq_actor.proofs.Opened.{sees_longer, goes_longer}
use Rattle.mq_actor.proofs.Placing.{IsFit, try_placed}
use Rattle.mq_actor.proofs.Pointwise.{PointwiseBut, pointwise_set, pointwise_removed, there, within}
use Rattle.mq_actor.proofs.Refilled.{found_here, refilled, reoffered, refill, refills, held_prepared, prepared_core, prepared_link, prepared_worker, told_prepared, faults_refilled, offers_told}
use Rattle.mq_actor.proofs.SoFar.{SoFar, Covers, Vain}
use Rattle.mq_actor.proofs.Tunnels.{IsNext, known_goes}
use Rattle.mq_actor.proofs.Writing.{writes_goes}
use Rattle.mq_actor.proofs.Turning.{FoundAt, turn_is, before_waited, conn_can, held_is}

-- ---- what is found again

-- a connection that became something
pub mapped_some : (F : Held → Held) (o : Option Held) (t : Held) → Some t ≡ option_map F o → (b : Held) × (o ≡ Some b) × (t ≡ F b)
mapped_some F None t e = absurd cc
mapped_some F (Some b) t e = (b, refl, cc)

-- or nothing
pub mapped_none : (F : Held → Held) (o : Option Held) → None ≡ option_map F o → o ≡ None
mapped_none F None e = refl
mapped_none F (Some b) e = absurd cc

-- the cores stay where a change leaves each its own
pub cores_map : (F : Held → Held) (hs : List Held) → ((h : Held) → (F h).conn ≡ h.conn) → cores_of (map F hs) ≡ cores_of hs
cores_map F [] same = refl
cores_map F (h ∷ hs) same = ap {B = List Conn} (λ (c : Conn). c ∷ cores_of (map F hs)) (same h) ∙ ap {B = List Conn} (λ (cs : List Conn). h.conn ∷ cs) (cores_map F hs same)

was_inbox : (boxes : Option Boxes) (kept : Boxes) (id : ℕ) (box : List Parcel) → IsTold boxes kept → slice_get kept id ≡ Some box → WasInbox boxes id box
was_inbox None kept id box told at = tt
was_inbox (Some bs) kept id box told at = let e : kept ≡ bs = told in ap (λ (x : Boxes). slice_get x id) (sym e) ∙ at

-- the change of ports that were prepared is harmless
pub prepared_harmless : (L : Type 0) {Q : Type 0} (most : Q → ℕ) (table : Slab Q) (n : Outside) (answer : Answer) → Harmless L most table n (with_prepared n answer)
prepared_harmless L most table n answer = record {
  conn = prepared_core n answer;
  link = prepared_link n answer;
  stands = λ h s held. held_prepared most table h n answer s held;
  told = told_prepared n answer;
}

module _ {L Q : Type 0} (words : Words L Q) (r m : Ring L) (old mid new : Moment L Q) (count : ℕ)
    (tried : Tried) (offers_tried inbox_tried : Type 0) (so : SoFar words r m old mid count tried offers_tried inbox_tried)
    (o n : Outside) (sees : SeesRing words old.table old.binds r o) (x : Worker) (is : IsWorker words.most old.table r x)
    (place : ℕ) (was now : HeldBy L) (at : slice_get mid.conns place ≡ Some was) (untried : tried place was.number → ⊥)
    (own : HaveOwnPorts mid.conns) (keeps : KeepsOthers was now mid.table new.table)
    (beside : (j : ℕ) (g : HeldBy L) → j ≢ place → slice_get mid.conns j ≡ Some g → SeesConn words new.table g n)
    (covers : Covers r.next_seat tried offers_tried inbox_tried (place + 2) (Of was.number))
    (size : count ≡ old.seen.config.workers + 1) (mine : old.seen.actor ≡ r.id) (known : Known (sight o old.seen old.boxes) x)
    (offers_same : (i : ℕ) (f : Offer) → slice_get x.offered i ≡ Some f → n.link f.number ≡ o.link f.number)
    (fit : IsFit new.seen new.boxes) (acting : Here words r m old mid new count tried offers_tried inbox_tried so o n sees x is place was now at) where
  apart : AreApart x.conns
  apart = apart_of words.most old.table r x is

  abbrev pub number : ℕ
  number = acting.s.conn.number

  many : length mid.conns ≡ length x.conns
  many = as_many words r m old mid new count tried offers_tried inbox_tried so o n sees x is place was now at

  sees_mid : (i : ℕ) (g : HeldBy L) → slice_get mid.conns i ≡ Some g → tried i g.number → SeesConn words mid.table g n
  sees_mid i g at_g was_tried = by_case (cases_eq i place) where
    by_case : (i ≡ place) ⊎ (i ≡ place → ⊥) → SeesConn words mid.table g n
    by_case (inl same) =
        let both : Some was ≡ Some g = sym at ∙ ap (λ (k : ℕ). slice_get mid.conns k) (sym same) ∙ at_g in
        let e : was ≡ g = cc in
        let T : ℕ → Type 0 = λ k. tried k was.number in
        let U : HeldBy L → Type 0 = λ h. tried i h.number in
        absurd (untried (subst T same (subst U (sym e) was_tried)))
    by_case (inr ne) =
        let lt = within mid.conns i g at_g in
        let s = there x.conns i (omega (arith, lt, many)) in
        let x_is = other words r m old mid new count tried offers_tried inbox_tried so o n sees x is place was now at own keeps beside i s.0 ne s.1 in
        let both : Some x_is.g ≡ Some g = sym x_is.at_is ∙ at_g in
        let e : x_is.g ≡ g = cc in
        let S : HeldBy L → Type 0 = λ h. SeesConn words mid.table h n in
        subst S e x_is.sees_now

  vain : Vain o n x so.box (place + 2) (Of number)
  vain =
      let V : ℕ → Type 0 = λ k. Vain o n x so.box (place + 2) (Of k) in
      subst V (sym acting.stands.number)
      (vain_so_far words r m old mid count tried offers_tried inbox_tried so o n sees x is (place + 2) (Of was.number) covers sees_mid)

  found_at_place : (found : Found) → FoundAt x number found (place + 2)
  found_at_place found = λ i h at_h same. let e = apart i place h acting.s at_h acting.at_is same in inl (omega (arith, e))

  seat_is : slice_get (seats_of x) (place + 2) ≡ Some (Of number)
  seat_is = seat_at x place acting.s acting.at_is

  box_was : WasInbox old.boxes.told x.id so.box
  box_was = was_inbox old.boxes.told so.mail.boxes x.id so.box so.mail.told (ap (λ (k : ℕ). slice_get so.mail.boxes k) is.id ∙ so.mail.at)

  fits : (found : Found) → HeldFits o n (filled o found acting.s) → worker_fits o n (refill o number found x)
  fits found here_fits = faults_refilled o n number found x (λ h has same. All-contains P x.conns h (all_at P x.conns each) has same) where
    P : Held → Type 0
    P h = h.conn.number ≡ number → HeldFits o n (filled o found h)

    each : (i : ℕ) (h : Held) → slice_get x.conns i ≡ Some h → P h
    each i h at_h same =
        let e = apart i place h acting.s at_h acting.at_is same in
        let both : Some h ≡ Some acting.s = sym at_h ∙ ap (λ (k : ℕ). slice_get x.conns k) e ∙ acting.at_is in
        let eh : h ≡ acting.s = cc in
        let F : Held → Type 0 = λ z. HeldFits o n (filled o found z) in
        subst F (sym eh) here_fits

  -- the others behind the step, harmlessly changed
  others_but : (F : Held → Held) (found : Found) → Harmless L words.most new.table n F
      → PointwiseBut (Fine words.most new.table n x.id) place mid.conns (map F (refill o number found x).conns)
  others_but F found safe =
      let but = others_fine words r m old mid new count tried offers_tried inbox_tried so o n sees x is place was now at own keeps beside found acting.s acting.at_is in
      record {
        size = but.size ∙ sym (length-map (refill o number found x).conns F);
        at = λ i g u ne at_g at_u. by_one i g u ne at_g (map_get F (refill o number found x).conns i u at_u) but;
      } where
        by_one : (i : ℕ) (g : HeldBy L) (u : Held) → i ≢ place → slice_get mid.conns i ≡ Some g
            → ((v : Held) × (slice_get (refill o number found x).conns i ≡ Some v) × (u ≡ F v)) → PointwiseBut (Fine words.most new.table n x.id) place mid.conns (refill o number found x).conns
            → Fine words.most new.table n x.id g u
        by_one i g u ne at_g (v, at_v, u_is) but =
            let U : Held → Type 0 = λ z. Fine words.most new.table n x.id g z in
            subst U (sym u_is) (fine_still L words.most new.table n F x.id g v safe (but.at i g v ne at_g at_v))

  offered_told : OffersTold n (map (reoffered o) x.offered)
  offered_told = offers_told o n x.offered offers_same

  -- ---- the worker behind the step

  lt_place : place < length mid.conns
  lt_place = within mid.conns place was at

  offered_again : (fs : List (OfferBy L)) (xs : List Offer) → AreOffered fs xs → AreOffered fs (map (reoffered o) xs)
  offered_again [] [] are = tt
  offered_again [] (f ∷ xs) are = absurd are
  offered_again (f ∷ fs) [] are = absurd are
  offered_again (f ∷ fs) (y ∷ xs) are = (are.0, offered_again fs xs are.1)

  worker_stands : (s : Ring L) (us : List Held) (found : Found) (next : ℕ) → s.id ≡ r.id → s.setup ≡ r.setup → s.offered.items ≡ r.offered.items → s.next_seat ≡ next
      → AllFine words.most new.table n x.id s.conns.items us → HasRooms s.rooms → HaveOwnPorts s.conns.items → AreDistinct (numbers_of s.conns.items r.offered.items)
      → IsWorker words.most new.table s (record (refill o number found x) { conns = us; next_seat = next })
  worker_stands s us found next id setup offered next_is fine rooms ports numbers =
      let O : List (OfferBy L) → Type 0 = λ q. AreOffered q (map (reoffered o) x.offered) in
      let N : List (OfferBy L) → Type 0 = λ q. AreDistinct (numbers_of s.conns.items q) in
      record {
        id = is.id ∙ sym id;
        setup = is.setup ∙ sym setup;
        offered = subst O (sym offered) (offered_again r.offered.items x.offered is.offered);
        conns = fine.held;
        next = sym next_is;
        actors = fine.actors;
        rooms = rooms;
        ports = ports;
        numbers = subst N (sym offered) numbers;
      }

  numbers_mid : AreDistinct (numbers_of mid.conns r.offered.items)
  numbers_mid =
      let os : List ℕ = map (λ (f : OfferBy L). f.number) r.offered.items in
      let e = numbers_passed words old mid tried so.passed in
      let A : List (HeldBy L) → Type 0 = λ hs. AreDistinct (numbers_of hs r.offered.items) in
      subst AreDistinct (ap (λ (ns : List ℕ). ns ++ os) (sym e)) (subst A (sym so.starts) is.numbers)

  -- the worker as it was refilled, at this place
  at_refilled : (found : Found) → slice_get (refill o number found x).conns place ≡ Some (refilled o number found acting.s)
  at_refilled found = get_map (refilled o number found) x.conns place acting.s acting.at_is

  apart_refilled : (found : Found) → AreApart (refill o number found x).conns
  apart_refilled found = apart_map (refilled o number found) (λ h. refl) x.conns apart

  filled_is : (found : Found) → refilled o number found acting.s ≡ filled o found acting.s
  filled_is found = ap (λ (f : Found). filled o f acting.s) (found_here number found)

  -- its cores, where the connection became another
  cores_set : (F : Held → Held) (found : Found) (u : Held) → ((h : Held) → (F h).conn ≡ h.conn)
      → cores_of (slice_set (map F (refill o number found x).conns) place u) ≡ cores_of (replace number (Some u) x.conns)
  cores_set F found u same =
      map-set (λ (h : Held). h.conn) (map F (refill o number found x).conns) place u
      ∙ ap (λ (cs : List Conn). slice_set cs place u.conn) (cores_map F (refill o number found x).conns same ∙ cores_map (refilled o number found) x.conns (λ h. refl))
      ∙ sym (map-set (λ (h : Held). h.conn) x.conns place u)
      ∙ ap (λ (hs : List Held). cores_of hs) (sym (replace_sets x.conns place acting.s u apart acting.at_is))

  -- or ended
  cores_removed : (F : Held → Held) (found : Found) → ((h : Held) → (F h).conn ≡ h.conn)
      → cores_of (remove (map F (refill o number found x).conns) place) ≡ cores_of (replace number None x.conns)
  cores_removed F found same =
      map_remove (λ (h : Held). h.conn) (map F (refill o number found x).conns) place
      ∙ ap (λ (cs : List Conn). remove cs place) (cores_map F (refill o number found x).conns same ∙ cores_map (refilled o number found) x.conns (λ h. refl))
      ∙ sym (map_remove (λ (h : Held). h.conn) x.conns place)
      ∙ ap (λ (hs : List Held). cores_of hs) (sym (replace_removes x.conns place acting.s apart acting.at_is))

  known_then : (t : Worker) (became : Option Held) (orders : Orders) (sh after : Shared) → t.id ≡ x.id → t.setup ≡ x.setup → cores_of t.conns ≡ cores_of (replace number became x.conns)
      → IsNext number (length new.seen.entries) old.seen.config.workers became
      → Shares old.seen new.seen old.boxes new.boxes orders sh after → Goes acting.s.conn sh (tunnels_or became) after → Known (sight n new.seen new.boxes) t
  known_then t became orders sh after id setup cores each shares goes =
      known_goes (sight o old.seen old.boxes) (sight n new.seen new.boxes) x t number acting.s became sh after known (mine ∙ sym is.id) apart
      (record { at = found_at x.conns place acting.s apart acting.at_is; id = id; setup = setup; cores = cores }) each acting.actor shares.book shares.wrote shares.same.config goes
      fit.boxes

  -- ---- it did something

  module _ (found : Found) (try : Try) (answer : Answer) (orders : Orders) (sh after : Shared) (said : Note) (first : try_of (filled o found acting.s) ≡ Some try)
      (shares : Shares old.seen new.seen old.boxes new.boxes orders sh after) (here_fits : HeldFits o n (filled o found acting.s)) (binds : BindFits o n answer) where
    X : Worker
    X = refill o number found x

    can : can_act (refill o number found x) so.box (Of number) ≡ true
    can = conn_can o x so.box found place acting.s try apart acting.at_is first

    turn : turn_of (refill o number found x) so.box ≡ Some (Of number)
    turn = turn_is o n x so.box number found (place + 2) (Of number) apart seat_is (found_at_place found) can vain

    -- what the worker's step gives, where the connection became this
    done : (became : Option Held) (t : Worker) → TryNext x.setup (filled o found acting.s) sh try answer said became after
        → t ≡ worker_prepared n answer (with_held (refill o number found x) number became) → StepDone orders (sight o old.seen old.boxes) (sight n new.seen new.boxes) x said t
    done became t next t_is = record {
      now = refill o number found x;
      box = so.box;
      seat = Of number;
      answer = answer;
      sh = sh;
      after = after;
      refills = refills o number found x;
      was = box_was;
      meets = shares;
      turn = turn;
      waited = before_waited o n x so.box number found (place + 2) (Of number) apart seat_is (found_at_place found) can vain;
      faults = fits found here_fits;
      binds = binds;
      became = with_held (refill o number found x) number became;
      next = record {
        held = filled o found acting.s;
        try = try;
        became = became;
        has = held_is o x found place acting.s apart acting.at_is;
        tries = first;
        next = next;
        new_is = refl;
      };
      is = t_is;
    }

  -- ---- what each result gives

  -- how the ring is left, whatever the result
  pub record Rest (s : Ring L) (next : ℕ) : Type 0 where
    pub id : s.id ≡ r.id
    pub setup : s.setup ≡ r.setup
    pub offered : s.offered.items ≡ r.offered.items
    pub next_is : s.next_seat ≡ next
    pub rooms : HasRooms s.rooms
    pub ports : HaveOwnPorts s.conns.items

  next_within : (new_conn : Conn) (sh after : Shared) (orders : Orders) → Shares old.seen new.seen old.boxes new.boxes orders sh after → Left acting.s.conn sh new_conn after
      → new_conn.next_tunnel ≤ length new.seen.entries
  next_within c sh after orders shares left = by_next left.next where
    grows : length old.seen.entries ≤ length new.seen.entries
    grows =
        let a = sees_longer old.seen sh.book shares.book in
        let b = goes_longer acting.s.conn sh after c.tunnels left.goes in
        let e = ap (λ (h : List Entry). length h) shares.wrote in
        omega (arith, a, b, e)

    by_next : (c.next_tunnel ≡ acting.s.conn.next_tunnel) ⊎ ((t : Tunnel) × Contains acting.s.conn.tunnels t × (c.next_tunnel ≡ t.id + 1)) → c.next_tunnel ≤ length new.seen.entries
    by_next (inl same) =
        let P : Held → Type 0 = λ h. h.conn.next_tunnel ≤ length old.seen.entries in
        let le = at_all P x.conns known.last place acting.s acting.at_is in
        omega (arith, same, le, grows)
    by_next (inr (t, has, is_next)) =
        let open_is = known.tunnels t.id number t.stream t.goal in
        let lt = open_within old.seen.entries x.id t.id number t.stream t.goal (open_is.0 (record {
          held = acting.s;
          t = t;
          at = found_at x.conns place acting.s apart acting.at_is;
          has = has;
          id = refl;
          on = refl;
          leads = refl;
        })) in
        omega (arith, is_next, lt, grows)

  -- each packet that it is to push has an inbox
  placed_then : (sh after : Shared) (found : Found) (try : Try) (answer : Answer) (said : Note) (g : Held) (orders : Orders) → Shares old.seen new.seen old.boxes new.boxes orders sh after
      → TryNext x.setup (filled o found acting.s) sh try answer said (Some g) after → ArePlaced old.seen.config.workers g.conn.due
  placed_then sh after found try answer said g orders shares next =
      let config : new.seen.config ≡ sh.config = shares.same.config ∙ sym shares.config in
      let L : Config → Type 0 = λ k. IsLegal k new.seen.entries in
      let B : List Entry → Type 0 = λ h. IsLegal sh.config h in
      let P : Config → Type 0 = λ k. ArePlaced k.workers acting.s.conn.due in
      let R : Config → Type 0 = λ k. ArePlaced k.workers g.conn.due in
      let was = at_all (λ (h : Held). ArePlaced old.seen.config.workers h.conn.due) x.conns known.places place acting.s acting.at_is in
      subst R shares.config (try_placed sh after (subst B shares.wrote (subst L config fit.sound.legal)) x.setup (filled o found acting.s) g try answer said (subst P (sym shares.config) was) next)

  -- what it wrote is the worker's own
  written : (sh after : Shared) (orders : Orders) (tunnels : List Tunnel) → Shares old.seen new.seen old.boxes new.boxes orders sh after → Goes acting.s.conn sh tunnels after
      → Writes old.seen new.seen x.id
  written sh after orders tunnels shares goes = writes_goes old.seen new.seen x.id acting.s.conn sh after tunnels shares.book shares.wrote acting.actor opened goes where
    opened : (t : Tunnel) → Contains acting.s.conn.tunnels t → (e : Entry) × (slice_get old.seen.entries t.id ≡ Some e) × (e.actor ≡ x.id)
    opened t has =
        let is = (known.tunnels t.id number t.stream t.goal).0 (record {
          held = acting.s;
          t = t;
          at = found_at x.conns place acting.s apart acting.at_is;
          has = has;
          id = refl;
          on = refl;
          leads = refl;
        }) in
        (is.entry, is.at, is.by)

  pub did_gives : (said : Note) (orders : Orders) (tk : Held) → Turned x.setup tries_of Anything o n old.seen new.seen old.boxes new.boxes orders acting.s said (Some tk)
      → StandsAsTold n (IsHeld words.most new.table now) tk → (s : Ring L) → Rest s (number + 2 + 1) → s.conns.items ≡ slice_set mid.conns place now → now.number ≡ was.number
      → (t : Worker) × IsWorker words.most new.table s t × HasTold n t × Known (sight n new.seen new.boxes) t × Writes old.seen new.seen x.id
      × StepDone orders (sight o old.seen old.boxes) (sight n new.seen new.boxes) x said t
  did_gives said orders tk d stands s rest items same_number =
      let F : Held → Held = with_prepared n d.answer in
      let b = mapped_some F d.became tk d.then in
      let N : Option Held → Type 0 = λ z. TryNext x.setup (filled o d.found acting.s) d.sh d.try d.answer said z d.after in
      let next = subst N b.1 d.next in
      let core : (F b.0).conn ≡ b.0.conn = prepared_core n d.answer b.0 in
      let IC : Conn → Type 0 = λ c. IsConn now.conn c in
      let T : Held → Type 0 = λ h. StandsAsTold n (IsHeld words.most new.table now) h in
      let told = subst T b.2 stands in
      let left = try_leaves x.setup was.conn now.conn (filled o d.found acting.s) d.sh d.after d.try d.answer said b.0 acting.stands.conn (subst IC core told.0.conn) d.is next in
      let placed = placed_then d.sh d.after d.found d.try d.answer said b.0 orders d.shares next in
      let fine : Fine words.most new.table n x.id now (F b.0) = record {
        stands = told.0;
        link = told.1.link;
        ports = told.1.ports;
        actor = ap (λ (c : Conn). c.actor) core ∙ left.actor ∙ acting.actor;
      } in
      let us : List Held = slice_set (map F (refill o number d.found x).conns) place (F b.0) in
      let pw = pointwise_set (Fine words.most new.table n x.id) place mid.conns (map F (refill o number d.found x).conns) now (F b.0)
      (others_but F d.found (prepared_harmless L words.most new.table n d.answer)) fine lt_place in
      let H : List (HeldBy L) → Type 0 = λ hs. AllFine words.most new.table n x.id hs us in
      let A : List (HeldBy L) → Type 0 = λ hs. AreDistinct (numbers_of hs r.offered.items) in
      let all = subst H (sym items) (all_fine words.most new.table n x.id (slice_set mid.conns place now) us pw) in
      let numbers = subst A (sym items) (numbers_set mid.conns r.offered.items place was now at same_number numbers_mid) in
      let t : Worker = record (refill o number d.found x) { conns = us; next_seat = number + 2 + 1 } in
      let t_is : t ≡ worker_prepared n d.answer (with_held (refill o number d.found x) number (Some b.0)) =
      ap (λ (cs : List Held). record (refill o number d.found x) { conns = cs; next_seat = number + 2 + 1 })
      (sym (map-set F (refill o number d.found x).conns place b.0)
      ∙ ap (λ (hs : List Held). map F hs) (sym (replace_sets (refill o number d.found x).conns place (refilled o number d.found acting.s) b.0 (apart_refilled d.found) (at_refilled d.found))))
      ∙ sym (prepared_worker n d.answer (with_held (refill o number d.found x) number (Some b.0))) in
      let TL : List Tunnel → Type 0 = λ ts. Goes acting.s.conn d.sh ts d.after in
      let goes = subst TL (ap (λ (c : Conn). c.tunnels) (sym core)) left.goes in (
        t,
        worker_stands s us d.found (number + 2 + 1) rest.id rest.setup rest.offered rest.next_is all rest.rooms rest.ports numbers,
        (all.told, offered_told),
        known_then t (Some (F b.0)) orders d.sh d.after refl refl (cores_set F d.found (F b.0) (prepared_core n d.answer))
            (λ g e. let same : F b.0 ≡ g = cc in
            let G : Conn → Type 0 = λ c. (c.number ≡ number) × (c.next_tunnel ≤ length new.seen.entries) × ArePlaced old.seen.config.workers c.due in
            subst G (sym core ∙ ap (λ (h : Held). h.conn) same) (left.number, next_within b.0.conn d.sh d.after orders d.shares left, placed))
            d.shares goes,
        written d.sh d.after orders (F b.0).conn.tunnels d.shares goes,
        done d.found d.try d.answer orders d.sh d.after said d.is d.shares d.faults d.binds (Some b.0) t next t_is,
      )

  pub ended_gives : (said : Note) (orders : Orders) → Turned x.setup tries_of Anything o n old.seen new.seen old.boxes new.boxes orders acting.s said None
      → (s : Ring L) → Rest s (number + 2 + 1) → s.conns.items ≡ remove mid.conns place
      → (t : Worker) × IsWorker words.most new.table s t × HasTold n t × Known (sight n new.seen new.boxes) t × Writes old.seen new.seen x.id
      × StepDone orders (sight o old.seen old.boxes) (sight n new.seen new.boxes) x said t
  ended_gives said orders d s rest items =
      let F : Held → Held = with_prepared n d.answer in
      let N : Option Held → Type 0 = λ z. TryNext x.setup (filled o d.found acting.s) d.sh d.try d.answer said z d.after in
      let next = subst N (mapped_none F d.became d.then) d.next in
      let ends = try_ends x.setup was.conn (filled o d.found acting.s) d.sh d.after d.try d.answer said acting.stands.conn d.is next in
      let goes : Goes acting.s.conn d.sh [] d.after = inl (record { tunnels_are = ap shapes_of (sym ends.0); book = ends.1 }) in
      let us : List Held = remove (map F (refill o number d.found x).conns) place in
      let pw = pointwise_removed (Fine words.most new.table n x.id) place mid.conns (map F (refill o number d.found x).conns)
      (others_but F d.found (prepared_harmless L words.most new.table n d.answer)) lt_place in
      let H : List (HeldBy L) → Type 0 = λ hs. AllFine words.most new.table n x.id hs us in
      let A : List (HeldBy L) → Type 0 = λ hs. AreDistinct (numbers_of hs r.offered.items) in
      let all = subst H (sym items) (all_fine words.most new.table n x.id (remove mid.conns place) us pw) in
      let numbers = subst A (sym items) (numbers_removed mid.conns r.offered.items place lt_place numbers_mid) in
      let t : Worker = record (refill o number d.found x) { conns = us; next_seat = number + 2 + 1 } in
      let t_is : t ≡ worker_prepared n d.answer (with_held (refill o number d.found x) number None) =
      ap (λ (cs : List Held). record (refill o number d.found x) { conns = cs; next_seat = number + 2 + 1 })
      (sym (map_remove F (refill o number d.found x).conns place)
      ∙ ap (λ (hs : List Held). map F hs) (sym (replace_removes (refill o number d.found x).conns place (refilled o number d.found acting.s) (apart_refilled d.found) (at_refilled d.found))))
      ∙ sym (prepared_worker n d.answer (with_held (refill o number d.found x) number None)) in (
        t,
        worker_stands s us d.found (number + 2 + 1) rest.id rest.setup rest.offered rest.next_is all rest.rooms rest.ports numbers,
        (all.told, offered_told),
        known_then t None orders d.sh d.after refl refl (cores_removed F d.found (prepared_core n d.answer)) (λ g e. absurd cc) d.shares goes,
        written d.sh d.after orders [] d.shares goes,
        done d.found d.try d.answer orders d.sh d.after said d.is d.shares d.faults d.binds None t next t_is,
      )

  pub starved_gives : (orders : Orders) (tk : Held) → Starved tries_of Anything o n old.seen new.seen old.boxes new.boxes orders acting.s tk
      → StandsAsTold n (IsHeld words.most new.table now) tk → (s : Ring L) → Rest s r.next_seat → s.conns.items ≡ slice_set mid.conns place now → now.number ≡ was.number
      → (t : Worker) × IsWorker words.most new.table s t × HasTold n t × Known (sight n new.seen new.boxes) t × Writes old.seen new.seen x.id
      × StepSilent orders (sight o old.seen old.boxes) (sight n new.seen new.boxes) x t
  starved_gives orders tk d told s rest items same_number =
      let goes = starved_goes was.conn (filled o d.found acting.s) d.sh d.after d.reached.asked d.try d.answer d.tunnels acting.stands.conn d.heard in
      let conn : tk.conn ≡ record (starved acting.s.conn) { tunnels = d.tunnels } = ap (λ (h : Held). h.conn) d.then in
      let fine : Fine words.most new.table n x.id now tk = record {
        stands = told.0;
        link = told.1.link;
        ports = told.1.ports;
        actor = ap (λ (c : Conn). c.actor) conn ∙ acting.actor;
      } in
      let us : List Held = slice_set (refill o number d.found x).conns place tk in
      let pw = pointwise_set (Fine words.most new.table n x.id) place mid.conns (refill o number d.found x).conns now tk
      (others_fine words r m old mid new count tried offers_tried inbox_tried so o n sees x is place was now at own keeps beside d.found acting.s acting.at_is)
      fine lt_place in
      let H : List (HeldBy L) → Type 0 = λ hs. AllFine words.most new.table n x.id hs us in
      let A : List (HeldBy L) → Type 0 = λ hs. AreDistinct (numbers_of hs r.offered.items) in
      let all = subst H (sym items) (all_fine words.most new.table n x.id (slice_set mid.conns place now) us pw) in
      let numbers = subst A (sym items) (numbers_set mid.conns r.offered.items place was now at same_number numbers_mid) in
      let t : Worker = record (refill o number d.found x) { conns = us; next_seat = x.next_seat } in
      let same : us ≡ replace number (Some tk) (refill o number d.found x).conns =
      sym (replace_sets (refill o number d.found x).conns place (refilled o number d.found acting.s) tk (apart_refilled d.found) (at_refilled d.found)) in
      let G : Conn → Type 0 = λ c. (c.number ≡ number) × (c.next_tunnel ≤ length new.seen.entries) × ArePlaced old.seen.config.workers c.due in
      let TS : List Tunnel → Type 0 = λ ts. Goes acting.s.conn d.sh ts d.after in
      let left : Left acting.s.conn d.sh (record (starved acting.s.conn) { tunnels = d.tunnels }) d.after = record { number = refl; actor = refl; goes = goes; next = inl refl } in
      let can = conn_can o x so.box d.found place acting.s d.try apart acting.at_is d.is in (
        t,
        worker_stands s us d.found x.next_seat rest.id rest.setup rest.offered (rest.next_is ∙ sym is.next) all rest.rooms rest.ports numbers,
        (all.told, offered_told),
        known_then t (Some tk) orders d.sh d.after refl refl (cores_one d.found tk)
            (λ g e. let is_g : tk ≡ g = cc in subst G (sym conn ∙ ap (λ (h : Held). h.conn) is_g) (refl, next_within (record (starved acting.s.conn) { tunnels = d.tunnels }) d.sh d.after orders d.shares left, tt))
            d.shares (subst TS (sym (ap (λ (c : Conn). c.tunnels) conn)) goes),
        written d.sh d.after orders d.tunnels d.shares goes,
        record {
          now = refill o number d.found x;
          box = so.box;
          answer = d.answer;
          sh = d.sh;
          after = d.after;
          reached = d.reached;
          refills = refills o number d.found x;
          was = box_was;
          meets = d.shares;
          binds = d.binds;
          starves = record {
            seat = Of number;
            turn = turn_is o n x so.box number d.found (place + 2) (Of number) apart seat_is (found_at_place d.found) can vain;
            starves = record {
              held = filled o d.found acting.s;
              try = d.try;
              pieces = d.pieces;
              tunnels = d.tunnels;
              has = held_is o x d.found place acting.s apart acting.at_is;
              tries = d.is;
              takes = d.takes;
              leaves = d.leaves;
              heard = d.heard;
              new_is = ap (λ (cs : List Held). record (refill o number d.found x) { conns = cs }) (same ∙ ap (λ (h : Held). replace number (Some h) (refill o number d.found x).conns) d.then);
            };
          };
        },
      ) where
        cores_one : (found : Found) (u : Held) → cores_of (slice_set (refill o number found x).conns place u) ≡ cores_of (replace number (Some u) x.conns)
        cores_one found u =
            map-set (λ (h : Held). h.conn) (refill o number found x).conns place u
            ∙ ap (λ (cs : List Conn). slice_set cs place u.conn) (cores_map (refilled o number found) x.conns (λ h. refl))
            ∙ sym (map-set (λ (h : Held). h.conn) x.conns place u)
            ∙ ap (λ (hs : List Held). cores_of hs) (sym (replace_sets x.conns place acting.s u apart acting.at_is))
