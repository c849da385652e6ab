-- Behind a step in which a connection acted, an outside sees the ring.
use Rattle.std.proofs.Common.{◌≡◌, ◌≢◌, ℕ, List, [], ◌∷◌, ◌++◌, map, remove, All, slice_get, slice_set, Option, Some, None, Result, Ok, Err, refl, sym, ap, subst, ◌∙◌}
use Rattle.std.specs.Prelude.{false}
use Rattle.slab.specs.Slab.{Slab}
use Rattle.mq_wire.specs.declared.NoMemory.{NoMemory}
use Rattle.mq_talk.specs.declared.note.Note.{Note}
use Rattle.mq_talk.specs.Mails.{Inboxes}
use Rattle.mq_talk.specs.Offices.{Seen, Sees as SeesBook}
use Rattle.mq_machine.specs.declared.setup.Setup.{Setup}
use Rattle.mq_machine.specs.State.{Conn, Held, Port, Tunnel, Worker, Orders, Shared}
use Rattle.mq_machine.specs.Turn.{tries_of, TryNext}
use Rattle.mq_machine.specs.Acting.{Outside, Known}
use Rattle.mq_conn.specs.Conns.{IsConn}
use Rattle.mq_held.specs.declared.held.Held.{Held as HeldBy}
use Rattle.mq_held.specs.declared.held.PortSeat.{PortSeat}
use Rattle.mq_step.specs.Notes.{SteppedWith, Quiet, Did, Ended, Noteless}
use Rattle.mq_step.specs.Holds.{IsHeld, ArePorts, SeatsApart}
use Rattle.mq_step.specs.Whole.{Sees, filled}
use Rattle.mq_step.specs.Wanted.{with_prepared}
use Rattle.mq_step.specs.Gives.{Gives, Anything}
use Rattle.mq_step.proofs.Filling.{served_none}
use Rattle.mq_actor.specs.declared.offer.Offer.{Offer as OfferBy}
use Rattle.mq_actor.specs.declared.ring.Ring.{Ring}
use Rattle.mq_actor.specs.Goes.{Goes}
use Rattle.mq_actor.specs.Holds.{IsWorker, AreHeld, AreDistinct, numbers_of}
use Rattle.mq_actor.specs.Passing.{Tried, Acts, LeavesRing}
use Rattle.mq_actor.specs.Seen.{Words, Moment, SeesRing}
use Rattle.mq_actor.specs.Steps.{sight}
use Rattle.mq_actor.proofs.Acted.{mapped_some, mapped_none}
use Rattle.mq_actor.proofs.Apart.{tunnel_of_seat, goes_apart}
use Rattle.mq_actor.proofs.Between.{apart_of, numbers_passed}
use Rattle.mq_actor.proofs.Helds.{held_at}
use Rattle.mq_actor.proofs.Cores.{AreApart}
use Rattle.mq_actor.proofs.Going.{try_leaves, try_ends, starved_goes}
use Rattle.mq_actor.proofs.Lefts.{numbers_set, numbers_removed, number_freed}
use Rattle.mq_actor.proofs.Neighbours.{Here, here}
use Rattle.mq_actor.proofs.Passings.{sight as lone_sight, sight_whole, held_passed}
use Rattle.mq_actor.proofs.Pointwise.{within}
use Rattle.mq_actor.proofs.Refilled.{prepared_core}
use Rattle.mq_actor.proofs.Sighted.{HaveOwnTunnels, sighted, sighted_ended, own_tunnels, own_tunnels_set, own_tunnels_removed}
use Rattle.mq_actor.proofs.SoFar.{SoFar}

no_seats : {Q : Type 0} (most : Q → ℕ) (table : Slab Q) (seats : List PortSeat) → ArePorts most table seats [] → seats ≡ []
no_seats most table [] are = refl
no_seats most table (x ∷ seats) are = absurd are

module _ {L Q : Type 0} (words : Words L Q) (r m : Ring L) (old mid new : Moment L Q) (count : ℕ)
    (tried : Tried) (offers_tried inbox_tried : Type 0) (so : SoFar words r m old mid count tried offers_tried inbox_tried) (begins : r.ended ≡ None)
    (o : Outside) (sees : SeesRing words old.table old.binds r o) (x : Worker) (is : IsWorker words.most old.table r x)
    (known : Known (sight o old.seen old.boxes) x) (place : ℕ) (was now : HeldBy L) (at : slice_get mid.conns place ≡ Some was) (untried : tried place was.number → ⊥) (s : Ring L) where
  apart : AreApart x.conns
  apart = apart_of words.most old.table r x is

  acting : Here words r m old mid new count tried offers_tried inbox_tried so o o sees x is place was now at
  acting = here words r m old mid new count tried offers_tried inbox_tried so o o sees x is place was now at untried

  stand : AreHeld words.most mid.table mid.conns x.conns
  stand =
      let A : List (HeldBy L) → Type 0 = λ hs. AreHeld words.most old.table hs x.conns in
      held_passed words old mid tried x.conns so.passed (subst A (sym so.starts) is.conns)

  own : HaveOwnTunnels mid.conns
  own = own_tunnels words.most mid.table mid.conns x o old.seen old.boxes stand apart known

  numbers_mid : AreDistinct (numbers_of mid.conns r.offered.items)
  numbers_mid =
      let os : List ℕ = map (λ (f : OfferBy L). f.number) r.offered.items in
      let e = numbers_passed words old mid tried so.passed in
      let A : List (HeldBy L) → Type 0 = λ hs. AreDistinct (numbers_of hs r.offered.items) in
      subst AreDistinct (ap (λ (ns : List ℕ). ns ++ os) (sym e)) (subst A (sym so.starts) is.numbers)

  -- what the step of the connection gives, as an outside sees it alone
  given : (stepped : Result SteppedWith NoMemory) → Acts words m.setup mid new stepped was now
      → Gives x.setup tries_of Anything o (lone_sight words new.binds new.table now) old.seen new.seen old.boxes new.boxes (IsHeld words.most new.table now) acting.s stepped
  given stepped acts =
      let n : Outside = lone_sight words new.binds new.table now in
      let S : Setup → Type 0 = λ z. Gives z tries_of Anything o n mid.seen new.seen mid.boxes new.boxes (IsHeld words.most new.table now) acting.s stepped in
      let E : Seen → Type 0 = λ z. Gives x.setup tries_of Anything o n z new.seen mid.boxes new.boxes (IsHeld words.most new.table now) acting.s stepped in
      let M : Inboxes → Type 0 = λ z. Gives x.setup tries_of Anything o n old.seen new.seen z new.boxes (IsHeld words.most new.table now) acting.s stepped in
      let setup : m.setup ≡ x.setup = ap (λ (z : Ring L). z.setup) so.ring ∙ sym is.setup in
      let before : Sees words.link words.link_counts words.port words.port_counts mid.binds mid.table was o = record {
        of_link = acting.seen.of_link;
        of_table = record { ports = acting.seen.of_ports; binds_are = sees.binds_are ∙ sym so.passed.binds };
      } in
      subst M so.passed.boxes (subst E so.passed.seen (subst S setup (acts.gives o n before (sight_whole words new.binds new.table now acts.apart) acting.s acting.stands)))

  -- its tunnels are none of the others'
  tunnels_set : (t : Held) (sh after : Shared) → SeatsApart now.ports.items → IsHeld words.most new.table now t → Goes acting.s.conn sh t.conn.tunnels after → SeesBook old.seen sh.book
      → HaveOwnTunnels (slice_set mid.conns place now)
  tunnels_set t sh after apart_now held goes book = own_tunnels_set mid.conns place now own apart_now each where
    each : (j i b : ℕ) (h : HeldBy L) (a y : PortSeat) → j ≢ place → slice_get mid.conns j ≡ Some h → slice_get h.ports.items b ≡ Some y → slice_get now.ports.items i ≡ Some a → a.tunnel ≢ y.tunnel
    each j i b h a y ne at_h at_y at_a =
        let v = tunnel_of_seat words.most new.table now t i a held at_a in
        let other = held_at words.most mid.table mid.conns x.conns j h stand at_h in
        let u = tunnel_of_seat words.most mid.table h other.0 b y other.2 at_y in
        let differ = goes_apart x o old.seen old.boxes known apart place j u.0 acting.s other.0 sh t.conn.tunnels after v.0 v.1 u.1 acting.at_is other.1 (λ e. ne (sym e)) goes book v.2 u.2 in
        λ same. differ (v.3 ∙ same ∙ sym u.3)

  set_seen : (t : Held) (sh after : Shared) → SeatsApart now.ports.items → IsHeld words.most new.table now t → Goes acting.s.conn sh t.conn.tunnels after → SeesBook old.seen sh.book
      → now.number ≡ was.number → s.conns.items ≡ slice_set mid.conns place now → s.ended ≡ None → s.offered.items ≡ r.offered.items → (n : Outside) × SeesRing words new.table new.binds s n
  set_seen t sh after apart_now held goes book number items ended offered =
      let T : List (HeldBy L) → Type 0 = λ hs. HaveOwnTunnels hs in
      let A : List (HeldBy L) → Type 0 = λ hs. AreDistinct (numbers_of hs r.offered.items) in
      let N : List (OfferBy L) → Type 0 = λ fs. AreDistinct (numbers_of s.conns.items fs) in
      sighted words new.table new.binds s ended (subst N (sym offered) (subst A (sym items) (numbers_set mid.conns r.offered.items place was now at number numbers_mid)))
      (subst T (sym items) (tunnels_set t sh after apart_now held goes book))

  no_orders : Orders
  no_orders = record { bind = false }

  -- whatever it came to
  pub acted_seen : (stepped : Result SteppedWith NoMemory) (result : Result (Option Note) NoMemory) → Acts words m.setup mid new stepped was now
      → LeavesRing place was now mid.conns m s stepped result → (n : Outside) × SeesRing words new.table new.binds s n
  acted_seen (Ok Quiet) result acts leaves = absurd leaves
  acted_seen (Ok Noteless) result acts leaves = absurd leaves
  acted_seen (Ok (Did said)) result acts leaves =
      let gives = given (Ok (Did said)) acts no_orders in
      let d = gives.1 in
      let n : Outside = lone_sight words new.binds new.table now in
      let F : Held → Held = with_prepared n d.answer in
      let b = mapped_some F d.became gives.0 d.then in
      let N : Option Held → Type 0 = λ z. TryNext x.setup (filled o d.found acting.s) d.sh d.try d.answer said z d.after in
      let core : (F b.0).conn ≡ b.0.conn = prepared_core n d.answer b.0 in
      let same : gives.0.conn ≡ b.0.conn = ap (λ (h : Held). h.conn) b.2 ∙ core in
      let IC : Conn → Type 0 = λ c. IsConn now.conn c in
      let left = try_leaves x.setup was.conn now.conn (filled o d.found acting.s) d.sh d.after d.try d.answer said b.0 acting.stands.conn (subst IC same gives.2.0.conn) d.is (subst N b.1 d.next) in
      let TL : List Tunnel → Type 0 = λ ts. Goes acting.s.conn d.sh ts d.after in
      set_seen gives.0 d.sh d.after acts.apart gives.2.0 (subst TL (ap (λ (c : Conn). c.tunnels) (sym same)) left.goes) d.shares.book acts.number leaves.1
      (ap (λ (z : Ring L). z.ended) leaves.2 ∙ ap (λ (z : Ring L). z.ended) so.ring ∙ begins)
      (ap (λ (z : Ring L). z.offered.items) leaves.2 ∙ ap (λ (z : Ring L). z.offered.items) so.ring)
  acted_seen (Ok (Ended said)) result acts leaves =
      let d = given (Ok (Ended said)) acts no_orders in
      let n : Outside = lone_sight words new.binds new.table now in
      let N : Option Held → Type 0 = λ z. TryNext x.setup (filled o d.found acting.s) d.sh d.try d.answer said z d.after in
      let bare = try_ends x.setup was.conn (filled o d.found acting.s) d.sh d.after d.try d.answer said acting.stands.conn d.is (subst N (mapped_none (with_prepared n d.answer) d.became d.then) d.next) in
      let none = served_none acting.s.conn.ending acting.s.conn.tunnels acting.s.ports bare.0 acting.stands.served in
      let P : List Port → Type 0 = λ ps. ArePorts words.most mid.table was.ports.items ps in
      let seats = acts.ends said refl ∙ no_seats words.most mid.table was.ports.items (subst P none acting.stands.ports) in
      let T : List (HeldBy L) → Type 0 = λ hs. HaveOwnTunnels hs in
      let A : List (HeldBy L) → Type 0 = λ hs. AreDistinct (numbers_of hs r.offered.items) in
      let F : List (HeldBy L) → Type 0 = λ hs. All (λ k. k ≢ now.number) (numbers_of hs r.offered.items) in
      let W : ℕ → Type 0 = λ k. All (λ z. z ≢ k) (numbers_of (remove mid.conns place) r.offered.items) in
      let offered = ap (λ (z : Ring L). z.offered.items) leaves.2 ∙ ap (λ (z : Ring L). z.offered.items) so.ring in
      let NO : List (OfferBy L) → Type 0 = λ fs. AreDistinct (numbers_of s.conns.items fs) in
      let FO : List (OfferBy L) → Type 0 = λ fs. All (λ k. k ≢ now.number) (numbers_of s.conns.items fs) in
      sighted_ended words new.table new.binds s now (ap (λ (z : Ring L). z.ended) leaves.2) seats
      (subst FO (sym offered) (subst F (sym leaves.1) (subst W (sym acts.number) (number_freed mid.conns r.offered.items place was at numbers_mid))))
      (subst NO (sym offered) (subst A (sym leaves.1) (numbers_removed mid.conns r.offered.items place (within mid.conns place was at) numbers_mid)))
      (subst T (sym leaves.1) (own_tunnels_removed mid.conns place own))
  acted_seen (Err refused) result acts leaves =
      let gives = given (Err refused) acts no_orders in
      let d = gives.1 in
      let goes = starved_goes was.conn (filled o d.found acting.s) d.sh d.after d.reached.asked d.try d.answer d.tunnels acting.stands.conn d.heard in
      let TL : List Tunnel → Type 0 = λ ts. Goes acting.s.conn d.sh ts d.after in
      set_seen gives.0 d.sh d.after acts.apart gives.2.0 (subst TL (sym (ap (λ (h : Held). h.conn.tunnels) d.then)) goes) d.shares.book acts.number leaves.1
      (ap (λ (z : Ring L). z.ended) leaves.2 ∙ ap (λ (z : Ring L). z.ended) so.ring ∙ begins)
      (ap (λ (z : Ring L). z.offered.items) leaves.2 ∙ ap (λ (z : Ring L). z.offered.items) so.ring)
