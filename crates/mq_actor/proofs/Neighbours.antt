-- The connections beside one that acts.
use Rattle.std.proofs.Common.{◌≡◌, ◌≢◌, ℕ, List, length, slice_get, Some, sym, ap, subst, ◌∙◌, arith}
use Rattle.std.proofs.lemmas.List.{length-map}
use Rattle.mq_talk.specs.Mails.{IsTold}
use Rattle.slab.specs.Slab.{Slab}
use Rattle.mq_machine.specs.State.{Conn, Link, Held, Worker}
use Rattle.mq_machine.specs.Acting.{Outside, PortsTold}
use Rattle.mq_held.specs.declared.held.Held.{Held as HeldBy}
use Rattle.mq_step.specs.Holds.{IsHeld, KeepsOthers}
use Rattle.mq_step.specs.Sights.{Found, idle}
use Rattle.mq_step.specs.Whole.{filled}
use Rattle.mq_actor.specs.declared.ring.Ring.{Ring}
use Rattle.mq_actor.specs.Holds.{IsWorker, HaveOwnPorts}
use Rattle.mq_actor.specs.Passing.{Tried, TellsSame}
use Rattle.mq_actor.specs.Seen.{Words, Moment, SeesConn, SeesRing}
use Rattle.mq_actor.proofs.Between.{At, place as placed, apart_of}
use Rattle.mq_actor.proofs.Helds.{held_length}
use Rattle.mq_actor.proofs.InRing.{at_all}
use Rattle.mq_actor.proofs.Lists.{map_get}
use Rattle.mq_actor.proofs.OwnPorts.{ports_stay, held_stays, stay_back, stay_seen}
use Rattle.mq_actor.proofs.Pointwise.{PointwiseBut, there, within}
use Rattle.mq_actor.proofs.Refilled.{refilled, refill, found_else, held_filled, told_idle}
use Rattle.mq_actor.proofs.SoFar.{SoFar}

-- a change of a connection that leaves its core and its link, and of its ports what the outside doesn't hold
pub record Harmless (L : Type 0) {Q : Type 0} (most : Q → ℕ) (table : Slab Q) (n : Outside) (F : Held → Held) : Type 0 where
  pub conn : (s : Held) → (F s).conn ≡ s.conn
  pub link : (s : Held) → (F s).link ≡ s.link
  pub stands : (h : HeldBy L) (s : Held) → IsHeld most table h s → IsHeld most table h (F s)
  pub told : (s : Held) → PortsTold n s.ports → PortsTold n (F s).ports

-- what a connection stands for has what is told, and its actor is this one
pub record Fine {L Q : Type 0} (most : Q → ℕ) (table : Slab Q) (n : Outside) (id : ℕ) (g : HeldBy L) (u : Held) : Type 0 where
  pub stands : IsHeld most table g u
  pub link : IsTold (n.link u.conn.number) u.link
  pub ports : PortsTold n u.ports
  pub actor : u.conn.actor ≡ id

-- a harmless change leaves it so
pub fine_still : (L : Type 0) {Q : Type 0} (most : Q → ℕ) (table : Slab Q) (n : Outside) (F : Held → Held) (id : ℕ) (g : HeldBy L) (u : Held) → Harmless L most table n F
    → Fine most table n id g u → Fine most table n id g (F u)
fine_still L most table n F id g u safe fine =
    record {
      stands = safe.stands g u fine.stands;
      link = told (F u) (safe.conn u) (safe.link u);
      ports = safe.told u fine.ports;
      actor = ap (λ (c : Conn). c.actor) (safe.conn u) ∙ fine.actor;
    } where
      told : (v : Held) → v.conn ≡ u.conn → v.link ≡ u.link → IsTold (n.link v.conn.number) v.link
      told v conn link =
          let A : Conn → Type 0 = λ c. IsTold (n.link c.number) v.link in
          let B : Link → Type 0 = λ l. IsTold (n.link u.conn.number) l in
          subst A (sym conn) (subst B (sym link) fine.link)

module _ {L Q : Type 0} (words : Words L Q) (r m : Ring L) (old mid new : Moment L Q) (count : ℕ)
    (tried : Tried) (offers_tried inbox_tried : Type 0) (so : SoFar words r m old mid count tried offers_tried inbox_tried)
    (o n : Outside) (sees : SeesRing words old.table old.binds r o) (x : Worker) (is : IsWorker words.most old.table r x)
    (place : ℕ) (was now : HeldBy L) (at : slice_get mid.conns place ≡ Some was) where
  at_place : (i : ℕ) (s : Held) → slice_get x.conns i ≡ Some s → At words r m old mid count tried offers_tried inbox_tried so o n sees x is i s
  at_place i s there_is = placed words r m old mid count tried offers_tried inbox_tried so o n sees x is i s there_is

  -- as many connections stand there as the worker has
  pub as_many : length mid.conns ≡ length x.conns
  as_many = so.passed.size ∙ ap (λ (hs : List (HeldBy L)). length hs) so.starts ∙ held_length words.most old.table r.conns.items x.conns is.conns

  -- the state of the one that acts
  pub record Here : Type 0 where
    pub s : Held
    pub at_is : slice_get x.conns place ≡ Some s
    pub stands : IsHeld words.most mid.table was s
    pub seen : SeesConn words mid.table was o
    pub actor : s.conn.actor ≡ x.id

  one : (i : ℕ) (a b : HeldBy L) → slice_get mid.conns i ≡ Some a → slice_get mid.conns i ≡ Some b → a ≡ b
  one i a b at_a at_b = let e : Some a ≡ Some b = sym at_a ∙ at_b in cc

  pub here : (tried place was.number → ⊥) → Here
  here untried =
      let lt = within mid.conns place was at in
      let many = as_many in
      let found = there x.conns place (omega (arith, lt, many)) in
      let p = at_place place found.0 found.1 in
      let same : p.passed.now ≡ was = one place p.passed.now was p.passed.at at in
      let T : ℕ → Type 0 = λ k. tried place k in
      let still = p.passed.still (λ t. untried (subst T (sym p.passed.number ∙ ap (λ (h : HeldBy L). h.number) same) t)) in
      let H : HeldBy L → Type 0 = λ h. IsHeld words.most mid.table h found.0 in
      let S : HeldBy L → Type 0 = λ h. SeesConn words mid.table h o in
      let A : Held → Type 0 = λ h. h.conn.actor ≡ x.id in
      record {
        s = found.0;
        at_is = found.1;
        stands = subst H same (p.passed.stands found.0 p.stands);
        seen = subst S (sym still.0 ∙ same) (stay_seen words old.table mid.table p.h o still.1 p.seen);
        actor = at_all A x.conns is.actors place found.0 found.1;
      }

  module _ (own : HaveOwnPorts mid.conns) (keeps : KeepsOthers was now mid.table new.table)
      (beside : (j : ℕ) (g : HeldBy L) → j ≢ place → slice_get mid.conns j ≡ Some g → SeesConn words new.table g n) where
    -- of another place
    pub record Other (i : ℕ) (s : Held) : Type 0 where
      pub g : HeldBy L
      pub at_is : slice_get mid.conns i ≡ Some g
      pub stands : IsHeld words.most new.table g s
      pub told : TellsSame o n s
      -- and what is told of it then is told of it as it stood before
      pub sees_now : SeesConn words mid.table g n

    pub other : (i : ℕ) (s : Held) → i ≢ place → slice_get x.conns i ≡ Some s → Other i s
    other i s ne there_is =
        let p = at_place i s there_is in
        let held = p.passed.stands s p.stands in
        let apart = own place i was p.passed.now (λ e. ne (sym e)) at p.passed.at in
        let stay = ports_stay words.most mid.table new.table was now p.passed.now s keeps apart held in
        let sees_now = stay_seen words new.table mid.table p.passed.now n (stay_back mid.table new.table p.passed.now stay) (beside i p.passed.now ne p.passed.at) in
        record {
          g = p.passed.now;
          at_is = p.passed.at;
          stands = held_stays words.most mid.table new.table was now p.passed.now s keeps apart held;
          told = p.passed.told o n p.seen sees_now s p.stands;
          sees_now = sees_now;
        }

    -- whatever was found of the one that acts, the others are fine
    pub others_fine : (found : Found) (s : Held) → slice_get x.conns place ≡ Some s
        → PointwiseBut (Fine words.most new.table n x.id) place mid.conns (refill o s.conn.number found x).conns
    others_fine found s at_s = record {
      size = as_many ∙ sym (length-map x.conns (refilled o s.conn.number found));
      at = λ i g u ne at_g at_u. by_state i g u ne at_g (map_get (refilled o s.conn.number found) x.conns i u at_u);
    } where
      A : Held → Type 0
      A h = h.conn.actor ≡ x.id

      fine : (i : ℕ) (g : HeldBy L) (t : Held) → i ≢ place → slice_get mid.conns i ≡ Some g → slice_get x.conns i ≡ Some t
          → Fine words.most new.table n x.id g (filled o idle t)
      fine i g t ne at_g at_t =
          let other_is = other i t ne at_t in
          let same : other_is.g ≡ g = one i other_is.g g other_is.at_is at_g in
          let H : HeldBy L → Type 0 = λ h. IsHeld words.most new.table h (filled o idle t) in
          let told = told_idle o n t other_is.told in
          record {
            stands = subst H same (held_filled words.most new.table other_is.g o idle t other_is.stands);
            link = told.0;
            ports = told.1;
            actor = at_all A x.conns is.actors i t at_t;
          }

      by_state : (i : ℕ) (g : HeldBy L) (u : Held) → i ≢ place → slice_get mid.conns i ≡ Some g
          → ((t : Held) × (slice_get x.conns i ≡ Some t) × (u ≡ refilled o s.conn.number found t)) → Fine words.most new.table n x.id g u
      by_state i g u ne at_g (t, at_t, u_is) =
          let differ : t.conn.number ≢ s.conn.number = λ same. ne (apart_of words.most old.table r x is i place t s at_t at_s same) in
          let F : Found → Type 0 = λ f. Fine words.most new.table n x.id g (filled o f t) in
          let U : Held → Type 0 = λ v. Fine words.most new.table n x.id g v in
          subst U (sym u_is) (subst F (sym (found_else s.conn.number t.conn.number found differ)) (fine i g t ne at_g at_t))
