-- For which worker a ring of seats stands, whatever links and ports hold.
use Rattle.std.specs.Prelude.{◌≡◌, ◌≢◌, ⊤, ℕ, List, [], ◌∷◌, ◌++◌, map, slice_get, All, Some, MatchOption}
use Rattle.slab.specs.Slab.{Slab}
use Rattle.mq_machine.specs.State.{Offer, Held, Worker}
use Rattle.mq_held.specs.declared.held.Held.{Held as HeldBy}
use Rattle.mq_held.specs.declared.held.PortSeat.{PortSeat}
use Rattle.mq_step.specs.Rooms.{HasRooms}
use Rattle.mq_step.specs.Holds.{IsHeld, IsOther}
use Rattle.mq_actor.specs.declared.offer.Offer.{Offer as OfferBy}
use Rattle.mq_actor.specs.declared.ring.Ring.{Ring}

-- ---- connections and offered links

abbrev pub AreHeld : {L Q : Type 0} → (Q → ℕ) → Slab Q → List (HeldBy L) → List Held → Type 0
AreHeld most table [] [] = ⊤
AreHeld most table [] (s ∷ ss) = ⊥
AreHeld most table (h ∷ hs) [] = ⊥
AreHeld most table (h ∷ hs) (s ∷ ss) = IsHeld most table h s × AreHeld most table hs ss

abbrev pub AreOffered : {L : Type 0} → List (OfferBy L) → List Offer → Type 0
AreOffered [] [] = ⊤
AreOffered [] (s ∷ ss) = ⊥
AreOffered (f ∷ fs) [] = ⊥
AreOffered (f ∷ fs) (s ∷ ss) = (s.number ≡ f.number) × AreOffered fs ss

-- ---- what no two have

-- no port of b is one of a's
pub record AreOthers {L : Type 0} (a b : HeldBy L) : Type 0 where
  pub seats : All (λ (seat : PortSeat). IsOther a.ports.items a.bound seat.key) b.ports.items
  pub bound : MatchOption b.bound ⊤ (λ key. IsOther a.ports.items a.bound key)

abbrev pub HaveOwnPorts : {L : Type 0} → List (HeldBy L) → Type 0
HaveOwnPorts {L} hs =
    (i j : ℕ) (a b : HeldBy L) → i ≢ j → slice_get hs i ≡ Some a → slice_get hs j ≡ Some b → AreOthers a b

-- the numbers of its connections and offered links
abbrev pub numbers_of : {L : Type 0} → List (HeldBy L) → List (OfferBy L) → List ℕ
numbers_of {L} hs fs = map (λ (h : HeldBy L). h.number) hs ++ map (λ (f : OfferBy L). f.number) fs

abbrev pub AreDistinct : List ℕ → Type 0
AreDistinct ns = (i j n : ℕ) → slice_get ns i ≡ Some n → slice_get ns j ≡ Some n → i ≡ j

-- ---- the worker

pub record IsWorker {L Q : Type 0} (most : Q → ℕ) (table : Slab Q) (r : Ring L) (w : Worker) : Type 0 where
  pub id : w.id ≡ r.id
  pub setup : w.setup ≡ r.setup
  pub offered : AreOffered r.offered.items w.offered
  pub conns : AreHeld most table r.conns.items w.conns
  pub next : w.next_seat ≡ r.next_seat
  pub actors : All (λ (h : Held). h.conn.actor ≡ w.id) w.conns
  pub rooms : HasRooms r.rooms
  pub ports : HaveOwnPorts r.conns.items
  pub numbers : AreDistinct (numbers_of r.conns.items r.offered.items)
