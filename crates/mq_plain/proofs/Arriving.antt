-- What comes to a port.
use Rattle.std.proofs.Common.{◌≡◌, ℕ, true, List, [], ◌∷◌, ◌++◌, Option, Some, refl, ap, ◌∙◌}
use Rattle.mq_outside.specs.Ports.{PortHolds}
use Rattle.mq_machine.specs.State.{Port}
use Rattle.mq_machine.specs.Acting.{holds_of}
use Rattle.mq_mem.specs.Ports.{Port as PortOf, holds_of as port_holds, with_queue}
use Rattle.mq_plain.specs.Coming.{with_datagram, send_failing}
use Rattle.mq_plain.proofs.Porting.{Keeps}

some_same : (g h : PortHolds) → Some g ≡ Some h → g ≡ h
some_same g h e = cc

pub arrives : (bytes : List ℕ) → Keeps (with_datagram bytes)
arrives bytes = record { tunnel = λ p. refl; limit = λ p. refl; received = λ p. refl }

-- it has the datagram
pub arrived : (was now : PortOf) (bytes : List ℕ) → now ≡ with_queue was (record was.queue { arrived = was.queue.arrived ++ bytes ∷ [] })
    → (p : Port) → Some (port_holds was.queue) ≡ Some (holds_of p) → Some (port_holds now.queue) ≡ Some (holds_of (with_datagram bytes p))
arrived was now bytes is p told =
    ap (λ (q : PortOf). Some (port_holds q.queue)) is
    ∙ ap {B = Option PortHolds} (λ (h : PortHolds). Some (record h { arrived = h.arrived ++ bytes ∷ [] })) (some_same (port_holds was.queue) (holds_of p) told)

pub fails : Keeps send_failing
fails = record { tunnel = λ p. refl; limit = λ p. refl; received = λ p. refl }

-- its next send fails
pub failing : (was now : PortOf) → now ≡ with_queue was (record was.queue { send_fails = true })
    → (p : Port) → Some (port_holds was.queue) ≡ Some (holds_of p) → Some (port_holds now.queue) ≡ Some (holds_of (send_failing p))
failing was now is p told =
    ap (λ (q : PortOf). Some (port_holds q.queue)) is
    ∙ ap {B = Option PortHolds} (λ (h : PortHolds). Some (record h { send_fails = true })) (some_same (port_holds was.queue) (holds_of p) told)

-- nothing comes
pub keeps_all : Keeps (λ (p : Port). p)
keeps_all = record { tunnel = λ p. refl; limit = λ p. refl; received = λ p. refl }
