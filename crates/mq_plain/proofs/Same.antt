-- A change that changes nothing.
use Rattle.std.proofs.Common.{◌≡◌, ℕ, ◌==◌, Bool, true, false, List, [], ◌∷◌, map, refl, ap, subst, ◌∙◌}
use Rattle.std.specs.Prelude.{if◌then◌else◌}
use Rattle.mq_talk.specs.Mails.{Boxes}
use Rattle.mq_talk.specs.Offices.{Seen}
use Rattle.mq_machine.specs.State.{Link, Port, Offer, Held, Told, Worker}
use Rattle.mq_machine.specs.Shared.{at_port}
use Rattle.mq_play.specs.Events.{at_offer, at_held, at_worker, with_ports, with_held_ports}
use Rattle.mq_plain.specs.Served.{Plain, Serves}

either : {A : Type 0} (b : Bool) (x : A) → (if b then x else x) ≡ x
either true x = refl
either false x = refl

module _ (number : ℕ) where
  offers_same : (os : List Offer) → map (at_offer number (λ (l : Link). l)) os ≡ os
  offers_same [] = refl
  offers_same (o ∷ os) =
      ap {B = List Offer} (λ (x : Offer). x ∷ map (at_offer number (λ (l : Link). l)) os) (either (o.number == number) o)
      ∙ ap (λ (xs : List Offer). o ∷ xs) (offers_same os)

  helds_same : (hs : List Held) → map (at_held number (λ (l : Link). l)) hs ≡ hs
  helds_same [] = refl
  helds_same (h ∷ hs) =
      ap {B = List Held} (λ (x : Held). x ∷ map (at_held number (λ (l : Link). l)) hs) (either (h.conn.number == number) h)
      ∙ ap (λ (xs : List Held). h ∷ xs) (helds_same hs)

  pub links_same : (w : Worker) → at_worker number (λ (l : Link). l) w ≡ w
  links_same w =
      ap {B = Worker} (λ (os : List Offer). record w { offered = os; conns = map (at_held number (λ (l : Link). l)) w.conns }) (offers_same w.offered)
      ∙ ap {B = Worker} (λ (hs : List Held). record w { conns = hs }) (helds_same w.conns)

  at_same : (ports : List Port) → at_port number (λ (p : Port). p) ports ≡ ports
  at_same [] = refl
  at_same (p ∷ ports) =
      ap {B = List Port} (λ (x : Port). x ∷ at_port number (λ (q : Port). q) ports) (either (p.tunnel == number) p)
      ∙ ap (λ (xs : List Port). p ∷ xs) (at_same ports)

  with_same : (hs : List Held) → map (with_ports number (λ (p : Port). p)) hs ≡ hs
  with_same [] = refl
  with_same (h ∷ hs) =
      ap {B = List Held} (λ (ps : List Port). record h { ports = ps } ∷ map (with_ports number (λ (p : Port). p)) hs) (at_same h.ports)
      ∙ ap (λ (xs : List Held). h ∷ xs) (with_same hs)

  pub ports_same : (w : Worker) → with_held_ports number (λ (p : Port). p) w ≡ w
  ports_same w = ap {B = Worker} (λ (hs : List Held). record w { conns = hs }) (with_same w.conns)

  module _ (links : List Told) (seen : Seen) (boxes : Boxes) (actor : ℕ) (a : Plain) (w : Worker) where
    pub serves_links_same : Serves links seen boxes actor a (at_worker number (λ (l : Link). l) w) → Serves links seen boxes actor a w
    serves_links_same x = subst (λ (v : Worker). Serves links seen boxes actor a v) (links_same w) x

    pub serves_ports_same : Serves links seen boxes actor a (with_held_ports number (λ (p : Port). p) w) → Serves links seen boxes actor a w
    serves_ports_same x = subst (λ (v : Worker). Serves links seen boxes actor a v) (ports_same w) x
