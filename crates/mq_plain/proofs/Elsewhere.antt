-- The port of a tunnel that another worker opened is none of a worker's.
use Rattle.std.proofs.Common.{◌≡◌, ◌≢◌, ℕ, ◌==◌, Bool, List, [], ◌∷◌, map, slice_get, Some, refl, ap, ◌∙◌}
use Rattle.std.specs.Prelude.{if◌then◌else◌}
use Rattle.std.proofs.lemmas.Bool.{ne_eqb}
use Rattle.mq_talk.specs.declared.book.Entry.{Entry}
use Rattle.mq_talk.specs.Mails.{Boxes}
use Rattle.mq_talk.specs.Offices.{Seen}
use Rattle.mq_machine.specs.State.{Told, Port, Held, Worker}
use Rattle.mq_machine.specs.Shared.{at_port}
use Rattle.mq_play.specs.Events.{with_ports, with_held_ports}
use Rattle.mq_plain.specs.Served.{words, Plain, Serves}
use Rattle.mq_plain.proofs.Emptied.{PortsApart, ConnsApart}
use Rattle.mq_plain.proofs.Serving.{nowhere}
use Rattle.mq_plain.proofs.Turned.{apart_other}
use Rattle.mq_mem.specs.Mails.{shown}

module _ (t : ℕ) (change : Port → Port) where
  ports_still : (ports : List Port) → PortsApart t ports → at_port t change ports ≡ ports
  ports_still [] apart = refl
  ports_still (p ∷ ports) apart =
      ap (λ (ps : List Port). (if p.tunnel == t then change p else p) ∷ ps) (ports_still ports apart.1)
      ∙ ap {B = List Port} (λ (b : Bool). (if b then change p else p) ∷ ports) (ne_eqb p.tunnel t apart.0)

  conns_still : (hs : List Held) → ConnsApart t hs → map (with_ports t change) hs ≡ hs
  conns_still [] apart = refl
  conns_still (h ∷ hs) apart =
      ap (λ (xs : List Held). with_ports t change h ∷ xs) (conns_still hs apart.1)
      ∙ ap (λ (ps : List Port). record h { ports = ps } ∷ hs) (ports_still h.ports apart.0)

  -- it changes nothing of what that worker has
  pub still_elsewhere : (links : List Told) (seen : Seen) (boxes : Boxes) (number : ℕ) (a : Plain) (w : Worker) → Serves links seen boxes number a w
      → (e : Entry) → slice_get seen.entries t ≡ Some e → e.actor ≢ number → with_held_ports t change w ≡ w
  still_elsewhere links seen boxes number a w x e at ne =
      ap (λ (hs : List Held). record w { conns = hs })
      (conns_still w.conns (apart_other words.most a.table.table a.ring w x.stands nowhere seen (shown boxes) t e (x.known nowhere) at (λ same. ne (same ∙ x.stands.id ∙ x.id))))
