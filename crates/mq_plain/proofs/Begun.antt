-- A worker at its beginning.
use Rattle.std.proofs.Common.{◌≡◌, ℕ, ◌+◌, ◌<◌, ◌≤◌, false, List, [], ◌∷◌, length, All, slice_get, Some, None, refl, sym, ap, subst, ◌∙◌}
use Rattle.std.proofs.lemmas.List.Elements.{All-nil}
use Rattle.slab.specs.Slab.{Slab}
use Rattle.mq_talk.specs.declared.book.Entry.{Entry}
use Rattle.mq_talk.specs.declared.goal.Goal.{Goal}
use Rattle.mq_talk.specs.Mails.{Boxes}
use Rattle.mq_talk.specs.Offices.{Seen}
use Rattle.mq_machine.specs.declared.setup.Setup.{Setup}
use Rattle.mq_machine.specs.State.{Held, new_worker}
use Rattle.mq_machine.specs.Acting.{Outside, Known, HasTunnel, IsOpen}
use Rattle.mq_machine.specs.Placing.{ArePlaced}
use Rattle.mq_mem.specs.Links.{Link as LinkOf}
use Rattle.mq_mem.specs.Ports.{Port as PortOf}
use Rattle.mq_held.specs.declared.held.Held.{Held as HeldBy}
use Rattle.mq_actor.specs.declared.offer.Offer.{Offer as OfferBy}
use Rattle.mq_actor.specs.Ended.{numbers_in}
use Rattle.mq_actor.specs.Holds.{AreHeld, AreOffered, IsWorker}
use Rattle.mq_actor.specs.Steps.{sight}
use Rattle.mq_actor.specs.Told.{TellsRing}
use Rattle.mq_plain.specs.Served.{words, Plain, IsOf, Serves}
use Rattle.mq_mem.specs.Mails.{shown}

no_conns : (table : Slab PortOf) (hs : List (HeldBy LinkOf)) → AreHeld words.most table hs [] → hs ≡ []
no_conns table [] are = refl
no_conns table (h ∷ hs) are = absurd are

no_offers : (fs : List (OfferBy LinkOf)) → AreOffered fs [] → fs ≡ []
no_offers [] are = refl
no_offers (f ∷ fs) are = absurd are

module _ (a : Plain) (id : ℕ) (setup : Setup) (stands : IsWorker words.most a.table.table a.ring (new_worker id setup)) where
  conns : a.ring.conns.items ≡ []
  conns = no_conns a.table.table a.ring.conns.items stands.conns

  offered : a.ring.offered.items ≡ []
  offered = no_offers a.ring.offered.items stands.offered

  tells : TellsRing words a.table.table a.ring (new_worker id setup)
  tells = record { conns = rw conns tt; offered = rw offered tt }

  pub numbers : numbers_in a.ring ≡ []
  numbers = rw (conns, offered) refl

  -- its office, whose book is empty, knows that it has no tunnels
  module _ (seen : Seen) (boxes : Boxes) (few : id < seen.config.workers) (pump : setup.pump ≡ seen.config.workers) (empty : seen.entries ≡ []) (size : length boxes ≡ seen.config.workers + 1) where
    none_open : (tunnel conn stream : ℕ) (goal : Goal) → IsOpen seen.entries id tunnel conn stream goal → ⊥
    none_open tunnel conn stream goal is =
        let none : slice_get [] tunnel ≡ Some is.entry = ap (λ (es : List Entry). slice_get es tunnel) (sym empty) ∙ is.at in
        absurd cc

    none_had : (tunnel conn stream : ℕ) (goal : Goal) → HasTunnel (new_worker id setup) tunnel conn stream goal → ⊥
    none_had tunnel conn stream goal has = let none : None ≡ Some has.held = has.at in absurd cc

    known : (o : Outside) → Known (sight o seen (shown boxes)) (new_worker id setup)
    known o = record {
      id = few;
      pump = pump;
      tunnels = λ tunnel conn stream goal. (λ has. absurd (none_had tunnel conn stream goal has), λ is. absurd (none_open tunnel conn stream goal is));
      last = All-nil (λ (h : Held). h.conn.next_tunnel ≤ length seen.entries);
      places = All-nil (λ (h : Held). ArePlaced seen.config.workers h.conn.due);
      boxes = λ bs is.
          let same : boxes ≡ bs = cc in
          ap (λ (b : Boxes). length b) (sym same) ∙ size;
    }

    pub begins : a.table.ports.bind_fails ≡ false → Serves [] seen boxes id a (new_worker id setup)
    begins ready = record {
      stands = stands;
      tells = tells;
      known = known;
      id = sym stands.id;
      own = subst (λ (ns : List ℕ). All (IsOf [] id) ns) (sym numbers) (All-nil (IsOf [] id));
      ready = ready;
    }
