use Rattle.std.proofs.Common.{◌≡◌, ℕ, Bool, false, length, refl, sym, ap, subst, ◌∙◌}
use Rattle.slab.specs.Slab.{Slab}
use Rattle.mq_outside.specs.Ports.{empty_port}
use Rattle.mq_machine.specs.State as machine
use Rattle.mq_machine.specs.Acting.{holding}
use Rattle.mq_held.specs.Notes.{note_with}
use Rattle.mq_mem.specs.Links.{Link as LinkOf}
use Rattle.mq_mem.specs.Offices.{seen_of}
use Rattle.mq_mem.specs.Ports.{Port as PortOf, Ports as PortsOf}
use Rattle.mq_actor.specs.declared.ring.Ring.{Ring}
use Rattle.mq_actor.specs.Holds.{IsWorker}
use Rattle.mq_actor.specs.Plain.{PlainStep}
use Rattle.mq_actor.specs.Told.{TellsRing}
use Rattle.mq_play.specs.Events.{with_held_ports}
use Rattle.mq_plain.specs.Served.{words, Plain, Serves}
use Rattle.mq_plain.specs.Taking.{Common, shared_of}
use Rattle.mq_plain.proofs.Serving.{nowhere}
use Rattle.mq_plain.proofs.Taken.{place_of, serves_ready, took}
use Rattle.mq_book.specs.Journal.{Journal}
use Rattle.mq_plain.proofs.step.take.Goals as goal
use Rattle.mq_plain.proofs.step.take.Goals.{then-bind_fails, else-bind_fails}

-- the step begins with the worker, whose binds fail as is ordered
record Begun (a b : Plain) (bind_fails : Bool) : Type 0 where
  pub ring : b.ring ≡ a.ring
  pub table : b.table.table ≡ a.table.table
  pub fails : a.table.ports.bind_fails ≡ false → b.table.ports.bind_fails ≡ bind_fails

stands_begun : (a b : Plain) (fails : Bool) → Begun a b fails → (w : machine.Worker) → IsWorker words.most a.table.table a.ring w → IsWorker words.most b.table.table b.ring w
stands_begun a b fails begun w is =
    subst (λ (t : Slab PortOf). IsWorker words.most t b.ring w) (sym begun.table) (subst (λ (r : Ring LinkOf). IsWorker words.most a.table.table r w) (sym begun.ring) is)

tells_begun : (a b : Plain) (fails : Bool) → Begun a b fails → (w : machine.Worker) → TellsRing words a.table.table a.ring w → TellsRing words b.table.table b.ring w
tells_begun a b fails begun w is =
    subst (λ (t : Slab PortOf). TellsRing words t b.ring w) (sym begun.table) (subst (λ (r : Ring LinkOf). TellsRing words a.table.table r w) (sym begun.ring) is)

pub step_into-stepped-requires-clause-known : goal.step_into-stepped-requires-clause-known
step_into-stepped-requires-clause-known c =
    let a : Plain = c.args.worker.now in
    let b : Plain = c.if-bind_fails.worker in
    let begun : Begun a b c.args.bind_fails.now = elim c.if-bind_fails.branch [
      | then-bind_fails w ↦ record {
        ring = ap (λ (z : Plain). z.ring) w.worker-is;
        table = ap (λ (z : Plain). z.table.table) w.worker-is;
        fails = λ ready. ap (λ (z : Plain). z.table.ports.bind_fails) w.worker-is ∙ ap (λ (z : PortsOf). z.bind_fails) w.fail_next.ensures ∙ sym w.if-bind_fails.true;
      }
      | else-bind_fails w ↦ record {
        ring = ap (λ (z : Plain). z.ring) w.worker-is;
        table = ap (λ (z : Plain). z.table.table) w.worker-is;
        fails = λ ready. ap (λ (z : Plain). z.table.ports.bind_fails) w.worker-is ∙ ready ∙ sym w.if-bind_fails.false;
      }
    ] in
    let w = c.requires.serves.1 in
    let x = c.requires.serves.2 in
    (nowhere, w, stands_begun a b c.args.bind_fails.now begun w x.stands, x.known nowhere)

pub returns : goal.returns
returns c =
    let a : Plain = c.args.worker.now in
    let b : Plain = c.if-bind_fails.worker in
    let s : Plain = c.step_into-stepped.new.self in
    let begun : Begun a b c.args.bind_fails.now = elim c.if-bind_fails.branch [
      | then-bind_fails w ↦ record {
        ring = ap (λ (z : Plain). z.ring) w.worker-is;
        table = ap (λ (z : Plain). z.table.table) w.worker-is;
        fails = λ ready. ap (λ (z : Plain). z.table.ports.bind_fails) w.worker-is ∙ ap (λ (z : PortsOf). z.bind_fails) w.fail_next.ensures ∙ sym w.if-bind_fails.true;
      }
      | else-bind_fails w ↦ record {
        ring = ap (λ (z : Plain). z.ring) w.worker-is;
        table = ap (λ (z : Plain). z.table.table) w.worker-is;
        fails = λ ready. ap (λ (z : Plain). z.table.ports.bind_fails) w.worker-is ∙ ready ∙ sym w.if-bind_fails.false;
      }
    ] in
    let old : Common = record { office = c.args.office.now; mail = c.args.mail.now; bind_fails = c.args.bind_fails.now } in
    let new : Common = record { office = c.step_into-stepped.new.office; mail = c.step_into-stepped.new.mail; bind_fails = c.unfail.result } in
    record {
      takes = λ links number w x.
          let fails = c.args.bind_fails.now in
          let p : PlainStep words (shared_of old).orders old.mail.boxes (place_of b old.office old.mail) (place_of s new.office new.mail) w (note_with c.step_into-stepped.result c.step_into-stepped.new.told) =
          c.step_into-stepped.ensures.plain (λ l. refl) (λ q. refl) nowhere w old.mail.boxes (shared_of old).orders (stands_begun a b fails begun w x.stands) (tells_begun a b fails begun w x.tells) (x.known nowhere) refl refl in
          let ready = begun.fails x.ready in
          let fails_now = sym c.unfail.ensures.answer in
          let id = c.step_into-stepped.ensures.ring.1 in
          let left = c.step_into-stepped.ensures.left in
          let size = c.step_into-stepped.ensures.inboxes in
          let at_rest = serves_ready links number old new a b s (note_with c.step_into-stepped.result c.step_into-stepped.new.told) begun.ring ready fails_now id left size w x p in
          let resting = subst (λ (q : PortsOf). Serves links (seen_of new.office) new.mail.boxes number (record s { table = record s.table { ports = q } }) p.t) (sym c.unfail.ensures.after) at_rest in
          let served = c.empty_opened.ensures.serves links new.mail.boxes number p.t resting in
          took links number old new a b s (note_with c.step_into-stepped.result c.step_into-stepped.new.told) begun.ring ready fails_now id left size w x p c.empty_opened.new.worker
          (subst (λ (k : ℕ). Serves links (seen_of new.office) new.mail.boxes number c.empty_opened.new.worker (with_held_ports k (holding empty_port) p.t)) (c.count-next.ensures ∙ ap (λ (j : Journal). length j.history) c.book.ensures) served);
      told = c.step_into-stepped.ensures.told;
    }
