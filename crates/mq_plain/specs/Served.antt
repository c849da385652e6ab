-- For which worker of the machine one of a world stands, whose links and ports all tell what they hold.
use Rattle.std.specs.Prelude.{◌≡◌, ℕ, false, List, slice_get, All, Some}
use Rattle.mq_talk.specs.Mails.{Boxes}
use Rattle.mq_talk.specs.Offices.{Seen}
use Rattle.mq_machine.specs.State.{Told, Worker}
use Rattle.mq_machine.specs.Acting.{Outside, Known}
use Rattle.mq_mem.specs.Links.{Link as LinkOf}
use Rattle.mq_mem.specs.Ports.{Port as PortOf, Ports as PortsOf, holds_of as port_holds}
use Rattle.mq_actor.specs.declared.actor.Actor.{Actor}
use Rattle.mq_actor.specs.Ended.{numbers_in}
use Rattle.mq_actor.specs.Holds.{IsWorker}
use Rattle.mq_actor.specs.Seen.{Words}
use Rattle.mq_actor.specs.Steps.{sight}
use Rattle.mq_actor.specs.Told.{TellsRing}
use Rattle.mq_mem.specs.Mails.{shown}

-- the words of its links and ports, which tell what they hold
abbrev pub words : Words LinkOf PortOf
words = record {
  most = λ p. p.most;
  link = λ l. Some l.holds;
  link_counts = λ l. l.counts;
  port = λ p. Some (port_holds p.queue);
  port_counts = λ p. p.queue.counts;
}

-- a worker on such links and ports
abbrev pub Plain : Type 0
Plain = Actor LinkOf PortsOf PortOf

-- the link of this number was offered to this worker
pub record IsOf (links : List Told) (worker number : ℕ) : Type 0 where
  pub said : Told
  pub at : slice_get links number ≡ Some said
  pub to : said.worker ≡ worker

-- It is the worker of this number. The links that it was offered are its own, and no bind is to fail.
pub record Serves (links : List Told) (seen : Seen) (boxes : Boxes) (number : ℕ) (a : Plain) (w : Worker) : Type 0 where
  pub stands : IsWorker words.most a.table.table a.ring w
  pub tells : TellsRing words a.table.table a.ring w
  pub known : (o : Outside) → Known (sight o seen (shown boxes)) w
  pub id : a.ring.id ≡ number
  pub own : All (IsOf links number) (numbers_in a.ring)
  pub ready : a.table.ports.bind_fails ≡ false
