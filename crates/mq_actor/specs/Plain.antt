-- What a step of a worker promises where all its links and ports tell what they hold.
use Rattle.std.specs.Prelude.{◌≡◌, Option, IsSome, Result}
use Rattle.slab.specs.Slab.{Slab}
use Rattle.mq_wire.specs.declared.NoMemory.{NoMemory}
use Rattle.mq_talk.specs.declared.note.Note.{Note}
use Rattle.mq_talk.specs.Mails.{Boxes, Inboxes}
use Rattle.mq_talk.specs.Offices.{Seen}
use Rattle.mq_machine.specs.State.{Orders, Worker}
use Rattle.mq_machine.specs.Acting.{Outside, Binder, Known, Writes, PlainGives}
use Rattle.mq_actor.specs.declared.ring.Ring.{Ring}
use Rattle.mq_actor.specs.Holds.{IsWorker}
use Rattle.mq_actor.specs.Seen.{Words}
use Rattle.mq_actor.specs.Steps.{sight}
use Rattle.mq_actor.specs.Told.{TellsRing}

-- whatever it is, it tells
abbrev pub AlwaysTells : {A B : Type 0} → (A → Option B) → Type 0
AlwaysTells {A} tells = (a : A) → IsSome (tells a)

-- a ring with its ports, and what its office and its mail tell
pub record Place (L Q : Type 0) : Type 0 where
  pub ring : Ring L
  pub table : Slab Q
  pub binds : Binder
  pub seen : Seen
  pub boxes : Inboxes

-- The step was the worker's turn, or it had none, or was refused memory at it: then the ring stands for the worker behind it,
-- whose links and ports tell what that has.
pub record PlainStep {L Q : Type 0} (words : Words L Q) (orders : Orders) (boxes : Boxes) (old new : Place L Q) (w : Worker)
    (result : Result (Option Note) NoMemory) : Type 0 where
  pub t : Worker
  pub stands : IsWorker words.most new.table new.ring t
  pub tells : TellsRing words new.table new.ring t
  -- what the links and ports told before the step and behind it
  pub before : Outside
  pub behind : Outside
  pub binds : before.binds ≡ old.binds
  pub binds_behind : behind.binds ≡ new.binds
  pub known : Known (sight behind new.seen new.boxes) t
  pub writes : Writes old.seen new.seen w.id
  pub gives : PlainGives orders (sight before old.seen old.boxes) (sight behind new.seen new.boxes) boxes w result t
