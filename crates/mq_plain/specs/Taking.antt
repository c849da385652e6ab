-- What a step of a worker of a world gives.
use Rattle.std.specs.Prelude.{◌≡◌, ℕ, Bool, List, length, slice_get, Option, Some, None, Result, Ok, Err}
use Rattle.mq_wire.specs.declared.NoMemory.{NoMemory}
use Rattle.mq_talk.specs.declared.note.Note.{Note}
use Rattle.mq_talk.specs.declared.place.Parcel.{Parcel}
use Rattle.mq_machine.specs.State.{Told, Worker, Shared}
use Rattle.mq_machine.specs.Want.{Answer}
use Rattle.mq_machine.specs.Shared.{Ordered}
use Rattle.mq_machine.specs.Silent.{Reached, WorkerStarves}
use Rattle.mq_machine.specs.Turn.{WorkerTurn, turn_of}
use Rattle.mq_machine.specs.Acting.{Writes}
use Rattle.mq_mem.specs.Mails.{Mail as MailOf}
use Rattle.mq_mem.specs.Offices.{Office as OfficeOf, seen_of}
use Rattle.mq_plain.specs.Served.{Plain, Serves}

-- what its workers share
pub record Common : Type 0 where
  pub office : OfficeOf
  pub mail : MailOf
  -- whether the next bind is to fail
  pub bind_fails : Bool

abbrev pub shared_of : Common → Shared
shared_of c = record { config = c.office.book.config; book = c.office.book.history; boxes = c.mail.boxes; orders = record { bind = c.bind_fails } }

-- the book and the inboxes are so now, and the configuration stays
pub record Leads (old : Common) (after : Shared) (new : Common) : Type 0 where
  pub config : new.office.book.config ≡ old.office.book.config
  pub book : new.office.book.history ≡ after.book
  pub boxes : new.mail.boxes ≡ after.boxes

-- the step took its turn, and what it was answered is as what is ordered
pub record Turns (old new : Common) (w : Worker) (note : Note) (t : Worker) : Type 0 where
  pub box : List Parcel
  pub answer : Answer
  pub after : Shared
  pub was : slice_get old.mail.boxes w.id ≡ Some box
  pub turn : WorkerTurn w box (shared_of old) answer note t after
  pub ordered : Ordered (shared_of old).orders answer (shared_of new).orders
  pub leads : Leads old after new

-- it had none
pub record Idles (old new : Common) (w t : Worker) : Type 0 where
  pub box : List Parcel
  pub was : slice_get old.mail.boxes w.id ≡ Some box
  pub none : turn_of w box ≡ None
  pub same : t ≡ w
  pub is : shared_of new ≡ shared_of old

-- memory was refused
pub record Starves (old new : Common) (w t : Worker) : Type 0 where
  pub box : List Parcel
  pub answer : Answer
  pub after : Shared
  pub reached : Reached
  pub was : slice_get old.mail.boxes w.id ≡ Some box
  pub starves : WorkerStarves w box (shared_of old) reached answer t after
  pub ordered : Ordered (shared_of old).orders answer (shared_of new).orders
  pub leads : Leads old after new

abbrev pub Gives : Common → Common → Worker → Result (Option Note) NoMemory → Worker → Type 0
Gives old new w (Ok (Some note)) t = Turns old new w note t
Gives old new w (Ok None) t = Idles old new w t
Gives old new w (Err refused) t = Starves old new w t

-- The worker of this number took a step.
pub record Took (links : List Told) (number : ℕ) (old new : Common) (a : Plain) (w : Worker) (result : Result (Option Note) NoMemory) : Type 0 where
  pub t : Worker
  pub serves : Serves links (seen_of new.office) new.mail.boxes number a t
  pub writes : Writes (seen_of old.office) (seen_of new.office) number
  pub config : new.office.book.config ≡ old.office.book.config
  pub boxes : length new.mail.boxes ≡ length old.mail.boxes
  pub gives : Gives old new w result t
