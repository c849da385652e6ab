-- What an act of a connection tells, and that it is what is asked next.
use Rattle.std.proofs.Common.{◌≡◌, ℕ, slice_get, Option, Some, refl, subst, ap}
use Rattle.mq_talk.specs.declared.note.Note.{Note}
use Rattle.mq_machine.specs.declared.act.StreamAct.{StreamAct}
use Rattle.mq_machine.specs.State.{Held, Worker, State, held_of}
use Rattle.mq_machine.specs.Want.{Want, Over, Answer}
use Rattle.mq_machine.specs.Done.{done}
use Rattle.mq_machine.specs.Turn.{over_or}
use Rattle.mq_play.proofs.Lists.{some_same}
use Rattle.mq_runs.specs.Payloads.{IsNext}
use Rattle.mq_runs.proofs.Asked.{Asked, DuesOf}
use Rattle.mq_runs.proofs.Facts.{InFront, Tells, done_tells}
use Rattle.mq_runs.proofs.Walks.{map_was}

-- what a connection does tells what is known of it
pub acts_tell : (h : Held) (want : Want) (answer : Answer) (said : Note) (new : Option Held) → over_or h want answer ≡ Some (said, new) → Tells h.conn answer said
acts_tell h (Over reason) answer said new e = subst (λ (d : Note × Option Held). Tells h.conn answer d.0) (some_same e) tt
acts_tell h want answer said new e =
    let was = map_was _ (done h.conn answer) (said, new) e in
    let same : was.0.0 ≡ said = ap (λ (d : Note × Option Held). d.0) was.2 in
    subst (λ n. Tells h.conn answer n) same (done_tells h.conn was.0.1 answer was.0.0 was.1)

-- what is in front is asked next
abbrev pub next_is : (here : State) (number conn : ℕ) (worker : Worker) (held : Held) → slice_get here.workers number ≡ Some worker → held_of worker conn ≡ Some held → Asked worker.setup.mtu held.conn
    → (a : StreamAct) (f : InFront held.conn a) → IsNext here f.t.id a
next_is here number conn worker held works has asked a f = record {
  number = number;
  conn = conn;
  on = f.on;
  worker = worker;
  held = held;
  t = f.t;
  others = f.others;
  works = works;
  has = has;
  serves = f.serves;
  id = refl;
  due_is = f.due_is;
  goes_on = f.goes_on;
  is = (subst (DuesOf worker.setup.mtu held.conn.streams) f.due_is asked).0;
}
