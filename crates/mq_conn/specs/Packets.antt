-- What calls promise that judge and push packets. Only the crate's own functions cite these words.
use Rattle.std.specs.Prelude.{◌≡◌, ℕ, Bool, true, false, List, [], Option, Some, None}
use Rattle.mq_talk.specs.declared.note.From.TheVariants as source
use Rattle.mq_talk.specs.declared.note.Note.{Note}
use Rattle.mq_talk.specs.declared.note.Note.TheVariants as note
use Rattle.mq_talk.specs.declared.place.Cause.TheVariants as cause
use Rattle.mq_talk.specs.declared.place.Judged.{Judged}
use Rattle.mq_talk.specs.declared.place.Place.{Place}
use Rattle.mq_machine.specs.Done.{judged}
use Rattle.mq_machine.specs.State as machine
use Rattle.mq_conn.specs.declared.conn.Conn.{Conn}
use Rattle.mq_conn.specs.declared.conn.First.TheVariants as first
use Rattle.mq_conn.specs.declared.packets.Judging.{Judging}
use Rattle.mq_conn.specs.declared.packets.Pushing.{Pushing}
use Rattle.mq_conn.specs.Conns.{Stands}

-- the note of what became of a push
abbrev pub pushed_note : ℕ → ℕ → Place → Bool → Note
pushed_note id n to true = note.PushedNote (source.Tunnel id) n to
pushed_note id n to false = note.Dropped (source.Tunnel id) n cause.InboxFull

-- what follows a verdict was done, before the end of the act
abbrev pub JudgesNote : Conn → Conn → ℕ → Judging → Judged → Note → Type 0
JudgesNote old new id p j said =
    (s : machine.Conn) (t : machine.Tunnel) → Stands old s → old.first ≡ None → t.id ≡ id → t.stream ≡ p.stream
    → (said ≡ (judged s t p.n p.packet j.verdict j.at).0) × Stands new (judged s t p.n p.packet j.verdict j.at).1

-- the push that stands in front
abbrev pub HasPush : Conn → Pushing → List ℕ → Type 0
HasPush c p packet = c.first ≡ Some (first.Push p.stream p.n p.to packet)

abbrev pub HasNoPush : Conn → Type 0
HasNoPush c = (p : Pushing) (packet : List ℕ) → ¬ (HasPush c p packet)

-- Its bytes are moved out.
abbrev pub LendsPush : Conn → Conn → Option (Pushing × List ℕ) → Type 0
LendsPush old new None = HasNoPush old × (new ≡ old)
LendsPush old new (Some (p, packet)) = HasPush old p packet × (new ≡ record old { first = Some (first.Push p.stream p.n p.to []) })

-- It is taken.
abbrev pub TakesPush : Conn → Conn → Option Pushing → Type 0
TakesPush old new None = HasNoPush old × (new ≡ old)
TakesPush old new (Some p) = (packet : List ℕ) × HasPush old p packet × (new ≡ record old { first = None })
