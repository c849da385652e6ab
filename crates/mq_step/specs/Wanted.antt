-- What it gives that a connection does what it wants: on ports that hold what they told, or else what was found.
use Rattle.std.specs.Prelude.{◌≡◌, ◌⊎◌, ℕ, Bool, true, false, List, All, map, Option, Some, None, option_map, Result, Ok, Err}
use Rattle.mq_wire.specs.declared.NoMemory.{NoMemory}
use Rattle.mq_talk.specs.declared.book.Reply.TheVariants as reply
use Rattle.mq_talk.specs.declared.note.Note.{Note}
use Rattle.mq_talk.specs.Mails.{Inboxes}
use Rattle.mq_talk.specs.Offices.{Seen}
use Rattle.mq_machine.specs.State.{Tunnel, Port, Held, Orders, Shared}
use Rattle.mq_machine.specs.Want.{Want, Nothing, Say, Bind, Ask, Judge, Push, Send, Over, Answer, Replied, want_of}
use Rattle.mq_machine.specs.Shared.{at_port}
use Rattle.mq_machine.specs.Silent.{Heard, may_starve}
use Rattle.mq_machine.specs.Steps.{starved}
use Rattle.mq_machine.specs.Turn.{Act, can_try, ActNext}
use Rattle.mq_machine.specs.Acting.{Outside, Binder, Binds, WantWaited, BindFits, PortsTold, Shares, prepared}
use Rattle.mq_step.specs.Notes.{SteppedWith, Quiet, Did, Ended, Noteless}
use Rattle.mq_step.specs.Sights.{Found, filled_port, idle, PortsFit, PortGrows}

-- the port of a tunnel that opened holds what the outside tells of it
abbrev pub with_prepared : Outside → Answer → Held → Held
with_prepared o (Replied (reply.Opened tunnel routes)) h = record h { ports = at_port tunnel (prepared (o.port tunnel)) h.ports }
with_prepared o answer h = h

-- ---- the want

-- the connection with what ports tell, or else was found
abbrev pub ported : Outside → Found → Held → Held
ported o found h = record h { ports = map (filled_port o found) h.ports }

abbrev pub is_send : Want → Bool
is_send (Send tunnel n payload) = true
is_send Nothing = false
is_send Say = false
is_send (Bind stream goal) = false
is_send (Ask call) = false
is_send (Judge tunnel n flow) = false
is_send (Push parcel) = false
is_send (Over why) = false

-- It did what it wants.
pub record WantDone (old new : Outside) (seen seen_after : Seen) (mail mail_after : Inboxes) (orders : Orders) (s : Held) (note : Note) (t : Option Held) : Type 0 where
  pub found : Found
  pub answer : Answer
  pub sh : Shared
  pub after : Shared
  pub became : Option Held
  -- a want that isn't a send asks no port
  pub calm : is_send (want_of s.conn) ≡ false → found ≡ idle
  pub can : can_try (ported old found s) Act ≡ true
  pub shares : Shares seen seen_after mail mail_after orders sh after
  pub faults : PortsFit old new (ported old found s).ports
  pub binds : BindFits old new answer
  pub next : ActNext (ported old found s) sh answer note became after
  pub then : t ≡ option_map (with_prepared new answer) became

-- what was found leaves each send in vain
abbrev pub SendsWait : Found → Type 0
SendsWait found = (tunnel : ℕ) → ((found.port tunnel).send_fails ≡ false) × ((found.port tunnel).send_waits ≡ true)

-- what it wants waits for a port, or it wants nothing
pub record WantWaits (old new : Outside) (seen seen_after : Seen) (mail mail_after : Inboxes) (s : Held) : Type 0 where
  pub cannot : (found : Found) → SendsWait found → can_try (ported old found s) Act ≡ false
  pub asked : WantWaited old new (want_of s.conn)
  pub grows : All (λ (p : Port). PortGrows (old.port_counts p.tunnel) (new.port_counts p.tunnel)) s.ports
  pub told : All (λ (p : Port). new.port p.tunnel ≡ old.port p.tunnel) s.ports
  pub works : All (λ (p : Port). (new.port_counts p.tunnel).faults ≡ (old.port_counts p.tunnel).faults) s.ports
  pub binds : new.binds ≡ old.binds
  pub seen_is : seen_after ≡ seen
  pub mail_is : mail_after ≡ mail

-- nothing was bound, or a bind was answered
abbrev pub MayBind : Binder → Binder → Type 0
MayBind old new = (new ≡ old) ⊎ ((done : Bool) × Binds done old new)

-- It was refused memory as it did what it wants, which takes some.
pub record WantStarves (old new : Outside) (seen seen_after : Seen) (mail mail_after : Inboxes) (orders : Orders) (s t : Held) : Type 0 where
  pub found : Found
  pub answer : Answer
  pub sh : Shared
  pub after : Shared
  pub asked : Bool
  pub tunnels : List Tunnel
  pub can : can_try (ported old found s) Act ≡ true
  pub takes : may_starve (want_of s.conn) ≡ true
  pub shares : Shares seen seen_after mail mail_after orders sh after
  pub heard : Heard asked (ported old found s) sh Act answer tunnels after
  pub binds : BindFits old new answer
  pub then : t ≡ record (ported old found s) { conn = record (starved s.conn) { tunnels = tunnels } }

abbrev pub ActGives : Outside → Outside → Seen → Seen → (mail mail_after : Inboxes) → (Held → Type 0) → Held → Result SteppedWith NoMemory → Type 0
ActGives old new seen seen_after mail mail_after stands s (Ok Quiet) = WantWaits old new seen seen_after mail mail_after s × stands s
ActGives old new seen seen_after mail mail_after stands s (Ok (Did note)) =
    (orders : Orders) → (t : Held) × WantDone old new seen seen_after mail mail_after orders s note (Some t) × stands t × PortsTold new t.ports
ActGives old new seen seen_after mail mail_after stands s (Ok (Ended note)) =
    (orders : Orders) → WantDone old new seen seen_after mail mail_after orders s note None
ActGives old new seen seen_after mail mail_after stands s (Ok Noteless) = ⊥
ActGives old new seen seen_after mail mail_after stands s (Err refused) =
    (orders : Orders) → (t : Held) × WantStarves old new seen seen_after mail mail_after orders s t × stands t × PortsTold new t.ports
