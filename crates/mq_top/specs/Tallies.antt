-- The counts of a play, and their lines.
use Rattle.std.specs.Prelude.{◌≡◌, ℕ, ◌+◌, Bool, true, false, List, [], ◌∷◌, ◌++◌, codes}
use Rattle.std.specs.List.{flat_map, AllByRecursion}
use Rattle.mq_talk.specs.declared.note.End.{End}
use Rattle.mq_talk.specs.declared.note.End.TheVariants as end
use Rattle.mq_talk.specs.declared.note.Note.{Note}
use Rattle.mq_talk.specs.declared.note.Note.TheVariants.{Accepted, Took, Finished, Ported, Opened, Refused, Reset, Assigned, Advertised, Passed, PushedNote, Waits, Sent, Queued, Part, Delivered, Control, Dropped, Wrote, Closed, Ended}
use Rattle.mq_play.specs.Text.{printed, Print, Says, Idle, More, Bad}
use Rattle.mq_script.specs.Counting.{count_line}

-- how many packets passed, were pushed, and so on
pub record Counts : Type 0 where
  pub passed : ℕ
  pub pushed : ℕ
  pub sent : ℕ
  pub queued : ℕ
  pub delivered : ℕ
  pub dropped : ℕ

abbrev pub no_counts : Counts
no_counts = record { passed = 0; pushed = 0; sent = 0; queued = 0; delivered = 0; dropped = 0 }

-- with one note more
abbrev pub with_note : Note → Counts → Counts
with_note (Passed from n at to) c = record c { passed = c.passed + 1 }
with_note (PushedNote from n to) c = record c { pushed = c.pushed + 1 }
with_note (Sent from n packet) c = record c { sent = c.sent + 1 }
with_note (Queued from n to) c = record c { queued = c.queued + 1 }
with_note (Delivered from n to packet) c = record c { delivered = c.delivered + 1 }
with_note (Dropped from n cause) c = record c { dropped = c.dropped + 1 }
with_note (Accepted conn actor) c = c
with_note (Took conn count) c = c
with_note (Finished conn) c = c
with_note (Ported conn stream) c = c
with_note (Opened tunnel conn stream kind) c = c
with_note (Refused conn stream status rule) c = c
with_note (Reset conn stream code) c = c
with_note (Assigned tunnel at list) c = c
with_note (Advertised tunnel at accepts) c = c
with_note (Waits from n) c = c
with_note (Part tunnel count) c = c
with_note (Control tunnel capsule) c = c
with_note (Wrote conn bytes) c = c
with_note (Closed tunnel reason left) c = c
with_note (Ended conn reason) c = c

abbrev pub with_print : Print → Counts → Counts
with_print (Says note) c = with_note note c
with_print (Idle actor) c = c
with_print More c = c
with_print (Bad number) c = c

-- with all that was printed more
abbrev pub counted : List Print → Counts → Counts
counted [] c = c
counted (p ∷ ps) c = counted ps (with_print p c)

-- ---- want of memory

abbrev pub is_no_memory : End → Bool
is_no_memory end.NoMemory = true
is_no_memory end.Done = false
is_no_memory end.Truncated = false
is_no_memory end.Link = false
is_no_memory (end.Protocol code) = false
is_no_memory end.Refused = false
is_no_memory end.Tunnel = false

-- a connection ended for want of memory
abbrev pub is_starved_note : Note → Bool
is_starved_note (Ended conn reason) = is_no_memory reason
is_starved_note note = false

abbrev pub is_starved : Print → Bool
is_starved (Says note) = is_starved_note note
is_starved (Idle actor) = false
is_starved More = false
is_starved (Bad number) = false

abbrev pub NoneStarved : List Print → Type 0
NoneStarved ps = AllByRecursion (λ p. is_starved p ≡ false) ps

-- ---- their lines

abbrev pub counts_text : Counts → List ℕ
counts_text c =
    count_line (codes "passed") c.passed
    ++ (count_line (codes "pushed") c.pushed
    ++ (count_line (codes "sent") c.sent
    ++ (count_line (codes "queued") c.queued
    ++ (count_line (codes "delivered") c.delivered
    ++ count_line (codes "dropped") c.dropped))))

-- ---- what a count hears

-- This text was said, of which each line was counted. No connection ended for want of memory in it.
pub record Counted (old new : Counts) (text : List ℕ) : Type 0 where
  pub prints : List Print
  pub text_is : text ≡ flat_map printed prints
  pub none : NoneStarved prints
  pub is : new ≡ counted prints old
