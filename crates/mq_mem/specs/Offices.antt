-- A book of which one actor at a time is served, and the same where one call is refused memory.
use Rattle.std.specs.Prelude.{ℕ, ◌==◌, Bool, true, false, if◌then◌else◌}
use Rattle.mq_talk.specs.declared.book.Call.{Call}
use Rattle.mq_talk.specs.declared.book.Call.TheVariants.{Open, Assign, Advertise, Close}
use Rattle.mq_talk.specs.Offices.{Seen}
use Rattle.mq_book.specs.Journal.{Journal}
use Rattle.mq_outside.specs.Counts.{risen}

pub record Office : Type 0 where
  pub book : Journal
  pub actor : ℕ

-- it has seen the whole history
abbrev pub seen_of : Office → Seen
seen_of o = record { actor = o.actor; config = o.book.config; entries = o.book.history; is_whole = true }

abbrev pub is_close : Call → Bool
is_close (Close tunnel) = true
is_close (Open conn stream actor goal) = false
is_close (Assign tunnel asked) = false
is_close (Advertise tunnel ranges) = false

-- an office that refuses memory at the call of this number, counted from 0, of those that aren't a close
pub record Refusing : Type 0 where
  pub office : Office
  pub refused : ℕ
  -- how many were made
  pub made : ℕ

abbrev pub is_refused : Refusing → Call → Bool
is_refused r call = if is_close call then false else r.made == r.refused

-- how many were made behind a call
abbrev pub made_by : Refusing → Call → ℕ
made_by r call = if is_close call then r.made else risen r.made
