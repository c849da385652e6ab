-- What a replay answers: by its status, what the script that was read, what is left of it and what was printed have to
-- do with one another.
use Rattle.std.specs.Prelude.{◌≡◌, ℕ, ◌⊎◌, List, [], ◌++◌, Option, Some}
use Rattle.mq_play.specs.Script.{IsPlayed, IsPlayedSoFar, IsPlayedBad, IsPlayedPart}
use Rattle.mq_outside.specs.Outside.{Rose, Gives}
use Rattle.mq_replay.specs.declared.status.Status.{Status}
use Rattle.mq_replay.specs.declared.status.Status.TheVariants.{Done, ReadFault, WriteFault, BadScript, NoMemory}
use Rattle.mq_output.specs.Printing.{Adds}

-- whatever follows, the first bad line of the script is this one, and the lines before it were played
abbrev pub StaysBad : List ℕ → List ℕ → Type 0
StaysBad script out = (more : List ℕ) → IsPlayedBad (script ++ more) out

-- whatever follows, a front of what the script prints was printed
abbrev pub StaysPart : List ℕ → List ℕ → Type 0
StaysPart script out = (more : List ℕ) → IsPlayedPart (script ++ more) out

-- By the status: the script that was read, what is left of it, and what was printed.
abbrev pub Replays : List ℕ → List ℕ → List ℕ → Status → Type 0
Replays script rest out Done = (rest ≡ []) × IsPlayed script out
Replays script rest out BadScript = StaysBad script out ⊎ ((rest ≡ []) × IsPlayedBad script out)
Replays script rest out ReadFault = IsPlayedSoFar script out
Replays script rest out WriteFault = StaysPart script out ⊎ ((rest ≡ []) × IsPlayedPart script out)
Replays script rest out NoMemory = StaysPart script out ⊎ ((rest ≡ []) × IsPlayedPart script out)

-- A source that tells gave the script and has the rest left, and a sink that tells took out.
pub record Replayed (before after : Option (List ℕ)) (took takes : Option (List ℕ)) (status : Status) : Type 0 where
  pub script : List ℕ
  pub out : List ℕ
  pub gave : Gives before after script
  pub took_more : Adds took takes out
  pub replays : (rest : List ℕ) → after ≡ Some rest → Replays script rest out status

-- the source's faults rose exactly at status ReadFault
abbrev pub SourceCounts : ℕ → ℕ → Status → Type 0
SourceCounts before after ReadFault = Rose before after
SourceCounts before after Done = after ≡ before
SourceCounts before after BadScript = after ≡ before
SourceCounts before after WriteFault = after ≡ before
SourceCounts before after NoMemory = after ≡ before

-- the sink's faults rose exactly at status WriteFault
abbrev pub SinkCounts : ℕ → ℕ → Status → Type 0
SinkCounts before after WriteFault = Rose before after
SinkCounts before after Done = after ≡ before
SinkCounts before after BadScript = after ≡ before
SinkCounts before after ReadFault = after ≡ before
SinkCounts before after NoMemory = after ≡ before

-- the exit status of a program that ends so
abbrev pub code_of : Status → ℕ
code_of Done = 0
code_of ReadFault = 3
code_of WriteFault = 4
code_of BadScript = 5
code_of NoMemory = 7
