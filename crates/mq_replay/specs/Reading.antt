-- How far a script was read and played.
use Rattle.std.specs.Prelude.{◌≡◌, ℕ, ◌+◌, ◌≤◌, ◌<◌, ◌⊎◌, List, [], ◌∷◌, ◌++◌, length, Option, Some, None, Result, Ok, Err}
use Rattle.mq_text.specs.Cut.{Lacks}
use Rattle.mq_play.specs.Play.{Fate, Stage, opening, Plays, line_limit}
use Rattle.mq_play.specs.Script.{text_of, AreLines, script_limit, IsReached, IsBad, IsPlayed, IsPlayedBad, IsPlayedPart}
use Rattle.mq_play.specs.Text.{newline}
use Rattle.mq_replay.specs.Stages.{IsStage}
use Rattle.mq_replay.specs.declared.session.Session.{Session}
use Rattle.mq_outside.specs.Outside.{Rose}
use Rattle.mq_replay.specs.Replay.{Replays}
use Rattle.mq_replay.specs.declared.status.Status.{Status}
use Rattle.mq_replay.specs.declared.status.Status.TheVariants as status
use Rattle.mq_replay.specs.declared.status.Status.TheVariants.{Done, ReadFault, BadScript}
use Rattle.mq_output.specs.declared.stop.Stop.{Stop}
use Rattle.mq_output.specs.declared.stop.Stop.TheVariants.{BadLine, WriteFault, NoMemory}

-- the script is these lines with their newlines, and then a begun one
pub record IsScript (script : List ℕ) (lines : List (List ℕ)) (begun : List ℕ) : Type 0 where
  pub is : script ≡ text_of lines ++ begun
  pub lines_are : AreLines lines
  pub begun_is : Lacks newline begun

-- The script so far is these lines and the begun one. The lines were played, and printed the text.
pub record IsRead (x : Session) (script : List ℕ) (lines : List (List ℕ)) (text : List ℕ) : Type 0 where
  pub state : Stage
  pub fates : List (List Fate)
  pub plays : Plays opening lines fates text state
  pub stands : IsStage x.stage state
  pub number : x.number ≡ length lines
  pub script_is : IsScript script lines x.begun.items
  pub count : x.count ≡ length script
  pub fits : length script ≤ script_limit
  pub begun_fits : length x.begun.items ≤ line_limit

-- a line of this length, at this place of the script, with its newline where that was read, is within both limits
abbrev pub RoomTo : ℕ → ℕ → ℕ → Result ℕ Stop → Type 0
RoomTo line count ended (Ok now) = (now ≡ count + ended) × (now ≤ script_limit) × (line ≤ line_limit)
RoomTo line count ended (Err BadLine) = (line_limit < line) ⊎ (script_limit < count + ended)
RoomTo line count ended (Err WriteFault) = ⊥
RoomTo line count ended (Err NoMemory) = ⊥

-- so many lines were played and printed the text, and the one behind them is bad
pub record IsAtBad (whole text : List ℕ) (number : ℕ) : Type 0 where
  pub before : List (List ℕ)
  pub line : List ℕ
  pub after : List (List ℕ)
  pub fates : List (List Fate)
  pub here : Stage
  pub reached : IsReached whole before (line ∷ after) fates text here
  pub bad : IsBad whole before here line
  pub number_is : number ≡ length before

-- what this script printed when its play stopped behind so many lines
abbrev pub StopsAt : List ℕ → List ℕ → Stop → ℕ → Type 0
StopsAt whole text BadLine number = IsAtBad whole text number
StopsAt whole text WriteFault number = IsPlayedPart whole text
StopsAt whole text NoMemory number = IsPlayedPart whole text

-- more bytes of a script, whatever follows them
abbrev pub ReadsTo : List ℕ → List ℕ → Result (Unit {0}) Stop → Session → Type 0
ReadsTo script text (Ok done) x = (lines : List (List ℕ)) × IsRead x script lines text
ReadsTo script text (Err why) x = (more : List ℕ) → StopsAt (script ++ more) text why x.number

-- the end of a script, which was played: whole, and so in part
abbrev pub EndsTo : List ℕ → List ℕ → Result (Unit {0}) Stop → Session → Type 0
EndsTo script text (Ok done) x = IsPlayed script text × IsPlayedPart script text
EndsTo script text (Err why) x = StopsAt script text why x.number

-- what this script printed when its play stopped, by the status of that
abbrev pub SaysTo : List ℕ → List ℕ → Status → Type 0
SaysTo whole text BadScript = IsPlayedBad whole text
SaysTo whole text status.WriteFault = IsPlayedPart whole text
SaysTo whole text status.NoMemory = IsPlayedPart whole text
SaysTo whole text Done = ⊥
SaysTo whole text ReadFault = ⊥

-- all of that was written, where it is whole
abbrev pub IsWritten : List ℕ → Status → Type 0
IsWritten owes BadScript = owes ≡ []
IsWritten owes Done = owes ≡ []
IsWritten owes ReadFault = owes ≡ []
IsWritten owes status.WriteFault = Unit {0}
IsWritten owes status.NoMemory = Unit {0}

-- that the line is bad was said, or memory ran out
abbrev pub IsSaid : Status → Type 0
IsSaid BadScript = Unit {0}
IsSaid status.NoMemory = Unit {0}
IsSaid status.WriteFault = ⊥
IsSaid Done = ⊥
IsSaid ReadFault = ⊥

-- what no read answers: a sink's faults rose at a write fault, and only there
abbrev pub PlayCounts : ℕ → ℕ → Status → Type 0
PlayCounts before after status.WriteFault = Rose before after
PlayCounts before after Done = after ≡ before
PlayCounts before after BadScript = after ≡ before
PlayCounts before after status.NoMemory = after ≡ before
PlayCounts before after ReadFault = ⊥

-- the same from the stop on, which was told before where it is a write fault
abbrev pub StoppedCounts : Stop → ℕ → ℕ → Status → Type 0
StoppedCounts WriteFault before after answer = (after ≡ before) × (answer ≡ status.WriteFault)
StoppedCounts BadLine before after answer = PlayCounts before after answer
StoppedCounts NoMemory before after answer = PlayCounts before after answer

-- more bytes of a script were played and what they print was written, or the replay ends whatever follows them
abbrev pub PlaysTo : List ℕ → List ℕ → List ℕ → Option Status → Session → Type 0
PlaysTo script out owes None x = (lines : List (List ℕ)) × IsRead x script lines out × (owes ≡ [])
PlaysTo script out owes (Some answer) x = (more : List ℕ) → SaysTo (script ++ more) out answer

-- the replay of a whole script ends
abbrev pub FinishesTo : List ℕ → List ℕ → Status → Type 0
FinishesTo script out Done = IsPlayed script out
FinishesTo script out ReadFault = ⊥
FinishesTo script out BadScript = IsPlayedBad script out
FinishesTo script out status.WriteFault = IsPlayedPart script out
FinishesTo script out status.NoMemory = IsPlayedPart script out

-- The replay goes on, and all that was printed is written; or it ends. Where the source has nothing left to tell, nothing
-- is said of the rest.
abbrev pub GoesOn : List ℕ → List ℕ → List ℕ → Option (List ℕ) → Option Status → Session → Type 0
GoesOn script out owes left None x = (lines : List (List ℕ)) × IsRead x script lines out × (owes ≡ [])
GoesOn script out owes left (Some answer) x = (rest : List ℕ) → left ≡ Some rest → Replays script rest out answer
