-- What the play of a script's lines comes to, where its notes are counted.
use Rattle.std.specs.Prelude.{◌≡◌, ℕ, ◌<◌, ◌⊎◌, List, [], ◌∷◌, ◌++◌, length, codes, Bool, true, false, Option, Result, Ok, Err}
use Rattle.mq_machine.specs.State.{State}
use Rattle.mq_play.specs.Laws.{AllNoted}
use Rattle.mq_play.specs.Play.{Fate, Stage, opening, opened, Plays, IsWrong, line_limit, more_text}
use Rattle.mq_play.specs.Script.{IsFrontOf}
use Rattle.mq_script.specs.Counting.{count_line}
use Rattle.mq_script.specs.Generated.{generated}
use Rattle.mq_output.specs.Printing.{Adds}
use Rattle.mq_replay.specs.Stages.{IsStage}
use Rattle.mq_top.specs.Tallies.{Counts, Counted, no_counts, counts_text}
use Rattle.mq_top.specs.declared.soaking.GeneratedPlay.{GeneratedPlay}
use Rattle.mq_output.specs.declared.stop.Stop.{Stop}
use Rattle.mq_output.specs.declared.stop.Stop.TheVariants as stop
use Rattle.mq_replay.specs.declared.status.Status.{Status}
use Rattle.mq_replay.specs.declared.status.Status.TheVariants.{Done, ReadFault, WriteFault, BadScript, NoMemory}

-- The lines were played, and what that prints has these counts. Each step gave its note, and no connection ended for want of
-- memory.
pub record IsCounted (lines : List (List ℕ)) (counts : Counts) (new : Stage) : Type 0 where
  pub fates : List (List Fate)
  pub text : List ℕ
  pub plays : Plays opening lines fates text new
  pub noted : AllNoted fates
  pub counted : Counted no_counts counts text

-- the counts, how many entries the book's history has then, and whether an actor has a step left
abbrev pub summary_text : Counts → State → List ℕ
summary_text counts s = counts_text counts ++ (count_line (codes "history") (length s.shared.book) ++ more_text s)

-- all lines were played, and that is their summary
pub record IsSummed (lines : List (List ℕ)) (out : List ℕ) : Type 0 where
  pub counts : Counts
  pub new : Stage
  pub is : IsCounted lines counts new
  pub out_is : out ≡ summary_text counts (opened new)

-- By the status: what was written. No line of a generated script is bad, and nothing is written where memory ran out.
abbrev pub SoaksTo : List (List ℕ) → List ℕ → Status → Type 0
SoaksTo lines out Done = IsSummed lines out
SoaksTo lines out BadScript = ⊥
SoaksTo lines out WriteFault = (whole : List ℕ) × IsSummed lines whole × IsFrontOf out whole
SoaksTo lines out NoMemory = out ≡ []
SoaksTo lines out ReadFault = ⊥

-- a sink that tells took, by the status, the summary of the script of a seed and a count
pub record Soaks (seed count : ℕ) (took takes : Option (List ℕ)) (status : Status) : Type 0 where
  pub out : List ℕ
  pub took_more : Adds took takes out
  pub soaks : SoaksTo (generated seed count) out status

-- ---- what its functions do; only the crate's own functions cite what follows

-- so many of the lines were played, and the others are left
pub record IsSoaking (x : GeneratedPlay) (lines : List (List ℕ)) : Type 0 where
  pub before : List (List ℕ)
  pub here : Stage
  pub lines_are : lines ≡ before ++ x.generator
  pub is : IsCounted before x.tally here
  pub stands : IsStage x.stage here
  pub number : x.number ≡ length before

-- the line behind so many is bad
pub record IsBadAt (lines : List (List ℕ)) (number : ℕ) : Type 0 where
  pub before : List (List ℕ)
  pub line : List ℕ
  pub after : List (List ℕ)
  pub counts : Counts
  pub here : Stage
  pub lines_are : lines ≡ before ++ line ∷ after
  pub is : IsCounted before counts here
  pub bad : IsWrong here line ⊎ (line_limit < length line)
  pub number_is : number ≡ length before

-- the first line that is left was played, or none is left, or it is bad
abbrev pub SoaksOn : List (List ℕ) → Result Bool Stop → GeneratedPlay → Type 0
SoaksOn lines (Ok true) x = IsSoaking x lines
SoaksOn lines (Ok false) x = IsSoaking x lines × (x.generator ≡ [])
SoaksOn lines (Err stop.BadLine) x = IsBadAt lines x.number
SoaksOn lines (Err stop.WriteFault) x = ⊥
SoaksOn lines (Err stop.NoMemory) x = Unit {0}

-- all lines were played
pub record IsSoaked (x : GeneratedPlay) (lines : List (List ℕ)) : Type 0 where
  pub here : Stage
  pub is : IsCounted lines x.tally here
  pub stands : IsStage x.stage here

abbrev pub SoaksAll : List (List ℕ) → Result (Unit {0}) Stop → GeneratedPlay → Type 0
SoaksAll lines (Ok done) x = IsSoaked x lines
SoaksAll lines (Err stop.BadLine) x = IsBadAt lines x.number
SoaksAll lines (Err stop.WriteFault) x = ⊥
SoaksAll lines (Err stop.NoMemory) x = Unit {0}

-- by the status, what is to be written
abbrev pub SumsTo : List (List ℕ) → List ℕ → Status → Type 0
SumsTo lines owed Done = IsSummed lines owed
SumsTo lines owed BadScript = ⊥
SumsTo lines owed NoMemory = Unit {0}
SumsTo lines owed WriteFault = ⊥
SumsTo lines owed ReadFault = ⊥
