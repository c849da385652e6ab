-- What the print of a generated script writes.
use Rattle.std.specs.Prelude.{◌≡◌, ℕ, List, [], ◌∷◌, ◌++◌, Bool, true, false, Option, Result, Ok, Err}
use Rattle.mq_play.specs.Script.{IsFrontOf, text_of}
use Rattle.mq_play.specs.Text.{newline}
use Rattle.mq_script.specs.Generated.{generated}
use Rattle.mq_output.specs.Printing.{Adds}
use Rattle.mq_replay.specs.declared.status.Status.{Status}
use Rattle.mq_replay.specs.declared.status.Status.TheVariants as status
use Rattle.mq_output.specs.declared.stop.Stop.{Stop}
use Rattle.mq_output.specs.declared.stop.Stop.TheVariants.{BadLine, WriteFault, NoMemory}

-- By the status: all of a text was written, or a front of it. No other status comes.
abbrev pub WritesOf : List ℕ → List ℕ → Status → Type 0
WritesOf text out status.Done = out ≡ text
WritesOf text out status.WriteFault = IsFrontOf out text
WritesOf text out status.NoMemory = IsFrontOf out text
WritesOf text out status.ReadFault = ⊥
WritesOf text out status.BadScript = ⊥

-- A sink that tells took all lines of the script of a seed and a count, each with its newline, or a front of that.
pub record Generates (seed count : ℕ) (took takes : Option (List ℕ)) (status : Status) : Type 0 where
  pub out : List ℕ
  pub took_more : Adds took takes out
  pub writes : WritesOf (text_of (generated seed count)) out status

-- The first of these lines was shown, with its newline, and is no longer left; or none was left; or the print stopped, and a
-- front of all was shown.
abbrev pub LineShown : List (List ℕ) → List ℕ → Result Bool Stop → List (List ℕ) → Type 0
LineShown old shown (Ok true) new = (line : List ℕ) × (old ≡ line ∷ new) × (shown ≡ line ++ newline ∷ [])
LineShown old shown (Ok false) new = (old ≡ []) × (shown ≡ [])
LineShown old shown (Err WriteFault) new = IsFrontOf shown (text_of old)
LineShown old shown (Err NoMemory) new = IsFrontOf shown (text_of old)
LineShown old shown (Err BadLine) new = ⊥

-- these lines were written, each with its newline, or a front of that was
abbrev pub LinesWritten : List (List ℕ) → List ℕ → Result (Unit {0}) Stop → Type 0
LinesWritten lines out (Ok done) = out ≡ text_of lines
LinesWritten lines out (Err WriteFault) = IsFrontOf out (text_of lines)
LinesWritten lines out (Err NoMemory) = IsFrontOf out (text_of lines)
LinesWritten lines out (Err BadLine) = ⊥
