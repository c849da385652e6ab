use Rattle.std.proofs.Common.{◌≡◌, ℕ, ◌≤◌, ◌++◌, List, length}
use Rattle.mq_frame.specs.declared.frame.Frame.{Frame}
use Rattle.mq_frame.specs.declared.reader.FrameReader.{FrameReader}
use Rattle.mq_frame.specs.Readers.{Stands, Went}
use Rattle.mq_frame.proofs.reader.FrameReader.read.Given as goal

-- what was read of the piece so far, at least a byte a round
pub record Far (start now : FrameReader) (piece left : List ℕ) (before after : List Frame) (rounds : ℕ) : Type 0 where
  pub done : List ℕ
  pub more : List Frame
  pub all : done ++ left ≡ piece
  pub given : after ≡ before ++ more
  pub went : Went start now done more
  pub goes : (bytes : List ℕ) → Stands start bytes → rounds ≤ length done

abbrev pub invariant-loop : goal.invariant-loop
invariant-loop l = Far l.initial.self l.self l.piece l.left l.initial.frames.items l.frames.items l.counter
