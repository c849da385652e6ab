-- What a reader stands for: the bytes that it was fed.
use Rattle.std.specs.Prelude.{◌≡◌, ℕ, ◌≤◌, List, ◌++◌, length, drop, false, nat_lt, if◌then◌else◌}
use Rattle.mq_frame.specs.Numbers.{max_frame_size}
use Rattle.mq_frame.specs.declared.place.Place.{Place}
use Rattle.mq_frame.specs.declared.place.Place.TheVariants.{First}
use Rattle.mq_frame.specs.declared.frame.Frame.{Frame}
use Rattle.mq_frame.specs.declared.state.State.{State}
use Rattle.mq_frame.specs.declared.state.State.TheVariants.{Head, Contents, Skip, Spent}
use Rattle.mq_frame.specs.declared.reader.FrameReader.{FrameReader}
use Rattle.mq_frame.specs.Header.{header_of, is_skipped}
use Rattle.mq_frame.specs.Stream.{is_ended, AreFrames, FramesOf}
use Rattle.mq_frame.specs.Steps.{Holds}

-- how many bytes of a frame the state keeps
abbrev pub kept : State → ℕ
kept (Head head) = length head.items
kept (Contents header contents missing) = length contents.items
kept (Skip header missing) = 0
kept Spent = 0

-- the reader was fed these bytes, which are these frames and a rest that it holds; behind an error it needn't
pub record HasRead (r : FrameReader) (bytes : List ℕ) (frames : List Frame) : Type 0 where
  pub rest : List ℕ
  pub are : AreFrames First bytes frames r.place rest
  pub holds : is_ended r.place ≡ false → Holds r.state rest
  pub bounded : kept r.state ≤ max_frame_size

-- the reader was fed these bytes
abbrev pub Stands : FrameReader → List ℕ → Type 0
Stands r bytes = (frames : List Frame) × HasRead r bytes frames

-- memory ran out in the reader
abbrev pub IsSpent : FrameReader → Type 0
IsSpent r = r.state ≡ Spent

-- a piece leads a reader on, with these frames
abbrev pub Went : FrameReader → FrameReader → List ℕ → List Frame → Type 0
Went old new piece more = (bytes : List ℕ) (frames : List Frame) → HasRead old bytes frames → HasRead new (bytes ++ piece) (frames ++ more)

-- and those go to the end of a list
abbrev pub Reads : FrameReader → FrameReader → List ℕ → List Frame → List Frame → Type 0
Reads old new piece before after = (more : List Frame) × (after ≡ before ++ more) × Went old new piece more

-- The frames that a piece gives: whatever bytes the reader was fed, with the piece they have these frames
-- beyond those that they had before.
abbrev pub GivesFrames : FrameReader → List ℕ → List Frame → Type 0
GivesFrames r piece given = (bytes : List ℕ) (frames : List Frame) → Stands r bytes → FramesOf bytes frames → FramesOf (bytes ++ piece) (frames ++ given)

-- how many bytes of a frame the reader keeps
abbrev pub held : FrameReader → ℕ
held r = kept r.state

-- How many bytes are kept of a frame that isn't whole: those of a header in part, and those of the contents, but none
-- of contents that are read past.
abbrev pub kept_of : List ℕ → ℕ
kept_of rest =
    if nat_lt (length rest) 9 then length rest
    else (if is_skipped (header_of rest).kind then 0 else length (drop 9 rest))

-- the reader keeps so much of the frame that the bytes end in
abbrev pub KeepsOnly : FrameReader → List ℕ → Type 0
KeepsOnly r bytes = (frames : List Frame) (last : Place) (rest : List ℕ) → AreFrames First bytes frames last rest → is_ended last ≡ false → held r ≡ kept_of rest
