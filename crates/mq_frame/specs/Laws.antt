-- What holds of all readings.
use Rattle.std.specs.Prelude.{◌≡◌, ℕ, List, [], ◌∷◌, ◌++◌}
use Rattle.mq_frame.specs.declared.frame.Frame.{Frame}
use Rattle.mq_frame.specs.declared.frame.Frame.TheVariants.{Fault}
use Rattle.mq_frame.specs.Stream.{FramesOf}

-- all bytes have frames
abbrev pub IsReadable : Type 0
IsReadable = (bytes : List ℕ) → (frames : List Frame) × FramesOf bytes frames

-- and no others
abbrev pub IsReadOnce : Type 0
IsReadOnce = (bytes : List ℕ) (frames others : List Frame) → FramesOf bytes frames → FramesOf bytes others → frames ≡ others

-- what was read stays read, whatever follows
abbrev pub StaysRead : Type 0
StaysRead = (bytes more : List ℕ) (frames all : List Frame) → FramesOf bytes frames → FramesOf (bytes ++ more) all
    → (later : List Frame) × (all ≡ frames ++ later)

-- nothing is read behind an error
abbrev pub EndsAtFault : Type 0
EndsAtFault = (bytes : List ℕ) (frames : List Frame) (code : ℕ) (later : List Frame) → FramesOf bytes (frames ++ Fault code ∷ later) → later ≡ []

-- no bytes have no frames
abbrev pub NothingIsRead : Type 0
NothingIsRead = (frames : List Frame) → FramesOf [] frames → frames ≡ []
