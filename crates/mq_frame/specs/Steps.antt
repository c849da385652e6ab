-- What a reader keeps, and what a step of it does.
use Rattle.std.specs.Prelude.{◌≡◌, ℕ, ◌+◌, ◌<◌, ◌≤◌, List, [], ◌++◌, length, take, drop, Option, Some, None, true, false}
use Rattle.mq_frame.specs.Numbers.{max_frame_size}
use Rattle.mq_frame.specs.declared.header.Header.{Header}
use Rattle.mq_frame.specs.declared.place.Place.{Place}
use Rattle.mq_frame.specs.declared.frame.Frame.{Frame}
use Rattle.mq_frame.specs.declared.state.State.{State}
use Rattle.mq_frame.specs.declared.state.State.TheVariants.{Head, Contents, Skip, Spent}
use Rattle.mq_frame.specs.declared.step.Step.{Step}
use Rattle.mq_frame.specs.Header.{header_of, is_skipped}
use Rattle.mq_frame.specs.Stream.{front_of}

-- the header of the bytes, of which so many are missing
pub record IsBegun (h : Header) (missing : ℕ) (bytes : List ℕ) : Type 0 where
  pub begun : 9 ≤ length bytes
  pub header_is : h ≡ header_of bytes
  pub count : length bytes + missing ≡ 9 + h.length
  pub some : 0 < missing
  pub fits : h.length ≤ max_frame_size

-- the state keeps what is needed of the first bytes of a frame
abbrev pub Holds : State → List ℕ → Type 0
Holds (Head head) bytes = (bytes ≡ head.items) × (length bytes < 9)
Holds (Contents h contents missing) bytes = IsBegun h missing bytes × (is_skipped h.kind ≡ false) × (contents.items ≡ drop 9 bytes)
Holds (Skip h missing) bytes = IsBegun h missing bytes × (is_skipped h.kind ≡ true)
Holds Spent bytes = ⊥

-- no frame is whole and the bytes are kept, or one is and ends where they end
abbrev pub Gives : Place → List ℕ → State → Option Frame → Type 0
Gives place bytes state None = (front_of place bytes ≡ None) × Holds state bytes
Gives place bytes state (Some frame) = (front_of place bytes ≡ Some (frame, length bytes)) × Holds state []

-- a step took bytes of the piece, behind the first bytes of a frame
pub record IsStep (place : Place) (bytes piece : List ℕ) (step : Step) : Type 0 where
  pub gives : Gives place (bytes ++ take step.used piece) step.state step.frame

-- a step that took the whole piece, with which no frame is whole
abbrev pub all_taken : State → List ℕ → Step
all_taken s piece = record { state = s; frame = None; used = length piece }

-- from whatever the state holds, a step of the piece leads there
abbrev pub LeadsTo : Place → State → List ℕ → Step → Type 0
LeadsTo place s piece step = (rest : List ℕ) → Holds s rest → IsStep place rest piece step
