-- What a `HeadReader` stands for.
use Rattle.std.specs.Prelude.{◌≡◌, ℕ, ◌⊎◌, List, [], ◌++◌}
use Rattle.mq_head.specs.declared.reader.HeadReader.{HeadReader}
use Rattle.mq_head.specs.declared.reader.State.{State}
use Rattle.mq_head.specs.declared.reader.State.TheVariants.{Fresh, Begun, Spent}
use Rattle.mq_head.specs.Heads.{IsMore}
use Rattle.mq_head.specs.Places.{IsPlace}
use Rattle.mq_head.specs.Steps.{IsStep}
use Rattle.mq_head.specs.declared.step.HeadStep.{HeadStep}

-- these bytes came, and nothing is decided
abbrev pub IsBegun : List ℕ → Type 0
IsBegun bytes = (bytes ≡ []) ⊎ IsMore bytes

abbrev pub StandsFor : State → List ℕ → Type 0
StandsFor Fresh bytes = bytes ≡ []
StandsFor (Begun waiting) bytes = (waiting.kept.items ≡ bytes) × IsMore bytes × IsPlace waiting.place bytes
StandsFor Spent bytes = ⊥

-- the answer to a piece behind these bytes, and what the reader goes on with
abbrev pub Follows : List ℕ → List ℕ → HeadStep → State → Type 0
Follows bytes piece step state =
    IsStep bytes piece step × (step ≡ HeadStep.More → StandsFor state (bytes ++ piece))

-- the reader was fed these bytes, and each answer was More
abbrev pub IsHeadOf : HeadReader → List ℕ → Type 0
IsHeadOf reader bytes = StandsFor reader.state bytes

-- the reader was refused memory, or gave an answer other than More
abbrev pub IsSpent : HeadReader → Type 0
IsSpent reader = reader.state ≡ Spent
