-- What `HeadReader::feed` answers.
use Rattle.std.specs.Prelude.{ℕ, ◌+◌, ◌≤◌, List, ◌++◌, length}
use Rattle.mq_head.specs.declared.step.HeadStep.{HeadStep}
use Rattle.mq_head.specs.declared.step.HeadStep.TheVariants.{More, Upgrade, Refuse}
use Rattle.mq_head.specs.Heads.{IsMore, IsUpgrade, IsRefused}

-- The answer to a piece that follows these bytes. `used` counts bytes of the piece alone.
abbrev pub IsStep : List ℕ → List ℕ → HeadStep → Type 0
IsStep before piece More = IsMore (before ++ piece)
IsStep before piece (Upgrade kind path used) =
    IsUpgrade (before ++ piece) kind path (length before + used) × (used ≤ length piece)
IsStep before piece (Refuse status) = IsRefused (before ++ piece) status
