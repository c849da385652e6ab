-- That a generated script has no bad line.
use Rattle.std.specs.Prelude.{◌≡◌, ℕ, ◌≤◌, List, ◌∷◌, ◌++◌, length}
use Rattle.mq_play.specs.Laws.{AllNoted}
use Rattle.mq_play.specs.Play.{Fate, Stage, opening, Plays, IsWrong, line_limit}
use Rattle.mq_script.specs.Generated.{generated}

-- where the lines before one were played, each step with its note, that one is good and within the limit
abbrev pub HasNoBadLine : Type 0
HasNoBadLine = (seed count : ℕ) (before : List (List ℕ)) (line : List ℕ) (after : List (List ℕ)) (fates : List (List Fate)) (text : List ℕ) (here : Stage)
    → generated seed count ≡ before ++ line ∷ after → Plays opening before fates text here → AllNoted fates
    → (IsWrong here line → ⊥) × (length line ≤ line_limit)
