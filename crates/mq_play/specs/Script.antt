-- What the replay of a script prints, by how it ends.
use Rattle.std.specs.Prelude.{◌≡◌, ℕ, ◌+◌, ◌<◌, ◌≤◌, ◌⊎◌, ◌==◌, min, List, [], ◌∷◌, ◌++◌, length, if◌then◌else◌}
use Rattle.std.specs.List.{flat_map}
use Rattle.mq_text.specs.Cut.{Lacks}
use Rattle.mq_play.specs.Play.{Fate, Stage, opening, Plays, PlaysLine, SomeStop, IsWrong, line_limit}
use Rattle.mq_play.specs.Text.{newline, printed, Bad}

-- a byte in front of the first line
abbrev pub in_front : ℕ → List (List ℕ) → List (List ℕ)
in_front b [] = (b ∷ []) ∷ []
in_front b (l ∷ lines) = (b ∷ l) ∷ lines

-- The lines of a script: it is cut at each newline, and the last line is what stands behind the last newline. Where nothing
-- does, that is an empty line, which does nothing.
abbrev pub lines_of : List ℕ → List (List ℕ)
lines_of [] = [] ∷ []
lines_of (b ∷ script) = if b == newline then [] ∷ lines_of script else in_front b (lines_of script)

-- these lines with their newlines
abbrev pub text_of : List (List ℕ) → List ℕ
text_of lines = flat_map (λ line. line ++ newline ∷ []) lines

-- no line has a newline
abbrev pub AreLines : List (List ℕ) → Type 0
AreLines [] = Unit {0}
AreLines (line ∷ lines) = Lacks newline line × AreLines lines

-- the most bytes of a script
abbrev pub script_limit : ℕ
script_limit = 67108864

-- how many bytes of the script its first lines hold, with their newlines
abbrev pub held : List ℕ → List (List ℕ) → ℕ
held script lines = min (length script) (length (text_of lines))

abbrev pub Fits : List ℕ → List (List ℕ) → Type 0
Fits script lines = held script lines ≤ script_limit

-- these stand in front of the script's lines, within its limit, and were played
pub record IsReached (script : List ℕ) (before after : List (List ℕ)) (fates : List (List Fate)) (text : List ℕ) (new : Stage) : Type 0 where
  pub is : lines_of script ≡ before ++ after
  pub fits : Fits script before
  pub plays : Plays opening before fates text new

-- the line behind these, which lead to this place, is bad: it says nothing that is good there, or is too long, or holds the
-- first byte past the script's limit
abbrev pub IsBad : List ℕ → List (List ℕ) → Stage → List ℕ → Type 0
IsBad script before here line =
    IsWrong here line ⊎ ((line_limit < length line) ⊎ (script_limit < held script (before ++ line ∷ [])))

-- all lines are good, and were played
pub record IsPlayed (script out : List ℕ) : Type 0 where
  pub fates : List (List Fate)
  pub new : Stage
  pub fits : length script ≤ script_limit
  pub plays : Plays opening (lines_of script) fates out new

-- all whole lines are good, and were played; the begun one is within the limits
pub record IsPlayedSoFar (script out : List ℕ) : Type 0 where
  pub lines : List (List ℕ)
  pub begun : List ℕ
  pub fates : List (List Fate)
  pub new : Stage
  pub is : lines_of script ≡ lines ++ begun ∷ []
  pub fits : length script ≤ script_limit
  pub begun_fits : length begun ≤ line_limit
  pub plays : Plays opening lines fates out new

-- the lines before the first bad one were played, and then that was said
pub record IsPlayedBad (script out : List ℕ) : Type 0 where
  pub before : List (List ℕ)
  pub line : List ℕ
  pub after : List (List ℕ)
  pub fates : List (List Fate)
  pub here : Stage
  pub text : List ℕ
  pub reached : IsReached script before (line ∷ after) fates text here
  pub bad : IsBad script before here line
  pub out_is : out ≡ text ++ printed (Bad (length before + 1))

-- the text is a front of the other
abbrev pub IsFrontOf : List ℕ → List ℕ → Type 0
IsFrontOf text whole = (rest : List ℕ) × (whole ≡ text ++ rest)

-- the first of these lines was played up to some step
pub record StopsIn (script : List ℕ) (before after : List (List ℕ)) (here : Stage) (fates : List Fate) (part : List ℕ) : Type 0 where
  pub line : List ℕ
  pub others : List (List ℕ)
  pub new : Stage
  pub is : after ≡ line ∷ others
  pub fits : Fits script (before ++ line ∷ [])
  pub plays : PlaysLine SomeStop here line fates part new

-- it was said that the first of these lines is bad
pub record StopsAtBad (script : List ℕ) (before after : List (List ℕ)) (here : Stage) (part : List ℕ) : Type 0 where
  pub line : List ℕ
  pub others : List (List ℕ)
  pub is : after ≡ line ∷ others
  pub bad : IsBad script before here line
  pub part_is : part ≡ printed (Bad (length before + 1))

-- The lines of the script were played until the play stopped: before a line, in one, or behind saying that one is bad. A front
-- of what that prints was printed.
pub record IsPlayedPart (script out : List ℕ) : Type 0 where
  pub before : List (List ℕ)
  pub after : List (List ℕ)
  pub fates : List (List Fate)
  pub here : Stage
  pub text : List ℕ
  -- how the steps of the line went in which the play stopped, and what it printed
  pub last : List Fate
  pub part : List ℕ
  pub reached : IsReached script before after fates text here
  pub stops : ((last ≡ []) × (part ≡ [])) ⊎ (StopsIn script before after here last part ⊎ ((last ≡ []) × StopsAtBad script before after here part))
  pub front : IsFrontOf out (text ++ part)
