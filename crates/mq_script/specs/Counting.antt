-- Lines beside those of notes: how many of something there are, and bytes.
use Rattle.std.specs.Prelude.{ℕ, List, [], ◌∷◌, ◌++◌, decimal}
use Rattle.mq_play.specs.Text.{spaced, bytes_text, newline}

abbrev pub count_line : List ℕ → ℕ → List ℕ
count_line word count = spaced (word ∷ decimal count ∷ []) ++ newline ∷ []

abbrev pub bytes_line : List ℕ → List ℕ
bytes_line bytes = bytes_text bytes ++ newline ∷ []
