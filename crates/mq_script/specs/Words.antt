-- What the words of a printed line are, and what an append leaves.
use Rattle.std.specs.Prelude.{◌≡◌, ℕ, List, ◌∷◌, ◌++◌, codes, decimal, map, Result, Ok, Err}
use Rattle.std.specs.List.{flat_map}
use Rattle.mq_addr.specs.declared.entry.Given.{Given}
use Rattle.mq_play.specs.Parts.{space}
use Rattle.mq_play.specs.Script.{IsFrontOf}
use Rattle.mq_play.specs.Text.{bytes_text, given_text}
use Rattle.mq_script.specs.declared.part.Part.{Part}
use Rattle.mq_script.specs.declared.part.Part.TheVariants.{Text, Number, Port, Hex}

-- what a part prints
abbrev pub part_text : Part → List ℕ
part_text (Text text) = text.now
part_text (Number n) = decimal n
part_text (Port tunnel) = codes "port" ++ decimal tunnel
part_text (Hex bytes) = bytes_text bytes.now

-- each word behind a space
abbrev pub behind_spaces : List (List ℕ) → List ℕ
behind_spaces words = flat_map (λ word. space ∷ word) words

-- the words of a line: a first one, its parts, and the blocks of a list
abbrev pub line_words : List ℕ → List Part → List Given → List (List ℕ)
line_words word parts list = word ∷ (map part_text parts ++ map given_text list)

-- the text is appended; where that fails, what was there still stands in front
abbrev pub Appends : {T E : Type 0} → List ℕ → List ℕ → List ℕ → Result T E → Type 0
Appends old text new (Ok x) = new ≡ old ++ text
Appends old text new (Err e) = IsFrontOf old new
