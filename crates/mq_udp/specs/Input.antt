-- The payloads that a client sends, as lines of an input spell them in hex.
use Rattle.std.specs.Prelude.{◌≡◌, ◌≢◌, ℕ, ◌+◌, ◌≤◌, ◌⊎◌, List, [], ◌∷◌, ◌++◌, length, Result, Ok, Err}
use Rattle.mq_output.specs.declared.stop.Stop.{Stop}
use Rattle.mq_output.specs.declared.stop.Stop.TheVariants as stop
use Rattle.mq_play.specs.Lines.{IsPayload}
use Rattle.mq_play.specs.Script.{AreLines, text_of}
use Rattle.mq_play.specs.Text.{newline}
use Rattle.mq_text.specs.Cut.{Lacks}
use Rattle.mq_udp.specs.declared.input.Input.{Input}

-- the most payloads
abbrev pub most_payloads : ℕ
most_payloads = 1024

-- the lines spell these payloads, a payload each
abbrev pub AreSpelled : List (List ℕ) → List (List ℕ) → Type 0
AreSpelled [] [] = Unit {0}
AreSpelled [] (p ∷ ps) = ⊥
AreSpelled (l ∷ ls) [] = ⊥
AreSpelled (l ∷ ls) (p ∷ ps) = IsPayload l p × AreSpelled ls ps

-- The text is these lines with their newlines, and something behind them. They spell the payloads.
pub record IsSpelled (text : List ℕ) (lines : List (List ℕ)) (behind : List ℕ) (payloads : List (List ℕ)) : Type 0 where
  pub is : text ≡ text_of lines ++ behind
  pub are : AreLines lines
  pub spelled : AreSpelled lines payloads
  pub few : length payloads ≤ most_payloads

-- The whole input spells these payloads. Its last line may lack its newline.
pub record IsInput (text : List ℕ) (payloads : List (List ℕ)) : Type 0 where
  pub lines : List (List ℕ)
  pub are : AreLines lines
  pub spelled : AreSpelled lines payloads
  pub few : length payloads ≤ most_payloads
  pub is : (text ≡ text_of lines) ⊎ (text ++ newline ∷ [] ≡ text_of lines)

-- the first line of a text, which ends with a newline or with the text
pub record BeginsWith (text line : List ℕ) : Type 0 where
  pub plain : Lacks newline line
  pub is : (text ≡ line) ⊎ ((rest : List ℕ) × (text ≡ line ++ newline ∷ rest))

-- behind so many good lines stands no good one
abbrev pub IsNoneGood : ℕ → List ℕ → Type 0
IsNoneGood count text =
    (text ≢ []) × ((count ≡ most_payloads) ⊎ ((line payload : List ℕ) → BeginsWith text line → IsPayload line payload → ⊥))

-- the line of this number, counted from 1, is the first bad one
pub record IsBadLine (text : List ℕ) (number : ℕ) : Type 0 where
  pub lines : List (List ℕ)
  pub behind : List ℕ
  pub payloads : List (List ℕ)
  pub spelled : IsSpelled text lines behind payloads
  pub number_is : number ≡ length lines + 1
  pub bad : IsNoneGood (length lines) behind

-- whatever follows
abbrev pub StaysBad : List ℕ → ℕ → Type 0
StaysBad text number = (more : List ℕ) → IsBadLine (text ++ more) number

-- ---- what its functions do; only the crate's own functions cite what follows

-- the most bytes of a line
abbrev pub most_line : ℕ
most_line = 131054

-- the input so far, whose last line is begun
pub record IsRead (x : Input) (text : List ℕ) : Type 0 where
  pub lines : List (List ℕ)
  pub spelled : IsSpelled text lines x.begun.items x.payloads.items
  pub plain : Lacks newline x.begun.items
  pub fits : length x.begun.items ≤ most_line

-- more of it was read, or it is bad whatever follows
abbrev pub ReadsOn : List ℕ → Result (Unit {0}) Stop → Input → Type 0
ReadsOn text (Ok done) x = IsRead x text
ReadsOn text (Err stop.BadLine) x = StaysBad text (length x.payloads.items + 1)
ReadsOn text (Err stop.WriteFault) x = ⊥
ReadsOn text (Err stop.NoMemory) x = Unit {0}

-- the begun line is one too many, or spells no payload
abbrev pub IsNoGoodLine : Input → Type 0
IsNoGoodLine x = (length x.payloads.items ≡ most_payloads) ⊎ ((payload : List ℕ) → IsPayload x.begun.items payload → ⊥)

-- the begun line has ended, or is no good one
abbrev pub LineEnds : Input → Result (Unit {0}) Stop → Input → Type 0
LineEnds x (Ok done) y = y.begun.items ≡ []
LineEnds x (Err stop.BadLine) y = (y.payloads.items ≡ x.payloads.items) × IsNoGoodLine x
LineEnds x (Err stop.WriteFault) y = ⊥
LineEnds x (Err stop.NoMemory) y = Unit {0}

-- it is at its end
abbrev pub EndsTo : List ℕ → Result (Unit {0}) Stop → Input → Type 0
EndsTo text (Ok done) x = IsInput text x.payloads.items
EndsTo text (Err stop.BadLine) x = IsBadLine text (length x.payloads.items + 1)
EndsTo text (Err stop.WriteFault) x = ⊥
EndsTo text (Err stop.NoMemory) x = Unit {0}
