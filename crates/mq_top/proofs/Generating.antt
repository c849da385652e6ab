-- Lines of a generated script that were shown, and written.
use Rattle.std.proofs.Common.{◌≡◌, ℕ, Bool, true, false, List, [], ◌∷◌, ◌++◌, Result, Ok, Err, refl, sym, ap, subst, ◌∙◌, append_assoc, append-nil}
use Rattle.mq_play.specs.Script.{IsFrontOf, text_of}
use Rattle.mq_play.specs.Text.{newline}
use Rattle.mq_script.specs.Left.{GivesLine}
use Rattle.mq_top.specs.Generates.{LineShown, LinesWritten}
use Rattle.mq_output.specs.Printing.{Flushes, Spills}
use Rattle.mq_output.specs.declared.stop.Stop.{Stop}
use Rattle.mq_output.specs.declared.stop.Stop.TheVariants.{BadLine, WriteFault, NoMemory}

-- ---- one line

pub line_given : (old new : List (List ℕ)) (text out : List ℕ) (gave : Bool) → gave ≡ true → GivesLine old text (Ok gave) new out → (line : List ℕ) × (old ≡ line ∷ new) × (out ≡ text ++ line)
line_given old new text out gave sure given =
    let P : Bool → Type 0 = λ b. GivesLine old text (Ok b) new out in
    subst P sure given

pub none_shown : (lines : List (List ℕ)) → IsFrontOf [] (text_of lines)
none_shown lines = (text_of lines, refl)

-- its newline is missing
pub line_begun : (old rest : List (List ℕ)) (line : List ℕ) → old ≡ line ∷ rest → IsFrontOf line (text_of old)
line_begun old rest line is = (newline ∷ text_of rest, ap (λ (lines : List (List ℕ)). text_of lines) is ∙ append_assoc line (newline ∷ []) (text_of rest))

-- it and its newline are owed
pub line_owed : (before appended items line : List ℕ) → appended ≡ before ++ line → items ≡ appended ++ newline ∷ [] → items ≡ before ++ (line ++ newline ∷ [])
line_owed before appended items line first next =
    next ∙ ap (λ (xs : List ℕ). xs ++ newline ∷ []) first ∙ append_assoc before line (newline ∷ [])

-- the sink failed behind it
pub line_spilled : (old rest new : List (List ℕ)) (line : List ℕ) (why : Stop) → Spills (Err why) → old ≡ line ∷ rest → LineShown old (line ++ newline ∷ []) (Err why) new
line_spilled old rest new line WriteFault spills is = (text_of rest, ap (λ (lines : List (List ℕ)). text_of lines) is)
line_spilled old rest new line BadLine spills is = absurd spills
line_spilled old rest new line NoMemory spills is = absurd spills

-- ---- all lines

-- one more was shown
pub lines_more : (whole shown part : List ℕ) (old new : List (List ℕ)) (gave : Bool) → gave ≡ true → whole ≡ shown ++ text_of old → LineShown old part (Ok gave) new → whole ≡ (shown ++ part) ++ text_of new
lines_more whole shown part old new gave sure is line =
    let P : Bool → Type 0 = λ b. LineShown old part (Ok b) new in
    let told : (line : List ℕ) × (old ≡ line ∷ new) × (part ≡ line ++ newline ∷ []) = subst P sure line in
    is
    ∙ ap (λ (lines : List (List ℕ)). shown ++ text_of lines) told.1
    ∙ ap (λ (xs : List ℕ). shown ++ (xs ++ text_of new)) (sym told.2)
    ∙ sym (append_assoc shown part (text_of new))

-- none is left
pub lines_all : (whole shown part : List ℕ) (old new : List (List ℕ)) (gave : Bool) → gave ≡ false → whole ≡ shown ++ text_of old → LineShown old part (Ok gave) new → shown ++ part ≡ whole
lines_all whole shown part old new gave sure is line =
    let P : Bool → Type 0 = λ b. LineShown old part (Ok b) new in
    let told : (old ≡ []) × (part ≡ []) = subst P sure line in
    ap (λ (xs : List ℕ). shown ++ xs) (told.1 ∙ sym (ap (λ (lines : List (List ℕ)). text_of lines) told.0)) ∙ sym is

-- a front of a front
pub front_behind : (whole shown part written owes text : List ℕ) → whole ≡ shown ++ text → IsFrontOf part text → shown ++ part ≡ written ++ owes → IsFrontOf written whole
front_behind whole shown part written owes text is front all =
    let rest : List ℕ = front.0 in (
      owes ++ rest,
      is
          ∙ ap (λ (xs : List ℕ). shown ++ xs) front.1
          ∙ sym (append_assoc shown part rest)
          ∙ ap (λ (xs : List ℕ). xs ++ rest) all
          ∙ append_assoc written owes rest,
    )

-- the print of a line failed
pub lines_stopped : (lines old new : List (List ℕ)) (shown part written owes : List ℕ) (why : Stop) → text_of lines ≡ shown ++ text_of old → LineShown old part (Err why) new → shown ++ part ≡ written ++ owes → LinesWritten lines written (Err why)
lines_stopped lines old new shown part written owes WriteFault is line all = front_behind (text_of lines) shown part written owes (text_of old) is line all
lines_stopped lines old new shown part written owes NoMemory is line all = front_behind (text_of lines) shown part written owes (text_of old) is line all
lines_stopped lines old new shown part written owes BadLine is line all = absurd line

-- all were shown, and then what was owed was to be written
pub lines_flushed : (lines : List (List ℕ)) (shown written owes : List ℕ) (answer : Result (Unit {0}) Stop) → Flushes owes answer → shown ≡ text_of lines → shown ≡ written ++ owes → LinesWritten lines written answer
lines_flushed lines shown written owes (Ok done) none is all =
    sym (ap (λ (xs : List ℕ). written ++ xs) none ∙ append-nil written) ∙ sym all ∙ is
lines_flushed lines shown written owes (Err WriteFault) none is all = (owes, sym is ∙ all)
lines_flushed lines shown written owes (Err BadLine) none is all = absurd none
lines_flushed lines shown written owes (Err NoMemory) none is all = absurd none

-- a front was written, whatever stopped the print
pub lines_front : (lines : List (List ℕ)) (out : List ℕ) (why : Stop) → LinesWritten lines out (Err why) → IsFrontOf out (text_of lines)
lines_front lines out WriteFault front = front
lines_front lines out NoMemory front = front
lines_front lines out BadLine front = absurd front
