-- What is one for every script.
use Rattle.std.specs.Prelude.{◌≡◌, ◌↔◌, ℕ, List, [], ◌∷◌, ◌++◌, length, map, ⊤}
use Rattle.std.specs.List.{flat_map, AllByRecursion}
use Rattle.mq_machine.specs.Laws.{SaysOne}
use Rattle.mq_text.specs.Cut.{Lacks}
use Rattle.mq_play.specs.declared.line.SettingLine.{SettingLine}
use Rattle.mq_play.specs.Settings.{plan_of, IsPlan}
use Rattle.mq_play.specs.Text.{Print, print_words, spaced, printed, newline}
use Rattle.mq_play.specs.Sizes.{SmallPrint, unnamed}
use Rattle.mq_play.specs.Script.{lines_of, text_of, AreLines, IsPlayed, IsPlayedSoFar, IsPlayedBad, IsPlayedPart, IsFrontOf}
use Rattle.mq_play.specs.Play.{Fate, Noted, Silent, Stage, Settings, opening, opened, Plays}

-- where both went on, they went so
abbrev pub Alike : List Fate → List Fate → Type 0
Alike [] g = ⊤
Alike (x ∷ f) [] = ⊤
Alike (x ∷ f) (y ∷ g) = (x ≡ y) × Alike f g

abbrev pub AllAlike : List (List Fate) → List (List Fate) → Type 0
AllAlike [] g = ⊤
AllAlike (x ∷ f) [] = ⊤
AllAlike (x ∷ f) (y ∷ g) = Alike x y × AllAlike f g

-- no step was refused memory
abbrev pub NoneSilent : List Fate → Type 0
NoneSilent [] = ⊤
NoneSilent (Noted ∷ fates) = NoneSilent fates
NoneSilent (Silent reached ∷ fates) = ⊥

abbrev pub AllNoted : List (List Fate) → Type 0
AllNoted [] = ⊤
AllNoted (f ∷ fates) = NoneSilent f × AllNoted fates

-- plays in which no step was refused are alike
abbrev pub AreAlike : Type 0
AreAlike = (f g : List (List Fate)) → AllNoted f → AllNoted g → AllAlike f g

-- the settings with which lines begin make a plan that a proxy may have
abbrev pub MakesAPlan : Type 0
MakesAPlan = (lines : List (List ℕ)) (fates : List (List Fate)) (text : List ℕ) (told : List SettingLine) → Plays opening lines fates text (Settings told)
    → IsPlan (plan_of told)

-- in a state that lines lead to, which is the one from which a line that is no setting goes on, the book says one thing
abbrev pub IsAlwaysOne : Type 0
IsAlwaysOne = (lines : List (List ℕ)) (fates : List (List Fate)) (text : List ℕ) (s : Stage) → Plays opening lines fates text s
    → SaysOne (opened s).shared.config (opened s).shared.book

-- A script is cut into lines in one way: what these lines with their newlines, and a last one without, make is cut so, and no
-- other script is.
abbrev pub IsCutInLines : Type 0
IsCutInLines = (script : List ℕ) (lines : List (List ℕ)) (tail : List ℕ)
    → (lines_of script ≡ lines ++ tail ∷ []) ↔ ((script ≡ text_of lines ++ tail) × AreLines lines × Lacks newline tail)

-- behind whole lines it is cut on
abbrev pub IsCutOn : Type 0
IsCutOn = (lines : List (List ℕ)) (rest : List ℕ) → AreLines lines → lines_of (text_of lines ++ rest) ≡ lines ++ lines_of rest

-- A script of good lines prints one text and leads to one state, where the same of its steps were refused memory.
abbrev pub HasOnePlay : Type 0
HasOnePlay = (script a b : List ℕ) (p : IsPlayed script a) (q : IsPlayed script b) → AllAlike p.fates q.fates → (a ≡ b) × (p.new ≡ q.new)

-- so do the whole lines of what was read of a script
abbrev pub HasOnePlaySoFar : Type 0
HasOnePlaySoFar = (script a b : List ℕ) (p : IsPlayedSoFar script a) (q : IsPlayedSoFar script b) → AllAlike p.fates q.fates → (a ≡ b) × (p.new ≡ q.new)

-- so does a script with a bad line
abbrev pub HasOneBadPlay : Type 0
HasOneBadPlay = (script a b : List ℕ) (p : IsPlayedBad script a) (q : IsPlayedBad script b) → AllAlike p.fates q.fates → (a ≡ b) × (p.here ≡ q.here)

-- its first bad line is one
abbrev pub HasOneBadLine : Type 0
HasOneBadLine = (script a b : List ℕ) (p : IsPlayedBad script a) (q : IsPlayedBad script b) → AllAlike p.fates q.fates → length p.before ≡ length q.before

-- no script is played to its end and has a bad line too
abbrev pub IsGoodOrBad : Type 0
IsGoodOrBad = (script a b : List ℕ) (p : IsPlayed script a) (q : IsPlayedBad script b) → AllAlike p.fates q.fates → ⊥

-- what was printed when a play stopped is a front of what the whole script prints
abbrev pub IsPartFront : Type 0
IsPartFront = (script out whole : List ℕ) (p : IsPlayedPart script out) (q : IsPlayed script whole) → AllAlike (p.fates ++ p.last ∷ []) q.fates → IsFrontOf out whole

abbrev pub IsPartFrontOfBad : Type 0
IsPartFrontOfBad = (script out whole : List ℕ) (p : IsPlayedPart script out) (q : IsPlayedBad script whole) → AllAlike (p.fates ++ p.last ∷ []) q.fates → IsFrontOf out whole

-- so is what the whole lines of a script's front print, whatever follows it
abbrev pub IsSoFarFront : Type 0
IsSoFarFront = (script more out whole : List ℕ) (p : IsPlayedSoFar script out) (q : IsPlayed (script ++ more) whole) → AllAlike p.fates q.fates → IsFrontOf out whole

abbrev pub IsSoFarFrontOfBad : Type 0
IsSoFarFrontOfBad = (script more out whole : List ℕ) (p : IsPlayedSoFar script out) (q : IsPlayedBad (script ++ more) whole) → AllAlike p.fates q.fates → IsFrontOf out whole

-- A printed line is a line.
abbrev pub IsALine : Type 0
IsALine = (p : Print) → SmallPrint p → Lacks newline (spaced (print_words p))

-- It determines what it says, but for the actor of a place: the note, or the actor that is idle, or the number of the bad line.
abbrev pub IsTold : Type 0
IsTold = (a b : Print) → SmallPrint a → SmallPrint b → printed a ≡ printed b → unnamed a ≡ unnamed b

-- A text is cut into printed lines in one way.
abbrev pub IsPrintedOnce : Type 0
IsPrintedOnce = (ps qs : List Print) → AllByRecursion SmallPrint ps → AllByRecursion SmallPrint qs → flat_map printed ps ≡ flat_map printed qs
    → map unnamed ps ≡ map unnamed qs
