-- How steps are read.
use Rattle.std.proofs.Common.{ℕ, List, subst, inl, inr, Result}
use Rattle.mq_text.specs.Cut.{Lacks, IsCut}
use Rattle.mq_play.specs.declared.line.Line.{Line}
use Rattle.mq_play.specs.declared.line.Line.TheVariants as line
use Rattle.mq_play.specs.Lines.{IsActor, SaysSteps}
use Rattle.mq_play.specs.Parts.{IsNumber, Means, Parted}
use Rattle.mq_play.proofs.reading.Lacking.{holds_separator}
use Rattle.mq_play.proofs.reading.Parted.{parted_none}
use Rattle.mq_play.proofs.reading.Singles.{actors_lack}
use Rattle.mq_script.specs.Reading.{IsParsed}
use Rattle.mq_script.specs.declared.fault.LineFault.{LineFault}
use Rattle.mq_script.proofs.Pieces.{parsed_same}

abbrev Behind : ℕ → List ℕ → Line → Type 0
Behind actor = Means (IsNumber 1 1000000) (line.Steps actor)

abbrev pub one : ℕ → Line
one actor = line.Steps actor 1

-- without a space there is an actor alone
pub alone_read : (text : List ℕ) → Lacks 32 text → (r : Result Line LineFault) → IsParsed (Means IsActor one text) r → IsParsed (SaysSteps text) r
alone_read text lacks r h =
    parsed_same (Means IsActor one text) (SaysSteps text) r
    (λ said m. inl m)
    (λ said steps. elim steps [ inl m ↦ m | inr told ↦ absurd (parted_none IsActor Behind text lacks said told) ])
    h

-- with one there is a count too
pub no_actor : (text before behind : List ℕ) → IsCut 32 text before behind → ((said : Line) → Parted IsActor Behind text said → ⊥) → (said : Line) → SaysSteps text said → ⊥
no_actor text before behind cut none said (inl m) = holds_separator 32 before behind (subst (Lacks 32) cut.is (actors_lack text m.value m.says))
no_actor text before behind cut none said (inr told) = none said told
