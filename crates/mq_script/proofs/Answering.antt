-- How the first word of a line is read.
use Rattle.std.proofs.Common.{◌≡◌, ℕ, List, ◌⊎◌, inl, inr, refl, Result, Ok, Err, ap}
use Rattle.std.specs.Result.{IfOk}
use Rattle.mq_machine.specs.declared.event.Event.{Event}
use Rattle.mq_play.specs.declared.line.Line.{Line}
use Rattle.mq_play.specs.Lines.{IsAlone, IsBlank, IsWord, Says, SaysBehind, SaysNothing}
use Rattle.mq_play.specs.Parts.{Parted}
use Rattle.mq_play.specs.Sayings.{HasOneSaying}
use Rattle.mq_script.specs.Reading.{IsParsed}
use Rattle.mq_script.specs.declared.fault.LineFault.{LineFault}
use Rattle.mq_script.specs.declared.fault.LineFault.TheVariants.{Syntax, NoMemory}

-- what a line's reader answers
pub record Answers (text : List ℕ) (r : Result Line LineFault) : Type 0 where
  pub ok : IfOk r (Says text)
  pub syntax : r ≡ Err Syntax → SaysNothing text
  pub found : (said : Line) → Says text said → (r ≡ Ok said) ⊎ (r ≡ Err NoMemory)

pub says_answer : HasOneSaying → (text : List ℕ) (value : Line) → Says text value → Answers text (Ok value)
says_answer once text value says = record {
  ok = says;
  syntax = λ e. cc e;
  found = λ said k. inl (ap Ok (once text value said says k));
}

pub words_answer : HasOneSaying → (text : List ℕ) (r : Result Line LineFault) → (IsBlank text → ⊥) → ((event : Event) → IsAlone text event → ⊥) → IsParsed (Parted IsWord SaysBehind text) r → Answers text r
words_answer once text (Ok value) some other h = says_answer once text value (inr (inr h))
words_answer once text (Err Syntax) some other h =
    let none : SaysNothing text = λ said k. elim k [ inl blank ↦ some blank.0 | inr more ↦ elim more [ inl alone ↦ other alone.value alone.says | inr words ↦ h said words ] ] in
    record { ok = tt; syntax = λ e. none; found = λ said k. absurd (none said k) }
words_answer once text (Err NoMemory) some other h = record { ok = tt; syntax = λ e. cc e; found = λ said k. inr refl }
