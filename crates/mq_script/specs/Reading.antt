-- How the readers of parts answer. Only the crate's own functions cite this.
use Rattle.std.specs.Prelude.{ℕ, ◌==◌, if◌then◌else◌, List, Option, Some, None, Result, Ok, Err}
use Rattle.std.specs.Borrow.{Bor}
use Rattle.mq_text.specs.Cut.{IsCut}
use Rattle.mq_play.specs.Parts.{IsName, space}
use Rattle.mq_play.specs.declared.word.Word.{Word}
use Rattle.mq_play.specs.declared.word.Word.TheVariants as word
use Rattle.mq_script.specs.declared.fault.LineFault.{LineFault}
use Rattle.mq_script.specs.declared.fault.LineFault.TheVariants.{Syntax, NoMemory}

-- exactly what is there was found, or nothing is there
abbrev pub IsFound : {T : Type 0} → (T → Type 0) → Option T → Type 0
IsFound Is (Some value) = Is value
IsFound {T = T} Is None = (value : T) → Is value → ⊥

-- exactly what is there was read; or nothing is there; or memory ran out
abbrev pub IsParsed : {T : Type 0} → (T → Type 0) → Result T LineFault → Type 0
IsParsed Is (Ok value) = Is value
IsParsed {T = T} Is (Err Syntax) = (value : T) → Is value → ⊥
IsParsed Is (Err NoMemory) = Unit {0}

-- the number of a link or a tunnel, and what stands behind it and a space
pub record CutsTo (text : List ℕ) (name : ℕ) (behind : List ℕ) : Type 0 where
  pub part : List ℕ
  pub cut : IsCut space text part behind
  pub says : IsName part name

abbrev pub CutsName : List ℕ → Option (ℕ × Bor (List ℕ)) → Type 0
CutsName text None = (name : ℕ) (behind : List ℕ) → CutsTo text name behind → ⊥
CutsName text (Some found) = CutsTo text found.0 found.1.now

-- the byte that a backslash and this letter say
abbrev pub escaped_by : ℕ → Option ℕ
escaped_by letter =
    if letter == 114 then Some 13
    else (if letter == 110 then Some 10
    else (if letter == 92 then Some 92 else None))

-- the word begins no setting
abbrev pub IsPlain : Word → Type 0
IsPlain (word.Setting first) = ⊥
IsPlain first = Unit {0}
